pub mod Test
pub mod Number
pub mod Buffer
pub mod Compare
