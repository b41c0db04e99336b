pub mod Able
pub mod Coming
pub mod Serving
pub mod Going
pub mod GoingLaws
