-- The plain receiver's definition, what its code promises, and laws.
pub mod Plain
pub mod Code
pub mod Promise
