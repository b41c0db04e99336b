mod Powers
mod Prefix
