pub mod Collected
pub mod Examples
pub mod Pairs
pub mod Rows
pub mod Script
pub mod Turns
