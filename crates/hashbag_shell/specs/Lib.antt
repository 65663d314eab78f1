pub mod Inputs
pub mod Paces
pub mod Statuses
pub mod Tables
