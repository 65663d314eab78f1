pub mod Bags
pub mod Deliveries
pub mod Ledger
pub mod Parts
pub mod Sizes
pub mod Texts
pub mod Transfers
