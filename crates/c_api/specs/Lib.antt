pub mod Written
pub mod Offered
pub mod Walk
pub mod Sort
