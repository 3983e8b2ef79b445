pub mod Accounts
pub mod Book
pub mod Dues
pub mod Expiry
pub mod LastSales
pub mod Sales
pub mod Users
