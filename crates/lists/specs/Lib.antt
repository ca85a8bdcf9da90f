-- Lists and orders, for every layer above.
pub mod Lists
pub mod Order
pub mod Search
