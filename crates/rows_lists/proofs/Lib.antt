-- Laws of lists in one flat list, and of sets put behind them.
pub mod Lists
pub mod Noted
