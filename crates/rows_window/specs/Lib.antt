-- Base rows in a window.
pub mod Window
