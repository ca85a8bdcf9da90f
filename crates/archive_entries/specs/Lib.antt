-- An archive file: what it holds, its stops, its bytes.
pub mod Layout
pub mod Reading
pub mod Places
