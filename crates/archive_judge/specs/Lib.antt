-- Base rows of an archive whose fields are right.
pub mod Read
