pub mod Meanings
pub mod Scopes
pub mod Reported
pub mod Dummies
pub mod Names
pub mod Items
