pub mod ErrorCodes
pub mod ErrorLines
pub mod Outcomes
pub mod Places
pub mod formers
