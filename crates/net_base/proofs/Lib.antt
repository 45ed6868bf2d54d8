pub mod Elements
pub mod TwoDigits
pub mod Found
