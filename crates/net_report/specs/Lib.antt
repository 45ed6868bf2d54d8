pub mod References
pub mod Links
pub mod MapsBack
pub mod Displays
pub mod Prices
pub mod Cuts
pub mod LineNames
