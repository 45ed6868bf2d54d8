pub mod Cases
pub mod Walking
pub mod Declaring
pub mod Fronts
mod Examples
pub mod NamesStand
