mod Positions
mod Sizes
mod NetTerms
pub mod Ranges
pub mod Rings
pub mod FormLaws
mod WorthLaws
pub mod Coefficients
mod Storage
mod Adding
pub mod FormSizes
mod Naming
mod Converting
mod Examples
mod Terms
pub mod FormFaults
pub mod ConditionFaults
pub mod ObjectiveFaults
pub mod ObjectivesSound
pub mod ConditionsSound
