mod Doubling
pub mod Cases
pub mod Walking
pub mod Ranging
pub mod Passing
pub mod Subscripting
pub mod Framing
pub mod Scoping
pub mod RowLists
pub mod EqualWidths
pub mod DeclaredRows
pub mod Parting
pub mod Distinct
pub mod Walked
pub mod KeysOnce
pub mod Alike
pub mod SetsGiven
mod Trees
mod ReferenceExamples
mod NumberExamples
mod KindExamples
mod ConditionExamples
mod NameExamples
mod SetExamples
mod ListExamples
mod IndexExamples
mod SelectingExamples
mod Numbering
pub mod OperatorFaults
pub mod RowFaults
pub mod ValueFaults
