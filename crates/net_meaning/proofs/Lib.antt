pub mod Giving
mod Leaves
pub mod Erased
pub mod Meant
pub mod Operating
mod Naming
mod Reducing
mod Spanning
pub mod Walking
pub mod Meaning
pub mod Unique
mod TextOperators
pub mod TextValues
mod TextRows
pub mod TextWorlds
pub mod TextNetworks
pub mod TextTokens
pub mod UniqueWorlds
mod Examples
mod WrongProblems
mod WrongWorlds
mod Cities
mod CitiesLemmas
mod CitiesWorld
mod CitiesNetwork
