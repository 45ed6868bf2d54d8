pub mod Cells
pub mod Items
pub mod Lists
pub mod Fresh
pub mod Turns
mod Examples
pub mod NewNames
pub mod RowsTaken
pub mod DataRowsTaken
pub mod SetRowsTaken
pub mod Products
pub mod Claiming
pub mod HeldParameters
pub mod HeldEntries
pub mod ValuesAt
pub mod NameFaults
pub mod SetFaults
pub mod ParameterFaults
pub mod WorldFaults
mod SoundRestrictions
mod SoundChecks
pub mod SoundRows
pub mod SoundGroups
pub mod SoundTaken
mod SoundValues
mod SoundParameters
mod Sorting
pub mod NamesDeclared
mod SetRowsSound
mod SetItems
mod SoundSets
mod SoundGivenSets
pub mod SoundWorlds
pub mod FromData
pub mod SameEverywhere
