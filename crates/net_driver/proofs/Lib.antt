pub mod Meant
pub mod OneFault
pub mod Existence
pub mod Stops
pub mod NamesOnce
pub mod Apart
pub mod Counts
pub mod LinkLines
pub mod Promise
pub mod Answering
pub mod Solving
pub mod Answered
pub mod Priced
pub mod Reading
mod Running
mod Writing
mod Pieces
pub mod Accepted
pub mod OneAnswer
mod ModelPlaces
pub mod FaultPlaces
mod Networks
pub mod NoMemory
mod NamedOnce
mod OneNetwork
mod OneMeaning
mod ModelWorld
mod CutSums
mod ExactCuts
pub mod MissedCuts
mod ModelMeaning
mod NetworkNames
mod Compilations
mod DataNames
mod TextFaults
mod NoNetwork
mod Extremes
mod PricedForms
mod PriceBounds
pub mod PlanProofs
mod ModelPrices
mod PricedModels
mod TokenTexts
mod LineNames
