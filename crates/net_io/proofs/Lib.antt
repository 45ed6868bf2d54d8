mod Fronts
pub mod Paging
