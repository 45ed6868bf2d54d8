pub mod Views
pub mod Lasts
pub mod TreesStand
pub mod ModelsStand
pub mod Items
pub mod Numerals
