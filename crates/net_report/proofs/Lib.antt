pub mod ListedRows
pub mod WrittenNames
pub mod DeclaredBlocks
pub mod Texts
mod LineEnds
pub mod InOrder
mod Examples
pub mod LineNames
pub mod PriceLists
