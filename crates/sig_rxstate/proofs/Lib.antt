pub mod Once
pub mod ItemLists
pub mod Parts
pub mod States
