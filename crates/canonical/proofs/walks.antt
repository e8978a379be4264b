pub mod Selecting
pub mod Steps
pub mod Standing
pub mod SortWalks
pub mod PickLaws
pub mod WriteLaws
