pub mod values
pub mod walks
pub mod SameValues
pub mod Sorting
pub mod AnswerLaws
pub mod Tried
pub mod Worthless
