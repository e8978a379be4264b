pub mod NumberLaws
pub mod RecordLaws
pub mod Forward
pub mod GatherLaws
