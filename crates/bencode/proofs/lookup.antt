pub mod SkipLaws
pub mod EntryLaws
pub mod ItemLaws
pub mod FieldLaws
pub mod ListLaws
pub mod RecordLaws
pub mod NotedLaws
pub mod RunLaws
