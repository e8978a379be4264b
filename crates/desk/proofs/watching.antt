pub mod Places
pub mod Scans
pub mod WatchLists
pub mod FilteredIds
