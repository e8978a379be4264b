pub mod IdLaws
pub mod FormatLaws
pub mod CheckLaws
pub mod ListingLaws
