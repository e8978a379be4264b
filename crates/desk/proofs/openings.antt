pub mod OpeningLaws
pub mod AcceptedOpening
