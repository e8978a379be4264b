pub mod TextLaws
pub mod PlainLaws
pub mod WordLaws
pub mod TextKeyLaws
