pub mod answers
pub mod LimitsAgree
