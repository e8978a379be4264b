pub mod IdLaws
pub mod LimitLaws
