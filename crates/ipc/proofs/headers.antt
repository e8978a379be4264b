pub mod HeaderLaws
pub mod HexLaws
