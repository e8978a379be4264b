pub mod NumeralLaws
pub mod TensLaws
pub mod DigitLaws
pub mod DecimalLaws
