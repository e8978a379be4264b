pub mod records
pub mod printing
pub mod running
pub mod KindNamed
pub mod PrintsWhole
pub mod OverLong
pub mod StripsTried
