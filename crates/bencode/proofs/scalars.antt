pub mod Ranges
pub mod SignedLaws
pub mod IntegerLaws
pub mod FewLaws
pub mod TenLaws
pub mod PositiveLaws
pub mod StringLaws
pub mod ShortStringLaws
