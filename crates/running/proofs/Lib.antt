pub mod RunLaws
pub mod RanLaws
