pub mod DigitLaws
pub mod CapitalLaws
