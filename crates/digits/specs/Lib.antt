-- Hexadecimal digits and numbers. Digits holds the definitions. In proofs/ DigitLaws is the theory, and CapitalLaws says that the case
-- of letters makes no difference.
pub mod Digits
