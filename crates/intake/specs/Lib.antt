-- The program `intake`: Console says what it keeps of a line between two calls, ConsoleLaws has the laws of that.
pub mod Console
pub mod ConsoleLaws
