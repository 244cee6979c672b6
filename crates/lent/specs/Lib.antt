-- What a service asks to be lent and what it leaves there (Lent, its laws in LentLaws), and memory that is lent on in part (Parts).
pub mod Lent
pub mod LentLaws
pub mod Parts
