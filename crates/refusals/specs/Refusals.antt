-- The number of each refusal: document 01, 'What a refused line or call gets', and document 02, T-02, T-05, T-06 and T-08.
use Rattle.std.specs.Prelude.{ℕ}
use Rattle.refusals.specs.declared.Refusal.{Refusal}
use Rattle.refusals.specs.declared.Refusal.TheVariants.{LittleLent, BadLength, NoDigit, UnknownKind, NoChainFits, NoSuchPosition, BadWord, UnknownPart, NotChained, TooLarge, LastOfList, TooLargeToCount, BadModulus, BadResidue, NoTreeWord, WrongExponents, NoMove, NoSuchName}

abbrev pub number_of : Refusal → ℕ
number_of LittleLent = 1
number_of BadLength = 2
number_of NoDigit = 3
number_of UnknownKind = 4
number_of NoChainFits = 5
number_of NoSuchPosition = 6
number_of BadWord = 7
number_of UnknownPart = 8
number_of NotChained = 9
number_of TooLarge = 10
number_of LastOfList = 11
number_of TooLargeToCount = 12
number_of BadModulus = 13
number_of BadResidue = 14
number_of NoTreeWord = 15
number_of WrongExponents = 16
number_of NoMove = 17
number_of NoSuchName = 18
