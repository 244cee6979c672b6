-- A variant's place among the variants, from 1 on, is its number.
use Rattle.std.proofs.Common.{◌≡◌, ◌+◌, refl}
use Rattle.refusals.specs.Refusals.{number_of}
use Rattle.refusals.specs.declared.Refusal.{Refusal}
use Rattle.refusals.specs.declared.Refusal.TheVariants.{LittleLent, BadLength, NoDigit, UnknownKind, NoChainFits, NoSuchPosition, BadWord, UnknownPart, NotChained, TooLarge, LastOfList, TooLargeToCount, BadModulus, BadResidue, NoTreeWord, WrongExponents, NoMove, NoSuchName}
use Rattle.refusals.specs.contracts.Refusal.{the_type}
use Rattle.refusals.proofs.U8FromRefusal.from.Goals as goal
use denote.Enum.Declared.{tag_of}

numbered : (r : Refusal) → tag_of the_type r + 1 ≡ number_of r
numbered LittleLent = refl
numbered BadLength = refl
numbered NoDigit = refl
numbered UnknownKind = refl
numbered NoChainFits = refl
numbered NoSuchPosition = refl
numbered BadWord = refl
numbered UnknownPart = refl
numbered NotChained = refl
numbered TooLarge = refl
numbered LastOfList = refl
numbered TooLargeToCount = refl
numbered BadModulus = refl
numbered BadResidue = refl
numbered NoTreeWord = refl
numbered WrongExponents = refl
numbered NoMove = refl
numbered NoSuchName = refl

pub returns : goal.returns
returns c = numbered c.args.refusal
