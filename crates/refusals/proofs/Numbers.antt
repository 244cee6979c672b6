-- No two refusals have the same number, and none has 0.
use Rattle.std.proofs.Common.{◌≡◌, ◌≢◌, arith, refl, sym, ap, ◌∙◌, ℕ, ◌-◌, [], ◌∷◌}
use Rattle.std.proofs.Math.ListN.{get_or}
use Rattle.refusals.specs.Refusals.{number_of}
use Rattle.refusals.specs.declared.Refusal.{Refusal}
use Rattle.refusals.specs.declared.Refusal.TheVariants.{LittleLent, BadLength, NoDigit, UnknownKind, NoChainFits, NoSuchPosition, BadWord, UnknownPart, NotChained, TooLarge, LastOfList, TooLargeToCount, BadModulus, BadResidue, NoTreeWord, WrongExponents, NoMove, NoSuchName}

-- The refusal of a number.
abbrev named : ℕ → Refusal
named n =
    get_or (LittleLent ∷ BadLength ∷ NoDigit ∷ UnknownKind ∷ NoChainFits ∷ NoSuchPosition ∷ BadWord ∷ UnknownPart ∷ NotChained ∷ TooLarge ∷ LastOfList ∷ TooLargeToCount ∷ BadModulus ∷ BadResidue ∷ NoTreeWord ∷ WrongExponents ∷ NoMove ∷ NoSuchName ∷ []) (n - 1) LittleLent

named_again : (r : Refusal) → named (number_of r) ≡ r
named_again LittleLent = refl
named_again BadLength = refl
named_again NoDigit = refl
named_again UnknownKind = refl
named_again NoChainFits = refl
named_again NoSuchPosition = refl
named_again BadWord = refl
named_again UnknownPart = refl
named_again NotChained = refl
named_again TooLarge = refl
named_again LastOfList = refl
named_again TooLargeToCount = refl
named_again BadModulus = refl
named_again BadResidue = refl
named_again NoTreeWord = refl
named_again WrongExponents = refl
named_again NoMove = refl
named_again NoSuchName = refl

pub same_number : (r s : Refusal) → number_of r ≡ number_of s → r ≡ s
same_number r s e = sym (named_again r) ∙ ap named e ∙ named_again s

pub number_some : (r : Refusal) → number_of r ≢ 0
number_some LittleLent e = omega arith
number_some BadLength e = omega arith
number_some NoDigit e = omega arith
number_some UnknownKind e = omega arith
number_some NoChainFits e = omega arith
number_some NoSuchPosition e = omega arith
number_some BadWord e = omega arith
number_some UnknownPart e = omega arith
number_some NotChained e = omega arith
number_some TooLarge e = omega arith
number_some LastOfList e = omega arith
number_some TooLargeToCount e = omega arith
number_some BadModulus e = omega arith
number_some BadResidue e = omega arith
number_some NoTreeWord e = omega arith
number_some WrongExponents e = omega arith
number_some NoMove e = omega arith
number_some NoSuchName e = omega arith
