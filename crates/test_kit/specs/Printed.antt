-- What answers are printed as, where what their values are printed as is known.
use Rattle.std.specs.Prelude.{ℕ, List, [], ◌∷◌, Option, Some, None, Result, Ok, Err, decimal}
use Rattle.std.specs.Fmt.{option_append}
use Rattle.refusals.specs.declared.Refusal.{Refusal}
use Rattle.refusals.specs.Refusals.{number_of}

-- The value, or the number of the refusal.
abbrev pub told_text : {T : Type 0} → (T → Option (List ℕ)) → Result T Refusal → Option (List ℕ)
told_text text (Ok value) = text value
told_text text (Err refusal) = Some (decimal (number_of refusal))

abbrev pub number_told : Result ℕ Refusal → ℕ
number_told (Ok value) = value
number_told (Err refusal) = number_of refusal

-- The value, or a dash.
abbrev pub or_dash : {T : Type 0} → (T → Option (List ℕ)) → Option T → Option (List ℕ)
or_dash text (Some value) = text value
or_dash text None = Some (45 ∷ [])

-- Each value after a space.
unfoldable pub spaced : {T : Type 0} → (T → Option (List ℕ)) → List T → Option (List ℕ)
spaced text [] = Some []
spaced text (x ∷ xs) = option_append (option_append (Some (32 ∷ [])) (text x)) (spaced text xs)
