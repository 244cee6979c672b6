-- A call that is not refused is served.
use mathlib.Core.Path.{◌≡◌, refl}
use Rattle.std.specs.Prelude.{Result, Ok, Err}
use Rattle.std.specs.Result.{IsOk}

pub is_served : {T E : Type 0} (r : Result T E) → ((q : E) → r ≡ Err q → ⊥) → IsOk r
is_served (Ok x) h = refl
is_served (Err q) h = absurd (h q refl)
