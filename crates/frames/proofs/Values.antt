-- Values written one after the other into the bytes for a reply, one a turn, at any width: the invariant of the loops, and its laws
-- where none is written, where one more is and where all are.
use mathlib.Core.Path.{◌≡◌}
use mathlib.Core.List.{List}
use Prim.Native.Nat.{ℕ, ◌+◌, ◌*◌, ◌≤◌, ◌<◌}
use lib.ListN.{length, get_or, take}
use lib.Seq.{take_all}
use Rattle.digits.specs.Digits.{digits_of}
use Rattle.frames.specs.Put.{put_at}
use Rattle.frames.specs.PutLaws.{Stands, none_yet, more_digits}
use Rattle.frames.specs.ReplyDigits.{values_digits}
use Rattle.frames.specs.ReplyDigitLaws.{values_more}

-- The digits of the first i values of `width` bytes stand from `at` up to `end`, where out₀ was lent.
pub First : ℕ → ℕ → List ℕ → List ℕ → List ℕ → ℕ → ℕ → Type 0
First width at xs out₀ out end i = Stands at (values_digits width (take i xs)) out₀ out end

module _ (width at : ℕ) (xs out₀ : List ℕ) where
  pub none_written : First width at xs out₀ out₀ at 0
  unfolding First values_digits
  none_written = none_yet at out₀

  pub one_written : (l m : List ℕ) (j end i : ℕ) → i < length xs → j ≤ length out₀ → First width at xs out₀ l j i
      → end ≡ j + 2 * width → m ≡ put_at j (digits_of (2 * width) (get_or xs i 0)) l → First width at xs out₀ m end (i + 1)
  unfolding First
  one_written l m j end i h g s f e =
      rw (values_more width xs i h)
      (more_digits at j (2 * width) (get_or xs i 0) end (values_digits width (take i xs)) out₀ l m s g f e)

  pub all_written : (l : List ℕ) (end i : ℕ) → length xs ≤ i → First width at xs out₀ l end i
      → (end ≡ at + length (values_digits width xs)) × (l ≡ put_at at (values_digits width xs) out₀)
  unfolding First
  all_written l end i h s = let t = rw (take_all i xs h) at s in (t.ends, t.list)
