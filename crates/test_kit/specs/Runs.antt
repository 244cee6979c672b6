-- Runs of a number in a list.
use Rattle.std.specs.Prelude.{ℕ, ◌+◌, Bool, List, length, drop, min, position, not, Option, Some, None}

-- Where a run from `from` on ends that is `run` long, or that goes on to the end at `all`.
abbrev pub end_at : ℕ → ℕ → Option ℕ → ℕ
end_at from all (Some run) = from + run
end_at from all None = all

-- Where the items at `from` and after it that pass p end: at the first that does not, or at the end of the list.
abbrev pub run_end : {T : Type 0} → (T → Bool) → ℕ → List T → ℕ
run_end p from xs =
    end_at (min from (length xs)) (length xs) (position (λ x. not (p x)) (drop (min from (length xs)) xs))
