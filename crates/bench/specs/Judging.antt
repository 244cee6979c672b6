-- Whether a bench is sound can be decided: the answer is what it holds, or that it is not sound. The code of the bench decides it too;
-- the contracts name this answer, and not the way to it.
use Rattle.std.specs.Prelude.{◌≡◌, List, ℕ, suc, ◌^◌, ◌<◌}
use Rattle.std.proofs.Math.Decide.{dec_lt, ℕ_discrete}
use Rattle.moves.specs.Rows.{Laying}
use Rattle.moves.proofs.Deciding.{laying?, every_below, implies, isnt}
use Rattle.bench.specs.Sound.{number_in, state_at, saved_in, Sound}

-- Whether a bench is sound.
pub sound? : (bench : List ℕ) → Dec (Sound bench)
sound? bench = go (dec_lt n (2 ^ 64))
  where
    n : ℕ
    n = number_in bench

    all : n < 2 ^ 64 → Dec ((name : ℕ) → name < 8 → (saved_in name bench ≡ 0 → ⊥) → Laying n (state_at (suc name) bench))
    all l =
        every_below {P = λ name. (saved_in name bench ≡ 0 → ⊥) → Laying n (state_at (suc name) bench)}
        (λ name. implies (isnt (ℕ_discrete (saved_in name bench) 0)) (laying? n (state_at (suc name) bench) l))
        8

    at :
        n < 2 ^ 64
        → Dec (Laying n (state_at 0 bench))
        → Dec ((name : ℕ) → name < 8 → (saved_in name bench ≡ 0 → ⊥) → Laying n (state_at (suc name) bench))
        → Dec (Sound bench)
    at l (no p) d = no (λ s. p s.present)
    at l (yes p) (no d) = no (λ s. d s.saved)
    at l (yes p) (yes d) = yes (record { fits = l; present = p; saved = d })

    go : Dec (n < 2 ^ 64) → Dec (Sound bench)
    go (no l) = no (λ s. l s.fits)
    go (yes l) = at l (laying? n (state_at 0 bench) l) (all l)
