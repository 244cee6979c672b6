-- `put_rests` meets its contract: the loop ends where nothing is left, and then the zeros behind are the rests too, or at the last
-- place.
use Rattle.std.proofs.Common.{◌≡◌, sym, ◌∙◌, ◌⊎◌, inl, inr, ⊎_elim, ℕ, suc, ◌+◌, ◌-◌, ◌/◌, ◌^◌, ◌≤◌, ◌<◌, List, length, get_or, set, length-set, get_or-set_same, get_or-set_other, eq-or-lt_of_le, add-one, arith}
use Rattle.std.proofs.Math.Seq.{ext_get_or}
use native.Mathlib.Decide.{dec_lt}
use Rattle.grid.specs.Grid.{rests_of, live_rows}
use Rattle.grid.specs.Rests.{row_above, row_dead, length_rests, rests_at, live_more, live_none}
use Rattle.grid.proofs.put_rests.Invariants.{Putting}
use Rattle.grid.proofs.put_rests.Goals as goal

module _ {m : ℕ} {part : List ℕ} {rest i : ℕ} (p : Putting m part rest i) where
  more : 0 < rest → i < length part → Putting m (set part i rest) (rest / 3) (i + 1)
  more h g =
      record {
        stored = λ j k.
            ⊎_elim (λ (e : j ≡ i). rw e (get_or-set_same part i rest 0 g ∙ p.next))
            (λ (l : j < i). get_or-set_other part i j rest 0 (omega arith) ∙ p.stored j l)
            (eq-or-lt_of_le (let l : j ≤ i = omega arith in l));
        behind = λ j k. get_or-set_other part i j rest 0 (omega arith) ∙ p.behind j (omega arith);
        next = rw (p.next, row_above, add-one);
        rows =
            let e : length part - i ≡ suc (length part - (i + 1)) = omega arith in
            rw (length-set part i rest, p.rows, e, live_more rest (length part - (i + 1)) h) (omega arith);
      }

  -- Nothing is left, or no place is.
  done : (k : ℕ) → length part ≡ k → (rest ≡ 0) ⊎ (i ≡ k) → i ≤ k → (i ≡ live_rows m k) × (part ≡ rests_of m k)
  unfolding live_rows
  done k size end within =
      rw (← size)
      (rw p.rows (rows end), ext_get_or 0 part (rests_of m (length part)) (sym (length_rests m (length part))) (λ j h. number j h end))
    where
      rows : (rest ≡ 0) ⊎ (i ≡ k) → i ≡ i + live_rows rest (length part - i)
      rows (inl z) = omega (arith, live_none rest (length part - i) z)
      rows (inr f) =
          let d : length part - i ≡ 0 = omega arith in
          rw d (omega arith)

      number : (j : ℕ) → j < length part → (rest ≡ 0) ⊎ (i ≡ k) → get_or part j 0 ≡ get_or (rests_of m (length part)) j 0
      number j h end = at (dec_lt j i) end ∙ sym (rests_at m (length part) j h)
        where
          at : Dec (j < i) → (rest ≡ 0) ⊎ (i ≡ k) → get_or part j 0 ≡ m / 3 ^ j
          at (yes l) f = p.stored j l
          at (no l) (inl z) = p.behind j (omega arith) ∙ sym (row_dead m i j (omega (arith, p.next)) (omega arith))
          at (no l) (inr f) = absurd (omega arith)

pub returns-then-rest-eq0 : goal.returns-then-rest-eq0
returns-then-rest-eq0 c =
    let told = done c.loop-i.invariant _ (omega arith) (inl c.if-rest-eq0.true) (omega arith) in
    record { value = told.0; part_after = told.1 }

pub loop-i-preserved : goal.loop-i-preserved
loop-i-preserved c =
    more c.loop-i.invariant (omega arith) (omega arith)

pub returns : goal.returns
returns c =
    let all : length c.loop-i.part ≡ c.loop-i.i = omega arith in
    let told = done c.loop-i.invariant (length c.args.part.now) (omega arith) (inr (omega arith)) (omega arith) in
    record { value = all ∙ told.0; part_after = told.1 }
