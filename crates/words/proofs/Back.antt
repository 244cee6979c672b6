-- The way back from the largest part of a record, as the writer of a word's letters goes it. In order: from each part to the next; the
-- empty record; the largest part. The definitions are in Walks.
use mathlib.Core.Path.{◌≡◌, refl, ap, subst, ◌∙◌}
use mathlib.Core.List.{List, [], ◌∷◌}
use Prim.Native.Nat.{ℕ, ◌+◌, ◌≤◌, ◌<◌}
use native.Mathlib.Numerals.{add-one}
use native.Mathlib.Omega.{arith}
use lib.ListN.{length, drop, get_or}
use lib.Seq.{drop-cons}
use Rattle.chains.specs.Chains.{Part, value, ProperMultiple, Chained, total}
use Rattle.chains.specs.Words.{word_of}
use Rattle.chains.proofs.Bounds.{word_bound, word_length}
use Rattle.chains.specs.Divides.{Above}
use Rattle.chains.proofs.Divides.{multiple_above}
use Rattle.parts.specs.Parts.{part_at}
use Rattle.words.specs.Records.{record_parts, InTable}
use Rattle.words.specs.RecordLaws.{in_table}
use Rattle.words.specs.Walks.{place, WayBack, Writable}

-- From the part p to the next part q.
module _ (t l : List ℕ) (i : ℕ) (p : Part) (n : ℕ) (way : WayBack t l i p n) (h : i < length l)
    (q : Part) (e : q ≡ part_at (get_or l i 0)) where
  pub below : record_parts (drop i l) ≡ q ∷ record_parts (drop (i + 1) l)
  unfolding record_parts
  below = rw (add-one, drop-cons l i 0 h, e)

  chained : ProperMultiple (value p) (value q) × Chained (q ∷ record_parts (drop (i + 1) l))
  chained = subst (λ c. Chained (p ∷ c)) below way.chained

  pub above : Above p q
  above = (multiple_above p q).0 chained.0

  pub next : WayBack t l (i + 1) q n
  next =
      record { is_codes = way.is_codes; known = way.known; chained = chained.1; room = omega (arith, above.apart, way.room) }

-- The record of the empty chain.
module _ (l : List ℕ) (none : length l ≡ 0) where
  pub no_word : record_parts l ≡ []
  unfolding record_parts
  no_word = go l none
    where
      go : (k : List ℕ) → length k ≡ 0 → record_parts k ≡ []
      go [] e = refl
      go (x ∷ k) e = absurd (omega arith)

-- A record with a largest part p.
module _ (t l : List ℕ) (n : ℕ) (able : Writable t l n) (some : length l ≡ 0 → ⊥) where
  pub known : get_or l 0 0 < 1344
  unfolding InTable
  known = able.burned.known 0 (omega arith)

  module _ (p : Part) (e : p ≡ part_at (get_or l 0 0)) where
    pub parted : record_parts l ≡ p ∷ record_parts (drop 1 l)
    unfolding record_parts
    parted = ap (λ k. record_parts k) (drop-cons l 0 0 (omega arith)) ∙ rw e refl

    all_chained : Chained (p ∷ record_parts (drop 1 l))
    all_chained = subst Chained parted able.burned.chain.chained

    pub letters : length (word_of (record_parts l)) ≡ place p + 1
    letters = ap (λ c. length (word_of c)) parted ∙ word_length p (record_parts (drop 1 l)) all_chained

    pub last : place p < 64
    last = omega (arith, letters, word_bound (total (record_parts l)) 64 (record_parts l) able.burned.chain able.burned.fits)

    -- The way back from it.
    pub way : (m : ℕ) → place p ≤ m → WayBack t l 1 p m
    way m room = record {
      is_codes = able.is_codes;
      known = (in_table l).1 able.burned.known;
      chained = all_chained;
      room = room;
    }
