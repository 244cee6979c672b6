-- Theory of lines.
-- In order: one field; several fields; kinds and their bytes; lengths; which lines are refused, and which are fit; a shape in
-- numbers; a line's first 515 characters; reading the items of a line.
use Rattle.std.specs.Prelude.{◌≡◌, refl, ◌↔◌, Bool, true, false, cond, Option, Some, None, Result, Ok, Err, ok_or, ◌&&◌, ◌||◌, List, [], ◌∷◌, ◌++◌, eqb, ltb, leb, take, drop, get_or}
use Rattle.std.proofs.Common.{sym, ap, ◌∙◌, mul-suc, mul-zero, mul-add, add-zero, add_assoc, add_comm, length-take, length-drop, drop_of_length-le, take_all, take-add, drop-drop, mod-eq_of_lt}
use Rattle.std.proofs.Math.Bool.{or-true, and-eq-true_iff}
use Rattle.refusals.specs.Refusals.{number_of as refusal_number}
use Rattle.refusals.specs.declared.Refusal.{Refusal}
use Rattle.refusals.specs.declared.Refusal.TheVariants.{LittleLent, BadLength, NoDigit, UnknownKind}
use Prim.Native.Nat.{ℕ, zero, suc, ◌+◌, ◌*◌, ◌-◌, ◌%◌, ◌^◌, ◌≤◌, ◌<◌}
use native.Mathlib.Nat.{mul-le-mul}
use Rattle.std.proofs.Math.Numerals.{add-one, add-two, add-three}
use native.Mathlib.Omega.{arith}
use borrow.Author.Tests.{eqb-true, eqb-false, eq-eqb, ne_eqb, ltb-true, ltb-false, lt-ltb, le-ltb, leb-true}
use Rattle.std.proofs.Math.ListN.{length}
use Rattle.std.proofs.Math.Seq.{take-nil, drop-cons}
use Rattle.lent.specs.LentLaws.{neither}
use Rattle.digits.specs.Digits.{value_or0, all_digits, number_of, read_from}
use Rattle.digits.proofs.DigitLaws.{number_append, number_below, number_fits}
use Rattle.refusals.proofs.Numbers.{same_number}
use Rattle.lines.specs.Kinds.{Kind, count_line, best_line, at_line, record_line, word_line, next_line, run_line}
use Rattle.lines.specs.Kinds.{tree_line, to_tree_line, Row, row_of, kinds, kind_among, kind_of}
use Rattle.lines.specs.Lines.{field, fields, bytes_in, items_in, bad_length, Proper, shape_of_kind, shape_of, shape_code}
use Rattle.lines.specs.Lines.{Fit, items_of_kind, read_items}

-- ---- one field

-- k bytes have at most 2 k characters.
length_field : (line : List ℕ) (at k : ℕ) → length (take (2 * k) (drop (2 * at) line)) ≤ 2 * k
length_field line at k = rw (length-take (2 * k) (drop (2 * at) line)) (omega arith)

pub field_below : (line : List ℕ) (at k : ℕ) → field line at k < 16 ^ (2 * k)
unfolding field
field_below line at k = number_below (2 * k) (take (2 * k) (drop (2 * at) line)) (length_field line at k)

-- At most 8 bytes are their own remainder by 2^64.
pub field_fits : (line : List ℕ) (at k : ℕ) → k ≤ 8 → field line at k % 2 ^ 64 ≡ field line at k
unfolding field
field_fits line at k h = number_fits (take (2 * k) (drop (2 * at) line)) (omega (arith, length_field line at k))

-- What is told of a number of k bytes by its remainder by 16 ^ (2 * k), and of a field of k bytes.
pub number_whole : (k : ℕ) (part : List ℕ) (x : ℕ) → length part ≡ 2 * k → x ≡ number_of part → x % 16 ^ (2 * k) ≡ number_of part
number_whole k part x n e = rw e (mod-eq_of_lt (number_below (2 * k) part (omega arith)))

pub field_whole : (line : List ℕ) (at k : ℕ) → k ≤ 8 → field line at k % 2 ^ 64 % 16 ^ (2 * k) ≡ field line at k
field_whole line at k h = rw (field_fits line at k h) (mod-eq_of_lt (field_below line at k))

-- Two fields one after the other are one field.
pub field_split : (line : List ℕ) (at j k : ℕ) → 2 * at + 2 * (j + k) ≤ length line
    → field line at (j + k) ≡ field line at j * 16 ^ (2 * k) + field line (at + j) k
unfolding field
field_split line at j k h =
    let d = drop (2 * at) line in
    let last = drop-drop (2 * j) (2 * at) line in
    let size : length (take (2 * k) (drop (2 * at + 2 * j) line)) ≡ 2 * k = rw (length-take, length-drop) (omega arith) in
    rw (mul-add 2 j k, take-add (2 * j) (2 * k) d, last, number_append, size, mul-add 2 at j)

-- Past the end of the line: a field that begins there is 0, and one that runs past it is what is left of the line.
pub field_past : (line : List ℕ) (at k : ℕ) → length line ≤ 2 * at → field line at k ≡ 0
unfolding field number_of read_from
field_past line at k h = rw (drop_of_length-le line h, take-nil)

pub field_rest : (line : List ℕ) (at k : ℕ) → length line - 2 * at ≤ 2 * k → field line at k ≡ number_of (drop (2 * at) line)
unfolding field
field_rest line at k h = ap number_of (take_all (2 * k) (drop (2 * at) line) (omega (arith, length-drop (2 * at) line)))

-- One byte and two bytes by their digits, the first of which stands at j.
module _ (line : List ℕ) (at j : ℕ) (e : j ≡ 2 * at) where
  pub field_byte : j + 1 < length line → field line at 1 ≡ 16 * value_or0 (get_or line j 0) + value_or0 (get_or line (j + 1) 0)
  unfolding field number_of read_from
  field_byte h =
      let h₀ : j < length line = omega arith in
      let h₁ : suc j < length line = omega arith in
      rw (← e, drop-cons line j 0, drop-cons line (suc j) 0, add-one) (omega arith)

  pub field_pair : j + 3 < length line
      → field line at 2
      ≡ 4096 * value_or0 (get_or line j 0) + 256 * value_or0 (get_or line (j + 1) 0) + 16 * value_or0 (get_or line (j + 2) 0)
      + value_or0 (get_or line (j + 3) 0)
  unfolding field number_of read_from
  field_pair h =
      let h₀ : j < length line = omega arith in
      let h₁ : suc j < length line = omega arith in
      let h₂ : suc (suc j) < length line = omega arith in
      let h₃ : suc (suc (suc j)) < length line = omega arith in
      rw (← e, add-one, add-two, add-three, drop-cons line j 0, drop-cons line (suc j) 0)
      (rw (drop-cons line (suc (suc j)) 0, drop-cons line (suc (suc (suc j))) 0) (omega arith))

-- ---- several fields

pub length_fields : (line : List ℕ) (at width k : ℕ) → length (fields line at width k) ≡ k
unfolding fields
length_fields line at width zero = refl
length_fields line at width (suc k) = ap suc (length_fields line (at + width) width k)

-- One field more, at the end.
pub fields_suc : (line : List ℕ) (at width k : ℕ) → fields line at width (suc k)
    ≡ fields line at width k ++ (field line (at + width * k) width ∷ [])
unfolding fields
fields_suc line at width zero = rw (mul-zero, add-zero)
fields_suc line at width (suc k) =
    ap (λ (l : List ℕ). field line at width ∷ l)
    (fields_suc line (at + width) width k ∙ rw (add_assoc, mul-suc, add_comm width (width * k)))

-- ---- kinds and their bytes

-- Every kind is found by its byte. The one law that goes kind by kind.
pub kind_byte : (k : Kind) → kind_of (row_of k).byte ≡ Some k
unfolding kind_of kind_among kinds row_of
kind_byte count_line = refl
kind_byte best_line = refl
kind_byte at_line = refl
kind_byte record_line = refl
kind_byte word_line = refl
kind_byte next_line = refl
kind_byte run_line = refl
kind_byte tree_line = refl
kind_byte to_tree_line = refl

-- A test passes for each of some kinds.
unfoldable pub passes : (Kind → Bool) → List Kind → Bool
passes p [] = true
passes p (k ∷ ks) = p k && passes p ks

-- The kind that is found has the byte, and passes each test that all pass.
found : (p : Kind → Bool) (ks : List Kind) (b : ℕ) (k : Kind) → kind_among ks b ≡ Some k
    → ((row_of k).byte ≡ b) × (passes p ks ≡ true → p k ≡ true)
unfolding kind_among passes
found p [] b k e = cc
found p (j ∷ ks) b k e = go (found p ks b k) (eqb b (row_of j).byte) refl
  where
    go : (kind_among ks b ≡ Some k → ((row_of k).byte ≡ b) × (passes p ks ≡ true → p k ≡ true))
        → (t : Bool) → eqb b (row_of j).byte ≡ t → ((row_of k).byte ≡ b) × (p j && passes p ks ≡ true → p k ≡ true)
    go later true h =
        let same : j ≡ k = cc (rw (h, kind_among) at e) in
        rw (← same) (sym (eqb-true b (row_of j).byte h), λ q. ((and-eq-true_iff (p j) (passes p ks)).0 q).0)
    go later false h =
        let r = later (rw (h, kind_among) at e) in
        (r.0, λ q. r.1 ((and-eq-true_iff (p j) (passes p ks)).0 q).1)

pub byte_kind : (b : ℕ) (k : Kind) → kind_of b ≡ Some k → (row_of k).byte ≡ b
unfolding kind_of
byte_kind b k e = (found (λ (j : Kind). true) kinds b k e).0

-- So a test over the list shows something of every kind.
pub each_kind : (p : Kind → Bool) → passes p kinds ≡ true → (k : Kind) → p k ≡ true
unfolding kind_of
each_kind p t k = (found p kinds (row_of k).byte k (kind_byte k)).1 t

-- What the code answers for a byte says whether there is a kind with it.
pub kind_told : (o : Option Kind) (k : Kind) → ok_or o UnknownKind ≡ Ok k → o ≡ Some k
kind_told None k e = cc
kind_told (Some j) k e = cc

pub kind_refused : (o : Option Kind) (r : Refusal) → ok_or o UnknownKind ≡ Err r → (o ≡ None) × (r ≡ UnknownKind)
kind_refused None r e = (refl, cc)
kind_refused (Some j) r e = cc

-- The byte is that of none of some kinds: what a match over their bytes, in this order, leaves to its last arm.
abbrev pub Left : Type 0 → List Kind → ℕ → Type 0
Left A [] b = A
Left A (k ∷ ks) b = Left (A × (b ≡ (row_of k).byte → ⊥)) ks b

left_none : (A : Type 0) (ks : List Kind) (b : ℕ) → Left A ks b → A × (kind_among ks b ≡ None)
unfolding kind_among
left_none A [] b h = (h, refl)
left_none A (k ∷ ks) b h =
    let (a, e) = left_none (A × (b ≡ (row_of k).byte → ⊥)) ks b h in
    (a.0, rw (ne_eqb b (row_of k).byte a.1, kind_among) e)

pub none_left : (b : ℕ) → Left (Unit {0}) kinds b → kind_of b ≡ None
unfolding kind_of
none_left b h = (left_none (Unit {0}) kinds b h).1

-- The numbers in a row are small, and some byte stands before the items.
pub record Small (r : Row) : Type 0 where
  pub byte_fits : r.byte < 256
  pub some_before : 0 < r.before
  pub few_before : r.before < 256
  pub narrow : r.width ≤ 2

is_small : Kind → Bool
is_small k = (ltb (row_of k).byte 256 && ltb 0 (row_of k).before) && (ltb (row_of k).before 256 && leb (row_of k).width 2)

pub row_small : (k : Kind) → Small (row_of k)
unfolding is_small kinds row_of passes
row_small k =
    let t = each_kind is_small refl k in
    let h = (and-eq-true_iff (ltb (row_of k).byte 256 && ltb 0 (row_of k).before)
    (ltb (row_of k).before 256 && leb (row_of k).width 2)).0 t in
    let f = (and-eq-true_iff (ltb (row_of k).byte 256) (ltb 0 (row_of k).before)).0 h.0 in
    let g = (and-eq-true_iff (ltb (row_of k).before 256) (leb (row_of k).width 2)).0 h.1 in
    record {
      byte_fits = ltb-true _ _ f.0;
      some_before = ltb-true _ _ f.1;
      few_before = ltb-true _ _ g.0;
      narrow = leb-true _ _ g.1;
    }

-- No sum of such numbers is large.
pub row_low : (k : Kind) (count : ℕ) → count < 256 → ((row_of k).before < 256) × ((row_of k).width * count ≤ 510)
row_low k count h =
    let s = row_small k in (
      s.few_before,
      mul-le-mul {n₁ = (row_of k).width} {m₁ = count} {n₂ = 2} {m₂ = 255} s.narrow (omega arith),
    )

-- ---- lengths

pub bad_none : (n : ℕ) → n ≡ 0 → bad_length n ≡ true
unfolding bad_length
bad_none n h = rw (eq-eqb n 0 h)

pub bad_odd : (n : ℕ) → n % 2 ≡ 1 → bad_length n ≡ true
unfolding bad_length
bad_odd n h = rw (ne_eqb n 0 (λ e. omega arith), eq-eqb (n % 2) 1 h)

pub bad_long : (n : ℕ) → 514 < n → bad_length n ≡ true
unfolding bad_length
bad_long n h = rw (lt-ltb 514 n h, or-true, or-true)

pub proper_length : (n : ℕ) → Proper n → bad_length n ≡ false
unfolding bad_length
proper_length n p = rw (ne_eqb n 0 (λ e. omega arith), ne_eqb (n % 2) 1 (λ e. omega arith), le-ltb 514 n p.most)

pub length_proper : (n : ℕ) → bad_length n ≡ false → Proper n
unfolding bad_length
length_proper n e =
    let r = neither (eqb n 0) (eqb (n % 2) 1 || ltb 514 n) e in
    let s = neither (eqb (n % 2) 1) (ltb 514 n) r.1 in
    record {
      some_there = omega (arith, eqb-false n 0 r.0);
      even = omega (arith, eqb-false (n % 2) 1 s.0);
      most = ltb-false 514 n s.1;
    }

-- ---- which lines are refused, and which are fit

pub unfit_length : (line : List ℕ) → bad_length (length line) ≡ true → shape_of line ≡ Err BadLength
unfolding shape_of
unfit_length line e = rw e

pub unfit_character : (line : List ℕ) → Proper (length line) → all_digits line ≡ false → shape_of line ≡ Err NoDigit
unfolding shape_of
unfit_character line p e = rw (proper_length (length line) p, e)

pub shape_kind : (line : List ℕ) → Proper (length line) → all_digits line ≡ true
    → shape_of line ≡ shape_of_kind line (kind_of (field line 0 1))
unfolding shape_of
shape_kind line p e = rw (proper_length (length line) p, e)

-- A line of no kind, and a line of a kind by its length.
pub unfit_kind : (line : List ℕ) (o : Option Kind) → o ≡ None → shape_of_kind line o ≡ Err UnknownKind
unfolding shape_of_kind
unfit_kind line o e = rw e

module _ (line : List ℕ) (o : Option Kind) (k : Kind) (e : o ≡ Some k) where
  pub unfit_kind_length : (length line ≡ 2 * bytes_in k line → ⊥) → shape_of_kind line o ≡ Err BadLength
  unfolding shape_of_kind
  unfit_kind_length h = rw (e, ne_eqb (length line) (2 * bytes_in k line) h)

  pub fit_kind_length : length line ≡ 2 * bytes_in k line → shape_of_kind line o ≡ Ok k
  unfolding shape_of_kind
  fit_kind_length h = rw (e, eq-eqb (length line) (2 * bytes_in k line) h)

pub line_fit : (line : List ℕ) (k : Kind) → Fit line k → shape_of line ≡ Ok k
line_fit line k f =
    shape_kind line f.proper f.digits
    ∙ fit_kind_length line (kind_of (field line 0 1)) k f.kind f.long

pub fit_line : (line : List ℕ) (k : Kind) → shape_of line ≡ Ok k → Fit line k
fit_line line k e = go (bad_length (length line)) refl
  where
    first : ℕ
    first = field line 0 1

    not_unfit : (r : Refusal) → shape_of line ≡ Err r → ⊥
    not_unfit r u = cc

    of_kind : Proper (length line) → all_digits line ≡ true → (o : Option Kind) → kind_of first ≡ o → Fit line k
    of_kind p d None o = absurd (not_unfit UnknownKind (shape_kind line p d ∙ unfit_kind line (kind_of first) o))
    of_kind p d (Some j) o = by_length (eqb (length line) (2 * bytes_in j line)) refl
      where
        by_length : (b : Bool) → eqb (length line) (2 * bytes_in j line) ≡ b → Fit line k
        by_length true h =
            let l : length line ≡ 2 * bytes_in j line = eqb-true _ _ h in
            let f : Ok j ≡ Ok k = sym (line_fit line j (record { proper = p; digits = d; kind = o; long = l })) ∙ e in
            let same : j ≡ k = cc in
            rw (← same) (record { proper = p; digits = d; kind = o; long = l })
        by_length false h =
            absurd (not_unfit BadLength (shape_kind line p d ∙ unfit_kind_length line (kind_of first) j o (eqb-false _ _ h)))

    with_digits : Proper (length line) → (b : Bool) → all_digits line ≡ b → Fit line k
    with_digits p true h = of_kind p h (kind_of first) refl
    with_digits p false h = absurd (not_unfit NoDigit (unfit_character line p h))

    go : (b : Bool) → bad_length (length line) ≡ b → Fit line k
    go true h = absurd (not_unfit BadLength (unfit_length line h))
    go false h = with_digits (length_proper (length line) h) (all_digits line) refl

-- A line gets 3 exactly if its length is proper and some character is no digit.
pub no_digit : (line : List ℕ) → (shape_of line ≡ Err NoDigit) ↔ (Proper (length line) × (all_digits line ≡ false))
unfolding shape_of_kind
no_digit line = (there, λ h. unfit_character line h.0 h.1)
  where
    by_length : (k : Kind) (b : Bool) → cond b (Ok k) (Err BadLength) ≡ Err NoDigit → ⊥
    by_length k true e = cc
    by_length k false e = cc

    by_kind : (o : Option Kind) → shape_of_kind line o ≡ Err NoDigit → ⊥
    by_kind None e = cc
    by_kind (Some k) e = by_length k (eqb (length line) (2 * bytes_in k line)) e

    with_length : shape_of line ≡ Err NoDigit → Proper (length line) → (b : Bool) → all_digits line ≡ b → all_digits line ≡ false
    with_length e p true d = absurd (by_kind (kind_of (field line 0 1)) (sym (shape_kind line p d) ∙ e))
    with_length e p false d = d

    there : shape_of line ≡ Err NoDigit → Proper (length line) × (all_digits line ≡ false)
    there e = go (bad_length (length line)) refl
      where
        go : (b : Bool) → bad_length (length line) ≡ b → Proper (length line) × (all_digits line ≡ false)
        go true h = let u = unfit_length line h in cc
        go false h = let p = length_proper (length line) h in (p, with_length e p (all_digits line) refl)

-- A line gets 4 exactly if its length is proper, its characters are digits and its first byte is that of no kind.
pub no_kind : (line : List ℕ)
    → (shape_of line ≡ Err UnknownKind) ↔ (Proper (length line) × (all_digits line ≡ true) × (kind_of (field line 0 1) ≡ None))
unfolding shape_of_kind
no_kind line = (there, λ h. shape_kind line h.0 h.1 ∙ unfit_kind line (kind_of (field line 0 1)) h.2)
  where
    by_length : (k : Kind) (b : Bool) → cond b (Ok k) (Err BadLength) ≡ Err UnknownKind → ⊥
    by_length k true e = cc
    by_length k false e = cc

    by_kind : (o : Option Kind) → shape_of_kind line o ≡ Err UnknownKind → o ≡ None
    by_kind None e = refl
    by_kind (Some k) e = absurd (by_length k (eqb (length line) (2 * bytes_in k line)) e)

    with_length : shape_of line ≡ Err UnknownKind → Proper (length line) → (b : Bool) → all_digits line ≡ b
        → Proper (length line) × (all_digits line ≡ true) × (kind_of (field line 0 1) ≡ None)
    with_length e p true d = (p, d, by_kind (kind_of (field line 0 1)) (sym (shape_kind line p d) ∙ e))
    with_length e p false d = let u = unfit_character line p d in cc

    there : shape_of line ≡ Err UnknownKind → Proper (length line) × (all_digits line ≡ true) × (kind_of (field line 0 1) ≡ None)
    there e = go (bad_length (length line)) refl
      where
        go : (b : Bool) → bad_length (length line) ≡ b
            → Proper (length line) × (all_digits line ≡ true) × (kind_of (field line 0 1) ≡ None)
        go true h = let u = unfit_length line h in cc
        go false h = with_length e (length_proper (length line) h) (all_digits line) refl

-- ---- a shape in numbers

pub refused_shape : (s : Result Kind Refusal) (r : Refusal) → shape_code s ≡ Err (refusal_number r) → s ≡ Err r
unfolding shape_code
refused_shape (Err q) r e =
    let same : refusal_number q ≡ refusal_number r = cc in
    ap Err (same_number q r same)
refused_shape (Ok k) r e = cc

pub kind_shape : (s : Result Kind Refusal) (b : ℕ) (k : Kind) → shape_code s ≡ Ok b → kind_of b ≡ Some k → s ≡ Ok k
unfolding shape_code
kind_shape (Err q) b k e h = cc
kind_shape (Ok j) b k e h =
    let p : (row_of j).byte ≡ b = cc in
    let o : Some j ≡ Some k = sym (kind_byte j) ∙ ap kind_of p ∙ h in
    cc

-- The byte of a fit line is left by no match over all kinds.
pub none_left_fit : (s : Result Kind Refusal) (b : ℕ) → shape_code s ≡ Ok b → Left (Unit {0}) kinds b → ⊥
unfolding shape_code
none_left_fit (Err q) b e h = cc
none_left_fit (Ok k) b e h =
    let p : (row_of k).byte ≡ b = cc in
    let o : Some k ≡ None = sym (kind_byte k) ∙ ap kind_of p ∙ none_left b h in
    cc

-- ---- a line's first 515 characters

-- Of a longer line they are all that its shape depends on.
pub shape_515 : (line : List ℕ) → shape_of line ≡ shape_of (take 515 line)
shape_515 line = go (ltb 514 (length line)) refl
  where
    go : (b : Bool) → ltb 514 (length line) ≡ b → shape_of line ≡ shape_of (take 515 line)
    go true e =
        let h : 514 < length line = ltb-true 514 (length line) e in
        unfit_length line (bad_long (length line) h)
        ∙ sym (unfit_length (take 515 line) (bad_long (length (take 515 line)) (omega (arith, length-take 515 line))))
    go false e = ap shape_of (sym (take_all 515 line (omega (arith, ltb-false 514 (length line) e))))

-- So are they of any reply that goes by the shape and looks into no line that is refused by it.
pub reply_515 : {X : Type 0} (reply : Result Kind Refusal → List ℕ → X) → ((r : Refusal) (a b : List ℕ) → reply (Err r) a ≡ reply (Err r) b)
    → (line : List ℕ) → reply (shape_of line) line ≡ reply (shape_of (take 515 line)) (take 515 line)
reply_515 {X} reply same line = ap (λ (s : Result Kind Refusal). reply s line) (shape_515 line) ∙ go (shape_of (take 515 line)) (shape_515 line)
  where
    go : (s : Result Kind Refusal) → shape_of line ≡ s → reply s line ≡ reply s (take 515 line)
    go (Err r) e = same r line (take 515 line)
    go (Ok k) e = ap (reply (Ok k)) (sym (take_all 515 line (omega (arith, (fit_line line k e).proper.most))))

-- ---- reading the items of a line

module _ (width : ℕ) (line : List ℕ) (places : ℕ) where
  pub items_little : places < 255 → read_items width line places ≡ Err LittleLent
  unfolding read_items
  items_little h = rw (lt-ltb places 255)

  module _ (room : 255 ≤ places) where
    pub items_kind : read_items width line places ≡ items_of_kind width line (kind_of (field line 0 1))
    unfolding read_items
    items_kind = rw (le-ltb places 255)

-- A line of no kind, of a kind with items of another width, and of a kind with such items.
module _ (width : ℕ) (line : List ℕ) (o : Option Kind) where
  pub items_none : o ≡ None → items_of_kind width line o ≡ Err UnknownKind
  unfolding items_of_kind
  items_none e = rw e

  module _ (k : Kind) (e : o ≡ Some k) where
    pub items_other : ((row_of k).width ≡ width → ⊥) → items_of_kind width line o ≡ Err UnknownKind
    unfolding items_of_kind
    items_other h = rw (e, ne_eqb (row_of k).width width h)

    pub items_short : (row_of k).width ≡ width → length line < 2 * bytes_in k line → items_of_kind width line o ≡ Err BadLength
    unfolding items_of_kind
    items_short w h = rw (e, eq-eqb (row_of k).width width w, lt-ltb (length line) (2 * bytes_in k line))

    pub items_there : (row_of k).width ≡ width → 2 * bytes_in k line ≤ length line → items_of_kind width line o ≡ Ok (items_in k line)
    unfolding items_of_kind
    items_there w h = rw (e, eq-eqb (row_of k).width width w, le-ltb (length line) (2 * bytes_in k line))

-- The items of a fit line are all read.
pub items_fit : (line : List ℕ) (places : ℕ) (k : Kind) → Fit line k → 255 ≤ places
    → read_items (row_of k).width line places ≡ Ok (items_in k line)
items_fit line places k f h =
    items_kind (row_of k).width line places h
    ∙ items_there (row_of k).width line (kind_of (field line 0 1)) k f.kind refl (omega (arith, f.long))
