-- Which numbers a line can be refused with, by its shape and kind by kind (`reply_refusals`). So it is refused with numbers of the
-- tables only (`reply_refusal`), and each leaves the same behind (`refused_leaves`). It is refused with 3 exactly where its length
-- is proper and a character is no digit (`reply_no_digit`), and with 4 exactly where its first byte is that of no kind
-- (`reply_no_kind`).
use Rattle.std.specs.Prelude.{Option}
use Rattle.std.specs.Prelude.{Some, None, Result, Ok, Err}
use Rattle.std.specs.Prelude.{◌≡◌, ◌↔◌, ◌⊎◌, Bool, true, false, not, cond, List, [], ◌∷◌, ℕ, ◌*◌, ◌≤◌, T, leb, eqb, length}
use Rattle.std.proofs.Math.Path.{refl, ap}
use Rattle.std.proofs.Common.{subst, ◌∙◌, inl, inr, ⊎_elim, leb-true}
use Rattle.std.proofs.Math.Logic.Iff
use Rattle.std.proofs.lemmas.Bool.{not-true}
use Rattle.lent.specs.Lent.{filled}
use Rattle.refusals.specs.declared.Refusal.{Refusal}
use Rattle.refusals.specs.declared.Refusal.TheVariants.{BadLength, NoDigit, UnknownKind, NoChainFits, NoSuchPosition, BadWord, UnknownPart, NotChained, TooLarge, LastOfList, BadModulus, BadResidue, NoTreeWord, WrongExponents}
use Rattle.digits.specs.Digits.{every, all_digits, digits_of}
use Rattle.refusals.specs.Refusals.{number_of}
use Rattle.lines.specs.Kinds.{kinds, kind_of}
use Rattle.lines.specs.declared.Kind.{Kind}
use Rattle.lines.specs.Lines.{field, bytes_in, bad_length, Proper, shape_of_kind, shape_of}
use Rattle.lines.proofs.LineLaws.{passes, each_kind, no_digit, no_kind}
use Rattle.frames.specs.Replies.{refused_as, digits_in, served, reply_row_of, refusals_of, reply_by_shape, reply_to, reply_of, out_left}
use Rattle.frames.specs.ServedLaws.{among, among_passes, ReplyIn, made}

-- A line that is not fit: its length, a character, its kind.
unfoldable pub shape_refusals : List Refusal
shape_refusals = BadLength ∷ NoDigit ∷ UnknownKind ∷ []

abbrev ShapeIn : List Refusal → Result Kind Refusal → Type 0
ShapeIn rs (Err r) = T (among r rs)
ShapeIn rs (Ok k) = Unit {0}

of_shape : (line : List ℕ) → ShapeIn shape_refusals (shape_of line)
unfolding shape_of shape_of_kind shape_refusals among
of_shape line = go (bad_length (length line)) (all_digits line) (kind_of (field line 0 1))
  where
    of_kind : (k : Kind) (b : Bool) → ShapeIn shape_refusals (cond b (Ok k) (Err BadLength))
    of_kind k true = tt
    of_kind k false = tt

    go : (bad digits : Bool) (k : Option Kind)
        → ShapeIn shape_refusals (cond bad (Err BadLength) (cond digits (shape_of_kind line k) (Err NoDigit)))
    go true digits k = tt
    go false false k = tt
    go false true None = tt
    go false true (Some k) = of_kind k (eqb (length line) (2 * bytes_in k line))

-- A line is refused by its shape, or it is fit and refused with a number of its kind.
pub reply_refusals : (line : List ℕ) (r : Refusal) → reply_to line ≡ refused_as r
    → T (among r shape_refusals) ⊎ ((k : Kind) × (shape_of line ≡ Ok k) × T (among r (refusals_of k)))
unfolding reply_to reply_by_shape
reply_refusals line r e = go (shape_of line) refl (of_shape line)
  where
    go : (s : Result Kind Refusal) → shape_of line ≡ s → ShapeIn shape_refusals (shape_of line)
        → T (among r shape_refusals) ⊎ ((k : Kind) × (shape_of line ≡ Ok k) × T (among r (refusals_of k)))
    go (Err q) g h =
        let same : q ≡ r = cc (rw g at e) in
        inl (subst (λ (x : Refusal). T (among x shape_refusals)) same (subst (ShapeIn shape_refusals) g h))
    go (Ok k) g h = inr (k, g, subst (ReplyIn (refusals_of k)) (rw g at e) (made k line).refusal)

-- The refusals of lines in the tables of document 01 and document 02. 1 is for too little lent, and 12 for the plain count, which
-- no line asks for.
unfoldable pub line_refusals : List Refusal
line_refusals = BadLength ∷ NoDigit ∷ UnknownKind ∷ NoChainFits ∷ NoSuchPosition ∷ BadWord ∷ UnknownPart ∷ NotChained ∷ TooLarge ∷ LastOfList ∷ BadModulus ∷ BadResidue ∷ NoTreeWord ∷ WrongExponents ∷ []

-- A line is refused with a number of the tables only.
pub reply_refusal : (line : List ℕ) (r : Refusal) → reply_to line ≡ refused_as r → T (among r line_refusals)
unfolding shape_refusals line_refusals reply_row_of among every passes kinds
reply_refusal line r e =
    let known : Refusal → Bool = λ x. among x line_refusals in
    ⊎_elim (λ (t : T (among r shape_refusals)). rw (among_passes known r shape_refusals refl t) tt)
    (λ (f : (k : Kind) × (shape_of line ≡ Ok k) × T (among r (refusals_of k))).
    rw (among_passes known r (refusals_of f.0) (each_kind (λ (k : Kind). every known (refusals_of k)) refl f.0) f.2) tt)
    (reply_refusals line r e)

-- The numbers of all of them are above 1.
pub two_or_more : (r : Refusal) → T (among r line_refusals) → 2 ≤ number_of r
unfolding line_refusals every
two_or_more r t = leb-true 2 (number_of r) (among_passes (λ q. leb 2 (number_of q)) r line_refusals refl t)

-- Each of them leaves the same in the bytes for the reply: its number as two digits, zeros up to 514, and later bytes as they were.
pub refused_leaves : (line : List ℕ) (r : Refusal) (entry : List ℕ) → reply_to line ≡ refused_as r
    → out_left false line entry ≡ filled 514 (digits_of 2 (number_of r)) entry
unfolding out_left reply_of digits_in
refused_leaves line r entry e = rw e

-- A line with a character that is no digit is refused by its length alone: with 2 or 3.
pub other_character : (line : List ℕ) → all_digits line ≡ false → reply_to line ≡ refused_as (cond (bad_length (length line)) BadLength NoDigit)
unfolding reply_to reply_by_shape shape_of
other_character line e = go (bad_length (length line)) refl
  where
    go : (b : Bool) → bad_length (length line) ≡ b → reply_to line ≡ refused_as (cond (bad_length (length line)) BadLength NoDigit)
    go true h = rw h
    go false h = rw (h, e)

-- A number that no kind refuses a fit line with is told by the shape alone.
module _ (r : Refusal) (never : passes (λ (k : Kind). not (among r (refusals_of k))) kinds ≡ true) (line : List ℕ) where
  not_fit : (k : Kind) → served k line ≡ refused_as r → ⊥
  not_fit k e =
      let none_here = not-true (among r (refusals_of k)) (each_kind (λ (j : Kind). not (among r (refusals_of j))) never k) in
      rw none_here at (subst (ReplyIn (refusals_of k)) e (made k line).refusal)

  by_shape : (reply_to line ≡ refused_as r) ↔ (shape_of line ≡ Err r)
  unfolding reply_to reply_by_shape
  by_shape = (λ e. go (shape_of line) refl e, λ e. rw e)
    where
      go : (s : Result Kind Refusal) → shape_of line ≡ s → reply_to line ≡ refused_as r → shape_of line ≡ Err r
      go (Err q) g e = let same : q ≡ r = cc (rw g at e) in g ∙ ap Err same
      go (Ok k) g e = absurd (not_fit k (rw g at e))

-- So a line gets 3 exactly if its length is proper and some character is no digit.
pub reply_no_digit : (line : List ℕ) → (reply_to line ≡ refused_as NoDigit) ↔ (Proper (length line) × (all_digits line ≡ false))
unfolding reply_row_of among passes kinds
reply_no_digit line = Iff.trans (by_shape NoDigit refl line) (no_digit line)

-- It gets 4 exactly if its length is proper, its characters are digits and its first byte is that of no kind. So 4 does not cover
-- 07 to 09, nor a kind that is added to `kinds`.
pub reply_no_kind : (line : List ℕ)
    → (reply_to line ≡ refused_as UnknownKind) ↔ (Proper (length line) × (all_digits line ≡ true) × (kind_of (field line 0 1) ≡ None))
unfolding reply_row_of among passes kinds
reply_no_kind line = Iff.trans (by_shape UnknownKind refl line) (no_kind line)
