-- Theory of the replies to fit lines. One law goes kind by kind (`made`): the reply is a frame, and what its kind's row says of it
-- (`reply_row_of`) holds. All that is known of every reply follows from that law.
--
-- In this order: refusals among some numbers; the services' outcomes; frames; the replies, kind by kind.
use Rattle.std.specs.Prelude.{Result, Ok, Err}
use Rattle.std.specs.Prelude.{◌≡◌, refl, ◌⊎◌, Bool, cond, ◌||◌, List, [], ◌∷◌, map, ℕ, ◌+◌, ◌*◌, ◌%◌, ◌^◌, ◌≤◌, ◌<◌, T, eqb}
use Rattle.std.proofs.Common.{ap, ◌∙◌, inl, inr, arith, eq-eqb, ne_eqb, eqb-true}
use Rattle.std.proofs.Math.Bool.{true, false, and-eq-true_iff}
use Rattle.std.proofs.Math.Option.{Option, none, some}
use Rattle.std.proofs.Math.ListN.{length}
use Rattle.std.proofs.lemmas.List.{length-map}
use Rattle.chains.specs.Chains.{Part, ChainOf}
use Rattle.chains.specs.Listing.{count, position}
use Rattle.chains.specs.Best.{Prices, Limits, price, best_chain}
use Rattle.chains.proofs.Bounds.{parts_bound}
use Rattle.refusals.specs.declared.Refusal.{Refusal}
use Rattle.refusals.specs.declared.Refusal.TheVariants.{NoChainFits, NoSuchPosition, BadWord, UnknownPart, NotChained, TooLarge, LastOfList, BadModulus, BadResidue, NoTreeWord, WrongExponents}
use Rattle.refusals.specs.Refusals.{number_of}
use Rattle.parts.specs.Parts.{part_number}
use Rattle.ranking.specs.Services.{Outcome, refused, gives, at_position, of_word, next_of, of_record}
use Rattle.ranking.specs.Outcomes.{standing_refused, at_gives, of_gives, next_gives, record_gives}
use Rattle.ranking.specs.Refusals.{word_refusals, next_refusals, record_refusals}
use Rattle.best.specs.Chosen.{or_none, best_outcome}
use Rattle.best.specs.Demand3.{given_is_best}
use Rattle.trees.specs.Answers.{of_tree, TreeWord, no_tree, tree_word, record_tree}
use Rattle.trees.proofs.AnswerLaws.{tree_gives, tree_refusals, record_tree_lem, record_tree_refusals, tree_short}
use Rattle.refusals.proofs.Numbers.{same_number}
use Rattle.running.specs.Ran.{ran_of}
use Rattle.running.proofs.RanLaws.{run_refusals}
use Rattle.digits.specs.Digits.{is_written, every, digits_of}
use Rattle.digits.proofs.DigitLaws.{every_append, length_digits, written_digits}
use Rattle.lines.specs.declared.Kind.{Kind}
use Rattle.lines.specs.declared.Kind.TheVariants.{Count as count_line, Best as best_line, At as at_line, Record as record_line, Word as word_line, Next as next_line, Run as run_line}
use Rattle.lines.specs.declared.Kind.TheVariants.{Tree as tree_line, ToTree as to_tree_line}
use Rattle.lines.specs.Lines.{field, items_in}
use Rattle.lines.proofs.LineLaws.{field_below}
use Rattle.frames.specs.ReplyDigits.{single_digits, record_digits, head_digits, numbers_at, chain_digits, priced_digits, letters_digits}
use Rattle.frames.specs.ReplyDigits.{letters_at}
use Rattle.frames.specs.ReplyDigitLaws.{length_single, length_chain, length_priced, length_letters, every_values}
use Rattle.frames.specs.Replies.{Reply, refused_as, served_with, digits_in, chain_reply, priced_reply, ran_reply, letters_reply}
use Rattle.frames.specs.Replies.{limits_in, prices_in, modulus_in, residue_in, tells_largest, or_sixteen, served, ReplyRow, reply_row}
use Rattle.frames.specs.Replies.{reply_row_of}

-- ---- refusals among some numbers

unfoldable pub among : Refusal → List Refusal → Bool
among r [] = false
among r (x ∷ xs) = eqb (number_of r) (number_of x) || among r xs

-- The same as the laws of the services say it.
abbrev OneOf : Refusal → List Refusal → Type 0
OneOf r [] = ⊥
OneOf r (x ∷ []) = r ≡ x
OneOf r (x ∷ y ∷ xs) = (r ≡ x) ⊎ OneOf r (y ∷ xs)

or_right : (a b : Bool) → T b → T (a || b)
or_right true b t = tt
or_right false b t = t

one_among : (r : Refusal) (xs : List Refusal) → OneOf r xs → T (among r xs)
unfolding among
one_among r [] h = absurd h
one_among r (x ∷ []) h = rw (eq-eqb (number_of r) (number_of x) (ap number_of h)) tt
one_among r (x ∷ y ∷ xs) (inl e) = rw (eq-eqb (number_of r) (number_of x) (ap number_of e)) tt
one_among r (x ∷ y ∷ xs) (inr l) = or_right (eqb (number_of r) (number_of x)) (among r (y ∷ xs)) (one_among r (y ∷ xs) l)

-- A number among some that all pass a test passes it.
pub among_passes : (p : Refusal → Bool) (r : Refusal) (xs : List Refusal) → every p xs ≡ true → T (among r xs) → p r ≡ true
unfolding among every
among_passes p r [] e t = absurd t
among_passes p r (x ∷ xs) e t = go (among_passes p r xs) (eqb (number_of r) (number_of x)) refl
  where
    both : (p x ≡ true) × (every p xs ≡ true)
    both = (and-eq-true_iff (p x) (every p xs)).0 e

    go : (every p xs ≡ true → T (among r xs) → p r ≡ true) → (b : Bool) → eqb (number_of r) (number_of x) ≡ b → p r ≡ true
    go later true h = ap p (same_number r x (eqb-true (number_of r) (number_of x) h)) ∙ both.0
    go later false h = later both.1 (rw h at t)

abbrev pub ReplyIn : List Refusal → Reply → Type 0
ReplyIn rs (refused_as r) = T (among r rs)
ReplyIn rs (served_with ds) = Unit {0}

-- ---- the services' outcomes

-- A refusal among the numbers rs, or a chain of a number below 2^64.
abbrev pub Sound : List Refusal → Outcome → Type 0
Sound rs (refused r) = T (among r rs)
Sound rs (gives n c) = ChainOf n c × (n < 2 ^ 64)

sound : (rs : List Refusal) (o : Outcome) → ((r : Refusal) → o ≡ refused r → OneOf r rs)
    → ((n : ℕ) (c : List Part) → o ≡ gives n c → ChainOf n c × (n < 2 ^ 64)) → Sound rs o
sound rs (refused r) f g = one_among r rs (f r refl)
sound rs (gives n c) f g = g n c refl

at_sound : (n i : ℕ) → n < 2 ^ 64 → Sound (NoSuchPosition ∷ []) (at_position n i)
unfolding at_position
at_sound n i f =
    sound _ (at_position n i) (λ r e. ((standing_refused NoSuchPosition n i r).0 e).0)
    (λ m c e. let (same, chain, there) = at_gives n i m c e in (rw same chain, omega arith))

record_sound : (l : List ℕ) → Sound (UnknownPart ∷ NotChained ∷ TooLarge ∷ []) (of_record l)
record_sound l =
    sound _ (of_record l) (record_refusals l).no_other
    (λ n c e. let g = record_gives l n c e in (g.0, g.2))

word_sound : (w : List ℕ) → Sound (BadWord ∷ TooLarge ∷ []) (of_word w)
word_sound w =
    sound _ (of_word w) (word_refusals w).no_other
    (λ n c e. let g = of_gives w n c e in (g.0, g.2))

next_sound : (w : List ℕ) → Sound (BadWord ∷ TooLarge ∷ LastOfList ∷ []) (next_of (of_word w))
next_sound w =
    sound _ (next_of (of_word w)) (next_refusals w).no_other
    (λ n c e. let d = next_gives w n c e in (d.2, (of_gives w n d.0 d.1).2))

tree_sound : (w : List ℕ) → Sound (NoTreeWord ∷ TooLarge ∷ []) (of_tree w)
tree_sound w =
    sound _ (of_tree w) (tree_refusals w).no_other
    (λ n c e. let g = tree_gives w n c e in (g.0, g.1))

-- The best chain of n is a chain of n, and 5 the only refusal.
module _ (n : ℕ) (lim : Limits) (π : Prices) where
  by_best : (P : Outcome → Type 0) → P (refused NoChainFits) → ((c : List Part) → P (gives n c)) → P (best_outcome n lim (price π))
  unfolding best_outcome or_none
  by_best P none_given given = go (best_chain n lim (price π))
    where
      go : (b : Option (List Part)) → P (or_none n b)
      go none = none_given
      go (some c) = given c

  pub best_number : (m : ℕ) (c : List Part) → best_outcome n lim (price π) ≡ gives m c → m ≡ n
  best_number m c =
      by_best (λ (o : Outcome). o ≡ gives m c → m ≡ n) (λ e. let z : ◌≡◌ {A = ℕ} 0 1 = cc in absurd (omega arith)) (λ d e. cc)

  pub best_five : (r : Refusal) → best_outcome n lim (price π) ≡ refused r → r ≡ NoChainFits
  best_five r =
      by_best (λ (o : Outcome). o ≡ refused r → r ≡ NoChainFits) (λ e. cc) (λ d e. let z : ◌≡◌ {A = ℕ} 0 1 = cc in absurd (omega arith))

  best_sound : n < 2 ^ 64 → Sound (NoChainFits ∷ []) (best_outcome n lim (price π))
  best_sound f =
      sound _ (best_outcome n lim (price π)) best_five
      (λ m c e. let same = best_number m c e in (rw same ((given_is_best n lim π c).0 (rw same at e)).chain, omega arith))

-- ---- frames

-- Whole bytes, at least one and fewer than are lent for a reply, in digits as they are written.
pub record Frame (ds : List ℕ) : Type 0 where
  pub even : length ds % 2 ≡ 0
  pub least : 2 ≤ length ds
  pub most : length ds ≤ 512
  pub digits : every is_written ds ≡ true

frame : (k : ℕ) (ds : List ℕ) → length ds ≡ 2 * k → 1 ≤ k → k ≤ 256 → every is_written ds ≡ true → Frame ds
frame k ds n h g w = record { even = omega arith; least = omega arith; most = omega arith; digits = w }

pub refusal_frame : (n : ℕ) → Frame (digits_of 2 n)
refusal_frame n = frame 1 (digits_of 2 n) (length_digits 2 n) (omega arith) (omega arith) (written_digits 2 n)

single_frame : (x : ℕ) → Frame (single_digits x)
unfolding single_digits
single_frame x =
    frame 9 (single_digits x) (length_single x) (omega arith) (omega arith) (simp (every_append, written_digits))

module _ (n position : ℕ) (numbers : List ℕ) (few : length numbers ≤ 64) where
  written_chain : every is_written (chain_digits n position numbers) ≡ true
  unfolding chain_digits head_digits record_digits
  written_chain = simp (every_append, written_digits, every_values is_written written_digits)

  chain_frame : Frame (chain_digits n position numbers)
  chain_frame =
      let k = length_chain n position numbers in
      frame (numbers_at + 2 * length numbers) (chain_digits n position numbers) k (omega arith) (omega arith) written_chain

  priced_frame : (price : ℕ) → Frame (priced_digits n position numbers price)
  unfolding priced_digits
  priced_frame price =
      let k = length_priced n position numbers price in
      frame (numbers_at + 2 * length numbers + 4) (priced_digits n position numbers price) k (omega arith) (omega arith)
      (simp (every_append, written_digits, written_chain))

letters_frame : (w : List ℕ) → length w ≤ 157 → Frame (letters_digits w)
unfolding letters_digits
letters_frame w few =
    let k = length_letters w in
    frame (letters_at + length w) (letters_digits w) k (omega arith) (omega arith)
    (simp (every_append, written_digits, every_values is_written written_digits))

-- ---- the replies, kind by kind

-- The reply x is a frame, and what the row says of it holds.
pub record Made (row : ReplyRow) (x : Reply) : Type 0 where
  pub framed : Frame (digits_in x)
  pub refusal : ReplyIn row.refusals x
  pub chain : T row.ends_with_chain → (o : Outcome) × Sound row.refusals o × (x ≡ chain_reply o)

-- A chain of a number below 2^64 has few parts.
pub few_numbers : (n : ℕ) (c : List Part) → ChainOf n c → n < 2 ^ 64 → length (map part_number c) ≤ 64
few_numbers n c h f = omega (arith, length-map c part_number, parts_bound n 64 c h f)

-- Replies that do not end with a chain; a service's chain; a service's chain with its price; a run; the letters of a tree word.
plain : {rs : List Refusal} (x : Reply) → Frame (digits_in x) → ReplyIn rs x → Made (reply_row rs false) x
plain x f h = record { framed = f; refusal = h; chain = λ t. absurd t }

chained : {rs : List Refusal} (o : Outcome) → Sound rs o → Made (reply_row rs true) (chain_reply o)
unfolding chain_reply digits_in
chained (refused r) s = record { framed = refusal_frame (number_of r); refusal = s; chain = λ t. (refused r, s, refl) }
chained (gives n c) s =
    let f = chain_frame n (position n c) (map part_number c) (few_numbers n c s.0 s.1) in
    record { framed = f; refusal = tt; chain = λ t. (gives n c, s, refl) }

priced : {rs : List Refusal} (cost : List Part → ℕ) (o : Outcome) → Sound rs o → Made (reply_row rs false) (priced_reply cost o)
unfolding priced_reply digits_in
priced cost (refused r) s = plain (refused_as r) (refusal_frame (number_of r)) s
priced cost (gives n c) s =
    plain _ (priced_frame n (position n c) (map part_number c) (few_numbers n c s.0 s.1) (cost c)) tt

ran_made : {rs : List Refusal} (a : Result ℕ Refusal) → ((r : Refusal) → a ≡ Err r → OneOf r rs) → Made (reply_row rs false) (ran_reply a)
unfolding ran_reply digits_in
ran_made {rs} (Err r) h = plain (refused_as r) (refusal_frame (number_of r)) (one_among r rs (h r refl))
ran_made (Ok x) h = plain _ (single_frame x) tt

letters_made : {rs : List Refusal} (t : TreeWord) → ((r : Refusal) → t ≡ no_tree r → OneOf r rs)
    → ((w : List ℕ) → t ≡ tree_word w → length w ≤ 157) → Made (reply_row rs false) (letters_reply t)
unfolding letters_reply digits_in
letters_made {rs} (no_tree r) h short = plain (refused_as r) (refusal_frame (number_of r)) (one_among r rs (h r refl))
letters_made (tree_word w) h short = plain _ (letters_frame w (short w refl)) tt

-- A record's tree word is that of a chain of a number below 2^64.
record_tree_short : (l w : List ℕ) → record_tree l ≡ tree_word w → length w ≤ 157
record_tree_short l w e =
    let (n, c, chain, above, fits, numbers, word) = record_tree_lem l w e in
    rw word (tree_short n c above chain fits)

-- A line with a record, whose reply without a and b is x: where they are right, where they are wrong and x serves, and where x is a
-- refusal other than 15.
pub sixteen_right : (b : Bool) (x : Reply) → b ≡ true → or_sixteen b x ≡ x
unfolding or_sixteen
sixteen_right b x e = rw e

pub sixteen_wrong : (b : Bool) (ds : List ℕ) → b ≡ false → or_sixteen b (served_with ds) ≡ refused_as WrongExponents
unfolding or_sixteen
sixteen_wrong b ds e = rw e

pub sixteen_refused : (b : Bool) (r : Refusal) → ¬ (r ≡ NoTreeWord) → or_sixteen b (refused_as r) ≡ refused_as r
unfolding or_sixteen
sixteen_refused true r h = refl
sixteen_refused false r h = rw (ne_eqb (number_of r) 15 (λ e. h (same_number r NoTreeWord e)))

-- Its refusals are those of x, and 16.
module _ (rs more : List Refusal) (kept : every (λ (r : Refusal). among r more) rs ≡ true) (sixteen : T (among WrongExponents more)) where
  kept_among : (r : Refusal) → T (among r rs) → T (among r more)
  kept_among r t = rw (among_passes (λ (q : Refusal). among q more) r rs kept t) tt

  sixteen_among : (r : Refusal) → T (among r rs) → T (among (cond (eqb (number_of r) 15) WrongExponents r) more)
  sixteen_among r t = go (eqb (number_of r) 15)
    where
      go : (b : Bool) → T (among (cond b WrongExponents r) more)
      go true = sixteen
      go false = kept_among r t

  sixteen_in : (b : Bool) (x : Reply) → ReplyIn rs x → ReplyIn more (or_sixteen b x)
  unfolding or_sixteen
  sixteen_in true (refused_as r) t = kept_among r t
  sixteen_in true (served_with ds) t = tt
  sixteen_in false (refused_as r) t = sixteen_among r t
  sixteen_in false (served_with ds) t = sixteen

  sixteen_frame : (b : Bool) (x : Reply) → Frame (digits_in x) → Frame (digits_in (or_sixteen b x))
  unfolding or_sixteen digits_in
  sixteen_frame true x f = f
  sixteen_frame false (refused_as r) f = refusal_frame (number_of (cond (eqb (number_of r) 15) WrongExponents r))
  sixteen_frame false (served_with ds) f = refusal_frame (number_of WrongExponents)

  sixteen_sound : (b : Bool) (o : Outcome) → Sound rs o → (p : Outcome) × Sound more p × (or_sixteen b (chain_reply o) ≡ chain_reply p)
  unfolding or_sixteen chain_reply
  sixteen_sound true (refused r) s = (refused r, kept_among r s, refl)
  sixteen_sound true (gives n c) s = (gives n c, s, refl)
  sixteen_sound false (refused r) s = (refused (cond (eqb (number_of r) 15) WrongExponents r), sixteen_among r s, refl)
  sixteen_sound false (gives n c) s = (refused WrongExponents, sixteen, refl)

  sixteen_made : {e : Bool} (b : Bool) (x : Reply) → Made (reply_row rs e) x → Made (reply_row more e) (or_sixteen b x)
  sixteen_made b x m =
      record {
        framed = sixteen_frame b x m.framed;
        refusal = sixteen_in b x m.refusal;
        chain = λ t. let (o, s, f) = m.chain t in rw f (sixteen_sound b o s);
      }

-- The numbers that stand in a line.
pub number_low : (line : List ℕ) (at : ℕ) → field line at 8 < 2 ^ 64
number_low line at = omega (arith, field_below line at 8)

pub made : (k : Kind) (line : List ℕ) → Made (reply_row_of k) (served k line)
unfolding reply_row_of served digits_in among every
made count_line line = plain _ (single_frame (count (field line 1 8))) tt
made best_line line = priced (price (prices_in line)) _ (best_sound (field line 1 8) (limits_in line) (prices_in line) (number_low line 1))
made at_line line = chained _ (at_sound (field line 1 8) (field line 9 8) (number_low line 1))
made record_line line = sixteen_made (UnknownPart ∷ NotChained ∷ TooLarge ∷ []) _ refl tt (tells_largest record_line line) _ (chained _ (record_sound (items_in record_line line)))
made word_line line = chained _ (word_sound (items_in word_line line))
made next_line line = chained _ (next_sound (items_in next_line line))
made run_line line =
    sixteen_made (BadModulus ∷ BadResidue ∷ UnknownPart ∷ NotChained ∷ TooLarge ∷ []) _ refl tt (tells_largest run_line line) _
    (ran_made (ran_of (items_in run_line line) (modulus_in line) (residue_in line))
    (run_refusals (items_in run_line line) (modulus_in line) (residue_in line)).no_other)
made tree_line line = chained _ (tree_sound (items_in tree_line line))
made to_tree_line line =
    sixteen_made (UnknownPart ∷ NotChained ∷ TooLarge ∷ NoTreeWord ∷ []) _ refl tt (tells_largest to_tree_line line) _
    (letters_made (record_tree (items_in to_tree_line line)) (record_tree_refusals (items_in to_tree_line line)).no_other
    (record_tree_short (items_in to_tree_line line)))
