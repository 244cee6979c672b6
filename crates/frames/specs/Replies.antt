-- The reply to a line, from the line's characters alone: document 01, 'Frames' and 'What a refused line or call gets'; document 02,
-- T-02 and T-04 to T-06. It is a function of the line: neither the lines before it nor what the lent memory held has a part in it.
--
-- In this order: replies and their digits; the replies of each kind, and what they can be; the reply to a line; what a call answers
-- and leaves behind.
-- Definitions only. The theory is in ServedLaws and ReplyLaws. That the services' outcomes are 003's chains is in the crates of the
-- services.
use Rattle.std.specs.Prelude.{Result, Ok, Err}
use Rattle.std.specs.Prelude.{Bool, true, false, cond, List, [], ◌∷◌, map, ℕ, ◌+◌, eqb, length}
use Rattle.chains.specs.Chains.{Part}
use Rattle.chains.specs.Listing.{count, position}
use Rattle.chains.specs.Best.{Prices, Limits, price}
use Rattle.refusals.specs.declared.Refusal.{Refusal}
use Rattle.refusals.specs.declared.Refusal.TheVariants.{LittleLent, NoChainFits, NoSuchPosition, BadWord, UnknownPart, NotChained, TooLarge, LastOfList, BadModulus, BadResidue, NoTreeWord, WrongExponents}
use Rattle.parts.specs.Parts.{part_number}
use Rattle.lent.specs.Lent.{filled}
use Rattle.ranking.specs.Services.{Outcome, refused, gives, at_position, of_word, next_of, of_record}
use Rattle.best.specs.Chosen.{best_outcome}
use Rattle.trees.specs.Answers.{of_tree, TreeWord, no_tree, tree_word, record_tree}
use Rattle.running.specs.Ran.{ran_of}
use Rattle.parts.specs.Parts.{largest_of, same_part}
use Rattle.digits.specs.Digits.{digits_of}
use Rattle.refusals.specs.Refusals.{number_of}
use Rattle.lines.specs.declared.Kind.{Kind}
use Rattle.lines.specs.declared.Kind.TheVariants.{Count as count_line, Best as best_line, At as at_line, Record as record_line, Word as word_line, Next as next_line, Run as run_line}
use Rattle.lines.specs.Kinds.{row_of}
use Rattle.lines.specs.declared.Kind.TheVariants.{Tree as tree_line, ToTree as to_tree_line}
use Rattle.lines.specs.Lines.{field, items_in, shape_of}
use Rattle.frames.specs.ReplyDigits.{single_digits, chain_digits, priced_digits, letters_digits}

-- ---- replies and their digits

-- A line is refused, or served with the digits of its reply.
pub data Reply : Type 0 where
  refused_as : Refusal → Reply
  served_with : List ℕ → Reply

-- The digits of a reply: a refused line gives its number as one byte.
unfoldable pub digits_in : Reply → List ℕ
digits_in (refused_as r) = digits_of 2 (number_of r)
digits_in (served_with ds) = ds

-- A service's refusal, or its chain with the part numbers, largest first.
unfoldable pub chain_reply : Outcome → Reply
chain_reply (refused r) = refused_as r
chain_reply (gives n c) = served_with (chain_digits n (position n c) (map part_number c))

-- The same with what the chain costs.
unfoldable pub priced_reply : (List Part → ℕ) → Outcome → Reply
priced_reply cost (refused r) = refused_as r
priced_reply cost (gives n c) = served_with (priced_digits n (position n c) (map part_number c) (cost c))

-- The refusal of a run, or its residue.
unfoldable pub ran_reply : Result ℕ Refusal → Reply
ran_reply (Err r) = refused_as r
ran_reply (Ok x) = served_with (single_digits x)

-- The refusal of a record, or the letters of its chain's tree word.
unfoldable pub letters_reply : TreeWord → Reply
letters_reply (no_tree r) = refused_as r
letters_reply (tree_word w) = served_with (letters_digits w)

-- ---- the replies of each kind, and what they can be

-- What a line of kind 02 asks for after n: K, A, B, then d, t, s2, s3.
unfoldable pub limits_in : List ℕ → Limits
limits_in line = record { K = field line 9 1; A = field line 10 1; B = field line 11 1 }

unfoldable pub prices_in : List ℕ → Prices
prices_in line = record { d = field line 12 2; t = field line 14 2; s2 = field line 16 2; s3 = field line 18 2 }

-- What a line of kind 07 asks for before its part numbers: the modulus m and the residue x.
abbrev pub modulus_in : List ℕ → ℕ
modulus_in line = field line 1 8

abbrev pub residue_in : List ℕ → ℕ
residue_in line = field line 9 8

-- What a line with a record tells of its largest part: a and b, right after the number of parts.
unfoldable pub exponents_from : List ℕ → ℕ → Part
exponents_from line at = record { a = field line at 1; b = field line (at + 1) 1 }

abbrev pub exponents_in : Kind → List ℕ → Part
exponents_in k line = exponents_from line ((row_of k).count_at + 1)

-- Whether they are those of its largest part.
abbrev pub tells_largest : Kind → List ℕ → Bool
tells_largest k line = same_part (exponents_in k line) (largest_of (items_in k line))

-- The reply to a line with a record: 16 where it does not tell its largest part. Any refusal but 15 comes before that.
unfoldable pub or_sixteen : Bool → Reply → Reply
or_sixteen true x = x
or_sixteen false (served_with ds) = refused_as WrongExponents
or_sixteen false (refused_as r) = refused_as (cond (eqb (number_of r) 15) WrongExponents r)

-- The reply to a fit line of a kind, by the services' own definitions.
unfoldable pub served : Kind → List ℕ → Reply
served count_line line = served_with (single_digits (count (field line 1 8)))
served best_line line =
    priced_reply (price (prices_in line)) (best_outcome (field line 1 8) (limits_in line) (price (prices_in line)))
served at_line line = chain_reply (at_position (field line 1 8) (field line 9 8))
served record_line line = or_sixteen (tells_largest record_line line) (chain_reply (of_record (items_in record_line line)))
served word_line line = chain_reply (of_word (items_in word_line line))
served next_line line = chain_reply (next_of (of_word (items_in next_line line)))
served run_line line =
    or_sixteen (tells_largest run_line line) (ran_reply (ran_of (items_in run_line line) (modulus_in line) (residue_in line)))
served tree_line line = chain_reply (of_tree (items_in tree_line line))
served to_tree_line line = or_sixteen (tells_largest to_tree_line line) (letters_reply (record_tree (items_in to_tree_line line)))

-- What the reply to a fit line of a kind can be.
pub record ReplyRow : Type 0 where
  -- What the line can be refused with.
  pub refusals : List Refusal
  -- Whether the digits, where the line is served, end with the part numbers of a chain.
  pub ends_with_chain : Bool

abbrev pub reply_row : List Refusal → Bool → ReplyRow
reply_row refusals ends_with_chain = record { refusals = refusals; ends_with_chain = ends_with_chain }

unfoldable pub reply_row_of : Kind → ReplyRow
reply_row_of count_line = reply_row [] false
reply_row_of best_line = reply_row (NoChainFits ∷ []) false
reply_row_of at_line = reply_row (NoSuchPosition ∷ []) true
reply_row_of record_line = reply_row (UnknownPart ∷ NotChained ∷ TooLarge ∷ WrongExponents ∷ []) true
reply_row_of word_line = reply_row (BadWord ∷ TooLarge ∷ []) true
reply_row_of next_line = reply_row (BadWord ∷ TooLarge ∷ LastOfList ∷ []) true
reply_row_of run_line = reply_row (BadModulus ∷ BadResidue ∷ UnknownPart ∷ NotChained ∷ TooLarge ∷ WrongExponents ∷ []) false
reply_row_of tree_line = reply_row (NoTreeWord ∷ TooLarge ∷ []) true
reply_row_of to_tree_line = reply_row (UnknownPart ∷ NotChained ∷ TooLarge ∷ WrongExponents ∷ NoTreeWord ∷ []) false

abbrev pub refusals_of : Kind → List Refusal
refusals_of k = (reply_row_of k).refusals

-- ---- the reply to a line

unfoldable pub reply_by_shape : Result Kind Refusal → List ℕ → Reply
reply_by_shape (Err r) line = refused_as r
reply_by_shape (Ok k) line = served k line

-- The reply to a line.
unfoldable pub reply_to : List ℕ → Reply
reply_to line = reply_by_shape (shape_of line) line

-- Its digits.
unfoldable pub reply_of : List ℕ → List ℕ
reply_of line = digits_in (reply_to line)

-- ---- what a call answers and leaves behind

-- The answer for a reply: how many digits it has, or the refusal.
unfoldable pub replied_of : Reply → Result ℕ Refusal
replied_of (refused_as r) = Err r
replied_of (served_with ds) = Ok (length ds)

-- Refusal 1 comes first.
unfoldable pub answer_to : Bool → List ℕ → Result ℕ Refusal
answer_to true line = replied_of (refused_as LittleLent)
answer_to false line = replied_of (reply_to line)

-- The bytes for the reply at exit: untouched with refusal 1, else the reply's digits, then zeros up to 514, later bytes untouched.
unfoldable pub out_left : Bool → List ℕ → List ℕ → List ℕ
out_left little line entry = cond little entry (filled 514 (reply_of line) entry)
