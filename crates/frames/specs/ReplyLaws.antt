-- Theory of the reply to a line.
--
-- In this order: a line's first 515 characters (`first_515`); a fit line is replied to as its kind; every reply is an even number
-- of digits, at least 2 and at most 512, all of them as they are written (`reply_frame`), so that it is one line
-- (`reply_unbroken`); what a chain's reply is read back as (`reply_read`), and the largest part in it (`reply_largest`). What goes
-- kind by kind is in ServedLaws. That replies lead to each other, as demand 2 asks, is in LineTrips; demand 3 is in BestLines.
use Rattle.std.specs.Prelude.{Some, Result, Ok, Err}
use Rattle.std.specs.Prelude.{◌≡◌, refl, true, List, ◌++◌, map, ℕ, ◌+◌, ◌^◌, ◌≤◌, ◌<◌, length, take}
use Rattle.std.proofs.Common.{ap, ◌∙◌, arith}
use Rattle.chains.specs.Chains.{Part, ChainOf}
use Rattle.chains.specs.Listing.{position}
use Rattle.chains.proofs.Counts.{count_fits}
use Rattle.chains.proofs.PositionsOfChains.{at_position_lem}
use Rattle.refusals.specs.declared.Refusal.{Refusal}
use Rattle.parts.specs.Parts.{part_number, largest_part}
use Rattle.parts.proofs.Largest.{largest_of_chain}
use Rattle.words.specs.RecordLaws.{InTable, judged_sum}
use Rattle.words.specs.WordLaws.{chain_judged}
use Rattle.lines.specs.Kinds.{kind_of}
use Rattle.lines.specs.declared.Kind.{Kind}
use Rattle.lines.specs.Lines.{field, shape_of}
use Rattle.lines.proofs.LineLaws.{fit_line, reply_515}
use Rattle.lines.specs.Stream.{unbroken}
use Rattle.lines.proofs.StreamLaws.{digits_unbroken}
use Rattle.frames.specs.ReplyDigits.{largest_at, chain_digits}
use Rattle.frames.specs.ReadBack.{Fitting, ChainRead, chain_read}
use Rattle.frames.specs.Replies.{served_with, digits_in, served, reply_by_shape, reply_to, reply_of}
use Rattle.refusals.specs.Refusals.{number_of}
use Rattle.frames.specs.ServedLaws.{Frame, refusal_frame, few_numbers, made}

-- ---- a line's first 515 characters

-- Of a longer line they are all that the reply depends on.
pub first_515 : (line : List ℕ) → reply_of line ≡ reply_of (take 515 line)
unfolding reply_of reply_to reply_by_shape
first_515 line = reply_515 (λ s l. digits_in (reply_by_shape s l)) (λ r a b. refl) line

-- ---- a fit line is replied to as its kind

pub reply_fit : (line : List ℕ) (k : Kind) → shape_of line ≡ Ok k → reply_to line ≡ served k line
unfolding reply_to reply_by_shape
reply_fit line k e = rw e

-- A line that is served is fit, and of the kind that its first byte stands for.
pub served_kind : (line ds : List ℕ) (k : Kind) → kind_of (field line 0 1) ≡ Some k → reply_to line ≡ served_with ds
    → served k line ≡ served_with ds
unfolding reply_to reply_by_shape
served_kind line ds k first e = go (shape_of line) refl
  where
    go : (s : Result Kind Refusal) → shape_of line ≡ s → served k line ≡ served_with ds
    go (Err r) g =
        let z : ◌≡◌ {A = ℕ} 0 1 = cc (rw g at e) in
        absurd (omega arith)
    go (Ok j) g =
        let same : j ≡ k = cc (fit_line line j g).kind in
        rw same at (rw g at e)

-- ---- every reply is a frame

pub reply_frame : (line : List ℕ) → Frame (reply_of line)
unfolding reply_of reply_to reply_by_shape digits_in
reply_frame line = go (shape_of line)
  where
    go : (s : Result Kind Refusal) → Frame (digits_in (reply_by_shape s line))
    go (Err r) = refusal_frame (number_of r)
    go (Ok k) = (made k line).framed

-- So it fits into the bytes that are lent for it.
pub reply_short : (line : List ℕ) → length (reply_of line) ≤ 514
reply_short line = omega (arith, (reply_frame line).most)

-- And no byte 10 is in it.
pub reply_unbroken : (line : List ℕ) → unbroken (reply_of line) ≡ true
reply_unbroken line = digits_unbroken (reply_of line) (reply_frame line).digits

-- ---- what a chain's reply is read back as

-- The part numbers of a chain of a number below 2^64.
pub numbers_fit : (n : ℕ) (c : List Part) → ChainOf n c → n < 2 ^ 64 → Fitting 2 (map part_number c)
unfolding InTable
numbers_fit n c h f = λ i l. omega (arith, ((judged_sum (map part_number c) n).0 (chain_judged n c h f)).known i l)

-- Its position, and the one after it.
pub position_low : (n : ℕ) (c : List Part) → ChainOf n c → n < 2 ^ 64 → position n c + 1 < 2 ^ 64
position_low n c h f = omega (arith, (at_position_lem n c h).0, count_fits n f)

-- A chain's reply is read back also where more follows, as the price does.
pub reply_read : (n : ℕ) (c : List Part) (rest : List ℕ) → ChainOf n c → n < 2 ^ 64
    → ChainRead n (position n c) (map part_number c) (chain_digits n (position n c) (map part_number c) ++ rest)
reply_read n c rest h f =
    chain_read n (position n c) (map part_number c) rest f (omega (arith, position_low n c h f))
    (few_numbers n c h f) (numbers_fit n c h f)

-- After the number of parts it has a and b of the chain's largest part, and 0 and 0 for the empty chain.
pub reply_largest : (n : ℕ) (c : List Part) (rest : List ℕ) → ChainOf n c → n < 2 ^ 64
    → (field (chain_digits n (position n c) (map part_number c) ++ rest) largest_at 1 ≡ (largest_part c).a)
    × (field (chain_digits n (position n c) (map part_number c) ++ rest) (largest_at + 1) 1 ≡ (largest_part c).b)
reply_largest n c rest h f =
    let r = reply_read n c rest h f in
    let same = largest_of_chain c (omega (arith, h.sums)) in
    (r.largest_a ∙ ap (λ (p : Part). p.a) same, r.largest_b ∙ ap (λ (p : Part). p.b) same)
