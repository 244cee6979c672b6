-- The laws of what is kept between two calls; the definitions are in Console.
--
-- In this order: what is kept before the first call; what one call keeps; what two calls keep together; a call to which enough is
-- lent is not refused; the first n bytes of `out`.
use Rattle.std.specs.Prelude.{◌≡◌, Result, Ok, Err, Bool, true, false, List, [], ◌++◌, ℕ, ◌+◌, ◌-◌, ◌≤◌, length, take, drop, replicate}
use Rattle.std.proofs.Common.{sym, ◌∙◌, true≢false, append-nil, arith, drop_of_length-le, length-take, length-drop, take_all, take-add, length-take-le}
use Rattle.std.proofs.Math.Path.{ap}
use Rattle.std.proofs.Math.Nat.{sub-zero}
use Rattle.std.proofs.lemmas.List.{length-replicate}
use Rattle.lent.specs.Lent.{zeros, filled}
use Rattle.lent.specs.LentLaws.{filled_again}
use Rattle.lines.specs.Stream.{finished, unfinished, last_line, replies_to}
use Rattle.lines.proofs.StreamLaws.{unfinished_append, kept_unfinished}
use Rattle.frames.specs.Replies.{reply_of}
use Rattle.frames.specs.ReplyLaws.{first_515}
use Rattle.stream.specs.Answers.{little, Lending, Goes, used_of, fed_of, kept_left, replies_left, Moves, ended_of}
use Rattle.stream.specs.AnswerLaws.{enough_lent, Served, served, what_kept, what_wrote, wrote_fits, end_served, moves_on}
use Rattle.refusals.specs.declared.Refusal.{Refusal}
use Rattle.stream.specs.declared.Progress.{Progress}
use Rattle.intake.specs.Console.{Alone, Holds, Replies, Begins}

-- ---- before the first call

-- Memory of zeros holds nothing. It is stated at any length, so that no long list is computed.
pub zeros_alone : (n : ℕ) → replicate n 0 ≡ filled n (take 0 (replicate n 0)) (replicate n 0)
unfolding filled zeros
zeros_alone n =
    let z : List ℕ = replicate n 0 in
    let none : drop n z ≡ [] = drop_of_length-le z {i = n} (omega (arith, length-replicate {A = ℕ} n 0)) in
    let all : n ≡ n - 0 = omega arith in
    rw none (sym (append-nil z) ∙ ap (λ (k : ℕ). zeros k ++ []) all)

pub holds_itself : (kept : List ℕ) (k : ℕ) → k ≤ 515 → 515 ≤ length kept → Alone kept k → Holds (unfinished (take k kept) []) kept k
unfolding unfinished
holds_itself kept k h l a =
    let n : length (take k kept) ≡ k = length-take-le k kept (omega arith) in
    let all : take 515 (take k kept) ≡ take k kept = take_all 515 (take k kept) (omega arith) in
    record { first = sym all; count = rw all (sym n); most = h; alone = a }

-- ---- one call

pub call_holds : (line block kept kept_exit out out_exit : List ℕ) (used left n : ℕ)
    → Served line block kept kept_exit out out_exit used left n → Holds (unfinished line (take used block)) kept_exit left
call_holds line block kept kept_exit out out_exit used left n s =
    let xs = take 515 (unfinished line (take used block)) in
    let first : take left kept_exit ≡ xs = what_kept line block kept kept_exit out out_exit used left n s in
    let most : length xs ≤ 515 = omega (arith, length-take 515 (unfinished line (take used block))) in
    record {
      first = first;
      count = s.count;
      most = omega (arith, s.count);
      alone = rw (first, s.keeps) (sym (filled_again 515 xs kept most));
    }

-- ---- two calls

-- The second call goes on from what the first one kept, at `at` of the block.
pub holds_more : (line block kept : List ℕ) (at left : ℕ) (kept_exit : List ℕ) (used more : ℕ)
    → Holds (unfinished line (take at block)) kept left
    → Holds (unfinished (take left kept) (take used (take (length block - at) (drop at block)))) kept_exit more
    → Holds (unfinished line (take (at + used) block)) kept_exit more
holds_more line block kept at left kept_exit used more a b =
    let rest : take (length block - at) (drop at block) ≡ drop at block =
    take_all (length block - at) (drop at block) (omega (arith, length-drop at block))
    in
    let same :
    take 515 (unfinished (take left kept) (take used (take (length block - at) (drop at block))))
    ≡ take 515 (unfinished line (take (at + used) block)) =
    rw (rest, take-add at used block, unfinished_append line (take at block) (take used (drop at block)), a.first)
    (sym (kept_unfinished reply_of 515 (omega arith) first_515 (unfinished line (take at block)) (take used (drop at block))))
    in
    record { first = b.first ∙ same; count = b.count ∙ ap length same; most = b.most; alone = b.alone }

-- All of the block is used.
pub holds_all : (line block kept : List ℕ) (at left : ℕ) → length block ≤ at → Holds (unfinished line (take at block)) kept left
    → Holds (unfinished line block) kept left
holds_all line block kept at left h a = rw (take_all at block h) at a

-- ---- not refused

fed_refused : (b : Bool) (line block : List ℕ) (used : ℕ) (q : Refusal) → b ≡ false → Err q ≡ fed_of b line block used → ⊥
unfolding fed_of
fed_refused true line block used q n e = true≢false n
fed_refused false line block used q n e =
    cc

end_refused : (b : Bool) (line : List ℕ) (q : Refusal) → b ≡ false → Err q ≡ ended_of b line → ⊥
unfolding ended_of
end_refused true line q n e = true≢false n
end_refused false line q n e =
    cc

module _ (kept : List ℕ) (k : ℕ) (scratch out : List ℕ) (lent : Lending kept k scratch out) where
  abbrev b : Bool
  b = little kept k scratch out

  abbrev line : List ℕ
  line = take k kept

  -- A call on a block answers r.
  module _ (block : List ℕ) (r : Result Progress Refusal) (told : r ≡ fed_of b line block (used_of r)) where
    pub block_not_refused : (q : Refusal) → r ≡ Err q → ⊥
    block_not_refused q e = fed_refused b line block (used_of r) q (enough_lent kept k scratch out lent) (sym e ∙ told)

    pub block_taken : (kept_exit out_exit : List ℕ) (used left n : ℕ) → r ≡ Ok (record { used = used; kept = left; written = n })
        → (b ≡ false → Goes line block out (used_of r)) → kept_exit ≡ kept_left b (unfinished line (take (used_of r) block)) kept
        → out_exit ≡ replies_left b (finished line (take (used_of r) block)) out
        → Moves block out_exit used left n
        × (Holds (unfinished line (take used block)) kept_exit left
        × (take n out_exit ≡ replies_to reply_of (finished line (take used block))))
    unfolding used_of
    block_taken kept_exit out_exit used left n e goes l o =
        let u : used_of r ≡ used = ap used_of e in
        let s = served b line block kept kept_exit out out_exit used left n (rw u at (sym e ∙ told)) (rw u at l) (rw u at o) in
        let g : Goes line block out used = rw u at (goes (enough_lent kept k scratch out lent)) in (
          moves_on s g lent.memory.room,
          (call_holds line block kept kept_exit out out_exit used left n s, what_wrote _ out out_exit n s.wrote),
        )

  -- The call at the end answers r.
  module _ (r : Result ℕ Refusal) (told : r ≡ ended_of b line) where
    pub end_not_refused : (q : Refusal) → r ≡ Err q → ⊥
    end_not_refused q e = end_refused b line q (enough_lent kept k scratch out lent) (sym e ∙ told)

    pub end_written : (out_exit : List ℕ) (n : ℕ) → r ≡ Ok n → out_exit ≡ replies_left b (last_line line) out
        → (n ≤ length out_exit) × (take n out_exit ≡ replies_to reply_of (last_line line))
    end_written out_exit n e o =
        let w = end_served b line out out_exit n (sym e ∙ told) o in
        (wrote_fits _ out out_exit n w, what_wrote _ out out_exit n w)

-- ---- the first bytes of `out`

pub first_replies : (n : ℕ) (out : List ℕ) (lines : List (List ℕ)) → take n out ≡ replies_to reply_of lines
    → Replies (take (n - 0) out)
first_replies n out lines e = record { lines = lines; list = rw sub-zero e }

pub first_begins : (n : ℕ) (out bytes : List ℕ) → n ≤ length out → take n out ≡ bytes → Begins bytes out
first_begins n out bytes h e =
    let same : length bytes ≡ n = ap length (sym e) ∙ length-take-le n out h in
    rw same e
