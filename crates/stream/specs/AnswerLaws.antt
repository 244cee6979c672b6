-- The laws of one call; the definitions are in Answers.
--
-- In this order: whether too little is lent; what is written; a call that is served; such a call moves on.
use Rattle.std.specs.Prelude.{◌≡◌, Ok, Bool, true, false, ◌||◌, List, ℕ, zero, suc, ◌≤◌, ◌<◌, length, take}
use Rattle.std.proofs.Common.{sym, ap, ◌∙◌, arith, length-append, length-take, take_at}
use Rattle.std.proofs.Math.Bool.{or-true}
use borrow.Author.Tests.{ltb-false, lt-ltb, le-ltb}
use Rattle.std.proofs.Math.Dec.{ltb}
use Rattle.lent.specs.Lent.{filled, scratch_size, too_little, too_few, fewer}
use Rattle.lent.specs.LentLaws.{filled_first, enough, neither}
use Rattle.lines.specs.Stream.{finished, unfinished, last_line, replies_to}
use Rattle.frames.specs.Replies.{reply_of}
use Rattle.stream.specs.Answers.{little, Lending, behind, replies_left, Goes, fed_of, kept_left, Moves, ended_of}
use Rattle.stream.specs.Pieces.{Wrote}
use Rattle.stream.specs.declared.Progress.{Progress}

-- ---- whether too little is lent

module _ (kept : List ℕ) (k : ℕ) (scratch out : List ℕ) where
  pub little_memory : too_little 515 scratch out ≡ true → little kept k scratch out ≡ true
  unfolding little
  little_memory e = rw e

  pub few_kept : length kept < 515 → little kept k scratch out ≡ true
  unfolding little
  few_kept h = rw (lt-ltb (length kept) 515 h, or-true)

  -- Where the memory is enough, k decides.
  pub by_k : scratch_size ≤ length scratch → 515 ≤ length out → 515 ≤ length kept → little kept k scratch out ≡ ltb 515 k
  unfolding little
  by_k s o h = rw (enough 515 scratch out (record { numbers = s; room = o }), le-ltb (length kept) 515 h)

  pub enough_lent : Lending kept k scratch out → little kept k scratch out ≡ false
  enough_lent e = by_k e.memory.numbers e.memory.room e.kept_lent ∙ le-ltb 515 k e.line_kept

  pub lent_enough : little kept k scratch out ≡ false → Lending kept k scratch out
  unfolding little too_few fewer
  lent_enough e =
      let a = neither (too_little 515 scratch out) (ltb (length kept) 515 || ltb 515 k) e in
      let m = neither (ltb (length scratch) scratch_size) (ltb (length out) 515) a.0 in
      let l = neither (ltb (length kept) 515) (ltb 515 k) a.1 in
      record {
        kept_lent = ltb-false (length kept) 515 l.0;
        line_kept = ltb-false 515 k l.1;
        memory = record { numbers = ltb-false (length scratch) scratch_size m.0; room = ltb-false (length out) 515 m.1 };
      }

-- ---- what is written

module _ (lines : List (List ℕ)) (out exit : List ℕ) (n : ℕ) (w : Wrote lines out exit n) where
  pub wrote_fits : n ≤ length exit
  wrote_fits = omega (arith, ap length w.replies, length-append (replies_to reply_of lines) (behind lines out))

  pub what_wrote : take n exit ≡ replies_to reply_of lines
  what_wrote = ap (take n) w.replies ∙ take_at (replies_to reply_of lines) (behind lines out) n (sym w.count)

-- ---- a call that is served

-- On a block: it goes as far as `used`, keeps `left` characters and writes n bytes.
pub record Served (line block kept kept_exit out out_exit : List ℕ) (used left n : ℕ) : Type 0 where
  pub keeps : kept_exit ≡ filled 515 (take 515 (unfinished line (take used block))) kept
  pub count : left ≡ length (take 515 (unfinished line (take used block)))
  pub wrote : Wrote (finished line (take used block)) out out_exit n

pub served : (b : Bool) (line block kept kept_exit out out_exit : List ℕ) (used left n : ℕ)
    → Ok (record { used = used; kept = left; written = n }) ≡ fed_of b line block used → kept_exit ≡ kept_left b (unfinished line (take used block)) kept
    → out_exit ≡ replies_left b (finished line (take used block)) out
    → Served line block kept kept_exit out out_exit used left n
unfolding fed_of kept_left replies_left
served true line block kept kept_exit out out_exit used left n e k o =
    cc
served false line block kept kept_exit out out_exit used left n e k o =
    let told : ◌≡◌ {A = Progress} (record { used = used; kept = left; written = n }) (record {
      used = used;
      kept = length (take 515 (unfinished line (take used block)));
      written = length (replies_to reply_of (finished line (take used block)));
    }) = cc in
    record { keeps = k; count = ap (λ (p : Progress). p.kept) told; wrote = record { replies = o; count = ap (λ (p : Progress). p.written) told } }

-- What is kept is the first 515 characters of the line that does not end.
pub what_kept : (line block kept kept_exit out out_exit : List ℕ) (used left n : ℕ)
    → Served line block kept kept_exit out out_exit used left n → take left kept_exit ≡ take 515 (unfinished line (take used block))
what_kept line block kept kept_exit out out_exit used left n s =
    rw (s.keeps, s.count) (filled_first 515 (take 515 (unfinished line (take used block))) kept)

-- At the end of a file.
pub end_served : (b : Bool) (line out out_exit : List ℕ) (n : ℕ) → Ok n ≡ ended_of b line
    → out_exit ≡ replies_left b (last_line line) out → Wrote (last_line line) out out_exit n
unfolding ended_of replies_left
end_served true line out out_exit n e o =
    cc
end_served false line out out_exit n e o = record { replies = o; count = cc }

-- ---- such a call moves on

some_used : (line block out : List ℕ) (used : ℕ) → Goes line block out used → 515 ≤ length out → 0 < length block → 0 < used
unfolding finished replies_to
some_used line block out zero g room some_there = absurd (omega (arith, g.stops some_there))
some_used line block out (suc used) g room some_there = omega arith

pub moves_on : {line block kept kept_exit out out_exit : List ℕ} {used left n : ℕ}
    → Served line block kept kept_exit out out_exit used left n → Goes line block out used → 515 ≤ length out
    → Moves block out_exit used left n
moves_on {line} {block} {kept} {kept_exit} {out} {out_exit} {used} {left} {n} s g room = record {
  within = g.within;
  some = some_used line block out used g room;
  most_kept = omega (arith, s.count, length-take 515 (unfinished line (take used block)));
  fits = wrote_fits _ out out_exit n s.wrote;
}
