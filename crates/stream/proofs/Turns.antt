-- The loop that answers the lines of a block: its invariant, and its laws where no line is answered, where one more is, and at its
-- two ends.
--
-- In this order: lists; the invariant; the start; a line more; the ends.
use mathlib.Core.Path.{◌≡◌, refl, sym, ap, ◌∙◌}
use mathlib.Core.Bool.{true}
use mathlib.Core.List.{List, [], ◌∷◌, ◌++◌, append_assoc, append-nil}
use Prim.Native.Nat.{ℕ, ◌+◌, ◌-◌, ◌≤◌, ◌<◌}
use native.Mathlib.Numerals.{add-one}
use native.Mathlib.Omega.{arith}
use lib.ListN.{length, take, drop, get_or, length-append, length-drop, take-append-drop}
use lib.Seq.{length-take-le, take_all, take-add, take-suc, take_at, drop_at}
use Rattle.lent.specs.LentLaws.{used_on, used_filled}
use Rattle.lent.specs.Lent.{filled, OnlyFirst, scratch_size}
use Rattle.lines.specs.Stream.{finished, unfinished, unbroken, replies_to}
use Rattle.lines.proofs.StreamLaws.{finished_append, finished_stretch, finished_line, replies_append, take_first}
use Rattle.lines.proofs.StreamLaws.{unfinished_append, unfinished_stretch, unfinished_line}
use Rattle.frames.specs.Replies.{reply_of}
use Rattle.frames.specs.ReplyLaws.{first_515}
use Rattle.stream.specs.Answers.{Lending, behind, behind_one, Goes}
use Rattle.stream.specs.Pieces.{piece, LineEnd, Keeps, Adds, Wrote}

-- ---- lists

-- Up to a byte 10 and behind it.
up_to_end : (block : List ℕ) (at end : ℕ) → at ≤ end → end < length block → get_or block end 0 ≡ 10
    → take (end + 1) block ≡ take at block ++ (piece at end block ++ (10 ∷ []))
up_to_end block at end h l e =
    let k : end ≡ at + (end - at) = omega arith in
    rw (add-one, take-suc block end 0 l, e)
    (ap (λ (n : ℕ). take n block ++ (10 ∷ [])) k ∙ rw (take-add at (end - at) block, append_assoc))

-- The rest of a block.
rest_of : (block : List ℕ) (at : ℕ) → piece at (length block) block ≡ drop at block
rest_of block at = take_all (length block - at) (drop at block) (omega (arith, length-drop at block))

-- ---- the invariant

-- The lines that end before `at` are answered, and of the one that does not the first characters are kept.
pub record Turn (line block kept_entry scratch_entry out_entry kept scratch out : List ℕ) (at left written : ℕ) : Type 0 where
  pub within : at ≤ length block
  pub wrote : Wrote (finished line (take at block)) out_entry out written
  pub same : length out ≡ length out_entry
  pub keeps : Keeps (unfinished line (take at block)) kept_entry kept left
  pub rest : OnlyFirst scratch_size scratch_entry scratch

-- ---- the start

pub none_written : (out : List ℕ) → Wrote [] out out 0
unfolding replies_to behind
none_written out = record { replies = refl; count = refl }

pub none_answered : (block kept : List ℕ) (k : ℕ) (scratch out : List ℕ) → Lending kept k scratch out
    → Turn (take k kept) block kept scratch out kept scratch out 0 k 0
unfolding finished unfinished
none_answered block kept k scratch out e =
    let h : length (take k kept) ≡ k = length-take-le k kept (omega arith) in
    let all : take 515 (take k kept) ≡ take k kept = take_all 515 (take k kept) (omega arith) in
    record {
      within = omega arith;
      wrote = none_written out;
      same = refl;
      keeps = record {
        first = sym all;
        count = rw all (sym h);
        most = e.line_kept;
        rest = record { later = refl; same = refl };
      };
      rest = record { later = refl; same = refl };
    }

-- ---- a line more

behind_snoc : (ls : List (List ℕ)) (line entry : List ℕ)
    → behind (ls ++ (line ∷ [])) entry ≡ behind_one (reply_of line) (behind ls entry)
unfolding behind
behind_snoc [] line entry = refl
behind_snoc (l ∷ ls) line entry = behind_snoc ls line (behind_one (reply_of l) entry)

pub wrote_more : (ls : List (List ℕ)) (line entry out exit : List ℕ) (w n : ℕ) → Wrote ls entry out w
    → Adds (reply_of line) w out exit n → Wrote (ls ++ (line ∷ [])) entry exit n
unfolding replies_to
wrote_more ls line entry out exit w n c a =
    let before : take w out ≡ replies_to reply_of ls =
    ap (take w) c.replies ∙ take_at (replies_to reply_of ls) (behind ls entry) w (sym c.count)
    in
    let after : drop w out ≡ behind ls entry =
    ap (drop w) c.replies ∙ drop_at (replies_to reply_of ls) (behind ls entry) w (sym c.count)
    in
    record {
      replies = a.list ∙ rw (before, after, replies_append, behind_snoc, append_assoc, append_assoc);
      count = rw (replies_append, length-append, length-append) (omega arith);
    }

-- The line that `end` ends, or the part of it that is read there.
abbrev read_to : List ℕ → List ℕ → ℕ → ℕ → List ℕ
read_to line block at end = unfinished line (take at block) ++ piece at end block

module _ {line block kept_entry scratch_entry out_entry kept scratch out : List ℕ} {at left written : ℕ}
    (turn : Turn line block kept_entry scratch_entry out_entry kept scratch out at left written) where
  -- Of what was read before, the first characters are enough.
  same_first : (end : ℕ) → take 515 (take left kept ++ piece at end block) ≡ take 515 (read_to line block at end)
  same_first end = rw turn.keeps.first (sym (take_first 515 (unfinished line (take at block)) (piece at end block)))

  same_reply : (end : ℕ) → reply_of (take left kept ++ piece at end block) ≡ reply_of (read_to line block at end)
  same_reply end = first_515 (take left kept ++ piece at end block) ∙ ap reply_of (same_first end) ∙ sym (first_515 (read_to line block at end))

  pub one_more : (kept_exit scratch_exit out_exit : List ℕ) (n end : ℕ) → LineEnd block at end → end < length block → scratch_size ≤ length scratch_entry
      → Adds (reply_of (take left kept ++ piece at end block)) written out out_exit n → OnlyFirst 515 kept kept_exit
      → scratch_exit ≡ filled scratch_size [] scratch
      → Turn line block kept_entry scratch_entry out_entry kept_exit scratch_exit out_exit (end + 1) 0 n
  unfolding finished unfinished
  one_more kept_exit scratch_exit out_exit n end e i k a l z =
      let u = e.unbroken_before in
      let up = up_to_end block at end e.after i (e.ended i) in
      let ended : finished line (take (end + 1) block) ≡ finished line (take at block) ++ (read_to line block at end ∷ []) =
      rw (up, finished_append, finished_line (unfinished line (take at block)) (piece at end block) [] u)
      in
      let none_left : unfinished line (take (end + 1) block) ≡ [] =
      rw (up, unfinished_append) (unfinished_line (unfinished line (take at block)) (piece at end block) [] u)
      in
      record {
        within = omega arith;
        wrote = rw ended (wrote_more _ _ _ _ _ _ _ turn.wrote (rw (← same_reply end) a));
        same = a.same ∙ turn.same;
        keeps = rw none_left (record {
          first = refl;
          count = refl;
          most = omega arith;
          rest = used_on turn.keeps.rest l;
        });
        rest =
            used_on turn.rest (rw z (used_filled scratch_size scratch (omega arith)));
      }

  -- ---- the ends

  -- No room is left for another reply.
  pub no_room : length out - written < 515 → Goes line block out_entry at
  no_room h = record { within = omega arith; stops = λ l. omega (arith, turn.wrote.count) }

  -- No byte 10 is left in the block.
  module _ (last : unbroken (drop at block) ≡ true) where
    whole : take (length block) block ≡ take at block ++ drop at block
    whole = take_all (length block) block (omega arith) ∙ sym (take-append-drop at block)

    pub all_used : Goes line block out_entry (length block)
    all_used = record { within = omega arith; stops = λ l. absurd (omega arith) }

    pub all_wrote : Wrote (finished line (take (length block) block)) out_entry out written
    all_wrote =
        let none : finished (unfinished line (take at block)) (drop at block) ≡ [] =
        finished_stretch (unfinished line (take at block)) (drop at block) last
        in
        rw (whole, finished_append, none, append-nil) turn.wrote

    pub rest_kept : (kept_exit : List ℕ) (n : ℕ) → Keeps (take left kept ++ piece at (length block) block) kept kept_exit n
        → Keeps (unfinished line (take (length block) block)) kept_entry kept_exit n
    rest_kept kept_exit n k =
        let all : unfinished line (take (length block) block) ≡ read_to line block at (length block) =
        rw (whole, unfinished_append, rest_of)
        (unfinished_stretch (unfinished line (take at block)) (drop at block) last)
        in
        rw all
        (record {
          first = k.first ∙ same_first (length block);
          count = k.count ∙ ap length (same_first (length block));
          most = k.most;
          rest = used_on turn.keeps.rest k.rest;
        })
