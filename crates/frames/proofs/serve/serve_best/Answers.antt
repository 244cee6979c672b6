-- `serve_best` replies with the best chain and its price.
use Rattle.std.proofs.Common.{Result, Ok}
use Rattle.std.proofs.Common.{Err}
use mathlib.Core.Path.{◌≡◌, refl, sym, ap, ◌∙◌}
use mathlib.Core.List.{List}
use Prim.Native.Nat.{ℕ, ◌-◌, ◌≤◌}
use native.Mathlib.Nat.{sub-zero}
use native.Mathlib.Omega.{arith}
use lib.ListN.{length, take, length-take}
use Rattle.lent.specs.Lent.{scratch_size}
use Rattle.chains.specs.Listing.{position}
use Rattle.chains.specs.Best.{Prices, price, Limits}
use Rattle.refusals.specs.declared.Refusal.{Refusal}
use Rattle.ranking.specs.Services.{Outcome, refused, gives, lent, places_left}
use Rattle.best.specs.Chosen.{best_outcome, best_of}
use Rattle.best.specs.declared.Best.{Best}
use Rattle.lines.proofs.LineLaws.{field_fits}
use Rattle.frames.specs.ReplyDigits.{priced_digits}
use Rattle.frames.specs.Replies.{refused_as, served_with, priced_reply, served}
use Rattle.frames.specs.ServedLaws.{best_number}
use Rattle.frames.proofs.CallLaws.{own_outcome, scratch_zeroed, chain_left}
use Rattle.frames.proofs.serve.serve_best.Goals as goal

-- It was asked for with the scratch s and the places p. x answered, and p' was left in the places.
module _ (n : ℕ) (lim : Limits) (π : Prices) (x : Result Best Refusal) (s p p' : List ℕ) (numbers : scratch_size ≤ length s) (room : length p ≡ 64)
    (e : x ≡ best_of (price π) (lent s p (best_outcome n lim (price π)))) where
  answer : x ≡ best_of (price π) (best_outcome n lim (price π))
  answer = rw (own_outcome s p numbers room) at e

  best_found : (b : Best) → x ≡ Ok b → p' ≡ places_left (lent s p (best_outcome n lim (price π))) p → length p' ≡ 64
      → (b.k ≤ 64)
      × (priced_reply (price π) (best_outcome n lim (price π)) ≡ served_with (priced_digits n b.position (take (b.k - 0) p') b.price))
  unfolding best_of priced_reply
  best_found b f left h = go (best_outcome n lim (price π)) refl
    where
      go : (o : Outcome) → best_outcome n lim (price π) ≡ o
          → (b.k ≤ 64)
          × (priced_reply (price π) (best_outcome n lim (price π)) ≡ served_with (priced_digits n b.position (take (b.k - 0) p') b.price))
      go (refused r) g =
          let z : ◌≡◌ {A = ℕ} 0 1 = cc (rw g at answer) in
          absurd (omega arith)
      go (gives m c) g =
          let a : b ≡ record { position = position m c; k = length c; price = price π c } = cc (f, rw g at answer) in
          let size : length c ≡ b.k = sym (ap (λ (d : Best). d.k) a) in
          let at_place : b.position ≡ position m c = ap (λ (d : Best). d.position) a in
          let cost : b.price ≡ price π c = ap (λ (d : Best). d.price) a in
          let (fits, stand) = chain_left m c p p' (rw (own_outcome s p numbers room, g) at left) h in
          (omega arith, rw (at_place, cost, g, ← stand, size, sub-zero, best_number n lim π m c g) refl)

  best_refused : (r : Refusal) → x ≡ Err r → priced_reply (price π) (best_outcome n lim (price π)) ≡ refused_as r
  unfolding best_of priced_reply
  best_refused r f = go (best_outcome n lim (price π)) refl
    where
      go : (o : Outcome) → best_outcome n lim (price π) ≡ o → priced_reply (price π) (best_outcome n lim (price π)) ≡ refused_as r
      go (refused q) g =
          let same : q ≡ r = cc (rw g at answer) in
          rw (g, same)
      go (gives m c) g =
          let z : ◌≡◌ {A = ℕ} 0 1 = cc (rw g at answer) in
          absurd (omega arith)

pub slice_bounds-numbers-end : goal.slice_bounds-numbers-end
slice_bounds-numbers-end c =
    let s = c.before in
    omega (arith, (best_found _ _ _ _ s.args.scratch.now _ _ (omega arith) refl c.best_in.ensures.value _ c.in-Ok.is c.best_in.ensures.places_after (omega arith)).0)

pub tell_priced-requires : goal.tell_priced-requires
tell_priced-requires c =
    let s = c.before in
    let k = (best_found _ _ _ _ s.args.scratch.now _ _ (omega arith) refl c.best_in.ensures.value _ c.in-Ok.is c.best_in.ensures.places_after (omega arith)).0 in
    rw length-take (omega arith)

pub returns-in-Ok : goal.returns-in-Ok
unfolding served
returns-in-Ok c =
    let s = c.before in
    let n = c.field_of-n.ensures ∙ field_fits s.args.line.now 1 8 (omega arith) in
    let reply = (best_found _ _ _ _ s.args.scratch.now _ _ (omega arith) refl c.best_in.ensures.value _ c.in-Ok.is c.best_in.ensures.places_after (omega arith)).1 in
    rw (← n)
    (record { told = rw reply c.tell_priced.ensures; zeroed = scratch_zeroed s.args.scratch.now _ (omega arith) refl _ c.best_in.ensures.scratch_after })

pub returns-in-Err : goal.returns-in-Err
unfolding served
returns-in-Err c =
    let n = c.field_of-n.ensures ∙ field_fits c.args.line.now 1 8 (omega arith) in
    let reply = best_refused _ _ _ _ c.args.scratch.now _ c.args.out.now (omega arith) refl c.best_in.ensures.value _ c.in-Err.is in
    rw (← n)
    (record { told = rw reply c.tell_refusal.ensures; zeroed = scratch_zeroed c.args.scratch.now _ (omega arith) refl _ c.best_in.ensures.scratch_after })
