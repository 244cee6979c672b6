-- The two runs, of letter 2 where b rises and of letter 0 where a rises, stand one behind the other.
use Rattle.std.proofs.Common.{◌≡◌, ap, ap₂, ◌∙◌, List, ◌++◌, ℕ, ◌+◌, ◌-◌, length, replicate, arith}
use Rattle.std.proofs.lemmas.List.{length-replicate}
use Rattle.chains.specs.Chains.{Part}
use Rattle.chains.specs.Words.{path}
use Rattle.words.specs.Walks.{between, place, point, OnTheWay}
use Rattle.words.proofs.Between.{run, filled_run, length_between, between_join}
use Rattle.words.proofs.letters.write_path.Goals as goal

module _ (q p : Part) (l : List ℕ) (way : OnTheWay q p (length l)) where
  -- After the first run m, after the second k.
  both_runs : (m k : List ℕ) → m ≡ run (place q) (q.a + p.b) 2 l → k ≡ run (q.a + p.b) (place p) 0 m
      → k ≡ between (place q) (place p) (path q p) l
  unfolding path
  both_runs m k em ek =
      let twos : q.a + p.b - place q ≡ p.b - q.b = omega arith in
      let zeros : place p - (q.a + p.b) ≡ p.a - q.a = omega arith in
      ek
      ∙ ap (λ s. run (q.a + p.b) (place p) 0 s) em
      ∙ between_join l (place q) (q.a + p.b) (replicate (q.a + p.b - place q) 2) (omega arith) (omega arith)
      (length-replicate (q.a + p.b - place q) 2)
      (place p) (replicate (place p - (q.a + p.b)) 0) (omega arith) (omega arith)
      ∙ ap₂ (λ s t. between (place q) (place p) (replicate s 2 ++ replicate t 0) l) twos zeros

pub returns : goal.returns
returns c =
    let way = c.requires in
    let q = point c.args.q in
    let p = point c.args.p in
    let l = c.args.places.now in
    let twos = filled_run l (place q) (q.a + p.b) 2 (omega arith) (omega arith) _ (c.fill.ensures.after (λ y e. e)) in
    let room = ap length twos ∙ length_between l (place q) (q.a + p.b) _ (omega arith) (omega arith) (length-replicate (q.a + p.b - place q) 2) in
    both_runs q p l way _ _ twos (filled_run _ (q.a + p.b) (place p) 0 (omega arith) (omega (arith, room)) _ (c.fill-2.ensures.after (λ y e. e)))
