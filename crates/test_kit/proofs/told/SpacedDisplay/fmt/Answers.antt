-- A value more is written: what it is printed as is taken from what the rest is printed as.
use Rattle.std.proofs.Common.{◌≡◌, ℕ, ◌+◌, List, [], ◌∷◌, ◌++◌, Option, Some, None, Ok, refl, sym, ap, ◌∙◌, subst, rules, drop, IfSome, append_assoc, append-nil}
use Rattle.std.proofs.lemmas.Option.{none-some, same_Some}
use Rattle.std.proofs.lemmas.Grind.{put_two}
use Rattle.std.proofs.Math.ListN.{drop_of_length-le}
use Rattle.std.proofs.lemmas.List.{at_drop_more}
use Rattle.std.specs.Fmt.{option_append, HasWritten, WritesOnOk, DisplaysOnOk}
use Rattle.test_kit.specs.Printed.{spaced}
use Rattle.test_kit.proofs.told.SpacedDisplay.fmt.Goals as goal

-- where a text after a space, and then another, is known, both are
split : (o p : Option (List ℕ)) (more : List ℕ) → option_append (option_append (Some (32 ∷ [])) o) p ≡ Some more
    → (one : List ℕ) × (rest : List ℕ) × (o ≡ Some one) × (p ≡ Some rest) × ((32 ∷ one) ++ rest ≡ more)
split None p more e = absurd (none-some more e)
split (Some one) None more e = absurd (none-some more e)
split (Some one) (Some rest) more e = (one, rest, refl, refl, same_Some _ _ e)

known : (o : Option (List ℕ)) (P : List ℕ → Type 0) → ((bs : List ℕ) → o ≡ Some bs → P bs) → IfSome o P
known None P h = tt
known (Some bs) P h = h bs refl

first_known : {T : Type 0} (text : T → Option (List ℕ)) (x : T) (xs ys : List T) (more : List ℕ) → ys ≡ x ∷ xs → spaced text ys ≡ Some more
    → (one : List ℕ) × (rest : List ℕ) × (text x ≡ Some one) × (spaced text xs ≡ Some rest) × ((32 ∷ one) ++ rest ≡ more)
unfolding spaced
first_known text x xs ys more e h = split (text x) (spaced text xs) more (sym (ap (spaced text) e) ∙ h)

none_left : {T : Type 0} (text : T → Option (List ℕ)) (ys : List T) (more : List ℕ) → ys ≡ [] → spaced text ys ≡ Some more → [] ≡ more
unfolding spaced
none_left text ys more e h = same_Some _ _ (sym (ap (spaced text) e) ∙ h)

pub loop-x-preserved : goal.loop-x-preserved
loop-x-preserved g c = λ bs whole plain.
    let i = c.loop-x.invariant bs whole plain in
    let x = c.x-item.result in
    let behind = drop (c.loop-x.x-index + 1) c.args.self.now.0.now in
    let item : drop c.loop-x.x-index c.args.self.now.0.now ≡ x ∷ behind =
    at_drop_more (λ l. l) c.args.self.now.0.now c.loop-x.x-index x c.loop-x-test.true ∙ ap (λ y. y ∷ behind) (sym c.x-item.is) in
    let f = first_known g.T.Display.output x _ _ i.1 item i.3 in
    let writes = subst (λ o. DisplaysOnOk {W = g.row.W.Denot} g.W.Write.write_str_gives c.loop-x.f (Ok c.in_ok-write.field-0) (option_append (Some (32 ∷ [])) o) c.write.new.self) f.2 c.in_ok-write.ensures.writes in
    let wrote = writes i.2.plain (search rules) in
    (i.0 ++ (32 ∷ f.0), f.1, put_two _ _ _ _ _ _ _ i.2 wrote refl, f.3, append_assoc i.0 (32 ∷ f.0) f.1 ∙ ap (λ l. i.0 ++ l) f.4 ∙ i.4)

pub returns-clause-writes : goal.returns-clause-writes
returns-clause-writes g c =
    let all : (bs : List ℕ) → spaced g.T.Display.output c.args.self.now.0.now ≡ Some bs → WritesOnOk g.W.Write.write_str_gives c.args.f.now (Ok (tt {0})) bs c.loop-x.f =
    λ bs whole plain ok.
    let i = c.loop-x.invariant bs whole plain in
    let nothing : [] ≡ i.1 = none_left g.T.Display.output _ _ (drop_of_length-le _ c.loop-x-test.false) i.3 in
    subst (λ l. HasWritten {W = g.row.W.Denot} g.W.Write.write_str_gives c.args.f.now l c.loop-x.f) (sym (append-nil i.0) ∙ ap (λ l. i.0 ++ l) nothing ∙ i.4) i.2
    in
    known _ _ all
