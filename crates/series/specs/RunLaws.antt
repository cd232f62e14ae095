-- How the best cutting is put together: its first run has its `choice`, and it goes on with the best cutting of
-- what is left.
-- Assumes nothing.
use Prim.Native.Nat.{ℕ, zero, suc, ◌≤◌}
use Rattle.std.proofs.Common.{arith, ◌∙◌, true≢false, inl, inr}
use Rattle.std.specs.Prelude.{◌≡◌, Bool, true, false, cond, ◌⊎◌, take, drop, get_or}
use Rattle.std.proofs.Math.Path.{refl, sym, ap, subst}
use mathlib.Core.List.{List, [], ◌∷◌, nil≢cons, head-eq_of_cons-eq, tail-eq_of_cons-eq}
use Rattle.std.proofs.Math.Logic.{⊎_elim}
use Rattle.std.proofs.Math.ListN.{length}
use Rattle.std.proofs.Math.Seq.{length-take-le}
use Rattle.terms.specs.Answer.{Answer, figures, refused, choose}
use Rattle.terms.specs.AnswerLaws.{figures-refused, same-figures}
use Rattle.single.specs.PreferenceLaws.{smaller-same}
use Rattle.series.specs.Cutting.{FirstRun, none, run, Matches, Choices, longer, wins, joined, best_first, bests, best}
use Rattle.terms.specs.Records.{total}
use Rattle.series.specs.CuttingLaws.{cut_first}

choose_either : {A : Type 0} (preferred : A → A → Bool) (a b : Answer A) {x : A} → choose preferred a b ≡ figures x
    → (a ≡ figures x) ⊎ (b ≡ figures x)
choose_either preferred a (refused n) e = inl e
choose_either preferred (refused m) (figures y) e = inr e
choose_either preferred (figures z) (figures y) {x} e = go (preferred y z) e
  where
    go : (b : Bool) → cond b (figures y) (figures z) ≡ figures x → (figures z ≡ figures x) ⊎ (figures y ≡ figures x)
    go true e = inr e
    go false e = inl e

-- A cutting that was joined, and its parts.
record Parts {X : Type 0} (a : Answer X) (rest : Answer (List X)) (ys : List X) : Type 0 where
  head : X
  tail : List X
  first : a ≡ figures head
  onward : rest ≡ figures tail
  all : ys ≡ head ∷ tail

parts : {X : Type 0} (a : Answer X) (rest : Answer (List X)) {ys : List X} → joined a rest ≡ figures ys
    → Parts a rest ys
parts (figures x) (figures xs) e = record { head = x; tail = xs; first = refl; onward = refl; all = sym (same-figures e) }
parts (figures x) (refused n) e = absurd (figures-refused (sym e))
parts (refused n) rest e = absurd (figures-refused (sym e))

module _ {X : Type 0} (periods price : X → ℕ) (choice : List ℕ → Answer X) where
  -- The best for what is left after n periods.
  pub bests-at : (ds : List ℕ) (n : ℕ) → n ≤ length ds
      → get_or (bests periods price choice ds) n (refused 7) ≡ best periods price choice (drop n ds)
  unfolding bests
  bests-at ds zero l = refl
  bests-at [] (suc n) l = absurd (omega arith)
  bests-at (d ∷ ds) (suc n) l = bests-at ds n (omega arith)

  -- The choice for some first run, and what follows it.
  record Made (ds : List ℕ) (rests : List (Answer (List X))) (k : ℕ) (ys : List X) : Type 0 where
    length : ℕ
    inside : suc length ≤ k
    made : Parts (choice (take (suc length) ds)) (get_or rests length (refused 7)) ys

  first_made : (ds : List ℕ) (rests : List (Answer (List X))) (k : ℕ) {ys : List X}
      → best_first periods price choice ds rests k ≡ figures ys → Made ds rests k ys
  unfolding best_first
  first_made ds rests zero e = absurd (figures-refused (sym e))
  first_made ds rests (suc k) e =
      ⊎_elim (λ f. let c =
      first_made ds rests k f in record { length = c.length; inside = omega (arith, c.inside); made = c.made })
      (λ f. record { length = k; inside = omega arith; made = parts (choice (take (suc k) ds)) (get_or rests k (refused 7)) f })
      (choose_either (wins periods price) (best_first periods price choice ds rests k) (joined (choice (take (suc k) ds)) (get_or rests k (refused 7))) e)

  -- Only no period is cut into no run.
  pub best_of_none : (ds : List ℕ) → best periods price choice ds ≡ figures [] → ds ≡ []
  unfolding bests
  best_of_none [] e = refl
  best_of_none (d ∷ ds) e =
      absurd (nil≢cons (first_made (d ∷ ds) (bests periods price choice ds) (length (d ∷ ds)) e).made.all)

  module _ (whole : (ds : List ℕ) (x : X) → choice ds ≡ figures x → periods x ≡ length ds) where
    -- The first run of the best cutting: its length, its choice and what follows it.
    pub record Runs (ds : List ℕ) (x : X) (xs : List X) : Type 0 where
      pub some : 1 ≤ periods x
      pub inside : periods x ≤ length ds
      pub first : choice (take (periods x) ds) ≡ figures x
      pub onward : best periods price choice (drop (periods x) ds) ≡ figures xs

    pub best-runs : (ds : List ℕ) (x : X) (xs : List X) → best periods price choice ds ≡ figures (x ∷ xs) → Runs ds x xs
    unfolding bests
    best-runs [] x xs e = absurd (nil≢cons (same-figures e))
    best-runs (d ∷ ds) x xs e =
        let c = first_made (d ∷ ds) (bests periods price choice ds) (length (d ∷ ds)) e in
        let n = suc c.length in
        let x-is : x ≡ c.made.head = head-eq_of_cons-eq c.made.all in
        let xs-is : xs ≡ c.made.tail = tail-eq_of_cons-eq c.made.all in
        let taken : choice (take n (d ∷ ds)) ≡ figures x = c.made.first ∙ ap figures (sym x-is) in
        let rest : best periods price choice (drop n (d ∷ ds)) ≡ figures xs =
        sym (bests-at ds c.length (omega (arith, c.inside))) ∙ c.made.onward ∙ ap figures (sym xs-is) in
        let m : n ≡ periods x = sym (whole (take n (d ∷ ds)) x taken ∙ length-take-le n (d ∷ ds) c.inside) in
        record {
          some = omega arith;
          inside = omega (arith, c.inside);
          first = subst (λ (i : ℕ). choice (take i (d ∷ ds)) ≡ figures x) m taken;
          onward = subst (λ (i : ℕ). best periods price choice (drop i (d ∷ ds)) ≡ figures xs) m rest;
        }

    -- Each run has its `choice`.
    pub best_choices : (ds : List ℕ) (xs : List X) → best periods price choice ds ≡ figures xs
        → Choices periods choice ds xs
    best_choices ds [] e = subst (λ (es : List ℕ). Choices periods choice es []) (sym (best_of_none ds e)) none
    best_choices ds (x ∷ xs) e =
        let k = best-runs ds x xs e in
        let f : FirstRun periods (Matches choice) ds x = record { some = k.some; inside = k.inside; fits = k.first } in
        run f (best_choices (drop (periods x) ds) xs k.onward)

  -- Of two different cuttings with such choices one wins.
  choices_same : (ds : List ℕ) (xs ys : List X) → Choices periods choice ds xs → Choices periods choice ds ys
      → longer periods xs ys ≡ false → longer periods ys xs ≡ false → xs ≡ ys
  unfolding longer
  choices_same ds [] [] c d h k = refl
  choices_same ds [] (y ∷ ys) c d h k = absurd (true≢false k)
  choices_same ds (x ∷ xs) [] c d h k = absurd (true≢false h)
  choices_same ds (x ∷ xs) (y ∷ ys) c d h k =
      let s = smaller-same (periods y) (periods x) (longer periods xs ys) (longer periods ys xs) h k in
      let f = cut_first periods price (Matches choice) c in
      let g = cut_first periods price (Matches choice) d in
      let e : x ≡ y = same-figures (sym f.0.fits ∙ ap (λ (n : ℕ). choice (take n ds)) (sym s.0) ∙ g.0.fits) in
      ap (λ (z : X). z ∷ xs) e
      ∙ ap (λ (zs : List X). y ∷ zs) (choices_same (drop (periods y) ds) xs ys (subst (λ (n : ℕ). Choices periods choice (drop n ds) xs) (sym s.0) f.1) g.1 s.1 s.2)

  pub choices_only : (ds : List ℕ) (xs ys : List X) → Choices periods choice ds xs → Choices periods choice ds ys
      → wins periods price xs ys ≡ false → wins periods price ys xs ≡ false → xs ≡ ys
  unfolding wins
  choices_only ds xs ys c d h k =
      let a = smaller-same (total price xs) (total price ys) _ _ h k in
      let b = smaller-same (length xs) (length ys) _ _ a.1 a.2 in
      choices_same ds xs ys c d b.1 b.2
