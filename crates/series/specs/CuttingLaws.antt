-- The best cutting is the best of all: it is one, and no other wins over it, whatever is chosen for the runs; and it is
-- missing exactly when there is none. It rests on `choice` giving each run the cheapest that fits it.
-- By induction from the end: among the cuttings that begin with one run the best goes on with the best of what is left.
-- Assumes nothing.
use Prim.Native.Nat.{ℕ, zero, suc, ◌≤◌}
use Rattle.std.proofs.Common.{arith, le_refl, le_antisymm, sym, subst, ◌∙◌, true≢false, inl, inr, leb-true, leb-false, length-take-le}
use Rattle.std.specs.Prelude.{◌≡◌, Bool, true, false, ◌⊎◌, leb, length, take, drop, get_or}
use Rattle.std.proofs.Math.Path.{refl}
use Rattle.std.proofs.lemmas.Bool.{false≢true}
use mathlib.Core.List.{List, [], ◌∷◌, nil≢cons}
use Rattle.terms.specs.Answer.{Answer, figures, refused}
use Rattle.terms.specs.ChooseLaws.{Order, IsBest, best-same, best-choose}
use Rattle.single.specs.Preference.{smaller}
use Rattle.single.specs.PreferenceLaws.{not_smaller, smaller_not, smaller-trans, smaller-asym}
use Rattle.series.specs.Cutting.{FirstRun, Cuts, none, run, longer, wins, first_run, joined, best_first, bests}
use Rattle.terms.specs.Records.{total}

-- ---- The order of cuttings

module _ {X : Type 0} (periods price : X → ℕ) where
  not_longer-trans : (xs ys zs : List X) → longer periods ys xs ≡ false → longer periods zs ys ≡ false
      → longer periods zs xs ≡ false
  unfolding longer
  not_longer-trans xs ys [] h k = refl
  not_longer-trans [] [] (z ∷ zs) h k = k
  not_longer-trans [] (y ∷ ys) (z ∷ zs) h k = absurd (true≢false h)
  not_longer-trans (x ∷ xs) [] (z ∷ zs) h k = absurd (true≢false k)
  not_longer-trans (x ∷ xs) (y ∷ ys) (z ∷ zs) h k =
      smaller-trans _ _ _ _ _ _ k h (λ k. λ h. not_longer-trans xs ys zs h k)

  longer-asym : (xs ys : List X) → longer periods xs ys ≡ true → longer periods ys xs ≡ false
  unfolding longer
  longer-asym [] ys h = absurd (false≢true h)
  longer-asym (x ∷ xs) [] h = refl
  longer-asym (x ∷ xs) (y ∷ ys) h = smaller-asym _ _ _ _ h (λ h. longer-asym xs ys h)

  not_wins-trans : (xs ys zs : List X) → wins periods price ys xs ≡ false → wins periods price zs ys ≡ false
      → wins periods price zs xs ≡ false
  unfolding wins
  not_wins-trans xs ys zs h k =
      smaller-trans _ _ _ _ _ _ h k (λ h. λ k. smaller-trans _ _ _ _ _ _ h k (λ h. λ k. not_longer-trans xs ys zs h k))

  wins-asym : (xs ys : List X) → wins periods price xs ys ≡ true → wins periods price ys xs ≡ false
  unfolding wins
  wins-asym xs ys h = smaller-asym _ _ _ _ h (λ h. smaller-asym _ _ _ _ h (λ h. longer-asym xs ys h))

  -- What does not win costs at least as much.
  pub not_wins-cost : (xs ys : List X) → wins periods price ys xs ≡ false → total price xs ≤ total price ys
  unfolding wins
  not_wins-cost xs ys h = (smaller_not (total price ys) (total price xs) _ h).0

  -- Nor does it win behind a first run of the same length that costs at least as much.
  not_wins_join : (x y : X) (xs ys : List X) → periods y ≡ periods x → price x ≤ price y
      → wins periods price ys xs ≡ false
      → wins periods price (y ∷ ys) (x ∷ xs) ≡ false
  unfolding wins longer total
  not_wins_join x y xs ys e l h =
      let c = smaller_not (total price ys) (total price xs) _ h in
      not_smaller _ _ _ (omega (arith, c.0)) (λ f.
      let n = smaller_not (length ys) (length xs) _ (c.1 (omega (arith, c.0))) in
      not_smaller _ _ _ (omega (arith, n.0)) (λ g. not_smaller _ _ _ (omega arith) (λ i. n.1 (omega arith))))

  pub wins-order : Order (wins periods price)
  wins-order = record { trans = not_wins-trans; asym = wins-asym }

  -- The best of a kind of cuttings.
  abbrev pub IsBestCut : (List X → Type 0) → Answer (List X) → Type 0
  IsBestCut = IsBest (wins periods price)

-- ---- The best cutting

module _ {X : Type 0} (periods price : X → ℕ) (Fits : List ℕ → X → Type 0) where
  abbrev pub Cut : List ℕ → List X → Type 0
  Cut = Cuts periods Fits

  pub cut_first : {ds : List ℕ} {x : X} {xs : List X} → Cut ds (x ∷ xs)
      → FirstRun periods Fits ds x × Cut (drop (periods x) ds) xs
  cut_first (run f c) = (f, c)

  pub cut_none : {ds : List ℕ} → Cut ds [] → ds ≡ []
  cut_none none = refl

  -- x is the cheapest choice that fits the run.
  pub record Chosen (ds : List ℕ) (x : X) : Type 0 where
    pub whole : periods x ≡ length ds
    pub fits : Fits ds x
    pub least : (y : X) → periods y ≡ length ds → Fits ds y → price x ≤ price y

  abbrev pub IsChoice : List ℕ → Answer X → Type 0
  IsChoice ds (figures x) = Chosen ds x
  IsChoice ds (refused n) = (n ≡ 7) × ((x : X) → Fits ds x → ⊥)

  -- The cuttings whose first run has n periods, and those where it has at most n.
  record Begins (ds : List ℕ) (n : ℕ) (xs : List X) : Type 0 where
    cut : Cut ds xs
    first : first_run periods xs ≡ n

  pub record Within (ds : List ℕ) (n : ℕ) (xs : List X) : Type 0 where
    pub cut : Cut ds xs
    pub some : 1 ≤ first_run periods xs
    pub first : first_run periods xs ≤ n

  module _ (ds : List ℕ) (k : ℕ) (l : suc k ≤ length ds) where
    -- A choice for the run and a cutting of the rest.
    begins : (x : X) (xs : List X) → periods x ≡ length (take (suc k) ds) → Fits (take (suc k) ds) x
        → Cut (drop (suc k) ds) xs → Begins ds (suc k) (x ∷ xs)
    begins x xs e f c =
        let g : suc k ≡ periods x = sym (e ∙ length-take-le (suc k) ds l) in
        let first_run : FirstRun periods Fits ds x =
        record { some = omega arith; inside = omega arith; fits = subst (λ (n : ℕ). Fits (take n ds) x) g f } in
        record {
          cut = run first_run (subst (λ (n : ℕ). Cut (drop n ds) xs) g c);
          first = sym g;
        }

    -- … and taken apart again.
    fits-run : (y : X) (ys : List X) → Begins ds (suc k) (y ∷ ys)
        → (periods y ≡ length (take (suc k) ds)) × Fits (take (suc k) ds) y × Cut (drop (suc k) ds) ys
    fits-run y ys b =
        let c = cut_first b.cut in (
          b.first ∙ sym (length-take-le (suc k) ds l),
          subst (λ (n : ℕ). Fits (take n ds) y) b.first c.0.fits,
          subst (λ (n : ℕ). Cut (drop n ds) ys) b.first c.1,
        )

    best-joined : (a : Answer X) → IsChoice (take (suc k) ds) a → (r : Answer (List X))
        → IsBestCut periods price (Cut (drop (suc k) ds)) r
        → IsBestCut periods price (Begins ds (suc k)) (joined a r)
    best-joined (figures x) o (figures xs) b = record { kind = begins x xs o.whole o.fits b.kind; none_preferred = beaten }
      where
        beaten : (ys : List X) → Begins ds (suc k) ys → wins periods price ys (x ∷ xs) ≡ false
        beaten [] c = absurd (omega (arith, c.first))
        beaten (y ∷ ys) c =
            let f = fits-run y ys c in
            not_wins_join periods price x y xs ys (f.0 ∙ sym o.whole) (o.least y f.0 f.1) (b.none_preferred ys f.2)
    best-joined (figures x) o (refused n) b = (b.0, rest_none)
      where
        rest_none : (ys : List X) → Begins ds (suc k) ys → ⊥
        rest_none [] c = omega (arith, c.first)
        rest_none (y ∷ ys) c = b.1 ys (fits-run y ys c).2
    best-joined (refused n) o r b = (o.0, run_none)
      where
        run_none : (ys : List X) → Begins ds (suc k) ys → ⊥
        run_none [] c = omega (arith, c.first)
        run_none (y ∷ ys) c = o.1 y (fits-run y ys c).1

    -- One length more for the first run.
    within_more : (xs : List X) → Within ds k xs → Within ds (suc k) xs
    within_more xs w = record { cut = w.cut; some = w.some; first = omega (arith, w.first) }

    begins-within : (xs : List X) → Begins ds (suc k) xs → Within ds (suc k) xs
    begins-within xs b = record { cut = b.cut; some = omega (arith, b.first); first = omega (arith, b.first) }

    within_either : (xs : List X) → Within ds (suc k) xs → Within ds k xs ⊎ Begins ds (suc k) xs
    within_either xs w = go (leb (first_run periods xs) k) refl
      where
        go : (b : Bool) → leb (first_run periods xs) k ≡ b → Within ds k xs ⊎ Begins ds (suc k) xs
        go true e = inl (record { cut = w.cut; some = w.some; first = leb-true _ _ e })
        go false e = inr (record { cut = w.cut; first = le_antisymm w.first (leb-false _ _ e) })

  -- What is known of the list of rests: each is the best for what is left.
  abbrev pub Rests : List ℕ → List (Answer (List X)) → Type 0
  Rests ds rests =
      (k : ℕ) → suc k ≤ length ds → IsBestCut periods price (Cut (drop (suc k) ds)) (get_or rests k (refused 7))

  module _ (choice : List ℕ → Answer X) (choices : (ds : List ℕ) → IsChoice ds (choice ds)) where
    pub first_is : (ds : List ℕ) (rests : List (Answer (List X))) → Rests ds rests → (k : ℕ) → k ≤ length ds
        → IsBestCut periods price (Within ds k) (best_first periods price choice ds rests k)
    unfolding best_first
    first_is ds rests h zero l = (refl, λ xs w. omega (arith, w.some, w.first))
    first_is ds rests h (suc k) l =
        best-choose (wins periods price) (wins-order periods price) (Within ds k) (Begins ds (suc k)) (Within ds (suc k)) (within_more ds k l) (begins-within ds k l) (within_either ds k l)
        (best_first periods price choice ds rests k) (joined (choice (take (suc k) ds)) (get_or rests k (refused 7)))
        (first_is ds rests h k (omega arith)) (best-joined ds k l (choice (take (suc k) ds)) (choices (take (suc k) ds)) (get_or rests k (refused 7)) (h k l))

    -- Every cutting of some periods begins with a run of some of them.
    cut-within : (d : ℕ) (ds : List ℕ) (xs : List X) → Cut (d ∷ ds) xs → Within (d ∷ ds) (length (d ∷ ds)) xs
    cut-within d ds [] c = absurd (nil≢cons (sym (cut_none c)))
    cut-within d ds (x ∷ xs) c = let f = (cut_first c).0 in record { cut = c; some = f.some; first = f.inside }

    none_of_none : (ys : List X) → Cut [] ys → wins periods price ys [] ≡ false
    unfolding wins total longer smaller
    none_of_none [] c = refl
    none_of_none (y ∷ ys) c = let f = (cut_first c).0 in absurd (omega (arith, f.some, f.inside))

    pub bests_are : (ds : List ℕ) (k : ℕ) → k ≤ length ds
        → IsBestCut periods price (Cut (drop k ds)) (get_or (bests periods price choice ds) k (refused 7))
    unfolding bests
    bests_are [] zero l = record { kind = none; none_preferred = none_of_none }
    bests_are [] (suc k) l = absurd (omega arith)
    bests_are (d ∷ ds) zero l =
        best-same (wins periods price) (Within (d ∷ ds) (length (d ∷ ds))) (Cut (d ∷ ds)) (λ xs w. w.cut) (cut-within d ds)
        (best_first periods price choice (d ∷ ds) (bests periods price choice ds) (length (d ∷ ds)))
        (first_is (d ∷ ds) (bests periods price choice ds) (λ k l. bests_are ds k (omega arith)) (length (d ∷ ds)) (le_refl _))
    bests_are (d ∷ ds) (suc k) l = bests_are ds k (omega arith)
