-- "Not preferred" is a total preorder, and no bucket is preferred that is at least as large in rate and depth,
-- or dearer.
-- Assumes nothing.
use Rattle.std.specs.Prelude.{ℕ, ◌≤◌, ◌<◌, ◌≡◌, refl, Bool, true, false, cond, ◌&&◌, ◌||◌, Some, ltb, eqb}
use Rattle.std.proofs.Common.{arith, le_antisymm, le_of_eq, le_of_lt, le_trans, sym, ap, ◌∙◌, true≢false, ltb-true, ltb-false, le-ltb, eqb-true, eq-eqb, Ordering, Less, Equal, Greater}
use Rattle.std.specs.Ordering.{is_lt, is_some_and, nat_cmp, partial_ordering_then}
use Rattle.terms.specs.Bools.{and_both}
use Rattle.terms.specs.ChooseLaws.{Order}
use Rattle.terms.specs.declared.Bucket.{Bucket}
use Rattle.terms.specs.declared.Tariff.{Tariff}
use Rattle.single.specs.declared.costs.Priced.{Priced}
use Rattle.single.specs.Cost.{priced_at}
use Rattle.single.specs.CostLaws.{cost_mono}
use Rattle.single.specs.Preference.{smaller, preferred}

-- The library's order of tuples is this one: the first number that differs decides.
abbrev ranked : Bool → Bool → Ordering
ranked less same = cond less Less (cond same Equal Greater)

pub tuple-smaller : (a b c x y z : ℕ)
    → is_some_and is_lt
    (partial_ordering_then (partial_ordering_then (Some (nat_cmp a x)) (Some (nat_cmp b y))) (Some (nat_cmp c z)))
    ≡ smaller a x (smaller b y (smaller c z false))
unfolding smaller
tuple-smaller a b c x y z = go (ltb a x) (eqb a x) (ltb b y) (eqb b y) (ltb c z) (eqb c z)
  where
    go : (a b c d e f : Bool)
        → is_some_and is_lt
        (partial_ordering_then (partial_ordering_then (Some (ranked a b)) (Some (ranked c d))) (Some (ranked e f)))
        ≡ (a || b && (c || d && (e || f && false)))
    go true b c d e f = refl
    go false false c d e f = refl
    go false true true d e f = refl
    go false true false false e f = refl
    go false true false true true f = refl
    go false true false true false true = refl
    go false true false true false false = refl

pub smaller-last : (c z : ℕ) → smaller c z false ≡ ltb c z
unfolding smaller
smaller-last c z = go (ltb c z) (eqb c z)
  where
    go : (e f : Bool) → (e || f && false) ≡ e
    go true f = refl
    go false true = refl
    go false false = refl

-- The first number is not the smaller exactly when it is at least the second and, between equal ones, the rest says no.
pub not_smaller : (a b : ℕ) (rest : Bool) → b ≤ a → (a ≡ b → rest ≡ false) → smaller a b rest ≡ false
unfolding smaller
not_smaller a b rest h k = rw (le-ltb a b h) (go (eqb a b) refl)
  where
    go : (t : Bool) → eqb a b ≡ t → t && rest ≡ false
    go true e = k (eqb-true a b e)
    go false e = refl

pub smaller_not : (a b : ℕ) (rest : Bool) → smaller a b rest ≡ false → (b ≤ a) × (a ≡ b → rest ≡ false)
unfolding smaller
smaller_not a b rest h = go (ltb a b) refl h
  where
    go : (t : Bool) → ltb a b ≡ t → t || eqb a b && rest ≡ false → (b ≤ a) × (a ≡ b → rest ≡ false)
    go true e k = absurd (true≢false k)
    go false e k = (ltb-false a b e, λ f. rw (eq-eqb a b f) at k)

pub smaller_so : (a b : ℕ) (rest : Bool) → smaller a b rest ≡ true → (a ≤ b) × (a ≡ b → rest ≡ true)
unfolding smaller
smaller_so a b rest h = go (ltb a b) refl h
  where
    go : (t : Bool) → ltb a b ≡ t → t || eqb a b && rest ≡ true → (a ≤ b) × (a ≡ b → rest ≡ true)
    go true e k = let l = ltb-true a b e in (omega arith, λ f. absurd (omega arith))
    go false e k = let f = and_both (eqb a b) rest k in let g = eqb-true a b f.0 in (omega arith, λ i. f.1)

pub smaller-trans : (a b c : ℕ) (s t u : Bool) → smaller b a s ≡ false → smaller c b t ≡ false
    → (s ≡ false → t ≡ false → u ≡ false) → smaller c a u ≡ false
smaller-trans a b c s t u h k f =
    let i = smaller_not b a s h in
    let j = smaller_not c b t k in
    not_smaller c a u (le_trans i.0 j.0) (λ e. f (i.1 (le_antisymm (le_trans j.0 (le_of_eq e)) i.0)) (j.1 (le_antisymm (le_trans (le_of_eq e) i.0) j.0)))

pub smaller-same : (a b : ℕ) (s t : Bool) → smaller a b s ≡ false → smaller b a t ≡ false
    → (a ≡ b) × (s ≡ false) × (t ≡ false)
smaller-same a b s t h k =
    let i = smaller_not a b s h in
    let j = smaller_not b a t k in
    let e = le_antisymm j.0 i.0 in
    (e, i.1 e, j.1 (sym e))

pub smaller-asym : (a b : ℕ) (s t : Bool) → smaller a b s ≡ true → (s ≡ true → t ≡ false) → smaller b a t ≡ false
smaller-asym a b s t h f = let i = smaller_so a b s h in not_smaller b a t i.0 (λ e. f (i.1 (sym e)))

-- What is not preferred to y is not preferred to anything that y is not preferred to.
pub not_preferred-trans : (x y z : Priced) → preferred y x ≡ false → preferred z y ≡ false → preferred z x ≡ false
unfolding preferred
not_preferred-trans x y z h k =
    smaller-trans _ _ _ _ _ _ h k (λ h. λ k. smaller-trans _ _ _ _ _ _ h k (λ h. λ k. smaller-trans _ _ _ _ _ _ h k (λ h. λ k. refl)))

pub preferred-asym : (x y : Priced) → preferred x y ≡ true → preferred y x ≡ false
unfolding preferred
preferred-asym x y h = smaller-asym _ _ _ _ h (λ h. smaller-asym _ _ _ _ h (λ h. smaller-asym _ _ _ _ h (λ h. refl)))

pub preferred-order : Order preferred
preferred-order = record { trans = not_preferred-trans; asym = preferred-asym }

abbrev made : ℕ → ℕ → ℕ → Priced
made c r d = record { bucket = record { rate = record { 0 = r }; depth = record { 0 = d } }; cost = c }

-- Of two different buckets one is preferred.
pub preferred-total : (x y : Priced) → preferred x y ≡ false → preferred y x ≡ false → x ≡ y
unfolding preferred
preferred-total x y h k =
    let c = smaller-same _ _ _ _ h k in
    let r = smaller-same _ _ _ _ c.1 c.2 in
    let d = smaller-same _ _ _ _ r.1 r.2 in
    ap (λ (n : ℕ). made n x.bucket.rate.0 x.bucket.depth.0) c.0
    ∙ ap (λ (n : ℕ). made y.cost n x.bucket.depth.0) r.0
    ∙ ap (made y.cost y.bucket.rate.0) d.0

-- What is not preferred costs at least as much.
pub not_preferred-cost : (x y : Priced) → preferred y x ≡ false → x.cost ≤ y.cost
unfolding preferred
not_preferred-cost x y h = (smaller_not y.cost x.cost _ h).0

-- A dearer bucket is not preferred.
pub dearer_not_preferred : (x y : Priced) → x.cost < y.cost → preferred y x ≡ false
unfolding preferred
dearer_not_preferred x y h = not_smaller y.cost x.cost _ (le_of_lt h) (λ e. absurd (omega arith))

-- A bucket with at least the rate and the depth is not preferred.
pub larger_not_preferred : (t : Tariff) (n : ℕ) (b c : Bucket) → b.rate.0 ≤ c.rate.0 → b.depth.0 ≤ c.depth.0
    → preferred (priced_at t n c) (priced_at t n b) ≡ false
unfolding preferred
larger_not_preferred t n b c h k =
    not_smaller _ _ _ (cost_mono t n b c h k) (λ e. not_smaller _ _ _ h (λ e. not_smaller _ _ _ k (λ e. refl)))
