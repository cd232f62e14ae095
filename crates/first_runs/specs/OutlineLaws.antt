-- The order of outlines: "not ahead" is a total preorder, and of two different outlines one is ahead.
-- Assumes nothing.
use Rattle.std.specs.Prelude.{ℕ, ◌≤◌, ◌<◌, ◌≡◌, true, false, ◌&&◌, ◌||◌, ltb, eqb}
use Rattle.std.proofs.Common.{arith, le_trans, le_of_eq, le_of_lt, le_antisymm, sym, ap, ◌∙◌, ltb-true, ltb-false, le-ltb, lt-ltb, eq-eqb}
use Rattle.single.specs.Preference.{smaller}
use Rattle.single.specs.PreferenceLaws.{not_smaller, smaller_not, smaller-trans, smaller-same, smaller-asym}
use Rattle.first_runs.specs.declared.outlines.Outline.{Outline}
use Rattle.first_runs.specs.Outline.{ahead}

-- What is not ahead of y is not ahead of anything that y is not ahead of.
pub not_ahead-trans : (x y z : Outline) → ahead y x ≡ false → ahead z y ≡ false → ahead z x ≡ false
unfolding ahead
not_ahead-trans x y z h k =
    smaller-trans _ _ _ _ _ _ h k (λ h. λ k. smaller-trans _ _ _ _ _ _ h k (λ h. λ k.
    le-ltb x.first z.first (le_trans (ltb-false y.first z.first k) (ltb-false x.first y.first h))))

pub ahead-asym : (x y : Outline) → ahead x y ≡ true → ahead y x ≡ false
unfolding ahead
ahead-asym x y h =
    smaller-asym _ _ _ _ h (λ h. smaller-asym _ _ _ _ h (λ h. le-ltb x.first y.first (le_of_lt (ltb-true y.first x.first h))))

pub ahead_self : (x : Outline) → ahead x x ≡ false
unfolding ahead
ahead_self x =
    not_smaller _ _ _ (omega arith) (λ e. not_smaller _ _ _ (omega arith) (λ e. le-ltb x.first x.first (omega arith)))

-- Of two different outlines one is ahead.
pub ahead_only : (x y : Outline) → ahead x y ≡ false → ahead y x ≡ false → x ≡ y
unfolding ahead
ahead_only x y h k =
    let c = smaller-same x.cost y.cost _ _ h k in
    let b = smaller-same x.buckets y.buckets _ _ c.1 c.2 in
    let f : x.first ≡ y.first = le_antisymm (ltb-false y.first x.first b.1) (ltb-false x.first y.first b.2) in
    ap (λ (n : ℕ). record { cost = n; buckets = x.buckets; first = x.first }) c.0
    ∙ ap (λ (n : ℕ). record { cost = y.cost; buckets = n; first = x.first }) b.0
    ∙ ap (λ (n : ℕ). record { cost = y.cost; buckets = y.buckets; first = n }) f

-- What is not ahead costs at least as much, and what costs more is not ahead.
pub not_ahead-cost : (x y : Outline) → ahead y x ≡ false → x.cost ≤ y.cost
unfolding ahead
not_ahead-cost x y h = (smaller_not y.cost x.cost _ h).0

pub dearer_not_ahead : (x y : Outline) → x.cost < y.cost → ahead y x ≡ false
unfolding ahead
dearer_not_ahead x y h = not_smaller _ _ _ (le_of_lt h) (λ e. absurd (omega arith))

-- What costs less is ahead, and between equal costs the buckets and the first run decide.
pub cheaper_ahead : (x y : Outline) → x.cost < y.cost → ahead x y ≡ true
unfolding ahead smaller
cheaper_ahead x y h = rw (lt-ltb x.cost y.cost h)

pub same-cost-ahead : (x y : Outline) → x.cost ≡ y.cost → ahead x y ≡ ltb x.buckets y.buckets || eqb x.buckets y.buckets && ltb y.first x.first
unfolding ahead smaller
same-cost-ahead x y e = rw (le-ltb x.cost y.cost (le_of_eq (sym e)), eq-eqb x.cost y.cost e)

-- What only costs at least as much is not ahead, nor is what has more buckets besides.
pub alike_not_ahead : (x y : Outline) → x.cost ≤ y.cost → y.buckets ≡ x.buckets → y.first ≡ x.first → ahead y x ≡ false
unfolding ahead
alike_not_ahead x y h b f =
    not_smaller _ _ _ h (λ e. not_smaller _ _ _ (omega arith) (λ e. le-ltb x.first y.first (omega arith)))

pub more_not_ahead : (x y : Outline) → x.cost ≤ y.cost → x.buckets < y.buckets → ahead y x ≡ false
unfolding ahead
more_not_ahead x y h b = not_smaller _ _ _ h (λ e. not_smaller _ _ _ (le_of_lt b) (λ e. absurd (omega arith)))
