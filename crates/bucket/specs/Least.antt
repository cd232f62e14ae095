-- The smaller of two signed numbers and the least of a list: each is one of them, and at most each.
-- Assumes nothing.
use Rattle.std.proofs.Common.{le_of_lt, le_trans, sym, subst, ◌∙◌, inl, inr, ⊎_elim, leb-false, leb→le, le→leb}
use Rattle.std.specs.Prelude.{◌≡◌, refl, Bool, true, false, ◌&&◌, cond, ◌⊎◌, T, leb, ℤ, pos, negsuc, ◌≤ℤ◌}
use Rattle.std.proofs.lemmas.Bool.{false≢true}
use mathlib.Core.List.Memᴰ
use mathlib.Core.List.{List, [], ◌∷◌, Memᴰ}
use Rattle.std.specs.Int.Signed.{le_z, non_neg, ≤ℤ_refl}
use Rattle.bucket.specs.Trace.{min_z, least_of}

≤ℤ_total : (a b : ℤ) → le_z a b ≡ false → b ≤ℤ a
≤ℤ_total (pos a) (pos b) h = record { le = le→leb b a (le_of_lt (leb-false a b h)) }
≤ℤ_total (pos a) (negsuc b) h = record { le = tt }
≤ℤ_total (negsuc a) (pos b) h = absurd (false≢true (sym h))
≤ℤ_total (negsuc a) (negsuc b) h = record { le = le→leb a b (le_of_lt (leb-false b a h)) }

le-le : (a b c : ℤ) → T (le_z a b) → T (le_z b c) → T (le_z a c)
le-le (pos a) (pos b) (pos c) h k = le→leb a c (le_trans (leb→le a b h) (leb→le b c k))
le-le (pos a) (pos b) (negsuc c) h k = k
le-le (pos a) (negsuc b) c h k = absurd h
le-le (negsuc a) (pos b) (pos c) h k = tt
le-le (negsuc a) (pos b) (negsuc c) h k = absurd k
le-le (negsuc a) (negsuc b) (pos c) h k = tt
le-le (negsuc a) (negsuc b) (negsuc c) h k = le→leb c a (le_trans (leb→le c b k) (leb→le b a h))

≤ℤ_trans : {a b c : ℤ} → a ≤ℤ b → b ≤ℤ c → a ≤ℤ c
≤ℤ_trans {a} {b} {c} h k = record { le = le-le a b c h.le k.le }

-- The smaller of two numbers is at most each, and one of them.
min-is : (a b : ℤ) → (min_z a b ≤ℤ a) × (min_z a b ≤ℤ b) × ((min_z a b ≡ a) ⊎ (min_z a b ≡ b))
min-is a b = go (le_z a b) refl
  where
    go : (t : Bool) → le_z a b ≡ t → (cond t a b ≤ℤ a) × (cond t a b ≤ℤ b) × ((cond t a b ≡ a) ⊎ (cond t a b ≡ b))
    go true h = (≤ℤ_refl a, record { le = rw h tt }, inl refl)
    go false h = (≤ℤ_total a b h, ≤ℤ_refl b, inr refl)

pub least_first : (z : ℤ) (xs : List ℤ) → least_of z xs ≤ℤ z
unfolding least_of
least_first z [] = ≤ℤ_refl z
least_first z (x ∷ xs) = ≤ℤ_trans (least_first (min_z z x) xs) (min-is z x).0

pub least-each : (z : ℤ) (xs : List ℤ) (x : ℤ) → Memᴰ x xs → least_of z xs ≤ℤ x
unfolding least_of
least-each z [] x m = absurd (Memᴰ.not-nil m)
least-each z (w ∷ xs) x m =
    ⊎_elim (λ e. subst (λ (v : ℤ). least_of (min_z z w) xs ≤ℤ v) (sym e) (≤ℤ_trans (least_first (min_z z w) xs) (min-is z w).1))
    (λ n. least-each (min_z z w) xs x n) (Memᴰ.cases_cons m)

pub least_one : (z : ℤ) (xs : List ℤ) → Memᴰ (least_of z xs) (z ∷ xs)
unfolding least_of
least_one z [] = Memᴰ.head refl
least_one z (w ∷ xs) = ⊎_elim first (λ n. Memᴰ.tail (Memᴰ.tail n)) (Memᴰ.cases_cons (least_one (min_z z w) xs))
  where
    first : least_of (min_z z w) xs ≡ min_z z w → Memᴰ (least_of (min_z z w) xs) (z ∷ w ∷ xs)
    first e = ⊎_elim (λ f. Memᴰ.head (e ∙ f)) (λ f. Memᴰ.tail (Memᴰ.head (e ∙ f))) (min-is z w).2

-- The smaller is not below 0 exactly when both are not.
pub min_nonneg : (a b : ℤ) → non_neg (min_z a b) ≡ non_neg a && non_neg b
min_nonneg (pos a) (pos b) = go (leb a b)
  where
    go : (t : Bool) → non_neg (cond t (pos a) (pos b)) ≡ true
    go true = refl
    go false = refl
min_nonneg (pos a) (negsuc b) = refl
min_nonneg (negsuc a) (pos b) = refl
min_nonneg (negsuc a) (negsuc b) = go (leb b a)
  where
    go : (t : Bool) → non_neg (cond t (negsuc a) (negsuc b)) ≡ false
    go true = refl
    go false = refl
