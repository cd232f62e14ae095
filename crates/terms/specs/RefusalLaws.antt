-- A refusal's number names it: no two refusals share one.
-- Assumes nothing.
use Rattle.std.specs.Prelude.{ℕ, ◌-◌, ◌≡◌, refl, [], ◌∷◌, get_or}
use Rattle.std.proofs.Common.{sym, ap, ◌∙◌}
use Rattle.terms.specs.declared.refusal.Refusal.{Refusal}
use Rattle.terms.specs.declared.refusal.Refusal.TheVariants.{Short, Foreign, Periods, Misplaced, Figure, List, NoPlan, Meter, Full, Unequal}
use Rattle.terms.specs.Refusals.{number_of}

-- The refusal with a number from 1 on.
refusal_at : ℕ → Refusal
refusal_at n =
    get_or (Short ∷ Foreign ∷ Periods ∷ Misplaced ∷ Figure ∷ List ∷ NoPlan ∷ Meter ∷ Full ∷ Unequal ∷ []) (n - 1) Short

back : (x : Refusal) → refusal_at (number_of x) ≡ x
unfolding refusal_at
back Short = refl
back Foreign = refl
back Periods = refl
back Misplaced = refl
back Figure = refl
back List = refl
back NoPlan = refl
back Meter = refl
back Full = refl
back Unequal = refl

pub number_names : (a b : Refusal) → number_of a ≡ number_of b → a ≡ b
number_names a b e = sym (back a) ∙ ap refusal_at e ∙ back b
