-- The search from one start on finds the outline of the best cutting: what it has weighed, or shown to cost more than
-- what is found, is not chosen before what is found.
-- Assumes nothing.
use Rattle.std.specs.Prelude.{ℕ, ◌+◌, ◌≤◌, ◌<◌, ◌≡◌, Bool, true, false, cond, List, ◌⊎◌, leb, length, take, get_or}
use Rattle.std.proofs.Common.{arith, le_refl, le_trans, le_of_eq, add-le-add, sym, ap, inr, ⊎_elim, leb-true, leb-false}
use Rattle.std.proofs.Math.Nat.{mul-le-mul_right}
use Rattle.std.proofs.Math.Path.{refl, subst}
use Rattle.std.proofs.Math.Seq.{take-length}
use Rattle.terms.specs.declared.Tariff.{Tariff}
use Rattle.terms.specs.Answer.{figures}
use Rattle.terms.specs.Bools.{true-false}
use Rattle.terms.specs.Limits.{trace_limit}
use Rattle.terms.specs.RangeRules.{TariffRange}
use Rattle.bucket.specs.Step.{start_of}
use Rattle.depth.specs.Depth.{tariff_depth}
use Rattle.depth.specs.DepthLaws.{depth-within, depth-carries, depth-least}
use Rattle.single.specs.Cost.{charge_of, cost_at, cost_of}
use Rattle.single.specs.CostLaws.{cost_mono}
use Rattle.single.specs.RateLaws.{greatest-carries}
use Rattle.single.specs.Rates.{greatest, weighed}
use Rattle.single.specs.Single.{Serves, bucket_of}
use Rattle.first_runs.specs.declared.outlines.Choice.{Choice}
use Rattle.first_runs.specs.declared.outlines.Outline.{Outline}
use Rattle.first_runs.specs.Charge.{charge_at, Stops}
use Rattle.first_runs.specs.ChargeLaws.{front-carried, charge_least, stops_lower}
use Rattle.first_runs.specs.Outline.{unpriced, no_outline, begun, ahead, better_choice}
use Rattle.first_runs.specs.OutlineLaws.{not_ahead-trans, ahead-asym, ahead_self, not_ahead-cost, dearer_not_ahead, alike_not_ahead, more_not_ahead}

module _ (t : Tariff) (ds costs counts : List ℕ) where
  -- The cutting that begins with i + 1 periods in the bucket (r, B).
  abbrev pub starts_with : ℕ → ℕ → ℕ → Outline
  starts_with i r B = begun costs counts i (cost_of t (i + 1) (bucket_of r B))

  -- None that begins with i + 1 periods at rate r is chosen before o, whatever the depth.
  abbrev pub Passed : Outline → ℕ → ℕ → Type 0
  Passed o r i = (B : ℕ) → Serves t (take (i + 1) ds) (bucket_of r B) → ahead (starts_with i r B) o ≡ false

  -- o is that of no cutting, or of one whose first run is served.
  pub record Served (o : Outline) : Type 0 where
    pub place : ℕ
    pub rate : ℕ
    pub depth : ℕ
    pub inside : place < length ds
    pub serves : Serves t (take (place + 1) ds) (bucket_of rate depth)
    pub is : o ≡ starts_with place rate depth
    pub below : o.cost < unpriced

  abbrev pub Kind : Outline → Type 0
  Kind o = (o ≡ no_outline) ⊎ Served o

  pub kind-cost : (o : Outline) → Kind o → o.cost ≤ unpriced
  kind-cost o k = ⊎_elim (λ e. le_of_eq (ap (λ (x : Outline). x.cost) e)) (λ s. omega (arith, s.below)) k

  -- What is kept stays passed when something better is kept.
  pub passed_on : (o n : Outline) (r i : ℕ) → ahead o n ≡ false → Passed o r i → Passed n r i
  passed_on o n r i h p B s = not_ahead-trans n o (starts_with i r B) h (p B s)

  -- ---- One run

  passed_dear : (o : Outline) (r i charge : ℕ)
      → ((B : ℕ) → Serves t (take (i + 1) ds) (bucket_of r B) → charge ≤ charge_of t (bucket_of r B))
      → o.cost < cost_at t (i + 1) charge + get_or costs i 0 → Passed o r i
  unfolding cost_of
  passed_dear o r i charge least l B s =
      dearer_not_ahead o (starts_with i r B) (omega (arith, l, mul-le-mul_right (i + 1) (least B s)))

  module _ (low high r charge i : ℕ) (l : low ≤ r) (m : r ≤ high) (e : charge ≡ charge_at t low (tariff_depth t high (take (i + 1) ds))) where
    least-from : (j B : ℕ) → i ≤ j → Serves t (take (j + 1) ds) (bucket_of r B) → charge ≤ charge_of t (bucket_of r B)
    least-from j B n s = le_trans (le_of_eq e) (charge_least t ds low high r (i + 1) (j + 1) B l m (omega arith) s)

    -- A run that costs more even at the walk's charge, and all runs from where the walk can stop.
    pub end_passed : (o : Outline) → o.cost < cost_at t (i + 1) charge + get_or costs i 0 → Passed o r i
    end_passed o k = passed_dear o r i charge (λ B s. least-from i B (le_refl i) s) k

    pub stop_passed : (o : Outline) (stops : List ℕ) → Stops t o.cost costs stops → get_or stops i 0 ≤ charge
        → (j : ℕ) → i ≤ j → j < length costs → Passed o r j
    stop_passed o stops k n j x y = passed_dear o r j charge (λ B s. least-from j B x s) (k.beyond i j charge x y n)

  -- What is kept once the run of i + 1 periods is weighed at rate r.
  pub record RunWeighed (r i : ℕ) (old new : Choice) : Type 0 where
    pub kind : Kind new.outline
    pub rate : new.rate.0 ≤ t.rate_cap.0
    pub kept : ahead old.outline new.outline ≡ false
    pub passed : Passed new.outline r i

  -- A run weighed at its smallest depth.
  module _ (r i B : ℕ) (inside : i < length ds) (slow : r ≤ t.rate_cap.0) (e : tariff_depth t r (take (i + 1) ds) ≡ figures B) where
    abbrev this : Outline
    this = starts_with i r B

    this_serves : Serves t (take (i + 1) ds) (bucket_of r B)
    this_serves = record { rates = slow; depths = depth-within _ _ _ _ _ e; carried = depth-carries _ _ _ _ _ e }

    this_passed : Passed this r i
    this_passed C s =
        alike_not_ahead this (starts_with i r C) (add-le-add (cost_mono t (i + 1) (bucket_of r B) (bucket_of r C) (le_refl r) (depth-least _ _ _ _ _ e C s.carried)) (le_refl _)) refl refl

    -- It is kept only where it has a cost.
    this_below : (o : Outline) → Kind o → ahead this o ≡ true → this.cost < unpriced
    this_below o k h = go (leb unpriced this.cost) refl
      where
        not : unpriced ≤ this.cost → ahead this o ≡ false
        not l =
            ⊎_elim (λ f. subst (λ (x : Outline). ahead this x ≡ false) (sym f) (more_not_ahead no_outline this l (omega arith)))
            (λ s. dearer_not_ahead o this (omega (arith, s.below))) k

        go : (b : Bool) → leb unpriced this.cost ≡ b → this.cost < unpriced
        go true f = absurd (true-false h (not (leb-true _ _ f)))
        go false f = leb-false _ _ f

    pub run-kept : (old run : Choice) → Kind old.outline → old.rate.0 ≤ t.rate_cap.0 → run.outline ≡ this
        → run.rate.0 ≡ r → RunWeighed r i old (better_choice old run)
    unfolding better_choice
    run-kept old run k n f g = go (ahead run.outline old.outline) refl
      where
        at_this : (P : Outline → Type 0) → P this → P run.outline
        at_this P x = subst P (sym f) x

        go : (b : Bool) → ahead run.outline old.outline ≡ b → RunWeighed r i old (cond b run old)
        go true h =
            let below = this_below old.outline k (subst (λ (x : Outline). ahead x old.outline ≡ true) f h) in
            record {
              kind = inr (record { place = i; rate = r; depth = B; inside = inside; serves = this_serves; is = f; below = at_this (λ (x : Outline). x.cost < unpriced) below });
              kept = ahead-asym run.outline old.outline h;
              passed = at_this (λ (x : Outline). Passed x r i) this_passed;
              rate = omega (arith, g);
            }
        go false h =
            record {
              kind = k;
              kept = ahead_self old.outline;
              passed = passed_on run.outline old.outline r i h (at_this (λ (x : Outline). Passed x r i) this_passed);
              rate = n;
            }

  -- ---- Some rates

  -- What bounds the lists that the search adds up.
  pub record Rests : Type 0 where
    pub tariffs : TariffRange t
    pub few : length ds ≤ trace_limit
    pub costs_all : length costs ≡ length ds
    pub counts_all : length counts ≡ length ds
    pub cost : (i : ℕ) → i < length ds → get_or costs i 0 ≤ unpriced
    pub count : (i : ℕ) → i < length ds → get_or counts i 0 ≤ trace_limit

  -- What the search rests on, and what is found so far.
  pub record Searching (stops : List ℕ) (c : Choice) : Type 0 where
    pub rests : Rests
    pub stopped : Stops t c.outline.cost costs stops
    pub kind : Kind c.outline
    pub rate : c.rate.0 ≤ t.rate_cap.0

  -- The rates from low to below end are weighed: none is chosen before what is found now.
  pub record Weighed (low end : ℕ) (old new : Choice) : Type 0 where
    pub kind : Kind new.outline
    pub rate : new.rate.0 ≤ t.rate_cap.0
    pub kept : ahead old.outline new.outline ≡ false
    pub passed : (r i : ℕ) → low ≤ r → r < end → i < length ds → Passed new.outline r i

  -- Where the answer is no, none of the rates from low to high is chosen before what is found.
  abbrev pub PassedOver : ℕ → ℕ → Choice → Bool → Type 0
  PassedOver low high c b = b ≡ false → (r i : ℕ) → low ≤ r → r ≤ high → i < length ds → Passed c.outline r i

  pub searching_on : {stops : List ℕ} {low end : ℕ} {old new : Choice} → Searching stops old → Weighed low end old new
      → Searching stops new
  searching_on k w =
      record {
        rests = k.rests;
        stopped = stops_lower (not_ahead-cost _ _ w.kept) k.stopped;
        kind = w.kind;
        rate = w.rate;
      }

  pub weighed_none : {stops : List ℕ} {c : Choice} (low : ℕ) → Searching stops c → Weighed low low c c
  weighed_none low k = record { kind = k.kind; rate = k.rate; kept = ahead_self _; passed = λ r i l m n. absurd (omega arith) }

  pub weighed-over : {stops : List ℕ} {c : Choice} (low high end : ℕ) → end ≤ high + 1 → Searching stops c
      → (b : Bool) → b ≡ false → PassedOver low high c b → Weighed low end c c
  weighed-over low high end h k b e p = record { kind = k.kind; rate = k.rate; kept = ahead_self _; passed = λ r i l m n. p e r i l (omega arith) n }

  pub weighed_then : {low mid end : ℕ} {a b c : Choice} → Weighed low mid a b → Weighed mid end b c
      → Weighed low end a c
  weighed_then {low} {mid} {end} {a} {b} {c} k l =
      record {
        kind = l.kind;
        rate = l.rate;
        kept = not_ahead-trans c.outline b.outline a.outline l.kept k.kept;
        passed = λ r i m n o. go r i m n o (leb mid r) refl;
      }
    where
      go : (r i : ℕ) → low ≤ r → r < end → i < length ds → (x : Bool) → leb mid r ≡ x → Passed c.outline r i
      go r i m n o true e = l.passed r i (leb-true _ _ e) n o
      go r i m n o false e = passed_on b.outline c.outline r i l.kept (k.passed r i m (leb-false _ _ e) o)

  -- After some turns the rates from low to below next are weighed.
  pub record Turns (low end : ℕ) (old new : Choice) (next : ℕ) : Type 0 where
    pub inside : next ≤ end
    pub weighed : Weighed low next old new

  -- No rate above the greatest demand need be weighed: at that demand depth 0 carries.
  weighed_all : {old new : Choice} → Weighed 0 (weighed t ds) old new → (r i : ℕ) → r ≤ t.rate_cap.0 → i < length ds
      → Passed new.outline r i
  weighed_all {old} {new} w r i l m = go (leb (weighed t ds) r) refl
    where
      go : (b : Bool) → leb (weighed t ds) r ≡ b → Passed new.outline r i
      go false e = w.passed r i (omega arith) (leb-false _ _ e) m
      go true e = λ B s.
          let n : greatest ds < r = omega (arith, leb-true (weighed t ds) r e) in
          let y = start_of t.factor.p t.factor.q 0 in
          let c =
          front-carried (greatest ds) 0 y (i + 1) (length ds) ds (omega arith) (rw (take-length ds) (greatest-carries (greatest ds) 0 y ds (le_refl _))) in
          let zero-serves : Serves t (take (i + 1) ds) (bucket_of (greatest ds) 0) =
          record { rates = omega arith; depths = omega arith; carried = c } in
          not_ahead-trans new.outline (starts_with i (greatest ds) 0) (starts_with i r B) (w.passed (greatest ds) i (omega arith) (omega arith) m 0 zero-serves)
          (alike_not_ahead _ _ (add-le-add (cost_mono t (i + 1) (bucket_of (greatest ds) 0) (bucket_of r B) (omega arith) (omega arith)) (le_refl _)) refl refl)

  -- The best first run of all: it is attained, and none is chosen before it.
  pub record BestFirst (c : Choice) : Type 0 where
    pub kind : Kind c.outline
    pub rate : c.rate.0 ≤ t.rate_cap.0
    pub passed : (r i : ℕ) → r ≤ t.rate_cap.0 → i < length ds → Passed c.outline r i

  pub best_of_all : {old new : Choice} → Weighed 0 (weighed t ds) old new → BestFirst new
  best_of_all w = record { kind = w.kind; rate = w.rate; passed = weighed_all w }
