-- One walk to the right: after i periods the runs of 1 to i periods are weighed, or shown to cost more than what is
-- found; and where the walk stops all longer ones cost more too.
-- Assumes nothing.
use Rattle.std.specs.Prelude.{ℕ, ◌+◌, ◌≤◌, ◌<◌, ◌≡◌, refl, Bool, true, false, List, leb, length, take}
use Rattle.std.proofs.Common.{arith, le_refl, le_trans, le_of_eq, le_antisymm, sym, subst, ◌∙◌, below_more, leb-true, leb-false}
use Rattle.std.proofs.Math.Path.{ap}
use Rattle.std.proofs.Math.ListN.{get_or}
use Rattle.terms.specs.declared.Tariff.{Tariff}
use Rattle.terms.specs.Answer.{figures}
use Rattle.depth.specs.Depth.{tariff_depth}
use Rattle.depth.specs.DepthLaws.{depth-within}
use Rattle.single.specs.Cost.{cost_at, cost_of}
use Rattle.single.specs.CostLaws.{period_limit, charge_le}
use Rattle.first_runs.specs.declared.charges.Charged.{Charged}
use Rattle.first_runs.specs.declared.outlines.Choice.{Choice}
use Rattle.first_runs.specs.declared.outlines.Outline.{Outline}
use Rattle.first_runs.specs.Charge.{no_charge, charge_at, Stepped}
use Rattle.first_runs.specs.ChargeLaws.{Walked, walked_next, walked_charge, charge_found, in_range, stops_lower}
use Rattle.first_runs.specs.Outline.{ahead, better_choice}
use Rattle.first_runs.specs.OutlineLaws.{not_ahead-trans, ahead_self, not_ahead-cost}
use Rattle.first_runs.specs.SearchLaws.{Passed, Kind, RunWeighed, Searching, Weighed, starts_with, passed_on, end_passed, stop_passed, run-kept}

module _ (t : Tariff) (ds costs counts : List ℕ) (found : Choice) where
  -- The runs of 1 to i periods, at the rates from low to high, are not chosen before what is found.
  pub record Passing (low high : ℕ) (c : Charged) (i : ℕ) : Type 0 where
    pub walk : Walked t high ds i c
    pub passed : (r j : ℕ) → low ≤ r → r ≤ high → j < i → Passed t ds costs counts found.outline r j

  -- What is kept once the runs of 1 to i periods are weighed at rate r.
  pub record Weighing (r : ℕ) (best : Choice) (c : Charged) (i : ℕ) : Type 0 where
    pub walk : Walked t r ds i c
    pub kind : Kind t ds costs counts best.outline
    pub rate : best.rate.0 ≤ t.rate_cap.0
    pub kept : ahead found.outline best.outline ≡ false
    pub passed : (j : ℕ) → j < i → Passed t ds costs counts best.outline r j

module _ (t : Tariff) (ds costs counts stops : List ℕ) (found : Choice) (k : Searching t ds costs counts stops found) where
  -- ---- A walk at the high rate with the charges of the low one

  module _ (high low i : ℕ) (c n : Charged) (w : Walked t high ds i c) (l : i < length ds) (s : Stepped t high low (get_or ds i 0) c n) where
    charge_is : n.charge ≡ charge_at t low (tariff_depth t high (take (i + 1) ds))
    charge_is = walked_charge t high ds i c w l low n s k.rests.tariffs.factor

    goes_on : n.charge < get_or stops i 0 → n.charge < no_charge
    goes_on m = omega (arith, k.stopped.below i (omega (arith, k.rests.costs_all)))

    -- The depth that is found, where the walk does not stop.
    pub depth-found : n.charge < get_or stops i 0 → (B : ℕ) × (tariff_depth t high (take (i + 1) ds) ≡ figures B)
    depth-found m =
        charge_found t low (tariff_depth t high (take (i + 1) ds)) (subst (λ (x : ℕ). x < no_charge) charge_is (goes_on m))

    pub charge_limit : low ≤ t.rate_cap.0 → n.charge < get_or stops i 0 → n.charge ≤ period_limit
    charge_limit slow m =
        let f = depth-found m in
        le_trans (le_of_eq (charge_is ∙ ap (charge_at t low) f.1)) (charge_le k.rests.tariffs (in_range t k.rests.tariffs low f.0 slow (depth-within _ _ _ _ _ f.1)))

    pub walk_on : n.charge < get_or stops i 0 → Walked t high ds (i + 1) n
    walk_on m = walked_next t high ds i c w l low n s (goes_on m)

    -- Where the walk stops, no run of more than i periods is chosen before what is found, or before what costs no more.
    pub stopped-passed : (o : Outline) → o.cost ≤ found.outline.cost → get_or stops i 0 ≤ n.charge
        → (r j : ℕ) → low ≤ r → r ≤ high → i ≤ j → j < length ds → Passed t ds costs counts o r j
    stopped-passed o m x r j a b y z =
        stop_passed t ds costs counts low high r n.charge i a b charge_is o stops (stops_lower m k.stopped) x j y (omega (arith, k.rests.costs_all))

    -- Nor is a run that costs more at the walk's charge.
    pub dear_passed : (o : Outline) → o.cost < cost_at t (i + 1) n.charge + get_or costs i 0 → (r : ℕ) → low ≤ r
        → r ≤ high → Passed t ds costs counts o r i
    dear_passed o m r a b = end_passed t ds costs counts low high r n.charge i a b charge_is o m

  -- ---- Looking at some rates together

  module _ (low high : ℕ) where
    pub passing_start : (c : Charged) → Walked t high ds 0 c → Passing t ds costs counts found low high c 0
    passing_start c w = record { walk = w; passed = λ r j a b l. absurd (omega arith) }

    module _ (i : ℕ) (c n : Charged) (p : Passing t ds costs counts found low high c i) (l : i < length ds) (s : Stepped t high low (get_or ds i 0) c n) where
      pub passing_next : n.charge < get_or stops i 0
          → found.outline.cost < cost_at t (i + 1) n.charge + get_or costs i 0
          → Passing t ds costs counts found low high n (i + 1)
      passing_next m x =
          record {
            walk = walk_on high low i c n p.walk l s m;
            passed = λ r j a b. below_more (λ j. Passed t ds costs counts found.outline r j) i (λ j y. p.passed r j a b y) (dear_passed high low i c n p.walk l s found.outline x r a b) j;
          }

      pub passing_stop : get_or stops i 0 ≤ n.charge → (r j : ℕ) → low ≤ r → r ≤ high → j < length ds
          → Passed t ds costs counts found.outline r j
      passing_stop m r j a b z = go (leb i j) refl
        where
          go : (x : Bool) → leb i j ≡ x → Passed t ds costs counts found.outline r j
          go true e = stopped-passed high low i c n p.walk l s found.outline (le_refl _) m r j a b (leb-true _ _ e) z
          go false e = p.passed r j a b (leb-false _ _ e)

  -- ---- Weighing one rate

  module _ (r : ℕ) where
    pub weighing_start : (c : Charged) → Walked t r ds 0 c → Weighing t ds costs counts found r found c 0
    weighing_start c w = record { walk = w; kind = k.kind; rate = k.rate; kept = ahead_self found.outline; passed = λ j l. absurd (omega arith) }

    -- What is passed at this rate is at all from it to below the next.
    all_weighed : (best : Choice) → Kind t ds costs counts best.outline → best.rate.0 ≤ t.rate_cap.0
        → ahead found.outline best.outline ≡ false
        → ((j : ℕ) → j < length ds → Passed t ds costs counts best.outline r j) → Weighed t ds costs counts r (r + 1) found best
    all_weighed best kind rate kept p =
        record {
          kind = kind;
          rate = rate;
          kept = kept;
          passed = λ x j a b z. subst (λ (y : ℕ). Passed t ds costs counts best.outline y j) (le_antisymm a (omega arith)) (p j z);
        }

    module _ (best : Choice) (i : ℕ) (c : Charged) (g : Weighing t ds costs counts found r best c i) where
      module _ (n : Charged) (l : i < length ds) (s : Stepped t r r (get_or ds i 0) c n) where
        pub weighing_stop : get_or stops i 0 ≤ n.charge → Weighed t ds costs counts r (r + 1) found best
        weighing_stop m = all_weighed best g.kind g.rate g.kept (λ j z. go j z (leb i j) refl)
          where
            go : (j : ℕ) → j < length ds → (x : Bool) → leb i j ≡ x → Passed t ds costs counts best.outline r j
            go j z true e =
                stopped-passed r r i c n g.walk l s best.outline (not_ahead-cost _ _ g.kept) m r j (le_refl r) (le_refl r) (leb-true _ _ e) z
            go j z false e = g.passed j (leb-false _ _ e)

        module _ (slow : r ≤ t.rate_cap.0) (m : n.charge < get_or stops i 0) (cost : ℕ) (e : cost ≡ cost_at t (i + 1) n.charge + get_or costs i 0) where
          abbrev this : Choice
          this = record { outline = record { cost = cost; buckets = get_or counts i 0 + 1; first = i + 1 }; rate = record { 0 = r } }

          depth : (B : ℕ) × (tariff_depth t r (take (i + 1) ds) ≡ figures B)
          depth = depth-found r r i c n g.walk l s m

          this_is : this.outline ≡ starts_with t ds costs counts i r depth.0
          unfolding cost_of
          this_is =
              ap (λ (x : ℕ). record { cost = x; buckets = get_or counts i 0 + 1; first = i + 1 })
              (e ∙ ap (λ (x : ℕ). cost_at t (i + 1) x + get_or costs i 0) (charge_is r r i c n g.walk l s ∙ ap (charge_at t r) depth.1))

          kept_this : RunWeighed t ds costs counts r i best (better_choice best this)
          kept_this = run-kept t ds costs counts r i depth.0 l slow depth.1 best this g.kind g.rate this_is refl

          pub weighing_next : (next : Choice) → next ≡ better_choice best this
              → Weighing t ds costs counts found r next n (i + 1)
          weighing_next next f =
              let x : RunWeighed t ds costs counts r i best next =
              subst (RunWeighed t ds costs counts r i best) (sym f) kept_this in
              record {
                walk = walk_on r r i c n g.walk l s m;
                kind = x.kind;
                rate = x.rate;
                kept = not_ahead-trans _ _ _ x.kept g.kept;
                passed =
                    below_more (λ j. Passed t ds costs counts next.outline r j) i
                    (λ j y. passed_on t ds costs counts best.outline next.outline r j x.kept (g.passed j y)) x.passed;
              }
