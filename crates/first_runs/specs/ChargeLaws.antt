-- A walk's charge is the least at every rate up to the walk's and for every longer run: a faster bucket needs no more
-- depth, a longer run no less. And the charges at which a walk can stop.
-- Assumes nothing.
use Rattle.std.specs.Prelude.{ℕ, zero, suc, ◌+◌, ◌-◌, ◌*◌, ◌/◌, ◌≤◌, ◌<◌, max, ◌≡◌, refl, Bool, true, false, cond, ◌&&◌, List, [], ◌∷◌, eqb, leb, length, take, get_or, set}
use Rattle.std.proofs.Common.{arith, le_of_eq, le_trans, le_antisymm, lt_of_le_of_lt, add-le-add, zero-mul, mul-le-mul_left, mul-one, div-lt_iff_lt-mul, div-le_self, sym, subst, ◌∙◌, eqb-true, le-leb, get_or-set_same, get_or-set_other}
use Rattle.std.proofs.Math.Nat.{max-le, le-max_left, le-max_right}
use Rattle.std.proofs.Math.Path.{ap}
use Rattle.std.proofs.Math.Bool.{and-true}
use Rattle.std.proofs.lemmas.Bool.{eqb-false, lt-leb}
use Rattle.terms.specs.declared.Tariff.{Tariff}
use Rattle.terms.specs.Answer.{Answer, figures, refused}
use Rattle.terms.specs.AnswerLaws.{figures-refused, same-figures}
use Rattle.terms.specs.Bools.{and_both, both_and}
use Rattle.terms.specs.Limits.{rate_limit, trace_limit}
use Rattle.terms.specs.RangeRules.{BucketRange, FactorRange, TariffRange}
use Rattle.bucket.specs.Step.{over, held}
use Rattle.bucket.specs.Trace.{Demands, carries, carries_from}
use Rattle.bucket.specs.Laws.{carries_faster}
use Rattle.depth.specs.declared.walk.Walk.{Walk}
use Rattle.depth.specs.CeilingLaws.{ceiling-le}
use Rattle.depth.specs.Depth.{tariff_depth}
use Rattle.depth.specs.DepthLaws.{depth-some, depth-least, depth-walk}
use Rattle.depth.specs.Walk.{started, pushed, walk_of, ceiling, cap_meets, depth_from}
use Rattle.depth.specs.WalkLaws.{walk_next}
use Rattle.depth.specs.WalkRanges.{WalkRange, walk_range_take, range_more}
use Rattle.single.specs.Cost.{charge_of, cost_at}
use Rattle.single.specs.Single.{Serves, bucket_of}
use Rattle.first_runs.specs.declared.charges.Charged.{Charged}
use Rattle.first_runs.specs.Charge.{walk_depth, no_charge, charge_at, Stepped, StopsAt, Stops, Far}
use Rattle.first_runs.specs.Outline.{unpriced}

-- What carries some periods carries the first of them.
pub front-carried : (r B y i j : ℕ) (ds : List ℕ) → i ≤ j → carries_from r B y (take j ds) ≡ true
    → carries_from r B y (take i ds) ≡ true
unfolding carries_from
front-carried r B y zero j ds l h = refl
front-carried r B y (suc i) zero ds l h = absurd (omega arith)
front-carried r B y (suc i) (suc j) [] l h = refl
front-carried r B y (suc i) (suc j) (d ∷ ds) l h =
    let k = and_both (eqb (over r y d) 0) (carries_from r B (held r B y d) (take j ds)) h in
    both_and k.0 (front-carried r B (held r B y d) i j ds (omega arith) k.1)

-- The greater of three.
raised : (s c u : ℕ) → s ≤ u → max (max s c) u ≡ max u c
raised s c u l =
    le_antisymm (max-le (max-le (le_trans l (le-max_left u c)) (le-max_right u c)) (le-max_left u c))
    (max-le (le-max_right (max s c) u) (le_trans (le-max_right s c) (le-max_left (max s c) u)))

module _ (t : Tariff) (ds : List ℕ) where
  -- Whatever bucket with a rate from low to high serves a run,
  -- it costs at least the low rate with the depth that the high one needs for the run's front.
  pub charge_least : (low high r i j B : ℕ) → low ≤ r → r ≤ high → i ≤ j → Serves t (take j ds) (bucket_of r B)
      → charge_at t low (tariff_depth t high (take i ds)) ≤ charge_of t (bucket_of r B)
  charge_least low high r i j B l m n s =
      let p = t.factor.p in
      let q = t.factor.q in
      let c : carries p q high B (take i ds) ≡ true =
      front-carried high B _ i j ds n (carries_faster p q r B (take j ds) high m s.carried) in
      let some = depth-some p q t.depth_cap.0 high (take i ds) B s.depths c in
      subst (λ (o : Answer ℕ). charge_at t low o ≤ charge_of t (bucket_of r B)) (sym some.1)
      (add-le-add (mul-le-mul_left t.rate_price.0 l) (mul-le-mul_left t.depth_price.0 (depth-least p q t.depth_cap.0 high (take i ds) some.1 B c)))

-- ---- The depth of a walk, a period at a time

-- A walk's stretch never falls.
pub pushed-stretch : (r d : ℕ) (w : Walk) → w.stretch ≤ (pushed r w d).stretch
unfolding pushed
pushed-stretch r d w = le-max_left w.stretch _

-- No period needs no depth.
pub started-depth : (p q limit : ℕ) → depth_from p q limit started ≡ figures 0
unfolding depth_from
started-depth p q limit =
    let z : ceiling (0 * q) p ≡ 0 =
    le_antisymm (ceiling-le (0 * q) p 0 (le_trans (le_of_eq (zero-mul q)) (omega arith))) (omega arith) in
    rw (le-leb 0 limit (omega arith), le-leb (0 * q) (p * limit) (le_trans (le_of_eq (zero-mul q)) (omega arith)), z)

-- Where a period does not raise the opening, the depth is raised to the stretch alone.
same-opening : (p q limit B : ℕ) (old new : Walk) → depth_from p q limit old ≡ figures B → new.opening ≡ old.opening
    → old.stretch ≤ new.stretch
    → cond (leb new.stretch limit) (figures (max B new.stretch)) (refused 7) ≡ depth_from p q limit new
unfolding depth_from
same-opening p q limit B old new e f l = go (cap_meets p q limit old) refl e
  where
    go : (b : Bool) → cap_meets p q limit old ≡ b
        → cond b (figures (max old.stretch (ceiling (old.opening * q) p))) (refused 7) ≡ figures B
        → cond (leb new.stretch limit) (figures (max B new.stretch)) (refused 7)
        ≡ cond (leb new.stretch limit && leb (new.opening * q) (p * limit)) (figures (max new.stretch (ceiling (new.opening * q) p))) (refused 7)
    go true h g =
        let k = and_both (leb old.stretch limit) (leb (old.opening * q) (p * limit)) h in
        let m : max B new.stretch ≡ max new.stretch (ceiling (old.opening * q) p) =
        ap (λ (n : ℕ). max n new.stretch) (sym (same-figures g)) ∙ raised old.stretch (ceiling (old.opening * q) p) new.stretch l in
        rw (f, k.1, and-true (leb new.stretch limit), m)
    go false h g = absurd (figures-refused (sym g))

module _ (t : Tariff) (old new : Walk) (B : ℕ) (e : walk_depth t old ≡ figures B) (f : old.opening ≡ new.opening) (l : old.stretch ≤ new.stretch) where
  abbrev up_to : Bool → Answer ℕ
  up_to b = cond b (figures (max B new.stretch)) (refused 7)

  raised_is : (b : Bool) → b ≡ leb new.stretch t.depth_cap.0 → up_to b ≡ walk_depth t new
  raised_is b g = ap up_to g ∙ same-opening t.factor.p t.factor.q t.depth_cap.0 B old new e (sym f) l

  pub depth_above : t.depth_cap.0 < new.stretch → refused 7 ≡ walk_depth t new
  depth_above m = raised_is false (sym (lt-leb _ _ m))

  pub depth_raised : new.stretch ≤ t.depth_cap.0 → figures (max B new.stretch) ≡ walk_depth t new
  depth_raised m = raised_is true (sym (le-leb _ _ m))

-- A charge below what stands for none is that of a depth.
pub charge_found : (t : Tariff) (r : ℕ) (o : Answer ℕ) → charge_at t r o < no_charge → (B : ℕ) × (o ≡ figures B)
charge_found t r (figures B) l = (B, refl)
charge_found t r (refused n) l = absurd (omega arith)

module _ (t : Tariff) (h : TariffRange t) (r B : ℕ) (l : r ≤ t.rate_cap.0) (m : B ≤ t.depth_cap.0) where
  pub in_range : BucketRange (bucket_of r B)
  in_range = record { rates = le_trans l h.rate_caps; depths = le_trans m h.depth_caps }

-- After i periods of a walk at rate `high`.
pub record Walked (t : Tariff) (high : ℕ) (ds : List ℕ) (i : ℕ) (c : Charged) : Type 0 where
  pub inside : i ≤ length ds
  pub walk : c.walk ≡ walk_of high (take i ds)
  pub depth : walk_depth t c.walk ≡ figures c.depth.0

module _ (t : Tariff) (high : ℕ) (ds : List ℕ) where
  pub walked_start : (c : Charged) → c.walk ≡ started → c.depth.0 ≡ 0 → Walked t high ds 0 c
  unfolding walk_of
  walked_start c e f =
      record { inside = omega arith; walk = e; depth = ap (walk_depth t) e ∙ started-depth t.factor.p t.factor.q t.depth_cap.0 ∙ ap figures (sym f) }

  module _ (i : ℕ) (c : Charged) (k : Walked t high ds i c) (l : i < length ds) where
    pub walked-room : high ≤ rate_limit → Demands ds → length ds ≤ trace_limit → WalkRange (trace_limit - 1) c.walk
    walked-room hr h n = rw k.walk (range_more (omega arith) (walk_range_take high i ds hr h k.inside))

    module _ (low : ℕ) (n : Charged) (s : Stepped t high low (get_or ds i 0) c n) where
      stepped_walk : n.walk ≡ walk_of high (take (i + 1) ds)
      stepped_walk = s.walked ∙ ap (λ (w : Walk). pushed high w (get_or ds i 0)) k.walk ∙ sym (walk_next high ds i l)

      pub walked_next : n.charge < no_charge → Walked t high ds (i + 1) n
      walked_next m = record { inside = omega arith; walk = stepped_walk; depth = s.found m }

      pub walked_charge : FactorRange t.factor → n.charge ≡ charge_at t low (tariff_depth t high (take (i + 1) ds))
      walked_charge h =
          s.charged ∙ ap (λ (w : Walk). charge_at t low (walk_depth t w)) stepped_walk
          ∙ ap (charge_at t low) (depth-walk t.factor.p t.factor.q t.depth_cap.0 high (take (i + 1) ds) h.part h.some)

-- ---- The charges at which a walk can stop

-- The least charge at which so many periods and the rest cost more than what is known.
pub stops_at : (known rest n : ℕ) → 1 ≤ n → known ≤ unpriced → StopsAt known rest n ((known - rest) / n + 1)
stops_at known rest n some l =
    record {
      few = omega (arith, div-le_self (known - rest) n);
      beyond = λ c m. let k : known - rest < c * n = (div-lt_iff_lt-mul some).0 (omega arith) in omega (arith, k);
    }

pub stops_at_once : (known rest n : ℕ) → known < rest → StopsAt known rest n 0
stops_at_once known rest n l = record { few = omega arith; beyond = λ c m. omega arith }

-- What is known of the list once it is filled from the end down to the entry `from`,
-- the last entry filled being `charge`.
pub record Stopping (t : Tariff) (known : ℕ) (costs : List ℕ) (from charge : ℕ) (stops : List ℕ) : Type 0 where
  pub few : charge < no_charge
  pub all : (j c : ℕ) → from ≤ j → j < length costs → charge ≤ c → known < cost_at t (j + 1) c + get_or costs j 0
  pub below : (i : ℕ) → from ≤ i → i < length costs → get_or stops i 0 < no_charge
  pub beyond : (i j c : ℕ) → from ≤ i → i ≤ j → j < length costs → get_or stops i 0 ≤ c
      → known < cost_at t (j + 1) c + get_or costs j 0

module _ (t : Tariff) (known : ℕ) (costs stops : List ℕ) where
  pub stopping_start : (from : ℕ) → length costs ≤ from → Stopping t known costs from 0 stops
  stopping_start from l =
      record {
        few = omega arith;
        all = λ j c m n k. absurd (omega arith);
        below = λ i m n. absurd (omega arith);
        beyond = λ i j c m n k e. absurd (omega arith);
      }

  module _ (from charge stop : ℕ) (room : from < length stops) (k : Stopping t known costs (suc from) charge stops) (low : stop < no_charge)
      (here : (c : ℕ) → stop ≤ c → known < cost_at t (from + 1) c + get_or costs from 0) where
    abbrev next : ℕ
    next = max charge stop

    abbrev filled : List ℕ
    filled = set stops from next

    next_all : (j c : ℕ) → from ≤ j → j < length costs → next ≤ c → known < cost_at t (j + 1) c + get_or costs j 0
    next_all j c l m n = go (eqb j from) refl
      where
        go : (b : Bool) → eqb j from ≡ b → known < cost_at t (j + 1) c + get_or costs j 0
        go true e =
            subst (λ (i : ℕ). known < cost_at t (i + 1) c + get_or costs i 0) (sym (eqb-true j from e)) (here c (le_trans (le-max_right charge stop) n))
        go false e = k.all j c (omega (arith, eqb-false)) m (le_trans (le-max_left charge stop) n)

    next_few : next < no_charge
    next_few = omega (arith, k.few)

    pub stopping_more : Stopping t known costs from next filled
    stopping_more =
        record {
          few = next_few;
          all = next_all;
          below = λ i l m. entry (λ (n : ℕ). n < no_charge) i next_few (λ n. k.below i (omega arith) m);
          beyond = λ i j c l m n.
              entry (λ (x : ℕ). x ≤ c → known < cost_at t (j + 1) c + get_or costs j 0) i (λ e. next_all j c (omega arith) n e) (λ f. k.beyond i j c (omega arith) m n);
        }
      where
        entry : (P : ℕ → Type 0) (i : ℕ) → P next → ((i ≡ from → ⊥) → P (get_or stops i 0)) → P (get_or filled i 0)
        entry P i new old = go (eqb i from) refl
          where
            go : (b : Bool) → eqb i from ≡ b → P (get_or filled i 0)
            go true e = subst P (sym (ap (λ (n : ℕ). get_or filled n 0) (eqb-true i from e) ∙ get_or-set_same stops from next 0 room)) new
            go false e = subst P (sym (get_or-set_other stops from i next 0 (eqb-false i from e))) (old (eqb-false i from e))

  pub stopping_end : (charge : ℕ) → length costs ≤ length stops → Stopping t known costs 0 charge stops → Stops t known costs stops
  stopping_end charge room k = record { room = room; below = λ i l. k.below i (omega arith) l; beyond = λ i j c l m n. k.beyond i j c (omega arith) l m n }

-- A smaller cost known is still passed.
pub stops_lower : {t : Tariff} {known less : ℕ} {costs stops : List ℕ} → less ≤ known → Stops t known costs stops
    → Stops t less costs stops
stops_lower l k = record { room = k.room; below = k.below; beyond = λ i j c m n o. lt_of_le_of_lt l (k.beyond i j c m n o) }

-- Charges far out of reach stop no walk.
pub stops_far : (t : Tariff) (costs far : List ℕ) → length costs ≤ trace_limit → Far far → Stops t unpriced costs far
stops_far t costs far few k =
    record {
      room = le_trans few k.room;
      below = λ i l. subst (λ (n : ℕ). n < no_charge) (sym (k.each i (omega arith))) (omega arith);
      beyond = λ i j c l m n.
          let f : unpriced + 1 ≤ c = le_trans (le_of_eq (sym (k.each i (omega arith)))) n in
          let g : c ≤ c * (j + 1) = subst (λ (x : ℕ). x ≤ c * (j + 1)) (mul-one c) (mul-le-mul_left c (omega arith)) in
          omega (arith, f, g);
    }
