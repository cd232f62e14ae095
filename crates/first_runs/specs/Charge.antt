-- The charge of a walk through a trace, and from which charge on it can stop.
-- Assumes nothing.
use Rattle.std.specs.Prelude.{ℕ, ◌+◌, ◌*◌, ◌≤◌, ◌<◌, ◌≡◌, List, length, get_or}
use Rattle.terms.specs.declared.Tariff.{Tariff}
use Rattle.terms.specs.Answer.{Answer, figures, refused}
use Rattle.terms.specs.Limits.{trace_limit}
use Rattle.depth.specs.declared.walk.Walk.{Walk}
use Rattle.depth.specs.Walk.{pushed, depth_from}
use Rattle.single.specs.Cost.{charge_of, cost_at}
use Rattle.single.specs.Single.{bucket_of}
use Rattle.first_runs.specs.declared.charges.Charged.{Charged}
use Rattle.first_runs.specs.Outline.{unpriced}

-- The depth that the periods walked need.
abbrev pub walk_depth : Tariff → Walk → Answer ℕ
walk_depth t w = depth_from t.factor.p t.factor.q t.depth_cap.0 w

-- Stands for the charge where there is no depth. Every charge is below it (`ChargeLaws.charge_found`).
abbrev pub no_charge : ℕ
no_charge = 2000000000000000000

-- The charge of a rate with a depth, if there is one.
abbrev pub charge_at : Tariff → ℕ → Answer ℕ → ℕ
charge_at t r (figures B) = charge_of t (bucket_of r B)
charge_at t r (refused n) = no_charge

-- One period more of a walk at rate `high`: its charge is that of rate `low` with the depth that the periods walked
-- need.
pub record Stepped (t : Tariff) (high low d : ℕ) (old new : Charged) : Type 0 where
  pub walked : new.walk ≡ pushed high old.walk d
  pub charged : new.charge ≡ charge_at t low (walk_depth t new.walk)
  pub found : new.charge < no_charge → walk_depth t new.walk ≡ figures new.depth.0

-- What bounds the costs of the best cuttings of what is left.
pub record CostRange (costs : List ℕ) : Type 0 where
  pub few : length costs ≤ trace_limit
  pub each : (i : ℕ) → i < length costs → get_or costs i 0 ≤ unpriced

-- At this charge and above it so many periods and the rest cost more than what is known.
pub record StopsAt (known rest periods stop : ℕ) : Type 0 where
  pub few : stop ≤ unpriced + 1
  pub beyond : (charge : ℕ) → stop ≤ charge → known < charge * periods + rest

-- By the length of a first run, less 1, the charges at which a walk can stop: no run of that length or longer, with the
-- best cutting of what is left, costs as little as what is known.
-- `costs` holds what the best cuttings of what is left cost.
pub record Stops (t : Tariff) (known : ℕ) (costs stops : List ℕ) : Type 0 where
  pub room : length costs ≤ length stops
  pub below : (i : ℕ) → i < length costs → get_or stops i 0 < no_charge
  pub beyond : (i j charge : ℕ) → i ≤ j → j < length costs → get_or stops i 0 ≤ charge
      → known < cost_at t (j + 1) charge + get_or costs j 0

-- Charges at which no walk stops, for the longest trace.
pub record Far (far : List ℕ) : Type 0 where
  pub room : trace_limit ≤ length far
  pub each : (i : ℕ) → i < trace_limit → get_or far i 0 ≡ unpriced + 1
