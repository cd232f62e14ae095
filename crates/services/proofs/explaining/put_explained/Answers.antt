-- The depth and its cause are stored one behind the other.
use Prim.Native.Nat.{ℕ}
use mathlib.Core.List.{List}
use Rattle.causes.specs.Cause.{cause_says}
use Rattle.text.specs.ChainLaws.{two}
use Rattle.text.specs.Lines.{depth_fields, space}
use Rattle.services.specs.Services.{cause_fields}
use Rattle.services.proofs.explaining.put_explained.Goals as goal

pub returns : goal.returns
returns c =
    let field₁ : List ℕ = depth_fields c.args.explained.depth.0 space in
    let field₂ : List ℕ = cause_fields (cause_says c.args.explained.cause) in
    two c.args.text.now c.args.at (field₁) (field₂) c.put_depth-end.ensures c.put_cause.ensures
