-- The word takes the place of a part of the text as long as it is.
use Prim.Native.Nat.{ℕ, ◌+◌, ◌≤◌}
use native.Mathlib.Omega.{arith}
use mathlib.Core.Path.{◌≡◌, refl, sym, ap, ap₂, ◌∙◌}
use mathlib.Core.List.{List, ◌++◌}
use lib.ListN.{length}
use lib.Seq.{sets}
use borrow.Rule.Slice.PartMut.{put_mid}
use Rattle.std.proofs.lemmas.List.{take-append-drop}
use Rattle.std.proofs.lemmas.List.Edits.{sets-eq}
use Rattle.std.proofs.lemmas.Slice.{take-put_mid, drop-put_mid}
use Rattle.text.specs.PutLaws.{ended-length, puts_byte}
use Rattle.text.proofs.fields.put_word.Goals as goal

part_stored : (a k : ℕ) (xs ys zs : List ℕ) → ys ≡ zs → a + length zs ≤ length xs → a + k ≡ a + length zs → put_mid a k xs ys ≡ sets xs a zs
part_stored a k xs ys zs same l e =
    ap (put_mid a k xs) same
    ∙ sym (take-append-drop (a + length zs) (put_mid a k xs zs))
    ∙ ap₂ ◌++◌ (take-put_mid a k xs zs (a + length zs) refl (omega arith)) (drop-put_mid a k xs zs (a + length zs) (omega (arith, e)) (omega arith) (omega (arith, e)))
    ∙ sym (sets-eq zs xs a l)

pub returns : goal.returns
returns c =
    let s = c.args in
    let room : s.at + length s.word.now ≤ length s.text.now = omega (arith, ended-length s.word.now s.after) in
    puts_byte (record { place = refl; stored = part_stored _ _ _ _ _ c.copy_from_slice.ensures.after room (omega arith) }) s.after
