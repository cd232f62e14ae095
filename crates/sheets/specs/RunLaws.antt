-- The lines of a plan's runs, stored run by run.
-- Assumes nothing.
use Rattle.std.specs.Prelude.{ℕ, ◌+◌, ◌≤◌, ◌<◌, ◌≡◌, length, take, drop, get_or}
use Rattle.std.proofs.Common.{arith, sym, ◌∙◌, drop-drop}
use Rattle.std.proofs.Math.Path.{ap, subst}
use mathlib.Core.List.{List, ◌∷◌, ◌++◌, append-nil, append_assoc}
use Rattle.terms.specs.declared.BucketRecord.{BucketRecord}
use Rattle.terms.specs.declared.Factor.{Factor}
use Rattle.terms.specs.Limits.{trace_limit}
use Rattle.terms.specs.RangeRules.{FactorRange, RecordRange}
use Rattle.terms.specs.Records.{Cutting, Each, run_length, total}
use Rattle.record_list.specs.Held.{no_record}
use Rattle.record_list.specs.PartLaws.{Begins, next_begins, rest_next, rest_none}
use Rattle.text.specs.PutLaws.{Puts, Room, room-front, room_next, puts_both}
use Rattle.sheets.specs.Sheet.{run_line, run_lines}

-- The runs make up the demands, and each is in its range.
pub record Printable (f : Factor) (ds : List ℕ) (xs : Cutting) : Type 0 where
  pub factor : FactorRange f
  pub few : length ds ≤ trace_limit
  pub sum : total run_length xs ≡ length ds
  pub each : Each RecordRange xs

-- ---- The lines stored run by run

module _ (f : Factor) (ds : List ℕ) (records : Cutting) (old : List ℕ) (at : ℕ) where
  abbrev whole : List ℕ
  whole = run_lines f 1 ds records

  -- The lines of i runs are stored, and the next run begins at `start`.
  pub record Printing (new : List ℕ) (next start i : ℕ) : Type 0 where
    pub done : List ℕ
    pub put : Puts old at done new next
    pub is : done ++ run_lines f (start + 1) (drop start ds) (drop i records) ≡ whole
    pub begins : Begins records ds start i
    pub each : Each RecordRange (drop i records)

  module _ {new : List ℕ} {next start i : ℕ} (s : Printing new next start i) where
    module _ (l : i < length records) where
      abbrev this : BucketRecord
      this = get_or records i no_record

      abbrev part : List ℕ
      part = take (run_length this) (drop start ds)

      left_is : drop i records ≡ this ∷ drop (i + 1) records
      left_is = rest_next records i l

      abbrev line : List ℕ
      line = run_line f (start + 1) this.bucket part

      abbrev after : List ℕ
      after = run_lines f (start + 1 + run_length this) (drop (run_length this) (drop start ds)) (drop (i + 1) records)

      next_is : s.done ++ line ++ after ≡ whole
      unfolding run_lines
      next_is =
          append_assoc s.done line after
          ∙ ap (λ (ys : Cutting). s.done ++ run_lines f (start + 1) (drop start ds) ys) (sym left_is)
          ∙ s.is

      line-room : Room old at whole → Room new next line
      line-room r = room_next s.put line (room-front old at (s.done ++ line) after (subst (Room old at) (sym next_is) r))

      line_printed : (new' : List ℕ) (next' : ℕ) → Puts new next line new' next' → Printing new' next' (start + run_length this) (i + 1)
      line_printed new' next' q =
          let e : start + run_length this + 1 ≡ start + 1 + run_length this = omega arith in
          record {
            done = s.done ++ line;
            put = puts_both s.put line new' next' q;
            is =
                ap (λ (n : ℕ). s.done ++ line ++ run_lines f n (drop (start + run_length this) ds) (drop (i + 1) records)) e
                ∙ ap (λ (ys : List ℕ). s.done ++ line ++ run_lines f (start + 1 + run_length this) ys (drop (i + 1) records)) (sym (drop-drop (run_length this) start ds))
                ∙ next_is;
            begins = next_begins records ds start i s.begins l;
            each = (subst (Each RecordRange) left_is s.each).1;
          }

      -- the run's own part of the trace
      module _ (ys : List ℕ) (e : ys ≡ part) where
        pub run_room : Room old at whole → Room new next (run_line f (start + 1) this.bucket ys)
        run_room r = subst (λ (zs : List ℕ). Room new next (run_line f (start + 1) this.bucket zs)) (sym e) (line-room r)

        pub one_printed : (new' : List ℕ) (next' : ℕ) → Puts new next (run_line f (start + 1) this.bucket ys) new' next' → Printing new' next' (start + run_length this) (i + 1)
        one_printed new' next' q = line_printed new' next' (subst (λ (zs : List ℕ). Puts new next (run_line f (start + 1) this.bucket zs) new' next') e q)

    pub all_printed : length records ≤ i → Puts old at whole new next
    unfolding run_lines
    all_printed l =
        subst (λ (zs : List ℕ). Puts old at zs new next)
        (sym (append-nil s.done) ∙ ap (λ (ys : Cutting). s.done ++ run_lines f (start + 1) (drop start ds) ys) (sym (rest_none records i l)) ∙ s.is) s.put
