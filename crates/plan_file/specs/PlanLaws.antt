-- The plan file there and back: a written plan reads back as the same figures and records, and any bytes that are read
-- are what writing those figures and records gives.
-- Assumes nothing.
use Rattle.std.specs.Prelude.{ℕ, zero, suc, ◌+◌, ◌*◌, ◌≤◌, ◌<◌, ◌≡◌, true, false, List, [], ◌∷◌, ◌++◌, leb, eqb, take, drop, get_or}
use Rattle.std.proofs.Common.{le_refl, arith, sym, ap, ap₂, ◌∙◌, append-nil, append_assoc, le-leb, length-append, length-drop, take-append-drop, length-take-le, take-add, take_all}
use Rattle.std.proofs.Math.Path.{subst}
use Rattle.std.proofs.Math.ListN.{length}
use Rattle.terms.specs.declared.BucketRecord.{BucketRecord}
use Rattle.terms.specs.Answer.{Answer, figures, refused}
use Rattle.terms.specs.Bools.{not_true-false}
use Rattle.terms.specs.Limits.{cost_limit}
use Rattle.terms.specs.Records.{Cutting, Each, record_of, run_length, run_rate, run_depth, total}
use Rattle.plan_file.specs.declared.answers.PlanFigures.{PlanFigures}
use Rattle.encoding.specs.Number.{bytes_of, number_at, bytes_of_all, items_at}
use Rattle.encoding.specs.NumberLaws.{Within, Bytes, numbers_written, numbers_read, each_at, length-bytes, length_all, length_items, number_front, number_written, number_read, items_written, items_read}
use Rattle.encoding.specs.Header.{Placed}
use Rattle.encoding.specs.HeaderLaws.{headed, header_decides, placed_range}
use Rattle.record_list.specs.Held.{no_record}
use Rattle.plan_file.specs.RecordLaws.{RecordsRange, records_ok_lem}
use Rattle.plan_file.specs.declared.answers.Recorded.{Recorded}
use Rattle.plan_file.specs.Plan.{figures_in, plan_kind, cost_offset, buckets_offset, plan_length, longest_plan, counts_ok, plan_words, plan_bytes, record_bytes, record_at, records_in, plan_in, read_plan, plan_file, write_plan, VeryPlan}
use Rattle.plan_file.specs.PlanRules.{PlanRules, CountsRange, counts_ok_lem, counts_range, plan_placed, buckets_in, recorded_in, rules_read, read_rules, read_fits, read-holds, write_figures_lem, write_rules, length-head, length_record, length-plan}

-- ---- One record

-- The figures of a record have 4 bytes each.
abbrev Fits : BucketRecord → Type 0
Fits x = Each (Within 4) (run_length x ∷ run_rate x ∷ run_depth x ∷ [])

abbrev record_from : List ℕ → BucketRecord
record_from ns = record_of (get_or ns 0 0) (get_or ns 1 0) (get_or ns 2 0)

-- A record is the three words at its place.
record_words : (bs : List ℕ) (at : ℕ) → record_at bs at ≡ record_from (items_at (number_at 4 bs) 4 3 at)
unfolding items_at
record_words bs at = let e : at + 8 ≡ at + 4 + 4 = omega arith in ap (λ (n : ℕ). record_of (number_at 4 bs at) (number_at 4 bs (at + 4)) (number_at 4 bs n)) e

record_written : (x : BucketRecord) → Fits x → (before after : List ℕ) → record_at (before ++ record_bytes x ++ after) (length before) ≡ x
record_written x fit before after =
    record_words (before ++ record_bytes x ++ after) (length before) ∙ ap record_from (numbers_written 4 (run_length x ∷ run_rate x ∷ run_depth x ∷ []) fit before after)

record_read : (bs : List ℕ) (at : ℕ) → Bytes bs → at + 12 ≤ length bs → record_bytes (record_at bs at) ≡ take 12 (drop at bs)
unfolding items_at
record_read bs at h l = ap record_bytes (record_words bs at) ∙ numbers_read 4 bs h 3 at l

-- ---- Writing and then reading

-- Run lengths that sum to T are at most T.
run-within : (xs : Cutting) (i : ℕ) → i < length xs → run_length (get_or xs i no_record) ≤ total run_length xs
unfolding total
run-within [] i l = absurd (omega arith)
run-within (x ∷ xs) zero l = omega arith
run-within (x ∷ xs) (suc i) l = omega (arith, run-within xs i (omega arith))

records_fit : (T : ℕ) (xs : Cutting) → RecordsRange T xs → T ≤ 512 → Each Fits xs
records_fit T xs r few = each_at Fits no_record xs one
  where
    one : (i : ℕ) → i < length xs → Fits (get_or xs i no_record)
    one i l =
        let x = r.each i l in
        let a : Within 4 (run_length (get_or xs i no_record)) = omega (arith, run-within xs i l, r.sum) in
        let b : Within 4 (run_rate (get_or xs i no_record)) = omega (arith, x.bucket.rates) in
        let c : Within 4 (run_depth (get_or xs i no_record)) = omega (arith, x.bucket.depths) in
        (a, (b, (c, tt)))

module _ (T cost : ℕ) (xs : Cutting) (c : CountsRange T (length xs)) (limit : cost ≤ cost_limit) (r : RecordsRange T xs) where
  abbrev head : List ℕ
  head = bytes_of_all (bytes_of 4) (plan_words T (length xs))

  abbrev rest : List ℕ
  rest = bytes_of_all record_bytes xs

  abbrev file : List ℕ
  file = plan_bytes T cost xs

  words_are : items_at (number_at 4 file) 4 6 0 ≡ plan_words T (length xs)
  words_are =
      let k : Within 4 (length xs) = omega (arith, c.few, c.periods.few) in
      let n : Within 4 T = omega (arith, c.periods.few) in
      let m : Within 4 (plan_length (length xs)) = omega (arith, c.few, c.periods.few) in
      ap (λ (ys : List ℕ). items_at (number_at 4 ys) 4 6 0) (append_assoc head (bytes_of 8 cost) rest)
      ∙ numbers_written 4 (plan_words T (length xs)) (omega arith, (n, (k, (omega arith, (omega arith, (m, tt)))))) [] (bytes_of 8 cost ++ rest)

  word_is : (i : ℕ) → get_or (items_at (number_at 4 file) 4 6 0) i 0 ≡ get_or (plan_words T (length xs)) i 0
  word_is i = ap (λ (ns : List ℕ). get_or ns i 0) words_are

  periods-is : number_at 4 file 4 ≡ T
  unfolding items_at
  periods-is = word_is 1

  count-is : number_at 4 file 8 ≡ length xs
  unfolding items_at
  count-is = word_is 2

  cost-is : number_at 8 file cost_offset ≡ cost
  cost-is =
      ap (number_at 8 file) (sym (length_all (bytes_of 4) 4 (length-bytes 4) (plan_words T (length xs))))
      ∙ number_written 8 cost head rest (omega arith)

  records_are : buckets_in file ≡ xs
  records_are =
      ap (λ (k : ℕ). records_in k file) count-is
      ∙ ap₂ (λ (ys : List ℕ) (at : ℕ). items_at (record_at ys) 12 (length xs) at) (sym (append-nil file)) (sym (length-head T (length xs) cost))
      ∙ items_written record_bytes 12 length_record record_at Fits record_written xs (records_fit T xs r c.periods.few) (head ++ bytes_of 8 cost) []

  keeps_rules : PlanRules file
  unfolding items_at
  keeps_rules =
      let l : length file ≡ plan_length (length xs) = length-plan T cost xs in
      record {
        header = omega (arith, l);
        kind = word_is 0;
        counts = subst (λ (n : ℕ). CountsRange n (number_at 4 file 8)) (sym periods-is) (subst (CountsRange T) (sym count-is) c);
        placed =
            subst (λ (n : ℕ). Placed 12 cost_offset buckets_offset (plan_length n) file) (sym count-is)
            (record { first_offset = word_is 3; second_offset = word_is 4; file_length = word_is 5; bytes = l });
        cost = omega (arith, cost-is);
        records = subst (RecordsRange (number_at 4 file 4)) (sym records_are) (subst (λ (n : ℕ). RecordsRange n xs) (sym periods-is) r);
      }

  abbrev these : Recorded
  these = record { periods = T; cost = cost; buckets = xs }

  plan-read : plan_in file ≡ figures these
  plan-read = rules_read file keeps_rules ∙ ap figures same
    where
      same : recorded_in file ≡ these
      same = rw (periods-is, cost-is, records_are)

-- A written plan reads back as the same figures and records, into any list that has room for them.
pub file-read : (space room : ℕ) (x : PlanFigures) (xs : Cutting) (bs : List ℕ) → length xs ≡ x.buckets → plan_file space room x xs ≡ figures bs
    → (back : ℕ) → x.buckets ≤ back → read_plan back bs ≡ figures (record { periods = x.periods; cost = x.cost; buckets = xs })
file-read space room x xs bs n e back l =
    let w = write_rules space room x xs bs e in
    let r = plan-read x.periods x.cost xs (subst (CountsRange x.periods) (sym n) w.counts) w.cost w.records in
    ap (read_plan back) (sym w.is) ∙ read_fits back (plan_bytes x.periods x.cost xs) _ r (omega (arith, n))

pub write_read : (room : ℕ) (x : PlanFigures) (list : Cutting) (bs : List ℕ) → write_plan room x list ≡ figures bs
    → (back : ℕ) → x.buckets ≤ back → read_plan back bs ≡ figures (record { periods = x.periods; cost = x.cost; buckets = take x.buckets list })
write_read room x list bs e =
    let xs = take x.buckets list in
    let n = length-take-le x.buckets list (write_rules (length list) room x xs bs e).list in
    file-read (length list) room x xs bs n e

-- ---- Reading and then writing

-- The words of a plan that keeps the rules are those that its figures give.
header_read : (bs : List ℕ) → PlanRules bs → plan_words (number_at 4 bs 4) (number_at 4 bs 8) ≡ items_at (number_at 4 bs) 4 6 0
unfolding items_at
header_read bs r =
    let with : ℕ → ℕ → ℕ → ℕ → List ℕ = λ kind first second size. kind ∷ number_at 4 bs 4 ∷ number_at 4 bs 8 ∷ first ∷ second ∷ size ∷ [] in
    ap₂ (λ (kind first : ℕ). with kind first buckets_offset (plan_length (number_at 4 bs 8))) (sym r.kind) (sym r.placed.first_offset)
    ∙ ap₂ (λ (second size : ℕ). with (number_at 4 bs 0) (number_at 4 bs 12) second size) (sym r.placed.second_offset) (sym r.placed.file_length)

bytes_read : (bs : List ℕ) → Bytes bs → PlanRules bs → plan_bytes (number_at 4 bs 4) (number_at 8 bs cost_offset) (buckets_in bs) ≡ bs
bytes_read bs h r =
    let k = number_at 4 bs 8 in
    let n = r.placed.bytes in
    let words : bytes_of_all (bytes_of 4) (plan_words (number_at 4 bs 4) (length (buckets_in bs))) ≡ take 24 bs =
    ap (λ (m : ℕ). bytes_of_all (bytes_of 4) (plan_words (number_at 4 bs 4) m)) (length_items (record_at bs) 12 k buckets_offset)
    ∙ ap (bytes_of_all (bytes_of 4)) (header_read bs r)
    ∙ numbers_read 4 bs h 6 0 (omega (arith, n)) in
    let cost : bytes_of 8 (number_at 8 bs cost_offset) ≡ take 8 (drop 24 bs) = number_read 8 bs cost_offset h (omega (arith, n)) in
    let records : bytes_of_all record_bytes (buckets_in bs) ≡ drop 32 bs =
    items_read record_bytes 12 (record_at bs) bs (λ at l. record_read bs at h l) k buckets_offset (omega (arith, n))
    ∙ take_all (12 * k) (drop 32 bs) (omega (arith, n, length-drop 32 bs)) in
    ap₂ (λ (xs ys : List ℕ). xs ++ ys) (ap₂ (λ (xs ys : List ℕ). xs ++ ys) words cost ∙ sym (take-add 24 8 bs)) records
    ∙ take-append-drop 32 bs

-- Writing the figures x, and their records from the front of any list that begins with them, gives the bytes.
abbrev pub Writes : Recorded → List ℕ → Type 0
Writes x bs =
    (list : Cutting) → take (length x.buckets) list ≡ x.buckets → length x.buckets ≤ length list
    → (room : ℕ) → length bs ≤ room → write_plan room (figures_in x) list ≡ figures bs

rules_write : (bs : List ℕ) → Bytes bs → PlanRules bs → Writes (recorded_in bs) bs
rules_write bs h r list same fits room l =
    let T = number_at 4 bs 4 in
    let xs = buckets_in bs in
    let n : length xs ≡ number_at 4 bs 8 = length_items (record_at bs) 12 (number_at 4 bs 8) buckets_offset in
    let e : plan_bytes T (number_at 8 bs cost_offset) (take (length xs) list) ≡ bs = ap (plan_bytes T (number_at 8 bs cost_offset)) same ∙ bytes_read bs h r in
    write_figures_lem (length list) room _ (take (length xs) list)
    (counts_ok_lem T (length xs) (subst (CountsRange T) (sym n) r.counts)) (le-leb _ _ r.cost) (le-leb _ _ fits)
    (records_ok_lem T _ (subst (RecordsRange T) (sym same) r.records)) (le-leb (plan_length (length xs)) room (omega (arith, n, r.placed.bytes)))
    ∙ ap figures e

-- Any bytes that are read are what writing their figures and records gives.
pub read_write : (bs : List ℕ) → Bytes bs → (x : Recorded) → plan_in bs ≡ figures x → Writes x bs
read_write bs h x e =
    let r = read_rules bs x e in
    subst (λ (y : Recorded). Writes y bs) (sym r.1) (rules_write bs h r.0)

-- So whatever reading into a list answers, the bytes are the very file of what was read.
pub very_plan : (bs : List ℕ) → Bytes bs → (room : ℕ) (a : Answer Recorded) → read_plan room bs ≡ a → VeryPlan bs a
very_plan bs h room (figures x) e =
    let n = length x.buckets in
    read_write bs h x (read-holds room bs x e) x.buckets (take_all n x.buckets (le_refl n)) (le_refl n) (length bs) (le_refl (length bs))
very_plan bs h room (refused m) e = tt

-- ---- Other bytes behind a plan

-- A plan of more bytes than the longest has is refused by its header alone, so bytes that follow change nothing.
abbrev by_header : ℕ → ℕ → ℕ → Answer Recorded
by_header kind T k = headed (eqb kind plan_kind) (counts_ok T k)

long_plan : (bs : List ℕ) → longest_plan < length bs → plan_in bs ≡ by_header (number_at 4 bs 0) (number_at 4 bs 4) (number_at 4 bs 8)
unfolding plan_in
long_plan bs l =
    header_decides (leb cost_offset (length bs)) (eqb (number_at 4 bs 0) plan_kind) (counts_ok (number_at 4 bs 4) (number_at 4 bs 8)) (plan_placed bs) _
    (le-leb cost_offset (length bs) (omega (arith, l))) misplaced
  where
    misplaced : counts_ok (number_at 4 bs 4) (number_at 4 bs 8) ≡ true → plan_placed bs ≡ false
    misplaced f =
        let r = counts_range (number_at 4 bs 4) (number_at 4 bs 8) f in
        not_true-false (plan_placed bs) (λ h. omega (arith, l, (placed_range 12 cost_offset buckets_offset (plan_length (number_at 4 bs 8)) bs h).bytes, r.few, r.periods.few))

pub long_more : (bs more : List ℕ) → longest_plan < length bs → plan_in (bs ++ more) ≡ plan_in bs
long_more bs more l =
    let same : (at : ℕ) → at + 4 ≤ cost_offset → number_at 4 (bs ++ more) at ≡ number_at 4 bs at = λ at h. number_front 4 bs more at (omega (arith, l, h)) in
    long_plan (bs ++ more) (omega (arith, l, length-append bs more))
    ∙ ap (λ (kind : ℕ). by_header kind (number_at 4 (bs ++ more) 4) (number_at 4 (bs ++ more) 8)) (same 0 (omega arith))
    ∙ ap₂ (by_header (number_at 4 bs 0)) (same 4 (omega arith)) (same 8 (omega arith))
    ∙ sym (long_plan bs l)
