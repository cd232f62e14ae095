-- The order file, written and read (01, "The two files"; refusals 1 to 6).
-- Assumes nothing.
use Rattle.std.specs.Prelude.{ℕ, ◌+◌, ◌*◌, ◌/◌, ◌%◌, ◌≤◌, min, max, ◌≡◌, Bool, ◌&&◌, List, [], ◌∷◌, ◌++◌, leb, eqb, length, drop}
use Rattle.terms.specs.declared.Tariff.{Tariff}
use Rattle.terms.specs.Answer.{Answer, figures, refused, weigh}
use Rattle.terms.specs.Limits.{trace_limit}
use Rattle.terms.specs.Ranges.{periods_ok, tariff_ok}
use Rattle.terms.specs.RangeRules.{PeriodsRange, TariffRange}
use Rattle.order_file.specs.declared.orders.Order.{Order}
use Rattle.encoding.specs.Number.{bytes_of, number_at, bytes_of_all, items_at}
use Rattle.encoding.specs.Header.{Placed, placed_as}

-- kind = 1
abbrev pub order_kind : ℕ
order_kind = 1

-- offset of tariff = 20: the header's five numbers lie before it
abbrev pub tariff_offset : ℕ
tariff_offset = 20

-- offset of trace = 48
abbrev pub trace_offset : ℕ
trace_offset = 48

-- file length = 48 + 2 × T
abbrev pub order_length : ℕ → ℕ
order_length T = trace_offset + 2 * T

-- the longest order: T is at most 512
abbrev pub longest_order : ℕ
longest_order = order_length trace_limit

-- The numbers of 4 bytes, in their order: the header, then the tariff's seven figures.
abbrev pub order_words : ℕ → Tariff → List ℕ
order_words T t =
    order_kind ∷ T ∷ tariff_offset ∷ trace_offset ∷ order_length T
    ∷ t.rate_price.0 ∷ t.depth_price.0 ∷ t.fee ∷ t.factor.p ∷ t.factor.q ∷ t.rate_cap.0 ∷ t.depth_cap.0 ∷ []

-- The bytes of an order: those numbers, then demands of 2 bytes.
abbrev pub order_bytes : ℕ → Tariff → List ℕ → List ℕ
order_bytes T t ds = bytes_of_all (bytes_of 4) (order_words T t) ++ bytes_of_all (bytes_of 2) ds

-- ---- Reading

-- The tariff, figure by figure at its place.
abbrev pub tariff_in : List ℕ → Tariff
tariff_in bs =
    record {
      rate_price = record { 0 = number_at 4 bs 20 };
      depth_price = record { 0 = number_at 4 bs 24 };
      fee = number_at 4 bs 28;
      factor = record { p = number_at 4 bs 32; q = number_at 4 bs 36 };
      rate_cap = record { 0 = number_at 4 bs 40 };
      depth_cap = record { 0 = number_at 4 bs 44 };
    }

-- T and the tariff where the bytes have them.
abbrev pub order_in : List ℕ → Order
order_in bs = record { periods = number_at 4 bs 4; tariff = tariff_in bs }

-- 1: under 20 bytes; 2: the kind; 3: T; 4: offsets and lengths; 5: the tariff.
unfoldable pub read_order : List ℕ → Answer Order
read_order bs =
    let T = number_at 4 bs 4 in
    weigh (leb tariff_offset (length bs)) 1
    (weigh (eqb (number_at 4 bs 0) order_kind) 2
    (weigh (periods_ok T) 3
    (weigh (placed_as 8 tariff_offset trace_offset (order_length T) bs) 4
    (weigh (tariff_ok (tariff_in bs)) 5
    (figures (order_in bs))))))

-- The rules of the format as document 01 lists them. An order is read exactly when it keeps them (`rules_read`,
-- `read_rules`).
pub record OrderRules (bs : List ℕ) : Type 0 where
  pub header : tariff_offset ≤ length bs
  pub kind : number_at 4 bs 0 ≡ order_kind
  pub periods : PeriodsRange (number_at 4 bs 4)
  pub placed : Placed 8 tariff_offset trace_offset (order_length (number_at 4 bs 4)) bs
  pub tariff : TariffRange (tariff_in bs)

-- ---- The trace

-- A part of a file that is read, and an empty part where reading refuses.
abbrev pub part_of : Answer Order → List ℕ → List ℕ
part_of (figures x) part = part
part_of (refused n) part = []

-- The part of the file that holds the trace.
abbrev pub trace_part : List ℕ → List ℕ
trace_part bs = part_of (read_order bs) (drop trace_offset bs)

-- That part has an even length, 2 to 1,024.
abbrev pub part_ok : ℕ → Bool
part_ok n = eqb (n % 2) 0 && leb 2 n && leb n (2 * trace_limit)

-- The demands that a part holds, 2 bytes each.
abbrev pub demands_in : List ℕ → List ℕ
demands_in part = items_at (number_at 2 part) 2 (length part / 2) 0

-- 3: the part's length; 6: a list with less room than demands.
unfoldable pub spread_of : ℕ → List ℕ → Answer (List ℕ)
spread_of room part = weigh (part_ok (length part)) 3 (weigh (leb (length part / 2) room) 6 (figures (demands_in part)))

-- ---- Other bytes behind an order

-- Where an order ends that a second file follows: it is read as far as its stated file length, at least 20 bytes, or as
-- far as there are bytes (02, job 1).
abbrev pub order_end : List ℕ → ℕ
order_end bs = min (length bs) (max tariff_offset (number_at 4 bs 16))

-- ---- Writing

-- 3: T; 5: the tariff; 6: bytes fewer than the file.
unfoldable pub write_order : ℕ → Tariff → List ℕ → Answer (List ℕ)
write_order room t ds =
    weigh (periods_ok (length ds)) 3 (weigh (tariff_ok t) 5 (weigh (leb (order_length (length ds)) room) 6 (figures (order_bytes (length ds) t ds))))

-- ---- There and back

-- A file that is read is the very file that writing those figures, and the demands of its trace's part, gives (00,
-- demand 2).
abbrev pub VeryOrder : List ℕ → Answer Order → Type 0
VeryOrder bs (figures o) = write_order (length bs) o.tariff (demands_in (trace_part bs)) ≡ figures bs
VeryOrder bs (refused n) = Unit {0}
