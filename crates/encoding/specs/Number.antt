-- Numbers in bytes, lowest byte first, and lists of items of one width (01, "The two files": all numbers are
-- little-endian).
-- Assumes nothing.
use Rattle.std.specs.Prelude.{ℕ, zero, suc, ◌+◌, ◌*◌, ◌/◌, ◌%◌, List, [], ◌∷◌, ◌++◌, take, drop}

-- The w bytes of a number.
unfoldable pub bytes_of : ℕ → ℕ → List ℕ
bytes_of zero n = []
bytes_of (suc w) n = n % 256 ∷ bytes_of w (n / 256)

-- The number that bytes stand for.
unfoldable pub value_of : List ℕ → ℕ
value_of [] = 0
value_of (b ∷ bs) = b + 256 * value_of bs

-- The number of w bytes at a place of a file.
abbrev pub number_at : ℕ → List ℕ → ℕ → ℕ
number_at w bs at = value_of (take w (drop at bs))

-- The bytes of the items of a list, one item after the other.
unfoldable pub bytes_of_all : {A : Type 0} → (A → List ℕ) → List A → List ℕ
bytes_of_all bytes [] = []
bytes_of_all bytes (x ∷ xs) = bytes x ++ bytes_of_all bytes xs

-- n items of one width, from a place on; `read` gives the item at a place.
unfoldable pub items_at : {A : Type 0} → (ℕ → A) → ℕ → ℕ → ℕ → List A
items_at read width zero at = []
items_at read width (suc n) at = read at ∷ items_at read width n (at + width)
