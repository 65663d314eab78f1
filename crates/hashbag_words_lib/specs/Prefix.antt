-- Bytes of a text as a number, by which rows are sorted.
use Rattle.std.specs.Prelude.{◌≡◌, ℕ, zero, suc, ◌+◌, ◌*◌, ◌<◌, List, [], ◌∷◌, drop, map, All, slice_index, String, string_bytes}
use Rattle.std.specs.Borrow.{Bor}
use Rattle.std.specs.Global.{Global}
use Rattle.std.specs.List.Sorted.{IsNonDecreasingBy, IsPermutation, IsSorted}
use Rattle.std.specs.Ordering.{ordering_then, nat_cmp}
use Rattle.std.specs.String.{string_cmp}
use Rattle.std.specs.declared.cmp.Ordering.{Ordering}

-- the number continued by the first n bytes of the text, big-endian, with 0 for each byte past the end
abbrev pub lead : ℕ → ℕ → List ℕ → ℕ
lead number zero text = number
lead number (suc n) [] = lead (number * 256) n []
lead number (suc n) (byte ∷ text) = lead (number * 256 + byte) n text

-- the number is the first eight of these bytes
pub record IsPrefixOf (number : ℕ) (text : List ℕ) : Type 0 where
  pub value : number ≡ lead 0 8 text
  pub bytes : (k : ℕ) → slice_index text k < 256

-- the number is the eight bytes from this place on
pub record IsWordAt (from number : ℕ) (text : List ℕ) : Type 0 where
  pub value : number ≡ lead 0 8 (drop from text)
  pub bytes : (k : ℕ) → slice_index text k < 256

-- the number before a row
abbrev pub number_of : ℕ × (Bor (String Global) × ℕ) → ℕ
number_of p = p.0

-- a row, without the number before it
abbrev pub bare_row : ℕ × (Bor (String Global) × ℕ) → Bor (String Global) × ℕ
bare_row p = p.1

-- the number before the row is the eight bytes of its token from this place on
abbrev pub HasWord : ℕ → ℕ × (Bor (String Global) × ℕ) → Type 0
HasWord from p = IsWordAt from p.0 (string_bytes p.1.0.now)

-- the bytes of the token before place `from`, as a number, are `number`
abbrev pub Starts : ℕ → ℕ → ℕ × (Bor (String Global) × ℕ) → Type 0
Starts from number p = lead 0 from (string_bytes p.1.0.now) ≡ number

-- the number before each row is the eight bytes of its token from place `from` on, and these numbers are in ascending order
abbrev pub AreRising : ℕ → List (ℕ × (Bor (String Global) × ℕ)) → Type 0
AreRising from rows = All (HasWord from) rows × IsNonDecreasingBy number_of rows

-- the order of rows: by their tokens, and by their counts if the tokens are the same
abbrev pub row_cmp : Bor (String Global) × ℕ → Bor (String Global) × ℕ → Ordering
row_cmp x y = ordering_then (string_cmp x.0.now y.0.now) (nat_cmp x.1 y.1)

-- the rows are the same in another order. They are sorted if the first `from` bytes of all their tokens are the same, read as a number
pub record SortsFrom (from : ℕ) (rows sorted_rows : List (ℕ × (Bor (String Global) × ℕ))) : Type 0 where
  pub permutation : IsPermutation (map bare_row rows) (map bare_row sorted_rows)
  pub sorted : (number : ℕ) → All (Starts from number) rows → IsSorted row_cmp (map bare_row sorted_rows)

-- the rows are the same in another order. They are sorted if the first `from` bytes of all their tokens are the same, read as a number, and if the
-- numbers before the rows are the next eight bytes, in ascending order
pub record SortsBlocks (from : ℕ) (rows sorted_rows : List (ℕ × (Bor (String Global) × ℕ))) : Type 0 where
  pub permutation : IsPermutation (map bare_row rows) (map bare_row sorted_rows)
  pub sorted : (number : ℕ) → AreRising from rows → All (Starts from number) rows → IsSorted row_cmp (map bare_row sorted_rows)
