-- How one list of bytes is many byte strings.
use Rattle.std.specs.Prelude.{◌≡◌, ℕ, ◌==◌, ◌≤◌, if◌then◌else◌, List, [], ◌∷◌, ◌++◌, length, slice_range}
use Rattle.std.specs.Str.{bytes_eq}
use Rattle.hashbag_core.specs.Bag.{Bag}
use Rattle.hashbag_c.specs.Quotas.{Retains}
use Rattle.hashbag_c.specs.Whole.{Adds}
use Rattle.hashbag_c.specs.declared.state.Keys.{Keys}

-- `piece` is the bytes from place `from` up to place `end`
abbrev pub IsPiece : List ℕ → ℕ → ℕ → List ℕ → Type 0
IsPiece bytes from end piece = (piece ≡ slice_range bytes from end) × (from ≤ end) × (end ≤ length bytes)

-- the strings that lie one after another in `bytes`. The first begins at place `from`, and each ends at its place in `ends`
abbrev pub pieces_from : ℕ → List ℕ → List ℕ → List (List ℕ)
pieces_from from bytes [] = []
pieces_from from bytes (end ∷ ends) = slice_range bytes from end ∷ pieces_from end bytes ends

-- the strings between separators: `begun` is what the first one has so far
abbrev pub split_from : ℕ → List ℕ → List ℕ → List (List ℕ)
split_from separator begun [] = begun ∷ []
split_from separator begun (b ∷ bytes) = if b == separator then begun ∷ split_from separator [] bytes else split_from separator (begun ++ (b ∷ [])) bytes

-- the strings that lie one after another, the first at the beginning of `bytes`, were inserted
abbrev pub AddsPieces : List ℕ → List ℕ → Bag (List ℕ) Keys → Bag (List ℕ) Keys → Type 0
AddsPieces bytes ends bag after = Adds bytes_eq (pieces_from 0 bytes ends) bag after

-- each of these strings is kept at most as often as `most` says at its first place, and no other string is kept
abbrev pub RetainsPieces : List ℕ → List ℕ → List ℕ → Bag (List ℕ) Keys → Bag (List ℕ) Keys → Type 0
RetainsPieces bytes ends most bag after = Retains bytes_eq (pieces_from 0 bytes ends) most bag after

-- the strings between separators were inserted
abbrev pub AddsSplit : ℕ → List ℕ → Bag (List ℕ) Keys → Bag (List ℕ) Keys → Type 0
AddsSplit separator bytes bag after = Adds bytes_eq (split_from separator [] bytes) bag after
