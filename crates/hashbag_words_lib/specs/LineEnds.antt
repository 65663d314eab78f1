-- Where lines end.
use Rattle.std.specs.Prelude.{◌≡◌, ℕ, ◌-◌, ◌<◌, List, length, slice_index}

-- the input is empty, or ends with a line feed: what follows begins a new line
abbrev pub EndsLine : List ℕ → Type 0
EndsLine input = 0 < length input → slice_index input (length input - 1) ≡ 10
