use Rattle.std.proofs.Common.{◌≡◌, ◌≢◌, ◌<◌, ℕ, [], get_or, MatchOption}
use Rattle.hashbag_csv.specs.Sheets.{read_last}
use Rattle.hashbag_csv.proofs.sheet.Sheet.column.Given as goal

-- the fields so far that have the name: none, or one
abbrev pub invariant-loop-place : goal.invariant-loop-place
invariant-loop-place l = MatchOption l.found
    ((k : ℕ) → k < l.place → get_or (read_last l.self) k [] ≢ l.name)
    (λ p. (p < l.place) × (get_or (read_last l.self) p [] ≡ l.name) × ((k : ℕ) → k < l.place → get_or (read_last l.self) k [] ≡ l.name → k ≡ p))
