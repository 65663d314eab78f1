use Rattle.std.proofs.Common.{◌≡◌, ◌≢◌, ◌<◌, ℕ, List, Option, Some, None, MatchOption, [], get_or, length, true, arith}
use Rattle.std.specs.Prelude.{is_some}
use Rattle.hashbag_csv.specs.Readers.{Record}
use Rattle.hashbag_csv.specs.Sheets.{read_last}
use Rattle.hashbag_csv.proofs.sheet.Sheet.column.Goals as goal

-- one that was found before, and this one
two : (found : Option ℕ) (name : List ℕ) (fields : Record) (place : ℕ)
    → MatchOption found ((k : ℕ) → k < place → get_or fields k [] ≢ name) (λ p. (p < place) × (get_or fields p [] ≡ name) × ((k : ℕ) → k < place → get_or fields k [] ≡ name → k ≡ p))
    → is_some found ≡ true → place < length fields → get_or fields place [] ≡ name
    → (i : ℕ) × (j : ℕ) × (i < j) × (j < length fields) × (get_or fields i [] ≡ name) × (get_or fields j [] ≡ name)
two None name fields place so_far some below is = cc some
two (Some p) name fields place so_far some below is = (p, place, so_far.0, below, so_far.1, is)

pub returns-then-is_some-clause-fault : goal.returns-then-is_some-clause-fault
returns-then-is_some-clause-fault c =
    let is = c.is_named.ensures in
    let below = c.loop-place-test.true in
    let end = c.len-place-end.ensures in
    rw c.bad_line.ensures.1 (two c.loop-place.found c.args.name.now (read_last c.args.self.now) c.loop-place.place c.loop-place.invariant (let some = c.is_some.ensures in let yes = c.if-is_some.true in cc (some, yes))
    (omega (arith, below, end)) (is.0 c.if-is_named.true))

pub returns-in_ok-name-in-None-clause-fault : goal.returns-in_ok-name-in-None-clause-fault
returns-in_ok-name-in-None-clause-fault c =
    let none = rw c.in-None.is at c.loop-place.invariant in
    let all = c.loop-place-test.false in
    let end = c.len-place-end.ensures in
    rw c.bad_line-in-None.ensures.1 (λ k below. none k (omega (arith, all, end, below)))
