-- A stock that is counted. The records of a count are movements into an empty stock, so the numbers of an article are added.
use Rattle.std.specs.Prelude.{◌≡◌, ℕ, ◌+◌, ◌-◌, ◌^◌, if◌then◌else◌, nat_lt, Bool, List, [], ◌∷◌, ◌++◌, map, sum_by, String, string_bytes, string_cmp}
use Rattle.std.specs.Global.{Global, Vec}
use Rattle.std.specs.String.{string_eq}
use Rattle.hashbag_core.specs.Bag.{Bag}
use Rattle.hashbag_ledger_lib.specs.declared.filing.Filed.{Filed}
use Rattle.hashbag_ledger_lib.specs.declared.movements.Change.{Change}
use Rattle.hashbag_ledger_lib.specs.declared.movements.Change.TheVariants.{In, Out}
use Rattle.hashbag_ledger_lib.specs.declared.movements.Entry.{Entry}
use Rattle.hashbag_ledger_lib.specs.declared.movements.Movement.{Movement}
use Rattle.hashbag_ledger_lib.specs.Changes.{Rises, AreChanges}
use Rattle.hashbag_ledger_lib.specs.Entries.{refusals_in, IsBooked}
use Rattle.hashbag_ledger_lib.specs.Ledger.{in_the_end, stock_of}
use Rattle.hashbag_ledger_lib.specs.Settled.{listed}

-- the change that turns the number `there` into `counted`: from 10 to 7 it is Out 3, from 7 to 10 In 3
abbrev pub change_to : ℕ → ℕ → Change
change_to there counted = if nat_lt counted there then Out (there - counted) else In (counted - there)

-- the movements of entries
abbrev pub movements_of : {T : Type 0} → List (Entry T) → List (Movement T)
movements_of entries = map (λ e. e.movement) entries

module _ {T : Type 0} (eq : T → T → Bool) where
  -- how many of these records name v
  abbrev pub times_named : T → List (Movement T) → ℕ
  times_named v records = sum_by (λ m. if eq v m.article then 1 else 0) records

  -- whether one of these records names v
  abbrev pub is_named : T → List (Movement T) → Bool
  is_named v records = nat_lt 0 (times_named v records)

  -- how many of v were counted: what the records, as movements, leave of an empty stock
  abbrev pub counted_in : List (Movement T) → T → ℕ
  counted_in records v = in_the_end eq (listed eq []) records v

  module _ (there counted : T → ℕ) where
    -- the difference of a record's article; none if a record of `before` names the article
    abbrev pub difference : List (Movement T) → Movement T → List (Movement T)
    difference before m = if is_named m.article before then [] else (record { place = m.place; article = m.article; change = change_to (there m.article) (counted m.article) }) ∷ []

    -- the differences of the articles that these records name and no record of `before` names
    abbrev pub differences_after : List (Movement T) → List (Movement T) → List (Movement T)
    differences_after before [] = []
    differences_after before (m ∷ ms) = difference before m ++ differences_after (before ++ m ∷ []) ms

  -- for each article that the records name, at the first record that names it: the change that turns the number there into the counted
  -- number. With 10 bolts there, the records `bolt 4`, `nut 1` and `bolt 3` give Out 3 of bolt and In 1 of nut
  abbrev pub differences : (T → ℕ) → List (Movement T) → List (Movement T)
  differences there records = differences_after there (counted_in records) [] records

module _ {T : Type 0} (eq : T → T → Bool) where
  -- `new` has the article once more than `old`, and any other value as often
  abbrev pub NotesArticle : T → List T → List T → Type 0
  NotesArticle article old new = (v : T) → stock_of eq new v ≡ stock_of eq old v + (if eq v article then 1 else 0)

module _ {S : Type 0} (there counted : Bag (String Global) S) where
  -- the difference of a record's article was added at the end, unless `named` has the article
  abbrev pub AddsDifference : Bag (String Global) S → Movement (String Global) → Vec (Movement (String Global)) → Vec (Movement (String Global)) → Type 0
  AddsDifference named m old new =
      new.items ≡ old.items ++ (if nat_lt 0 (stock_of string_eq named.items m.article) then [] else (record { place = m.place; article = m.article; change = change_to (stock_of string_eq there.items m.article) (stock_of string_eq counted.items m.article) }) ∷ [])

  -- if `unnamed` is empty, `found` are the differences of the articles that the records name
  abbrev pub AreDifferencesOf : Bag (String Global) S → Vec (Entry (String Global)) → Vec (Movement (String Global)) → Type 0
  AreDifferencesOf unnamed records found =
      ((v : String Global) → stock_of string_eq unnamed.items v ≡ 0)
      → found.items ≡ differences_after string_eq (stock_of string_eq there.items) (stock_of string_eq counted.items) [] (movements_of records.items)

-- the stock was counted: the differences are entered, and none of them is refused. Then each article that a record names has the counted
-- number, and any other article the number that it had
pub record IsCounted (kept : List (String Global × ℕ)) (records : List (Movement (String Global))) (filed : Filed) : Type 0 where
  pub booked : IsBooked string_eq string_cmp (2 ^ 63 - 1) kept (differences string_eq (listed string_eq kept) records) filed.booked.balance.items filed.booked.entries.items
  pub none_refused : refusals_in filed.booked.entries.items ≡ []
  pub numbers : (v : String Global) → listed string_eq filed.booked.balance.items v ≡ (if is_named string_eq v records then counted_in string_eq records v else listed string_eq kept v)
  pub changed : Rises kept → AreChanges kept filed.booked.balance.items filed.changed.items

-- the record of an article of which none was counted
abbrev pub none_counted : String Global × ℕ → List ℕ × Change
none_counted e = (string_bytes e.0, In 0)
