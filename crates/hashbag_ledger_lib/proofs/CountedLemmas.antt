-- The balance that is kept, and the records of a count.
use Rattle.std.proofs.Common.{◌≡◌, ℕ, ◌-◌, ◌^◌, Bool, true, cond, List, [], ◌∷◌, ◌++◌, String, Global, string_eq, string_cmp, refl, ◌∙◌, ap, subst}
use Rattle.std.specs.String.{string_eq_equiv}
use Rattle.std.proofs.lemmas.List.{append-nil}
use Rattle.hashbag_csv.specs.Quantities.{quantity}
use Rattle.hashbag_ledger_lib.specs.declared.movements.Entry.{Entry}
use Rattle.hashbag_ledger_lib.specs.declared.movements.Movement.{Movement}
use Rattle.hashbag_ledger_lib.specs.Counts.{counted_in, differences, differences_after, is_named, movements_of}
use Rattle.hashbag_ledger_lib.specs.Entries.{entries_after, refusals_in, IsBooked}
use Rattle.hashbag_ledger_lib.specs.Ledger.{asks_too_much, entered_of}
use Rattle.hashbag_ledger_lib.specs.Rows.{rows_of}
use Rattle.hashbag_ledger_lib.specs.Settled.{listed}
use Rattle.hashbag_ledger_lib.proofs.BookLemmas.{refusals_are}
use Rattle.hashbag_ledger_lib.proofs.CopyLemmas.{listed_same}
use Rattle.hashbag_ledger_lib.proofs.CountLemmas.{sum_alike, there_alike, none_refused, numbers_set}

-- the entries of movements are of these movements
pub movements_after : {T : Type 0} (eq : T → T → Bool) (start : T → ℕ) (E ms : List (Movement T)) → movements_of (entries_after eq start E ms) ≡ ms
movements_after eq start E [] = refl
movements_after {T} eq start E (m ∷ ms) = ap (λ (l : List (Movement T)). m ∷ l) (movements_after eq start (cond (asks_too_much eq start E m) E (E ++ m ∷ [])) ms)

abbrev Articles : Type 0
Articles = List (String Global × ℕ)

module _ (kept copy counted : Articles) (records : List (Movement (String Global))) (entries : List (Entry (String Global))) (there here : String Global → ℕ) (found : List (Movement (String Global)))
    (same : rows_of copy ≡ rows_of kept) (are : IsBooked string_eq string_cmp (2 ^ 63 - 1) [] records counted entries) (there_is : (v : String Global) → there v ≡ quantity string_eq v copy)
    (here_is : (v : String Global) → here v ≡ quantity string_eq v counted) (is : found ≡ differences_after string_eq there here [] (movements_of entries)) where
  abbrev start : String Global → ℕ
  start = listed string_eq kept

  abbrev all_found : List (Movement (String Global))
  all_found = differences string_eq start records

  found_are : found ++ [] ≡ all_found
  found_are =
      let starts : there ≡ start = λ i v. (there_is v ∙ (λ j. listed_same copy kept same j v)) i in
      let counts : here ≡ counted_in string_eq records = λ i v. (here_is v ∙ are.leaves.counts v) i in
      let own : movements_of entries ≡ records = ap movements_of are.each ∙ movements_after string_eq (listed string_eq []) [] records in
      append-nil found ∙ is ∙ (λ i. differences_after string_eq (starts i) (counts i) [] (own i))

  starts_alike : (v w : String Global) → string_eq v w ≡ true → start v ≡ start w
  starts_alike v w alike = sum_alike string_eq string_eq_equiv (λ (e : String Global × ℕ). e.0) (λ (e : String Global × ℕ). e.1) v w alike kept

  counts_alike : (v w : String Global) → string_eq v w ≡ true → counted_in string_eq records v ≡ counted_in string_eq records w
  counts_alike v w alike = there_alike string_eq string_eq_equiv (listed string_eq []) v w alike refl (entered_of string_eq (listed string_eq []) records)

  module _ (left : Articles) (became : List (Entry (String Global))) (booked : IsBooked string_eq string_cmp (2 ^ 63 - 1) kept (found ++ []) left became) where
    pub booked_found : IsBooked string_eq string_cmp (2 ^ 63 - 1) kept all_found left became
    booked_found = subst (λ (ms : List (Movement (String Global))). IsBooked string_eq string_cmp (2 ^ 63 - 1) kept ms left became) found_are booked

    pub none_is_refused : refusals_in became ≡ []
    none_is_refused =
        ap refusals_in booked_found.each ∙ refusals_are string_eq start all_found
        ∙ none_refused string_eq string_eq_equiv start (counted_in string_eq records) starts_alike counts_alike records

    pub numbers_are : (v : String Global) → listed string_eq left v ≡ cond (is_named string_eq v records) (counted_in string_eq records v) (start v)
    numbers_are v = booked_found.leaves.counts v ∙ numbers_set string_eq string_eq_equiv start (counted_in string_eq records) starts_alike counts_alike records v
