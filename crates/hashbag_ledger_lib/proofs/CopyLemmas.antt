-- A copy of a balance: movements do the same to both, since they have the same rows.
use Rattle.std.proofs.Common.{◌≡◌, ℕ, List, [], ◌∷◌, sum_by, cond, bytes_eq, string_bytes, string_eq, string_cmp, String, Global, refl, sym, ◌∙◌, ap, subst, subst₂, ◌+◌}
use Rattle.std.proofs.lemmas.List.Sums.{sum_by-cons}
use Rattle.hashbag_csv.specs.Quantities.{number_sum, quantity, IsBalance}
use Rattle.hashbag_ledger_lib.specs.declared.movements.Entry.{Entry}
use Rattle.hashbag_ledger_lib.specs.declared.movements.Movement.{Movement}
use Rattle.hashbag_ledger_lib.specs.declared.movements.Place.{Place}
use Rattle.hashbag_ledger_lib.specs.Entries.{entries_of, IsBooked}
use Rattle.hashbag_ledger_lib.specs.Ledger.{in_the_end, refused_of, Leaves, IsPast}
use Rattle.hashbag_ledger_lib.specs.Rows.{row, rows_of}
use Rattle.hashbag_ledger_lib.specs.Settled.{listed, IsPastWithin}
use Rattle.hashbag_ledger_lib.specs.Undos.{opposites_of, IsUndo, EntersOrRefuses, HasRisingRows}
use Rattle.hashbag_ledger_lib.specs.declared.undoing.Undo.{Undo}
use Rattle.hashbag_ledger_lib.specs.declared.undoing.Undo.TheVariants.{Done, Refused}

-- the articles of a stock, by their texts
abbrev Articles : Type 0
Articles = List (String Global × ℕ)

-- how many rows name in all, and how many of an article with these bytes
abbrev all_in : List (List ℕ × ℕ) → ℕ
all_in rows = sum_by (λ (r : List ℕ × ℕ). r.1) rows

abbrev of_bytes : List ℕ → List ℕ × ℕ → ℕ
of_bytes v r = cond (bytes_eq v r.0) r.1 0

numbers_of_rows : (L : Articles) → all_in (rows_of L) ≡ number_sum L
numbers_of_rows [] = refl
numbers_of_rows (e ∷ L) =
    sum_by-cons (λ (r : List ℕ × ℕ). r.1) (row e) (rows_of L)
    ∙ ap (λ (n : ℕ). e.1 + n) (numbers_of_rows L)
    ∙ sym (sum_by-cons (λ (x : String Global × ℕ). x.1) e L)

quantity_of_rows : (v : String Global) (L : Articles) → sum_by (of_bytes (string_bytes v)) (rows_of L) ≡ quantity string_eq v L
quantity_of_rows v [] = refl
quantity_of_rows v (e ∷ L) =
    sum_by-cons (of_bytes (string_bytes v)) (row e) (rows_of L)
    ∙ ap (λ (n : ℕ). cond (string_eq v e.0) e.1 0 + n) (quantity_of_rows v L)
    ∙ sym (sum_by-cons (λ (x : String Global × ℕ). cond (string_eq v x.0) x.1 0) e L)

module _ (L M : Articles) (same : rows_of L ≡ rows_of M) where
  pub numbers_same : number_sum L ≡ number_sum M
  numbers_same = sym (numbers_of_rows L) ∙ ap all_in same ∙ numbers_of_rows M

  pub listed_same : listed string_eq L ≡ listed string_eq M
  listed_same = λ i v. (sym (quantity_of_rows v L) ∙ ap (λ (rows : List (List ℕ × ℕ)). sum_by (of_bytes (string_bytes v)) rows) same ∙ quantity_of_rows v M) i

  module _ (most : ℕ) (ms : List (Movement (String Global))) where
    pub past_same : (p : Place) → IsPastWithin string_eq most L ms p → IsPastWithin string_eq most M ms p
    past_same p past = subst₂ (λ (s : String Global → ℕ) (n : ℕ). IsPast string_eq s n most ms p) listed_same numbers_same past

    past_back : (p : Place) → IsPastWithin string_eq most M ms p → IsPastWithin string_eq most L ms p
    past_back p past = subst₂ (λ (s : String Global → ℕ) (n : ℕ). IsPast string_eq s n most ms p) (sym listed_same) (sym numbers_same) past

    pub booked_same : (balance : Articles) (entries : List (Entry (String Global))) → IsBooked string_eq string_cmp most L ms balance entries → IsBooked string_eq string_cmp most M ms balance entries
    booked_same balance entries booked = record {
      each = booked.each ∙ ap (λ (s : String Global → ℕ). entries_of string_eq s ms) listed_same;
      rows = subst (λ (s : String Global → ℕ). IsBalance string_eq string_cmp (in_the_end string_eq s ms) balance) listed_same booked.rows;
      leaves = subst (λ (s : String Global → ℕ). Leaves string_eq s ms (listed string_eq balance)) listed_same booked.leaves;
      fit = λ p past. booked.fit p (past_back p past);
    }

  -- an undo
  pub undo_same : (batch : List (Movement (String Global))) (u : Undo (String Global)) → IsUndo string_eq string_cmp (listed string_eq L) batch u → IsUndo string_eq string_cmp (listed string_eq M) batch u
  undo_same batch u is = subst (λ (s : String Global → ℕ). IsUndo string_eq string_cmp s batch u) listed_same is

  pub entries_same : (batch : List (Movement (String Global))) (u : Undo (String Global)) → EntersOrRefuses string_eq L batch u → EntersOrRefuses string_eq M batch u
  entries_same batch (Done booked) is = is ∙ ap (λ (s : String Global → ℕ). entries_of string_eq s (opposites_of batch)) listed_same
  entries_same batch (Refused refusals) is = is ∙ ap (λ (s : String Global → ℕ). refused_of string_eq s (opposites_of batch)) listed_same

-- the rows that an undo leaves are in ascending order
pub undo_rises : (stock : String Global → ℕ) (batch : List (Movement (String Global))) (u : Undo (String Global)) → IsUndo string_eq string_cmp stock batch u → HasRisingRows u
undo_rises stock batch (Done booked) is = is.balance.rising
undo_rises stock batch (Refused refusals) is = tt
