-- The movements of an input, as rows have them.
use Rattle.std.proofs.Common.{◌≡◌, ℕ, Bool, true, false, if◌then◌else◌, List, [], ◌∷◌, map, String, Global, refl, sym, ◌∙◌, ap}
use Rattle.std.specs.String.{string_bytes}
use Rattle.hashbag_csv.specs.declared.counts.Reading.{Reading}
use Rattle.hashbag_ledger_db.specs.declared.job.Job.{Job}
use Rattle.hashbag_ledger_db.specs.Filed.{names_of, plain_movement, plain_content, input_rows, start_names}
use Rattle.hashbag_ledger_db.specs.declared.movements.Input.{Input}
use Rattle.hashbag_ledger_lib.specs.Movements.{movements_in, content_of}
use Rattle.hashbag_ledger_lib.specs.Numbers.{plain}
use Rattle.hashbag_ledger_lib.specs.declared.movements.Change.{Change}
use Rattle.hashbag_ledger_lib.specs.declared.movements.Movement.{Movement}
use Rattle.hashbag_ledger_lib.specs.declared.reading.Columns.{Columns}

plain_in_turn : (ms : List (Movement (String Global))) → map content_of (map plain_movement ms) ≡ map plain_content (map content_of ms)
plain_in_turn [] = refl
plain_in_turn (m ∷ ms) = ap (λ (l : List (List ℕ × Change)). (string_bytes m.article, plain m.change) ∷ l) (plain_in_turn ms)

module _ (job : Job) (reading : Reading) (names : Columns (List ℕ)) (input : Input) (rows read : List (Movement (String Global))) (text : List ℕ) (are_plain : rows ≡ map plain_movement read) (same : text ≡ input.text.items) where
  by_names : (given : Columns (List ℕ)) → given ≡ names_of job names input → map content_of read ≡ movements_in reading given text → map content_of rows ≡ input_rows job reading names input
  by_names given is are =
      ap (map content_of) are_plain ∙ plain_in_turn read
      ∙ ap (map plain_content) (are ∙ ap (movements_in reading given) same ∙ ap (λ (n : Columns (List ℕ)). movements_in reading n input.text.items) is)

  pub moves_read : input.is_start ≡ false → map content_of read ≡ movements_in reading names text → map content_of rows ≡ input_rows job reading names input
  moves_read other = by_names names (sym (ap (λ (b : Bool). if b then start_names job else names) other))

  pub start_read : input.is_start ≡ true → map content_of read ≡ movements_in reading (start_names job) text → map content_of rows ≡ input_rows job reading names input
  start_read first = by_names (start_names job) (sym (ap (λ (b : Bool). if b then start_names job else names) first))

-- what was counted has the columns of the stock at the beginning
pub counted_rows : (job : Job) (reading : Reading) (names : Columns (List ℕ)) (input : Input) → input.is_start ≡ true → input_rows job reading names input ≡ map plain_content (movements_in reading (start_names job) input.text.items)
counted_rows job reading names input first = ap (λ (b : Bool). map plain_content (movements_in reading (if b then start_names job else names) input.text.items)) first
