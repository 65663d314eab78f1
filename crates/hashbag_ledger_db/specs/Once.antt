-- Which inputs may be entered only once, and what is asked of them.
use Rattle.std.specs.Prelude.{◌≡◌, ◌≢◌, ℕ, ◌==◌, ◌&&◌, ◌||◌, if◌then◌else◌, Bool, true, false, not, List, [], ◌∷◌, All, EachIndex, Some, bytes_eq, codes, slice_get, string_bytes, take}
use Rattle.hashbag_ledger_db.specs.declared.movements.Input.{Input}
use Rattle.hashbag_ledger_lib.specs.Kinds.{HasDigest}
use Rattle.hashbag_ledger_lib.specs.declared.once.Batch.{Batch}

-- whether a byte ends a line
abbrev pub ends_line : ℕ → Bool
ends_line b = b == 10 || b == 13

-- whether one of these bytes ends no line
abbrev pub has_content : List ℕ → Bool
has_content [] = false
has_content (b ∷ bs) = not (ends_line b) || has_content bs

-- whether a text of CSV has, behind its first line end, a byte that ends no line
abbrev pub has_rows : List ℕ → Bool
has_rows [] = false
has_rows (b ∷ bs) = if ends_line b then has_content bs else has_rows bs

-- whether an input may be entered only once: it is a file, not standard input, and has movements
abbrev pub comes_once : Input → Bool
comes_once input = not (bytes_eq input.file.now (codes "-")) && has_rows input.text.items

-- neither a batch nor an earlier input has the bytes of an input, as far as their SHA-256 shows it
pub record IsNew (batches : List Batch) (earlier : List Input) (input : Input) : Type 0 where
  pub unlike_batches : All (λ b. ¬ (HasDigest (string_bytes input.sha256) b)) batches
  pub unlike_earlier : All (λ other. string_bytes other.sha256 ≢ string_bytes input.sha256) earlier

-- an input that may be entered only once is new
abbrev pub IsNewIfOnce : List Batch → List Input → Input → Type 0
IsNewIfOnce batches earlier input = comes_once input ≡ true → IsNew batches earlier input

-- the input at this place is new, if it may be entered only once
abbrev pub IsNewAt : List Input → List Batch → ℕ → Type 0
IsNewAt inputs batches k = (input : Input) → slice_get inputs k ≡ Some input → IsNewIfOnce batches (take k inputs) input

-- each of these inputs is new, if it may be entered only once
abbrev pub AreNew : List Input → List Batch → Type 0
AreNew inputs batches = EachIndex inputs (IsNewAt inputs batches)
