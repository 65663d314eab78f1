-- What the seal of a batch is computed from: the scale of the stock, the row of the batch, the movements, and their dates and notes. The
-- length of each text is before the text.
use Rattle.std.specs.Prelude.{◌≡◌, ℕ, ℤ, List, [], ◌∷◌, ◌++◌, ◌+◌, ◌&&◌, if◌then◌else◌, length, take, drop, Option, None, Some, is_none, String, string_bytes}
use Rattle.std.specs.Global.{Global}
use Rattle.std.specs.Int.{w64, to_le_bytes, cast_unsigned}
use Rattle.hex.specs.Hex.{encode_lower}
use Rattle.sha2.specs.Sha256.{sha256}
use Rattle.hashbag_ledger_lib.specs.declared.extras.Extra.{Extra}
use Rattle.hashbag_ledger_lib.specs.declared.movements.Change.{Change}
use Rattle.hashbag_ledger_lib.specs.declared.movements.Change.TheVariants.{In, Out}
use Rattle.hashbag_ledger_lib.specs.declared.movements.Entry.{Entry}
use Rattle.hashbag_ledger_lib.specs.declared.movements.Movement.{Movement}
use Rattle.hashbag_ledger_lib.specs.declared.once.Batch.{Batch}
use Rattle.hashbag_ledger_lib.specs.declared.sealing.Draft.{Draft}
use Rattle.hashbag_ledger_lib.specs.Entries.{refusals_in}
use Rattle.hashbag_ledger_lib.specs.Kinds.{name_of, undone_of}
use Rattle.hashbag_ledger_lib.specs.Numbers.{plain}

-- a message m and then a number, which takes eight bytes
abbrev pub with_number : List ℕ → ℕ → List ℕ
with_number m n = m ++ to_le_bytes w64 n

-- a message m and then a text: its length, and its bytes
abbrev pub with_text : List ℕ → List ℕ → List ℕ
with_text m text = with_number m (length text) ++ text

-- a message m, then 1, then a number with a sign; if the number is missing, m and then 0
abbrev pub with_option : List ℕ → Option ℤ → List ℕ
with_option m None = with_number m 0
with_option m (Some n) = with_number (with_number m 1) (cast_unsigned w64 n)

-- a message m and then a change: 0 for `In` or 1 for `Out`, and the number
abbrev pub with_change : List ℕ → Change → List ℕ
with_change m (In n) = with_number (with_number m 0) n
with_change m (Out n) = with_number (with_number m 1) n

-- a message m and then a movement: its line, its article and its change
abbrev pub with_movement : List ℕ → Movement (String Global) → List ℕ
with_movement m x = with_change (with_text (with_number m x.place.line) (string_bytes x.article)) (plain x.change)

-- a message m and then these movements in turn
abbrev pub with_movements : List ℕ → List (Entry (String Global)) → List ℕ
with_movements m [] = m
with_movements m (e ∷ es) = with_movements (with_movement m e.movement) es

-- a message m, then 1, then a text; if the text is missing, m and then 0
abbrev pub with_maybe : List ℕ → Option (String Global) → List ℕ
with_maybe m None = with_number m 0
with_maybe m (Some text) = with_text (with_number m 1) (string_bytes text)

-- a message m, then the place n of a movement in its batch, from 0, then its date and its note; m alone if the movement has neither
abbrev pub with_extra : List ℕ → ℕ → Extra → List ℕ
with_extra m n x = if is_none x.date && is_none x.note then m else with_maybe (with_maybe (with_number m n) x.date) x.note

-- a message m and then the dates and notes of movements, in turn; the first of the movements has the place n in its batch
abbrev pub with_extras : List ℕ → ℕ → List Extra → List ℕ
with_extras m n [] = m
with_extras m n (x ∷ xs) = with_extras (with_extra m n x) (n + 1) xs

-- a message m and then the scale of the stock, and the number of a batch
abbrev pub with_head : List ℕ → ℕ → Batch → List ℕ
with_head m scale b = with_option (with_number m scale) (Some b.number)

-- a message m and then where a batch comes from: the file, the digest of the file, and the kind
abbrev pub with_source : List ℕ → Batch → List ℕ
with_source m b = with_text (with_text (with_text m (string_bytes b.file)) (string_bytes b.sha256)) (string_bytes b.kind)

-- a message m and then the rest of the row of a batch: which batch it undoes, its time, and how many movements and refusals it has
abbrev pub with_counts : List ℕ → Batch → List ℕ
with_counts m b = with_number (with_number (with_text (with_option m b.undoes) (string_bytes b.time)) b.movements) b.refused

-- the message of a seal: the scale of the stock, the row of the batch, its movements in turn, and their dates and notes
abbrev pub sealed : ℕ → Batch → List (Entry (String Global)) → List Extra → List ℕ
sealed scale b es xs = with_extras (with_movements (with_counts (with_source (with_head [] scale b) b) b) es) 0 xs

-- the seal of a batch: the SHA-256 of its message, in hexadecimal digits
abbrev pub seal_of : ℕ → Batch → List (Entry (String Global)) → List Extra → List ℕ
seal_of scale b es xs = encode_lower (sha256 (sealed scale b es xs))

-- a batch has the seal of its row, of these entries, and of these dates and notes
abbrev pub IsSealed : ℕ → Batch → List (Entry (String Global)) → List Extra → Type 0
IsSealed scale b es xs = string_bytes b.seal ≡ seal_of scale b es xs

-- b is the row of a batch that has the fields of the draft d, these entries, and these dates and notes
pub record IsRowOf (scale : ℕ) (d : Draft) (es : List (Entry (String Global))) (xs : List Extra) (b : Batch) : Type 0 where
  pub number : b.number ≡ d.number
  pub file : string_bytes b.file ≡ d.file.now
  pub digest : string_bytes b.sha256 ≡ d.sha256.now
  pub kind : string_bytes b.kind ≡ name_of d.kind
  pub undoes : b.undoes ≡ undone_of d.kind
  pub time : string_bytes b.time ≡ d.time.now
  pub counts : b.movements ≡ length es
  pub refusals : b.refused ≡ length (refusals_in es)
  pub seal : IsSealed scale b es xs

-- the rows of batches; each batch has the next entries, as many as its draft says, and the dates and notes of the same movements
abbrev pub AreRowsOf : ℕ → List Draft → List (Entry (String Global)) → List Extra → List Batch → Type 0
AreRowsOf scale [] es xs [] = Unit {0}
AreRowsOf scale [] es xs (b ∷ bs) = ⊥
AreRowsOf scale (d ∷ ds) es xs [] = ⊥
AreRowsOf scale (d ∷ ds) es xs (b ∷ bs) = IsRowOf scale d (take d.movements es) (take b.movements xs) b × AreRowsOf scale ds (drop d.movements es) (drop b.movements xs) bs

-- each batch has the right seal. es are the movements of all batches in turn, as many for each as its row says, and xs their dates and notes
abbrev pub AreSealed : ℕ → List Batch → List (Entry (String Global)) → List Extra → Type 0
AreSealed scale [] es xs = Unit {0}
AreSealed scale (b ∷ bs) es xs = IsSealed scale b (take b.movements es) (take b.movements xs) × AreSealed scale bs (drop b.movements es) (drop b.movements xs)
