-- What the subcommand `total` does: the movements of its files come to the opening stock.
use Rattle.std.specs.Prelude.{◌≡◌, ℕ, ◌+◌, nat_lt, if◌then◌else◌, Bool, List, [], ◌∷◌, ◌++◌, length, map, take, All, String, string_cmp, MatchOption}
use Rattle.std.specs.Borrow.{Bor}
use Rattle.std.specs.Global.{Global}
use Rattle.std.specs.String.{string_eq}
use Rattle.hashbag_csv.specs.Counts.{count_line, counts_in}
use Rattle.hashbag_csv.specs.Forms.{rows_in}
use Rattle.hashbag_csv.specs.Quantities.{IsBalance}
use Rattle.hashbag_csv.specs.declared.counts.Reading.{Reading}
use Rattle.hashbag_csv.specs.declared.forms.Form.TheVariants.{Csv}
use Rattle.hashbag_ledger_db.specs.declared.settings.Settings.{Settings}
use Rattle.hashbag_ledger_lib.specs.Ledger.{in_the_end, refused_of, Leaves}
use Rattle.hashbag_ledger_lib.specs.Listings.{balance_cells, balance_names, refusal_cells, refusal_names}
use Rattle.hashbag_ledger_lib.specs.Movements.{movements_in, names_now, content_of}
use Rattle.hashbag_ledger_lib.specs.Settled.{listed, IsLedgerOf}
use Rattle.hashbag_ledger_lib.specs.declared.ledger.Entered.{Entered}
use Rattle.hashbag_ledger_lib.specs.declared.ledger.Ledger.{Ledger}
use Rattle.hashbag_ledger_lib.specs.declared.movements.Movement.{Movement}
use Rattle.hashbag_ledger_lib.specs.declared.movements.Refusal.{Refusal}
use Rattle.hashbag_shell.specs.Inputs.{IsTextRead}

-- the old ledger and then these movements, entered in turn, give the new ledger
abbrev pub EntersAll : {S H : Type 0} → List (Movement (String Global)) → Ledger (String Global) S H → Ledger (String Global) S H → Type 0
EntersAll ms old new =
    (L : List (String Global × ℕ)) (before : List (Movement (String Global))) → IsLedgerOf string_eq L before old.refusals.items old.stock → IsLedgerOf string_eq L (before ++ ms) new.refusals.items new.stock

module _ (gives : List ℕ → List ℕ → Type 0) (settings : Settings) where
  -- a list has the lines of the file of the opening stock
  pub record IsStartIn (start : List (String Global × ℕ)) (file : Bor (List ℕ)) : Type 0 where
    pub text : List ℕ
    pub read : IsTextRead gives settings.start_encoding file.now text
    pub lines : map count_line start ≡ counts_in settings.reading settings.start_columns.0.now settings.start_columns.1.now text

  -- a list is the opening stock: empty if no file is named
  abbrev pub IsStartOf : List (String Global × ℕ) → Type 0
  IsStartOf start = MatchOption settings.start (start ≡ []) (IsStartIn start)

  -- these are the movements of the file of this number, in turn
  pub record AreMovementsIn (n : ℕ) (file : List ℕ) (ms : List (Movement (String Global))) : Type 0 where
    pub text : List ℕ
    pub read : IsTextRead gives settings.encoding file text
    pub all : map content_of ms ≡ movements_in settings.reading (names_now settings.columns) text
    pub places : All (λ m. m.place.file ≡ n) ms

  -- these are the movements of files, in turn; the first file has the number n
  abbrev pub AreMovementsFrom : ℕ → List (Bor (List ℕ)) → List (Movement (String Global)) → Type 0
  AreMovementsFrom n [] ms = ms ≡ []
  AreMovementsFrom n (file ∷ files) ms =
      (first : List (Movement (String Global))) × (later : List (Movement (String Global))) × AreMovementsIn n file.now first × AreMovementsFrom (n + 1) files later × (ms ≡ first ++ later)

  -- a ledger began as the opening stock, and no movement has come to it
  abbrev pub IsBegunFrom : {S H : Type 0} → Ledger (String Global) S H → Type 0
  IsBegunFrom ledger = (start : List (String Global × ℕ)) × IsStartOf start × IsLedgerOf string_eq start [] ledger.refusals.items ledger.stock

  -- the movements of the file of this number came to a ledger
  abbrev pub EntersFileOf : {S H : Type 0} → ℕ → List ℕ → Ledger (String Global) S H → Ledger (String Global) S H → Type 0
  EntersFileOf n file old new = (ms : List (Movement (String Global))) × AreMovementsIn n file ms × EntersAll ms old new

  -- the movements of these files came to a ledger, in turn; the first file has the number 0
  abbrev pub EntersFiles : {S H : Type 0} → List (Bor (List ℕ)) → Ledger (String Global) S H → Ledger (String Global) S H → Type 0
  EntersFiles files old new = (ms : List (Movement (String Global))) × AreMovementsFrom 0 files ms × EntersAll ms old new

  -- `entered` is what the movements of all named files, entered in turn into the opening stock, leave of it, and which of them were refused
  pub record IsEnteredOf (entered : Entered (String Global)) : Type 0 where
    pub start : List (String Global × ℕ)
    pub begun : IsStartOf start
    pub movements : List (Movement (String Global))
    pub named : AreMovementsFrom 0 settings.files.items movements
    pub rows : IsBalance string_eq string_cmp (in_the_end string_eq (listed string_eq start) movements) entered.balance.items
    pub leaves : Leaves string_eq (listed string_eq start) movements (listed string_eq entered.balance.items)
    pub refused : entered.refusals.items ≡ refused_of string_eq (listed string_eq start) movements

-- the balance as CSV, under the names of the columns of the opening stock
abbrev pub balance_text : Settings → Entered (String Global) → List ℕ
balance_text settings entered =
    let reading = settings.reading in
    rows_in Csv reading.delimiter (balance_names settings.start_columns) (map (balance_cells reading.scale) entered.balance.items)

-- the refusals that are named: with `--strict` only the first
abbrev pub named_in : Settings → List (Refusal (String Global)) → List (Refusal (String Global))
named_in settings refusals = if settings.strict then take 1 refusals else refusals

-- refusals as CSV, with the names of these files
abbrev pub refusals_rows : Reading → List (Bor (List ℕ)) → List (Refusal (String Global)) → List ℕ
refusals_rows reading files refusals =
    rows_in Csv reading.delimiter refusal_names (map (refusal_cells (map (λ f. f.now) files) reading.scale) refusals)

-- the refusals that are named, as CSV
abbrev pub refusals_table : Settings → List (Refusal (String Global)) → List ℕ
refusals_table settings refusals = refusals_rows settings.reading settings.files.items (named_in settings refusals)

-- whether a movement was refused
abbrev pub has_refused : Entered (String Global) → Bool
has_refused entered = nat_lt 0 (length entered.refusals.items)

-- the status of a call: 1 after a refusal, else 0
abbrev pub status_with : Entered (String Global) → ℕ
status_with entered = if has_refused entered then 1 else 0
