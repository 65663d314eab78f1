-- What movements carry along, when what became of them is computed anew.
use Rattle.std.proofs.Common.{◌≡◌, [], List, String, Global, string_eq, length, sym, ◌∙◌, ap}
use Rattle.std.proofs.lemmas.List.{length-map}
use Rattle.std.proofs.lemmas.Map.Entries.{length-keys_of, length-values_of}
use Rattle.std.proofs.lemmas.Slice.Zip.{seconds-zip}
use Rattle.std.specs.Map.{keys_of, values_of}
use Rattle.hashbag_ledger_lib.specs.declared.movements.Entry.{Entry}
use Rattle.hashbag_ledger_lib.specs.declared.movements.Movement.{Movement}
use Rattle.hashbag_ledger_lib.specs.Entries.{entries_of}
use Rattle.hashbag_ledger_lib.specs.Recalls.{recalled}
use Rattle.hashbag_ledger_lib.specs.Settled.{listed}
use Rattle.hashbag_ledger_lib.proofs.CountedLemmas.{movements_after}

-- none is lost
pub all_carried : {X : Type 0} (ms : List (Movement (String Global) × X)) → values_of (recalled ms) ≡ values_of ms
all_carried ms =
    let es : List (Entry (String Global)) = entries_of string_eq (listed string_eq []) (keys_of ms) in
    let as_long : length es ≡ length (keys_of ms) = sym (length-map es (λ e. e.movement)) ∙ ap (λ (l : List (Movement (String Global))). length l) (movements_after string_eq (listed string_eq []) [] (keys_of ms)) in
    seconds-zip es (values_of ms) (length-values_of ms ∙ sym (length-keys_of ms) ∙ sym as_long)
