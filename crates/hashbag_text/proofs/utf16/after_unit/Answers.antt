use Rattle.std.proofs.Common.{◌≡◌, true, false, Some, None, sym, ◌∙◌, ap}
use Rattle.core.specs.Char.Utf16.{is_low_surrogate}
use Rattle.hashbag_text.specs.Encodings.{text_of_units, yields}
use Rattle.hashbag_text.proofs.UnitLemmas.{not_low, pair_left, lone_left}
use Rattle.hashbag_text.proofs.utf16.after_unit.Goals as goal

pub returns-then-is_low-clause-character : goal.returns-then-is_low-clause-character
returns-then-is_low-clause-character c units =
    let low : is_low_surrogate c.args.unit ≡ true = cc in
    pair_left _ c.in-Some.high c.args.unit c.in-Some.is low units ∙ ap (λ r. yields r (text_of_units units)) (sym c.pair_char.ensures)

pub returns-in-Some-clause-bad_bytes : goal.returns-in-Some-clause-bad_bytes
returns-in-Some-clause-bad_bytes c =
    let other : is_low_surrogate c.args.unit ≡ false = cc in
    not_low _ c.in-Some.high c.args.unit c.in-Some.is other

pub returns-in-Some-lone_char-clause-character : goal.returns-in-Some-lone_char-clause-character
returns-in-Some-lone_char-clause-character c =
    let none : c.args.high ≡ None = cc in
    lone_left c.args.high c.args.unit (Some c.in-Some-lone_char.c) none c.in_default-of_unit.ensures (sym c.in-Some-lone_char.is ∙ c.lone_char.ensures)

pub returns-in-None-clause-bad_bytes : goal.returns-in-None-clause-bad_bytes
returns-in-None-clause-bad_bytes c =
    let none : c.args.high ≡ None = cc in
    lone_left c.args.high c.args.unit None none c.in_default-of_unit.ensures (sym c.in-None.is ∙ c.lone_char.ensures)
