use Rattle.std.proofs.Common.{◌≡◌, Some, None, refl, sym, ◌∙◌}
use Rattle.hashbag_text.specs.declared.state.State.TheVariants.{Units}
use Rattle.hashbag_text.proofs.StateLemmas.{on_err, units_are, kept_more, unit_more, unit_fails, latin_more, windows_more}
use Rattle.hashbag_text.proofs.state.State.after.Goals as goal

pub returns-in_err-high-in-Units-default-default-Some-clause-bad_bytes :
    goal.returns-in_err-high-in-Units-default-default-Some-clause-bad_bytes
returns-in_err-high-in-Units-default-default-Some-clause-bad_bytes c =
    let w = c.in-Units-default-default-Some in
    let is : c.args.self ≡ Units w.order w.high (Some w.first) = units_are _ _ _ _ _ _ w.is refl (rw w.is at w.field-2-is) in
    on_err c.from_residual.result _ (unit_fails c.args.self w.order w.high w.first c.args.byte c.unit.result is c.unit.ensures c.in_err-high-in-Units-default-default-Some.ensures.bad_bytes)

pub returns-in_ok-high-in-Units-default-default-Some-clause-character :
    goal.returns-in_ok-high-in-Units-default-default-Some-clause-character
returns-in_ok-high-in-Units-default-default-Some-clause-character c =
    let w = c.in-Units-default-default-Some in
    let is : c.args.self ≡ Units w.order w.high (Some w.first) = units_are _ _ _ _ _ _ w.is refl (rw w.is at w.field-2-is) in
    unit_more c.args.self w.order w.high _ w.first c.args.byte c.unit.result _ is c.unit.ensures c.in_ok-high-in-Units-default-default-Some.ensures.character

pub returns-in-Latin1-clause-character : goal.returns-in-Latin1-clause-character
returns-in-Latin1-clause-character c = latin_more c.args.self c.args.byte c.from.result c.in-Latin1.is c.from.ensures

pub returns-in-Some-windows_1252-clause-character :
    goal.returns-in-Some-windows_1252-clause-character
returns-in-Some-windows_1252-clause-character c =
    windows_more c.args.self c.args.byte (Some c.in-Some-windows_1252.c) c.in-Windows1252.is (sym c.in-Some-windows_1252.is ∙ c.windows_1252.ensures)

pub returns-in-None-windows_1252-clause-bad_bytes : goal.returns-in-None-windows_1252-clause-bad_bytes
returns-in-None-windows_1252-clause-bad_bytes c =
    windows_more c.args.self c.args.byte None c.in-Windows1252.is (sym c.in-None-windows_1252.is ∙ c.windows_1252.ensures)

pub returns-in-Units-default-default-None-clause-character : goal.returns-in-Units-default-default-None-clause-character
returns-in-Units-default-default-None-clause-character c =
    let w = c.in-Units-default-default-None in
    let is : c.args.self ≡ Units w.order w.high None = units_are _ _ _ _ _ _ w.is refl (rw w.is at w.field-2-is) in
    kept_more c.args.self w.order w.high c.args.byte is
