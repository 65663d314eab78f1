use Rattle.std.proofs.Common.{refl}
use Rattle.hashbag_text.proofs.StateLemmas.{units_are, odd_end, half_end, whole_end}
use Rattle.hashbag_text.proofs.state.State.end.Goals as goal

pub returns-in-Units-default-default-Some-clause-bad_bytes :
    goal.returns-in-Units-default-default-Some-clause-bad_bytes
returns-in-Units-default-default-Some-clause-bad_bytes c =
    let w = c.in-Units-default-default-Some in
    odd_end _ w.field-0 w.field-1 w.field-2-0 (units_are _ _ _ _ _ _ w.is refl (rw w.is at w.field-2-is))

pub returns-in-Units-default-Some-None-clause-bad_bytes :
    goal.returns-in-Units-default-Some-None-clause-bad_bytes
returns-in-Units-default-Some-None-clause-bad_bytes c =
    let w = c.in-Units-default-Some-None in
    half_end _ w.field-0 w.field-1-0 (units_are _ _ _ _ _ _ w.is (rw w.is at w.field-1-is) (rw w.is at w.field-2-is))

pub returns-in-Units-default-None-None-clause-whole :
    goal.returns-in-Units-default-None-None-clause-whole
returns-in-Units-default-None-None-clause-whole c =
    let w = c.in-Units-default-None-None in
    whole_end _ w.field-0 (units_are _ _ _ _ _ _ w.is (rw w.is at w.field-1-is) (rw w.is at w.field-2-is))
