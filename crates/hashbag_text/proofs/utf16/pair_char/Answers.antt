use Rattle.std.proofs.Common.{inr, arith}
use Rattle.hashbag_text.proofs.TextLemmas.{made}
use Rattle.hashbag_text.proofs.UnitLemmas.{high_within, low_within}
use Rattle.hashbag_text.proofs.utf16.pair_char.Goals as goal

pub returns : goal.returns
returns c =
    let high = high_within c.unit.result c.unit.ensures.high in
    let low = low_within c.args.low c.requires in
    made c.from_u32.result _ _ _ c.from_u32.ensures.value (c.from_u32.ensures.succeeds (inr (omega arith, omega arith))) (omega arith)
