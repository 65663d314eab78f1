use Rattle.std.proofs.Common.{◌≡◌, map, IsNone, rules, arith}
use Rattle.std.proofs.lemmas.Grind.{common_steps}
use Rattle.hashbag_ledger_lib.specs.Kinds.{batch_number, numbers_of}
use Rattle.hashbag_ledger_db.proofs.VerifiedLemmas.{agrees}
use Rattle.hashbag_ledger_db.proofs.verifying.difference_of.Goals as goal

-- nothing is wrong
pub returns-in-Ok : goal.returns-in-Ok
returns-in-Ok g c right =
    let none : IsNone c.wrong_batch.result = first_of (search rules, grind (arith, common_steps)) in
    let batches : map batch_number c.args.kept.movements.items ≡ numbers_of c.args.kept.batches.items = rw (c.deref.ensures.value, c.deref-2.ensures.value) at (c.wrong_batch.ensures none) in
    let same = rw (c.deref-in-Ok.ensures.value, c.deref-in-Ok-2.ensures.value, c.deref-in-Ok-3.ensures.value, c.deref-in-Ok-4.ensures.value) at (c.in_ok-wrong_row-in-Ok.ensures right) in
    agrees c.args.style.scale c.args.kept c.in-Ok.booked c.new.result.items c.in_ok-movements.movements.items c.in_ok-movements.extras.items c.new.ensures.items
    c.in_ok-movements.ensures.movements c.in_ok-movements.ensures.extras batches c.in-Ok.ensures.booked same
