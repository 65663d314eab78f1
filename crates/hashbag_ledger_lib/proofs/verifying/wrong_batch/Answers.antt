use Rattle.std.proofs.Common.{◌≡◌, ◌∷◌, ◌∙◌, ap, unsigned_abs, w64, to_z, of_z, rules, arith}
use Rattle.std.proofs.lemmas.Grind.{common_steps}
use Rattle.hashbag_ledger_lib.proofs.WrongLemmas.{batch_first}
use Rattle.hashbag_ledger_lib.proofs.verifying.wrong_batch.Goals as goal

-- the next batch has its movements
pub batches-preserved : goal.batches-preserved
batches-preserved c others =
    let b = c.in-Some.batch.now in
    let are : c.batches.rest.now ≡ b ∷ c.in-Some.others.now = first_of (search rules, grind (arith, common_steps)) in
    let many : c.own_of-count.result ≡ b.movements = c.if-count-batch.false in
    let read : to_z w64 (of_z w64 b.number) ≡ b.number = search rules in
    let is : c.unsigned_abs.result ≡ unsigned_abs b.number = c.unsigned_abs.ensures.value ∙ ap unsigned_abs read in
    c.batches.invariant (batch_first b c.in-Some.others.now c.batches.rest.now c.batches.left.now c.cut.result.1.now c.own_of-count.result c.unsigned_abs.result are many is c.own_of-count.ensures c.cut.ensures.later others)
