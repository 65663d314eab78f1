use Rattle.std.proofs.Common.{arith}
use Rattle.hashbag_c.proofs.text_batches.keep_listed.Goals as goal

pub returns-clause-retained : goal.returns-clause-retained
returns-clause-retained c = record {
  counts = λ v. let kept = c.keep_common.ensures.counts v in let listed = c.in_ok-allowed.ensures v in omega (arith, kept, listed);
  limit = c.keep_common.ensures.limit;
  hasher = c.keep_common.ensures.hasher;
  keeps_room = c.keep_common.ensures.room;
}
