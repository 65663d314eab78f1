use Rattle.std.proofs.Common.{◌++◌, take}
use Rattle.hashbag_run_lib.proofs.ExecutionLemmas.{cut_more, appends_more}
use Rattle.hashbag_run_lib.proofs.execute.write_all.Goals as goal

pub loop-left-preserved : goal.loop-left-preserved
loop-left-preserved g c =
    let before = c.loop-left.invariant in
    (before.0 ++ take c.in-Ok.taken c.loop-left.left.now, rw c.split_at.ensures.back (cut_more c.args.text.now before.0 c.loop-left.left.now c.in-Ok.taken before.1), appends_more _ _ _ before.0 (take c.in-Ok.taken c.loop-left.left.now) before.2 c.in-Ok.ensures.bytes)
