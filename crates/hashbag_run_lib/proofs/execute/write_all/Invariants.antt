use Rattle.std.proofs.Common.{◌≡◌, ℕ, List, ◌++◌, length}
use Rattle.std.specs.Io.KnownBytes.{Appends}
use Rattle.hashbag_run_lib.proofs.execute.write_all.Given as goal

abbrev pub invariant-loop-left : goal.invariant-loop-left
invariant-loop-left g l = (part : List ℕ) × (l.text ≡ part ++ l.left) × Appends (g.W.Write.contents l.initial.output) (g.W.Write.contents l.output) part

abbrev pub decreases-loop-left : goal.decreases-loop-left
decreases-loop-left g l = length l.left
