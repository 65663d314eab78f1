use Rattle.std.proofs.Common.{take}
use Rattle.hashbag_words_lib.specs.Inputs.{CountsInputs}
use Rattle.hashbag_words_lib.proofs.inputs.count_all.Given as goal

-- the first inputs were counted
abbrev pub invariant-loop-name : goal.invariant-loop-name
invariant-loop-name g l = CountsInputs g.C.Counter.has g.B.Blocks.ended l.fn.encoding (take l.name-index l.fn.names) l.fn.inputs l.inputs l.fn.counter l.counter
