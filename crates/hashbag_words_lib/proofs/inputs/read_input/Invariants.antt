use Rattle.hashbag_words_lib.proofs.InputLemmas.{SoFar}
use Rattle.hashbag_words_lib.proofs.inputs.read_input.Given as goal

-- the text of the blocks that were read was counted
abbrev pub invariant-steps : goal.invariant-steps
invariant-steps g l = SoFar g.C.Counter.has g.B.Blocks.ended l.fn.encoding l.fn.name l.fn.inputs l.inputs (g.B.Blocks.begun l.inputs) l.decoding.decoder l.fn.counter l.counter
