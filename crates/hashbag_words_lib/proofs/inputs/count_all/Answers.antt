use Rattle.std.proofs.Common.{◌≡◌, ◌∙◌, ap}
use Rattle.hashbag_words_lib.proofs.InputLemmas.{inputs_more, no_inputs}
use Rattle.hashbag_words_lib.proofs.inputs.count_all.Goals as goal
use Rattle.hashbag_words_lib.proofs.inputs.count_all.Goals.{then-has_nul, else-has_nul}

pub loop-name-init : goal.loop-name-init
loop-name-init g c = no_inputs g.C.Counter.has g.B.Blocks.ended c.args.encoding c.args.inputs.now c.args.counter.now

-- an input more: it was read, and its text has ended
pub loop-name-preserved : goal.loop-name-preserved
loop-name-preserved g c =
    let ended = g.B.Blocks.ended in
    let same : ended c.if-has_nul.inputs ≡ ended c.read_input.new.inputs = elim c.if-has_nul.branch [
      | then-has_nul w ↦ ap ended w.inputs-is ∙ w.report_nul.ensures
      | else-has_nul w ↦ ap ended w.inputs-is
    ] in
    inputs_more g.C.Counter.has ended c.args.encoding c.args.names.now c.loop-name.name-index _ c.args.inputs.now c.loop-name.inputs c.read_input.new.inputs c.report.new.self
    c.args.counter.now c.loop-name.counter c.read_input.new.counter c.end.new.counter c.loop-name-test.true c.loop-name.invariant
    c.in_ok-has_nul.ensures c.in_ok-reading.ensures (c.report.ensures ∙ same)
