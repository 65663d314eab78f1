use Rattle.std.proofs.lemmas.Result.{on_ok_weaker}
use Rattle.hashbag_words_lib.proofs.InputLemmas.{so_far_ended, so_far_more, so_far_none}
use Rattle.hashbag_words_lib.proofs.inputs.read_input.Goals as goal

pub steps-init : goal.steps-init
steps-init g c =
    so_far_none g.C.Counter.has g.B.Blocks.ended c.args.encoding c.args.name.now c.args.inputs.now c.open.new.self (g.B.Blocks.begun c.open.new.self) c.new-decoding.result.decoder c.args.counter.now
    c.in_ok-open.ensures.begun c.in_ok-open.ensures.ended c.new-decoding.ensures

pub steps-preserved : goal.steps-preserved
steps-preserved g c =
    let begun = g.B.Blocks.begun in
    let to = c.read.new.self in
    so_far_more g.C.Counter.has g.B.Blocks.ended c.args.encoding c.args.name.now c.args.inputs.now c.steps.inputs to (begun c.steps.inputs) (begun to) c.steps.decoding.decoder c.feed.new.self.decoder
    c.args.counter.now c.steps.counter c.feed.new.counter c.block-block.result.now (g.B.Blocks.last to) c.steps.invariant c.block-block.ensures c.in_ok-read.ensures
    c.if-is_empty.ensures c.in_ok-feed.ensures

pub returns-then-is_empty : goal.returns-then-is_empty
returns-then-is_empty g c =
    let begun = g.B.Blocks.begun in
    let to = c.read.new.self in
    on_ok_weaker c.end.result
    (so_far_ended g.C.Counter.has g.B.Blocks.ended c.args.encoding c.args.name.now c.args.inputs.now c.steps.inputs to (begun c.steps.inputs) (begun to) c.steps.decoding.decoder c.args.counter.now
    c.steps.counter c.block-block.result.now (g.B.Blocks.last to) c.steps.invariant c.block-block.ensures c.in_ok-read.ensures c.if-is_empty.ensures)
    c.end.ensures
