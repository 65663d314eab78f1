use Rattle.std.proofs.Common.{arith}
use Rattle.std.proofs.Math.Nat.{le-max_left, le-max_right}
use Rattle.std.proofs.lemmas.List.{length-map}
use Rattle.std.specs.String.{string_bytes}
use Rattle.hashbag_csv.specs.Tables.{cell_bytes}
use Rattle.hashbag_csv.proofs.TableLemmas.{all_widened}
use Rattle.hashbag_csv.proofs.table.widened.Goals as goal

-- past the last width and the last cell there is nothing
pub returns : goal.returns
returns c =
    let widths = c.args.widths.now.items in
    let cells = c.args.cells.now.items in
    let long = length-map cells string_bytes in
    let left = le-max_left c.len.result c.len-2.result in
    let right = le-max_right c.len.result c.len-2.result in
    all_widened widths c.loop-index.wide.items (cell_bytes c.args.cells.now) c.loop-index.index c.loop-index.invariant.0 (omega (arith, left, c.len.ensures, c.max-index-end.ensures, c.loop-index-test.false))
    (omega (arith, long, right, c.len-2.ensures, c.max-index-end.ensures, c.loop-index-test.false)) c.loop-index.invariant.1
