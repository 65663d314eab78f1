use Rattle.std.proofs.lemmas.Result.{IfOk-weaker}
use Rattle.std.specs.String.{string_bytes}
use Rattle.hashbag_match_lib.proofs.TableLemmas.{sums_many}
use Rattle.hashbag_match_lib.proofs.output.sums_of.Goals as goal

-- several articles differ
pub returns : goal.returns
returns c =
    IfOk-weaker c.format-2.result _ _
    (λ text is. sums_many c.args.scale c.args.totals.now (string_bytes c.in_ok-missing.missing) (string_bytes c.in_ok-surplus.surplus) _ c.if-totals-eq0.false c.if-totals-eq1.false c.in_ok-missing.ensures.text c.in_ok-surplus.ensures.text is)
    c.format-2.ensures.ok
