use Rattle.std.proofs.Common.{rules, ◌≡◌, ℕ, ◌<◌, true, is_ok, false, List, [], length, get_or, subst, sym, ◌∙◌, ap}
use Rattle.std.specs.Borrow.{Bor}
use Rattle.std.specs.List.{All}
use Rattle.std.proofs.lemmas.List.Elements.{All-push}
use Rattle.hashbag_ledger_db.specs.Inputs.{IsRead}
use Rattle.hashbag_ledger_db.proofs.InputLemmas.{one_more}
use Rattle.hashbag_ledger_db.proofs.files.inputs_of.Goals as goal

-- one more file
pub loop-file-preserved : goal.loop-file-preserved
loop-file-preserved g c =
    let files = c.args.job.now.files.items in
    let i = c.loop-file.file-index in
    let within : i < length files = search rules in
    let before = c.loop-file.inputs.items in
    let input = c.in_ok-input-2.input in
    let pushed : is_ok c.push-in-loop-file.result ≡ true = sym (rw c.in_ok-map_err-2.was at c.map_err-in-loop-file.ensures.variant) in
    let is = rw pushed at c.push-in-loop-file.ensures.items in
    let none : Bor (List ℕ) = record { ref_ptr = (0, 0); now = [] } in
    let named_is = c.in_ok-input-2.ensures.named ∙ ap (λ (l : List (Bor (List ℕ))). ((get_or l i none).now, false)) c.deref-file-items.ensures.value in
    let Read = IsRead (g.I.Inputs.gives c.args.files.now) c.args.job.now in (
      one_more before _ input _ files i none within c.loop-file.invariant.0 is named_is,
      subst (λ l. All Read l) (sym is) (All-push Read before input c.loop-file.invariant.1 c.in_ok-input-2.ensures.read),
    )
