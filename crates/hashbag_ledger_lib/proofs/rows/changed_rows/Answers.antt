use Rattle.std.proofs.Common.{◌≡◌, ℕ, [], ◌++◌, List, String, Global, Option, Vec, sym, ◌∙◌, ap, subst, subst₂}
use borrow.Author.Tests.{eqb-true}
use Rattle.std.proofs.lemmas.List.{nil_from_length, append-nil, append_assoc}
use Rattle.hashbag_ledger_lib.specs.declared.rows.RowChange.{RowChange}
use Rattle.hashbag_ledger_lib.specs.Changes.{listed_of, AreChanges, Rises}
use Rattle.hashbag_ledger_lib.proofs.ChangeLemmas.{none}
use Rattle.hashbag_ledger_lib.proofs.rows.changed_rows.Goals as goal
use Rattle.hashbag_ledger_lib.proofs.rows.changed_rows.Goals.{in-Some+in_ok-push, in_default}

-- one change more, or none
pub rows-preserved : goal.rows-preserved
rows-preserved c = λ cs are.
    let so = c.rows.changes.items in
    let first = listed_of c.in_ok-change.change in
    let more : c.match-change.changes.items ≡ so ++ first = elim c.match-change.branch [
      | in-Some+in_ok-push w ↦ ap (λ (v : Vec RowChange Global). v.items) w.changes-is ∙ w.in_ok-push.ensures.items ∙ ap (λ (o : Option RowChange). so ++ listed_of o) (sym w.in-Some.is)
      | in_default w ↦ ap (λ (v : Vec RowChange Global). v.items) w.changes-is ∙ sym (append-nil so) ∙ ap (λ (o : Option RowChange). so ++ listed_of o) (sym w.in_default.is)
    ] in
    subst (λ (l : List RowChange). Rises c.args.before.now → Rises c.args.after.now → AreChanges c.args.before.now c.args.after.now l)
    (sym (append_assoc so first cs) ∙ ap (λ (l : List RowChange). l ++ cs) (sym more)) (c.rows.invariant (first ++ cs) (c.in_ok-change.ensures.begins cs are))

-- no rows are left
pub returns : goal.returns
returns c =
    let no_old : c.rows.old.now ≡ [] = nil_from_length _ (eqb-true _ _ (sym c.if-not-is_empty.ensures)) in
    let no_new : c.rows.new.now ≡ [] = nil_from_length _ (eqb-true _ _ (sym c.if-not-is_empty-2.ensures)) in
    subst (λ (l : List RowChange). Rises c.args.before.now → Rises c.args.after.now → AreChanges c.args.before.now c.args.after.now l) (append-nil c.rows.changes.items)
    (c.rows.invariant [] (λ _ _. subst₂ (λ (l m : List (String Global × ℕ)). AreChanges l m []) (sym no_old) (sym no_new) none))
