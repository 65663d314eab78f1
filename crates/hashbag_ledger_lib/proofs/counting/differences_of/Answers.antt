use Rattle.std.proofs.Common.{◌≡◌, ◌∷◌, [], List, String, Global, sym, ◌∙◌, ap, rules}
use Rattle.std.proofs.lemmas.List.{nil_from_length}
use Rattle.std.specs.String.{string_eq}
use Rattle.std.specs.Vec.Iter.{into_iter_items}
use Rattle.hashbag_ledger_lib.specs.declared.movements.Entry.{Entry}
use Rattle.hashbag_ledger_lib.specs.Counts.{differences_after, movements_of}
use Rattle.hashbag_ledger_lib.specs.Ledger.{stock_of}
use Rattle.hashbag_ledger_lib.proofs.CountLemmas.{compared_none, compared_one, compared_all}
use Rattle.hashbag_ledger_lib.proofs.ListLemmas.{one_less}
use Rattle.hashbag_ledger_lib.proofs.counting.differences_of.Goals as goal

-- none has come
pub loop-record-init : goal.loop-record-init
loop-record-init g c = record {
  long = search rules;
  compared = λ empty. compared_none string_eq (stock_of string_eq c.args.there.now.items) (stock_of string_eq c.args.counted.now.items) (movements_of (into_iter_items c.into_iter-record-iterator.result)) _ (stock_of string_eq c.args.unnamed.items) c.new-differences.ensures.items empty;
}

-- one more has
pub loop-record-preserved : goal.loop-record-preserved
loop-record-preserved g c =
    let at = c.loop-record in
    let r = c.in-Some.record in
    let rest = into_iter_items c.next.new.self in
    let steps : into_iter_items at.record-iterator ≡ r ∷ rest = c.in-Some.ensures.steps.0 in
    record {
      long = one_less _ _ _ _ _ steps c.in-Some.ensures.steps.1 at.invariant.long;
      compared = λ empty.
          compared_one string_eq (stock_of string_eq c.args.there.now.items) (stock_of string_eq c.args.counted.now.items) r.movement (ap movements_of steps) (at.invariant.compared empty) _ (stock_of string_eq c.compare.new.named.items)
          c.in_ok-compare.ensures.pushed c.in_ok-compare.ensures.noted;
    }

-- all have
pub returns : goal.returns
returns g c = λ empty.
    let at = c.loop-record in
    let all = c.into_iter-record-iterator.ensures.into_iter_gives.0 in
    let ended : into_iter_items at.record-iterator ≡ [] = nil_from_length _ (sym at.invariant.long ∙ c.in-None.ensures.steps.0) in
    compared_all string_eq (stock_of string_eq c.args.there.now.items) (stock_of string_eq c.args.counted.now.items) (ap movements_of ended) (at.invariant.compared empty)
    ∙ ap (λ (l : List (Entry (String Global))). differences_after string_eq (stock_of string_eq c.args.there.now.items) (stock_of string_eq c.args.counted.now.items) [] (movements_of l)) all
