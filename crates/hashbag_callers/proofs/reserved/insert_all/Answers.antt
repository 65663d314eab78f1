use Rattle.std.proofs.Common.{◌≡◌, ◌+◌, ◌<◌, ◌∷◌, [], ℕ, List, cond, length, sym, ◌∙◌, ap, arith}
use Rattle.std.specs.Vec.Iter.{into_iter_items, into_iter_len}
use Rattle.std.proofs.lemmas.List.{nil_from_length}
use Rattle.std.proofs.lemmas.Result.{err_from_is_err_and}
use Rattle.hashbag.specs.Bag.{Bag}
use Rattle.hashbag.specs.Occurrences.{count}
use Rattle.hashbag.specs.EqualityLaws.{count_append}
use Rattle.hashbag.specs.Tables.{room}
use Rattle.hashbag.proofs.CallerLemmas.{count_inserted_any, count_kept}
use Rattle.hashbag_callers.proofs.reserved.insert_all.Goals as goal

zero_left : (n : ℕ) → 0 + n ≡ n
zero_left n = omega arith

pub loop-value-preserved : goal.loop-value-preserved
loop-value-preserved g c =
    let at = c.loop-value in
    let x = c.in-Some.value in
    let rest = into_iter_items c.next.new.self in
    let eq = g.T.PartialEq.eq in
    let steps : into_iter_items at.value-iterator ≡ x ∷ rest = c.in-Some.ensures.steps.0 in
    let shorter : into_iter_len c.next.new.self + 1 ≡ into_iter_len at.value-iterator = c.in-Some.ensures.steps.1 in
    let fewer : length (into_iter_items at.value-iterator) ≡ length (x ∷ rest) = ap (λ (l : List _). length l) steps in
    let was = at.invariant.long in
    let enough = at.invariant.room in
    let some : 0 < room at.bag.tables = omega arith in
    let inserted = c.in_ok-insert.ensures.inserted in
    let kept = inserted.less_room some in
    let now = kept.room in
    let more = inserted.len in
    let whole = at.invariant.len in
    let limit = inserted.added.limit in
    let is_bag = inserted.added.bag in
    record {
      long = omega arith;
      room = omega arith;
      slots = kept.slots ∙ at.invariant.slots;
      len = omega arith;
      limit = limit ∙ at.invariant.limit;
      within = omega (arith, is_bag.fits);
      none_lost = λ v.
          let one = count_inserted_any g.met.T.Eq.laws at.bag c.insert.new.self v x 1 inserted.added in
          let before = at.invariant.none_lost v in
          omega arith;
      counts = λ v.
          let before = at.invariant.counts v in
          let one = count_inserted_any g.met.T.Eq.laws at.bag c.insert.new.self v x 1 inserted.added in
          let both = ap (λ (l : List _). count eq v l) steps ∙ count_append g.met.T.Eq.laws v (x ∷ []) rest in
          let head : count eq v (x ∷ []) ≡ cond (eq v x) 1 0 = zero_left (cond (eq v x) 1 0) in
          omega arith;
    }

pub returns-clause-counts : goal.returns-clause-counts
returns-clause-counts g c = λ v.
    let eq = g.T.PartialEq.eq in
    let all = c.loop-value.invariant.counts v in
    let ended : into_iter_items c.loop-value.value-iterator ≡ [] = nil_from_length _ (sym c.loop-value.invariant.long ∙ c.in-None.ensures.steps.0) in
    let none = ap (λ (l : List _). count eq v l) ended in
    let values = ap (λ (l : List _). count eq v l) c.into_iter-value-iterator.ensures.into_iter_gives.0 in
    let kept = count_kept g.met.T.Eq.laws c.args.bag.now c.reserve.new.self v c.in_ok-reserve.ensures.items in
    omega arith

pub returns-in_err-insert-clause-none_lost : goal.returns-in_err-insert-clause-none_lost
returns-in_err-insert-clause-none_lost g c =
    let error = err_from_is_err_and c.from_residual-in_err-insert.result c.from_residual-in_err-insert.ensures.1 in
    rw error.1
    (λ v.
    let so_far = c.loop-value.invariant.none_lost v in
    let kept = count_kept g.met.T.Eq.laws c.args.bag.now c.reserve.new.self v c.in_ok-reserve.ensures.items in
    let same = ap (λ (bag : Bag g.row.T.Denot g.row.S.Denot). count g.T.PartialEq.eq v bag.items) c.in_err-insert.ensures.err in
    omega arith)
