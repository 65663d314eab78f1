use Rattle.std.proofs.Common.{ℕ, List, length, sym, ◌∙◌, ap, arith, rules}
use Rattle.std.proofs.lemmas.Iterator.Adapters.{YieldsList-from_vec}
use Rattle.std.proofs.lemmas.List.{map-id}
use Rattle.hashbag.proofs.CallerLemmas.{items_that_came}
use Rattle.hashbag.proofs.InsertLemmas.{takes_all, longer_by_items, stays_within}
use Rattle.hashbag_callers.proofs.reserved.extend_all.Goals as goal

-- no value fails
pub unwrap-requires : goal.unwrap-requires
unwrap-requires g c =
    let enough = c.in_ok-reserve.ensures.room in
    let same = c.in_ok-reserve.ensures.len in
    let limit = c.in_ok-reserve.ensures.items.limit in
    takes_all g.met.T.Eq.laws c.reserve.new.self c.extend.new.self c.extend.result c.extend.ensures.fails (YieldsList-from_vec {s = c.into_iter.result} c.args.values.items (search rules) (search rules)) (omega (arith, enough, same, limit)) (omega (arith, enough, same, limit))

-- the items that came are the values
pub returns-clause-len : goal.returns-clause-len
returns-clause-len g c =
    let all = rw c.unwrap.ensures at c.extend.ensures.all in
    let long = longer_by_items all (λ x p is. ap (λ (q : g.row.T.Denot × ℕ). q.1) is) in
    let came = ap (λ (l : List g.row.T.Denot). length l) (sym (map-id all.items) ∙ items_that_came all.items all.yielded (YieldsList-from_vec {s = c.into_iter.result} c.args.values.items (search rules) (search rules))) in
    let same = c.in_ok-reserve.ensures.len in
    omega (arith, long, came, same)

-- where there was room before, `reserve` did nothing
pub returns-clause-slots : goal.returns-clause-slots
returns-clause-slots g c = λ room.
    let all = rw c.unwrap.ensures at c.extend.ensures.all in
    let came = ap (λ (l : List g.row.T.Denot). length l) (sym (map-id all.items) ∙ items_that_came all.items all.yielded (YieldsList-from_vec {s = c.into_iter.result} c.args.values.items (search rules) (search rules))) in
    let enough = c.in_ok-reserve.ensures.room in
    let same = (c.in_ok-reserve.ensures.enough (omega (arith, room))).1 in
    (stays_within all (omega (arith, came, enough))).slots ∙ ap (λ (b : _). length b.tables.newer) same

pub returns-clause-built : goal.returns-clause-built
returns-clause-built g c = λ room.
    let all = rw c.unwrap.ensures at c.extend.ensures.all in
    let came = ap (λ (l : List g.row.T.Denot). length l) (sym (map-id all.items) ∙ items_that_came all.items all.yielded (YieldsList-from_vec {s = c.into_iter.result} c.args.values.items (search rules) (search rules))) in
    let enough = c.in_ok-reserve.ensures.room in
    let same = (c.in_ok-reserve.ensures.enough (omega (arith, room))).1 in
    (stays_within all (omega (arith, came, enough))).built ∙ ap (λ (b : _). b.tables.built) same
