use Rattle.std.proofs.Common.{◌≡◌, ◌+◌, ◌<◌, ◌++◌, ◌∷◌, [], List, ℕ, length, refl, ap, subst, append_assoc, ◌∙◌, sym, arith}
use Rattle.std.specs.List.Sorted.{IsPermutation}
use Rattle.std.proofs.lemmas.List.{append-nil, length-append}
use Rattle.std.proofs.lemmas.List.Sorted.{length_permutation, IsPermutation-refl}
use Rattle.hashbag_table.specs.Entries.{IsCounted}
use Rattle.hashbag_table.specs.Tables.{most_used, IsLeast}
use Rattle.hashbag_table.proofs.CarryLemmas.{IsCounted-nil}
use Rattle.hashbag_table.proofs.CloneLemmas.{IsCopy, next_is_new, next_is_some, copied, clones_reordered}
use Rattle.hashbag_table.proofs.PackedLemmas.{IsFilled, filled_first, filled_next, filled_packed}
use Rattle.hashbag_table.proofs.table.Table.clone_in.Goals.{In-Some}
use Rattle.hashbag_table.proofs.table.Table.clone_in.Goals as goal

pub loop-value-init : goal.loop-value-init
loop-value-init g c =
    let none = c.in_ok-table.ensures.empty in (
      (
        [],
        subst (IsPermutation c.args.self.now.entries) (sym c.into_iter-value-iterator.ensures.into_iter_gives) c.walk-value-items.ensures.entries,
        record { clones = []; each = tt; all = subst (IsPermutation []) (sym none) (IsPermutation-refl []) },
        filled_first c.in_ok-table.table.tables c.in_ok-table.ensures.fresh c.in_ok-table.ensures.packed,
      ),
      refl,
      subst (IsCounted g.T.PartialEq.eq) (sym none) (IsCounted-nil g.row.T.Denot g.T.PartialEq.eq),
    )

-- the entries that were cloned, the next one, and those to come are all
order_next : (g : _) (c : In-Some g) → IsPermutation c.args.self.now.entries (c.loop-value.invariant.0.0 ++ (c.in-Some.value.now, c.in-Some.count) ∷ c.next.new.self)
order_next g c = subst (λ (l : List (g.row.T.Denot × ℕ)). IsPermutation c.args.self.now.entries (c.loop-value.invariant.0.0 ++ l)) c.in-Some.ensures.steps c.loop-value.invariant.0.1

-- fewer were cloned than the new table has room for
fewer_so_far : (g : _) (c : In-Some g) → length c.loop-value.invariant.0.0 < most_used (length c.in_ok-table.table.tables.newer)
fewer_so_far g c =
    let done = c.loop-value.invariant.0.0 in let entry : g.row.T.Denot × ℕ = (c.in-Some.value.now, c.in-Some.count) in
    let all = length_permutation _ _ (order_next g c) in let both = length-append done (entry ∷ c.next.new.self) in
    let e = c.in_ok-table.ensures.least.enough in let n = c.set_len.ensures.len in omega (arith, e, n, all, both)

pub place_new-requires-clause-absent : goal.place_new-requires-clause-absent
place_new-requires-clause-absent g c =
    let order = order_next g (goal.at.place_new-requires-clause-absent g c).In-Some in
    next_is_new g.met.T.Eq.laws g.T.Clone.is_clone c.args.self.now.entries c.loop-value.invariant.0.0 c.next.new.self c.loop-value.table.entries (c.in-Some.value.now, c.in-Some.count) c.in_ok-clone.clone
    c.requires.equal c.walk-value-items.ensures.counted.distinct order c.loop-value.invariant.0.2 c.in_ok-clone.ensures.cases

pub place_new-requires-clause-positive : goal.place_new-requires-clause-positive
place_new-requires-clause-positive g c =
    let order = order_next g (goal.at.place_new-requires-clause-positive g c).In-Some in
    next_is_some c.args.self.now.entries c.loop-value.invariant.0.0 c.next.new.self (c.in-Some.value.now, c.in-Some.count) c.walk-value-items.ensures.counted.positive order

pub place_new-requires-clause-room : goal.place_new-requires-clause-room
place_new-requires-clause-room g c =
    let more = fewer_so_far g (goal.at.place_new-requires-clause-room g c).In-Some in let r = c.loop-value.invariant.0.3.room in omega (arith, r, more)

pub place_new-requires-clause-none_waits : goal.place_new-requires-clause-none_waits
place_new-requires-clause-none_waits g c = c.loop-value.invariant.0.3.waiting

pub loop-value-preserved : goal.loop-value-preserved
loop-value-preserved g c =
    let so_far = c.loop-value.invariant.0 in
    let entry : g.row.T.Denot × ℕ = (c.in-Some.value.now, c.in-Some.count) in
    let order = order_next g (goal.at.loop-value-preserved g c).In-Some in
    let absent = next_is_new g.met.T.Eq.laws g.T.Clone.is_clone c.args.self.now.entries so_far.0 c.next.new.self c.loop-value.table.entries entry c.in_ok-clone.clone
    c.requires.equal c.walk-value-items.ensures.counted.distinct order so_far.2 c.in_ok-clone.ensures.cases in
    let more = fewer_so_far g (goal.at.loop-value-preserved g c).In-Some in
    let longer : length so_far.0 + 1 ≡ length (so_far.0 ++ entry ∷ []) = sym (length-append so_far.0 (entry ∷ [])) in (
      (
        so_far.0 ++ entry ∷ [],
        rw (append_assoc so_far.0 (entry ∷ []) c.next.new.self) order,
        copied g.met.T.Eq.laws g.T.Clone.is_clone so_far.0 c.loop-value.table.entries c.place_new.new.self.entries entry c.in_ok-clone.clone so_far.2 c.in_ok-clone.ensures.cases absent c.place_new.ensures.stored.map.means,
        subst (IsFilled c.place_new.new.self.tables c.in_ok-table.table.tables) longer
            (filled_next c.loop-value.table.tables c.place_new.new.self.tables c.in_ok-table.table.tables (length so_far.0) so_far.3 more (c.place_new.ensures.stored.arrives absent)),
      ),
      c.place_new.ensures.stored.map.hasher ∙ c.loop-value.invariant.1,
      c.place_new.ensures.counted,
    )

pub returns-clause-clones : goal.returns-clause-clones
returns-clause-clones g c =
    let order = subst (λ (l : List (g.row.T.Denot × ℕ)). IsPermutation c.args.self.now.entries l) (ap (λ (l : List (g.row.T.Denot × ℕ)). c.loop-value.invariant.0.0 ++ l) c.in-None.ensures.steps.0 ∙ append-nil c.loop-value.invariant.0.0) c.loop-value.invariant.0.1 in
    clones_reordered (IsCopy g.met.T.Eq.laws g.T.Clone.is_clone) c.args.self.now.entries c.loop-value.invariant.0.0 c.loop-value.table.entries order c.loop-value.invariant.0.2

pub returns-clause-hasher : goal.returns-clause-hasher
returns-clause-hasher g c =
    let cloned = subst (λ (h : g.row.S.Denot). g.S.Clone.is_clone h c.in_ok-hasher.hasher) c.hasher.ensures c.in_ok-hasher.ensures.cases in
    subst (λ (h : g.row.S.Denot). g.S.Clone.is_clone c.args.self.now.hasher h) (sym (c.loop-value.invariant.1 ∙ c.in_ok-table.ensures.hasher)) cloned

pub returns-clause-least : goal.returns-clause-least
returns-clause-least g c =
    subst (IsLeast 0 (length c.args.self.now.entries)) (sym c.loop-value.invariant.0.3.slots) (subst (λ n. IsLeast 0 n (length c.in_ok-table.table.tables.newer)) c.set_len.ensures.len c.in_ok-table.ensures.least)

pub returns-clause-packed : goal.returns-clause-packed
returns-clause-packed g c =
    filled_packed c.loop-value.table.tables c.in_ok-table.table.tables (length c.loop-value.invariant.0.0) c.loop-value.invariant.0.3

pub returns-clause-built : goal.returns-clause-built
returns-clause-built g c =
    c.loop-value.invariant.0.3.built ∙ c.in_ok-table.ensures.built ∙ sym c.loop-value.invariant.0.3.slots
