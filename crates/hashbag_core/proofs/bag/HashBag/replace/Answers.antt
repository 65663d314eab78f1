use Rattle.std.proofs.Common.{◌≡◌, ◌+◌, ◌-◌, ◌≤◌, Err, arith, sym, ap, ◌∙◌, subst, ℕ, refl, inl, inr}
use Rattle.std.proofs.lemmas.Bool.{cases_eq, eq-eqb, ne_eqb, false≢true}
use Rattle.hashbag_table.specs.Tables.{room}
use Rattle.hashbag_core.specs.Bag.{occurrences, IsTallied}
use Rattle.hashbag_core.specs.Occurrences.{count}
use Rattle.hashbag_core.proofs.OccurrenceLemmas.{bag_from_tally, count_occurrences, count_in_tally, put_occurrences, tally_put}
use Rattle.hashbag_core.proofs.DistinctLemmas.{distinct_put}
use Rattle.hashbag_core.proofs.HeldLemmas.{absent_from_table, absent_in_table, present_in_table, none_left}
use Rattle.hashbag_core.proofs.bag.HashBag.replace.Goals.{In-Ok, In-Err}
use Rattle.hashbag_core.proofs.bag.HashBag.replace.Goals as goal

pub overflow_sub-self : goal.overflow_sub-self
overflow_sub-self g c =
    let few = count_in_tally g.met.T.Eq.laws c.args.value c.self.inside.table.entries c.self.inside.len c.self.invariant in
    let before = c.in-Ok.ensures.before.0 in
    omega arith

-- with one of the value in the place of all the total is within the limit
one_fits : (g : _) (c : In-Ok g) → c.self.inside.len - c.in-Ok.before + 1 ≤ c.self.inside.most
one_fits g c =
    let few = count_in_tally g.met.T.Eq.laws c.args.value c.self.inside.table.entries c.self.inside.len c.self.invariant in
    let before = c.in-Ok.ensures.before.0 in let fits = c.self.invariant.fits in let sum = c.self.invariant.sum in
    elim (cases_eq c.self.inside.len c.self.inside.most) [
      | inl full ↦ let some = c.in-Ok.ensures.before.1 (eq-eqb _ _ full) in omega arith
      | inr less ↦ omega arith
    ]

pub overflow_add-self : goal.overflow_add-self
overflow_add-self g c = let fits = one_fits g (goal.at.overflow_add-self g c).In-Ok in omega arith

pub invariant_of-self : goal.invariant_of-self
invariant_of-self g c =
    let eq = g.T.PartialEq.eq in
    let v = c.args.value in
    let es = c.self.inside.table.entries in
    let fits = one_fits g (goal.at.invariant_of-self g c).In-Ok in let before = c.in-Ok.ensures.before.0 in
    subst (λ (k : ℕ). IsTallied eq c.put_within.new.table.entries (c.self.inside.len - k + 1) c.self.inside.most) (sym before)
    (tally_put g.met.T.Eq.laws v 1 es c.put_within.new.table.entries c.self.inside.len c.self.invariant c.in-Ok.ensures.counted (omega arith)
    (put_occurrences g.met.T.Eq.laws v 1 es c.put_within.new.table.entries c.self.invariant.counted c.in-Ok.ensures.stored.map.means))

pub returns-in-Ok-clause-before : goal.returns-in-Ok-clause-before
returns-in-Ok-clause-before g c = rw (← c.self.view_is) (c.in-Ok.ensures.before.0 ∙ sym (count_occurrences g.met.T.Eq.laws c.args.value _ c.self.invariant.counted.distinct))

pub returns-in-Ok-clause-replaced : goal.returns-in-Ok-clause-replaced
returns-in-Ok-clause-replaced g c =
    let laws = g.met.T.Eq.laws in
    let v = c.args.value in
    let was = c.self.invariant in
    let now = invariant_of-self g c in
    let stored = c.in-Ok.ensures.stored in
    let before = c.in-Ok.ensures.before.0 in
    let same = count_occurrences laws v c.self.inside.table.entries was.counted.distinct in
    let few = count_in_tally laws v c.self.inside.table.entries c.self.inside.len was in
    let sum = was.sum in
    let sum_now = now.sum in
    rw (← c.self.view_is) (record {
      stored = record { means = put_occurrences laws v 1 _ _ was.counted stored.map.means; hasher = stored.map.hasher; limit = refl; bag = bag_from_tally laws _ _ now };
      len = omega (arith, before, same, few, sum, sum_now);
      new_set = λ none. distinct_put laws v 1 _ _ was.counted now.counted none stored.map.means;
      arrives = λ none. stored.arrives (absent_in_table laws v _ was.counted none);
      slot = λ there. stored.slot (present_in_table laws v _ was.counted there);
      less_room = stored.room;
      same_room = λ there. stored.same_room (omega (arith, same, there));
    })

pub returns-in-Ok-clause-too_many : goal.returns-in-Ok-clause-too_many
returns-in-Ok-clause-too_many g c =
    let fits = one_fits g (goal.at.returns-in-Ok-clause-too_many g c).In-Ok in let before = c.in-Ok.ensures.before.0 in
    let same = count_occurrences g.met.T.Eq.laws c.args.value c.self.inside.table.entries c.self.invariant.counted.distinct in let sum = c.self.invariant.sum in
    rw (← c.self.view_is) ((λ is. absurd (cc)), (λ over. absurd (omega (arith, fits, over, before, same, sum))))

pub invariant_of-self-in-Err : goal.invariant_of-self-in-Err
invariant_of-self-in-Err g c = subst (λ t. IsTallied g.T.PartialEq.eq t.entries c.self.inside.len c.self.inside.most) (sym c.in-Err.ensures.err) c.self.invariant

-- the value is absent
none : (g : _) (c : In-Err g) → count g.T.PartialEq.eq c.args.value c.args.self.now.items ≡ 0
none g c = rw (← c.self.view_is) (absent_from_table g.met.T.Eq.laws c.args.value _ c.self.invariant.counted c.in-Err.ensures.absent)

pub returns-in-Err-clause-absent : goal.returns-in-Err-clause-absent
returns-in-Err-clause-absent g c = none g (goal.at.returns-in-Err-clause-absent g c).In-Err

pub returns-in-Err-clause-err : goal.returns-in-Err-clause-err
returns-in-Err-clause-err g c =
    ap (λ t. record { items = occurrences t.entries; hasher = t.hasher; tables = t.tables; most = c.self.inside.most }) c.in-Err.ensures.err ∙ c.self.view_is

-- what the error is, by whether the total is at the limit
pub returns-in-Err-clause-too_many : goal.returns-in-Err-clause-too_many
returns-in-Err-clause-too_many g c =
    let absent = absent_from_table g.met.T.Eq.laws c.args.value c.self.inside.table.entries c.self.invariant.counted c.in-Err.ensures.absent in
    let sum = c.self.invariant.sum in let fits = c.self.invariant.fits in
    rw (← c.self.view_is) (elim (cases_eq c.self.inside.len c.self.inside.most) [
      | inl full ↦ (λ _. omega (arith, absent, sum, full), λ _. ap Err (c.in-Err.ensures.error.0 (eq-eqb _ _ full)))
      | inr less ↦ (λ is. absurd (let other = c.in-Err.ensures.error.1 (ne_eqb _ _ less) in cc), λ over. absurd (omega (arith, absent, sum, fits, less, over)))
    ])

pub returns-in-Err-clause-fails : goal.returns-in-Err-clause-fails
returns-in-Err-clause-fails g c =
    let absent = absent_from_table g.met.T.Eq.laws c.args.value c.self.inside.table.entries c.self.invariant.counted c.in-Err.ensures.absent in
    let sum = c.self.invariant.sum in let fits = c.self.invariant.fits in
    rw (← c.self.view_is) (elim (cases_eq c.self.inside.len c.self.inside.most) [
      | inl full ↦ rw (c.in-Err.ensures.error.0 (eq-eqb _ _ full)) (record { why = omega (arith, sum, full); full = λ is. absurd (cc) })
      | inr less ↦ rw (c.in-Err.ensures.error.1 (ne_eqb _ _ less)) (record {
        why = (omega (arith, sum, fits, less), omega arith, absent);
        full = λ _. none_left (room c.self.inside.table.tables) (λ space. false≢true (c.in-Err.ensures.takes (ne_eqb _ _ less) space));
      })
    ])

pub returns-in-Err-clause-takes : goal.returns-in-Err-clause-takes
returns-in-Err-clause-takes g c =
    let absent = absent_from_table g.met.T.Eq.laws c.args.value c.self.inside.table.entries c.self.invariant.counted c.in-Err.ensures.absent in
    let sum = c.self.invariant.sum in let fits = c.self.invariant.fits in
    rw (← c.self.view_is) (λ within space. elim (cases_eq c.self.inside.len c.self.inside.most) [
      | inl full ↦ absurd (omega (arith, absent, sum, full, within))
      | inr less ↦ c.in-Err.ensures.takes (ne_eqb _ _ less) space
    ])
