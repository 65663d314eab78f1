use Rattle.std.proofs.Common.{◌+◌, ◌-◌, ℕ, Bool, cond, arith, sym, ◌∙◌, ap, subst, refl}
use Rattle.hashbag_core.specs.Bag.{occurrences, IsTallied}
use Rattle.hashbag_core.specs.Occurrences.{count}
use Rattle.hashbag_core.proofs.CallerLemmas.{count_put_instance}
use Rattle.hashbag_core.proofs.OccurrenceLemmas.{bag_from_tally, count_in_tally, count_occurrences, count_rearranged, tally_set}
use Rattle.hashbag_core.proofs.bag.HashBag.recount.Goals as goal

pub overflow_sub-self : goal.overflow_sub-self
overflow_sub-self g c =
    let few = count_in_tally g.met.T.Eq.laws c.args.value.now c.self.inside.table.entries c.self.inside.len c.self.invariant in let is = c.in-Ok.ensures.before.0 in omega arith

pub overflow_add-self : goal.overflow_add-self
overflow_add-self g c =
    let few = count_in_tally g.met.T.Eq.laws c.args.value.now c.self.inside.table.entries c.self.inside.len c.self.invariant in
    let is = c.in-Ok.ensures.before.0 in let within = c.in-Ok.ensures.before.2 in let fits = c.self.invariant.fits in let sum = c.self.invariant.sum in omega arith

pub invariant_of-self : goal.invariant_of-self
invariant_of-self g c =
    let es = c.self.inside.table.entries in
    let v = c.args.value.now in
    let few = count_in_tally g.met.T.Eq.laws v es c.self.inside.len c.self.invariant in
    let is = c.in-Ok.ensures.before.0 in let some = c.in-Ok.ensures.before.1 in let within = c.in-Ok.ensures.before.2 in
    let fits = c.self.invariant.fits in let sum = c.self.invariant.sum in
    subst (λ (k : ℕ). IsTallied g.T.PartialEq.eq c.set_or_remove.new.table.entries (c.self.inside.len - k + c.args.n) c.self.inside.most) (sym is)
    (tally_set g.met.T.Eq.laws v c.args.n es c.set_or_remove.new.table.entries c.self.inside.len c.self.invariant c.in-Ok.ensures.counted (omega arith) (omega arith) c.in-Ok.ensures.set)

pub returns-in-Ok-clause-before : goal.returns-in-Ok-clause-before
returns-in-Ok-clause-before g c =
    let v = c.args.value.now in let es = c.self.inside.table.entries in
    let same = count_occurrences g.met.T.Eq.laws v es c.self.invariant.counted.distinct in let few = count_in_tally g.met.T.Eq.laws v es c.self.inside.len c.self.invariant in
    let is = c.in-Ok.ensures.before.0 in let some = c.in-Ok.ensures.before.1 in let within = c.in-Ok.ensures.before.2 in
    let fits = c.self.invariant.fits in let sum = c.self.invariant.sum in
    rw (← c.self.view_is) (is ∙ sym same, some, omega arith)

pub returns-in-Ok-clause-put : goal.returns-in-Ok-clause-put
returns-in-Ok-clause-put g c = rw (← c.self.view_is) (record {
  means = c.in-Ok.ensures.set;
  hasher = c.in-Ok.ensures.hasher;
  limit = refl;
  bag = bag_from_tally g.met.T.Eq.laws _ _ (invariant_of-self g c);
})

pub returns-in-Ok-clause-after : goal.returns-in-Ok-clause-after
returns-in-Ok-clause-after g c =
    let v = c.args.value.now in
    let X = occurrences c.self.inside.table.entries in
    sym (count_rearranged g.met.T.Eq.laws v _ _ c.in-Ok.ensures.set) ∙ count_put_instance g.met.T.Eq.laws v v c.args.n X
    ∙ ap (λ (b : Bool). cond b c.args.n (count g.T.PartialEq.eq v X)) (g.met.T.Eq.laws.refl v)

pub returns-in-Ok-clause-len : goal.returns-in-Ok-clause-len
returns-in-Ok-clause-len g c =
    let few = count_in_tally g.met.T.Eq.laws c.args.value.now c.self.inside.table.entries c.self.inside.len c.self.invariant in let is = c.in-Ok.ensures.before.0 in
    let was = c.self.invariant.sum in
    let now = (invariant_of-self g c).sum in
    rw (← c.self.view_is) (omega arith)

pub returns-in-Ok-clause-slot : goal.returns-in-Ok-clause-slot
returns-in-Ok-clause-slot g c = rw (← c.self.view_is) c.in-Ok.ensures.slot

pub returns-in-Ok-clause-room : goal.returns-in-Ok-clause-room
returns-in-Ok-clause-room g c = rw (← c.self.view_is) c.in-Ok.ensures.room

pub invariant_of-self-in-Err : goal.invariant_of-self-in-Err
invariant_of-self-in-Err g c = subst (λ t. IsTallied g.T.PartialEq.eq t.entries c.self.inside.len c.self.inside.most) (sym c.in-Err.ensures.err) c.self.invariant

pub returns-in-Err-clause-count : goal.returns-in-Err-clause-count
returns-in-Err-clause-count g c =
    let v = c.args.value.now in let es = c.self.inside.table.entries in
    let same = count_occurrences g.met.T.Eq.laws v es c.self.invariant.counted.distinct in let few = count_in_tally g.met.T.Eq.laws v es c.self.inside.len c.self.invariant in
    let is = c.in-Err.ensures.count.0 in let past = c.in-Err.ensures.count.1 in
    let fits = c.self.invariant.fits in let sum = c.self.invariant.sum in
    rw (← c.self.view_is) (is ∙ sym same, λ some. let over = past some in omega arith)

pub returns-in-Err-clause-err : goal.returns-in-Err-clause-err
returns-in-Err-clause-err g c =
    ap (λ t. record { items = occurrences t.entries; hasher = t.hasher; tables = t.tables; most = c.self.inside.most }) c.in-Err.ensures.err ∙ c.self.view_is
