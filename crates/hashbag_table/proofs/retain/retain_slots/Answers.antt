use Rattle.std.proofs.Common.{◌≡◌, ◌-◌, drop, ap, arith}
use Rattle.hashbag_slots.proofs.Tables.{none_live}
use Rattle.hashbag_slots.specs.Slots.{live_count}
use Rattle.hashbag_table.specs.Entries.{total}
use Rattle.hashbag_table.proofs.RetainLemmas.{dead_from, live_from, live_ahead, same_ahead, callable_ahead, retained_ahead, total_ahead, callable_at, callable_next, rest_is, total_next, retained_next, total_last, retained_none, total_none}
use Rattle.hashbag_table.proofs.retain.retain_slots.Goals as goal

pub values-init : goal.values-init
values-init g c =
    let few = live_from c.args.slots.now.slots c.args.from in let all = c.live-live_left.ensures in let most = c.requires.fits in
    record {
      few = omega (arith, few, all);
      callable = c.requires.callable;
      fits = omega (arith, most);
      retained = λ last f' h. h;
      sum = λ last f' h. omega arith;
      reached = λ hash h. h;
    }

pub retain_at-sum-requires-clause-live : goal.retain_at-sum-requires-clause-live
retain_at-sum-requires-clause-live g c = let next = c.in-Some.ensures.some in next.live

pub retain_at-sum-requires-clause-callable : goal.retain_at-sum-requires-clause-callable
retain_at-sum-requires-clause-callable g c =
    let ss = c.values.slots.slots in let p = c.in-Some.place in let next = c.in-Some.ensures.some in
    callable_at g.F.FnMut c.values.f ss p next.within (callable_ahead g.F.FnMut c.values.at p c.values.f ss next c.values.invariant.callable)

pub overflow_add-sum : goal.overflow_add-sum
overflow_add-sum g c =
    let ss = c.values.slots.slots in let p = c.in-Some.place in let next = c.in-Some.ensures.some in
    let h = c.retain_at-sum.ensures in let n = h.left in
    let t = total_next g.F.FnMut p c.values.f c.retain_at-sum.new.f ss c.retain_at-sum.new.slots.slots next.within h.called h.others in
    let same = ap (λ es. total es) (same_ahead g.F.FnMut c.values.at p c.values.f ss next) in let f = c.values.invariant.fits in
    omega (arith, t, n, same, f)

pub values-preserved : goal.values-preserved
values-preserved g c =
    let ss = c.values.slots.slots in let ts = c.retain_at-sum.new.slots.slots in let at = c.values.at in let p = c.in-Some.place in
    let i = c.values.invariant in let next = c.in-Some.ensures.some in let within = next.within in let some = c.values-test.true in
    let f = c.values.f in let f1 = c.retain_at-sum.new.f in let h = c.retain_at-sum.ensures in
    record {
      few = let few = i.few in live_ahead ss ts at p (c.values.live_left - 1) next (rest_is g.F.FnMut p f f1 ss ts within h.called h.others) (omega (arith, few, some));
      callable = callable_next g.F.FnMut p f f1 ss ts within h.called h.others (callable_ahead g.F.FnMut at p f ss next i.callable);
      fits =
          let t = total_next g.F.FnMut p f f1 ss ts within h.called h.others in
          let same = ap (λ es. total es) (same_ahead g.F.FnMut at p f ss next) in let n = h.left in let s = i.fits in omega (arith, t, same, n, s);
      retained = λ last f' later. i.retained last f' (retained_ahead g.F.FnMut at p f ss next last f' (retained_next g.F.FnMut p f f1 ss ts within h.called h.others last f' later));
      sum = λ last f' later.
          let here = retained_next g.F.FnMut p f f1 ss ts within h.called h.others last f' later in
          let a = i.sum last f' (retained_ahead g.F.FnMut at p f ss next last f' here) in
          let b = total_ahead g.F.FnMut at p f ss next last f' here in
          let d = total_last g.F.FnMut p f f1 ss ts within h.called h.others last f' later in let n = h.left in
          omega (arith, a, b, d, n);
      reached = λ hash rule. h.reached hash (i.reached hash rule);
    }

pub returns-in_default-clause-retained : goal.returns-in_default-clause-retained
returns-in_default-clause-retained g c =
    let ss = c.values.slots.slots in
    c.values.invariant.retained ss c.values.f (retained_none g.F.FnMut c.values.at c.values.f ss (dead_from c.values.at ss c.in_default.ensures.none))

pub returns-in_default-clause-total : goal.returns-in_default-clause-total
returns-in_default-clause-total g c =
    let ss = c.values.slots.slots in let at = c.values.at in let dead = dead_from at ss c.in_default.ensures.none in
    let a = c.values.invariant.sum ss c.values.f (retained_none g.F.FnMut at c.values.f ss dead) in
    let none = total_none (drop at ss) dead in
    omega (arith, a, none)

pub returns-clause-retained : goal.returns-clause-retained
returns-clause-retained g c =
    let ss = c.values.slots.slots in let at = c.values.at in
    let none : live_count (drop at ss) ≡ 0 = let few = c.values.invariant.few in let end = c.values-test.false in omega (arith, few, end) in
    c.values.invariant.retained ss c.values.f (retained_none g.F.FnMut at c.values.f ss (none_live (drop at ss) none))

pub returns-clause-total : goal.returns-clause-total
returns-clause-total g c =
    let ss = c.values.slots.slots in let at = c.values.at in
    let none : live_count (drop at ss) ≡ 0 = let few = c.values.invariant.few in let end = c.values-test.false in omega (arith, few, end) in
    let dead = none_live (drop at ss) none in
    let a = c.values.invariant.sum ss c.values.f (retained_none g.F.FnMut at c.values.f ss dead) in
    let zero_left = total_none (drop at ss) dead in
    omega (arith, a, zero_left)
