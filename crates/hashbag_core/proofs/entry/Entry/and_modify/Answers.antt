use Rattle.std.proofs.Common.{ℕ, refl, sym, subst, arith}
use Rattle.hashbag_core.specs.Held.{Recounts}
use Rattle.hashbag_core.proofs.OccurrenceLemmas.{count_le}
use Rattle.hashbag_core.proofs.entry.Entry.and_modify.Goals as goal

pub returns-then-n-limit : goal.returns-then-n-limit
returns-then-n-limit g c =
    let before = c.contains-before.ensures.count in
    let some = c.if-before-eq0.false in
    let long = c.len.ensures.len in
    let past = c.if-n-limit.true in
    let few = count_le g.met.T.Eq.laws c.args.self.value c.args.self.bag.now.items in
    let most = c.limit.ensures.limit in
    let within = c.limit.ensures.within in
    let fits = c.len.type_inv in (
      (refl, λ _. tt, refl),
      record {
        same_bag = tt;
        same_value = tt;
        changes = tt;
        passes = (
          refl,
          record {
            present = omega arith;
            number = c.f.new.arg2;
            left = record { shown = _; shows = c.contains-before.ensures.count; left = _; met = c.f.ensures; leaves = refl };
            passes = omega arith;
          },
        );
        stays = tt;
        len = tt;
        slot = tt;
        room = tt;
      },
    )

pub returns-in-Err : goal.returns-in-Err
returns-in-Err g c =
    let before = c.contains-before.ensures.count in
    let some = c.if-before-eq0.false in
    let long = c.len.ensures.len in
    let within = c.if-n-limit.false in
    let few = count_le g.met.T.Eq.laws c.args.self.value c.args.self.bag.now.items in
    let most = c.limit.ensures.limit in
    let fits = c.limit.ensures.within in
    let is = c.in-Err.ensures.count.0 in
    let past = c.in-Err.ensures.count.1 (omega arith) in
    absurd (omega arith)

pub returns-in-Ok : goal.returns-in-Ok
returns-in-Ok g c =
    let before = c.contains-before.ensures.count in
    let some = c.if-before-eq0.false in
    let long = c.len.ensures.len in
    let past = c.if-n-limit.false in
    let few = count_le g.met.T.Eq.laws c.args.self.value c.args.self.bag.now.items in
    let most = c.limit.ensures.limit in
    let within = c.limit.ensures.within in
    let fits = c.len.type_inv in
    let is = c.in-Ok.ensures.before.0 in (
      (refl, λ w. refl, tt),
      record {
        same_bag = refl;
        same_value = refl;
        changes = record {
          absent = λ none. absurd (omega arith);
          present = λ _. (c.f.new.arg2, record { shown = _; shows = c.contains-before.ensures.count; left = _; met = c.f.ensures; leaves = refl }, omega arith, c.in-Ok.ensures.put);
        };
        passes = tt;
        len = omega (arith, is, c.in-Ok.ensures.len, c.in-Ok.ensures.after);
        slot = λ _. subst (λ (k : ℕ). Recounts g.T.PartialEq.eq c.args.self.value k c.args.self.bag.now.tables c.recount.new.self.tables) (sym c.in-Ok.ensures.after) c.in-Ok.ensures.slot;
        room = c.in-Ok.ensures.room;
        stays = tt;
      },
    )
