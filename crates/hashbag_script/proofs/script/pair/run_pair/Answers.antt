use Rattle.std.proofs.Common.{◌≡◌, ◌⊎◌, List, Vec, vec_len, vec_capacity, ◌+◌, ◌<◌, inl, inr, refl, arith, rules}
use Rattle.std.proofs.lemmas.Result.{on_err_weaker}
use Rattle.hashbag_table.proofs.EntryLemmas.{OnErr-from}
use Rattle.hashbag_core.specs.Bag.{Bag}
use Rattle.hashbag_script.specs.declared.script.Step.{Step}
use Rattle.hashbag_script.specs.declared.script.Reply.{Reply}
use Rattle.hashbag_script.specs.Pairs.{ran, HasNoRoom, IsPairNotBegun, IsPairNotBegunOrStopped, Stays}
use Rattle.hashbag_script.proofs.BoundLemmas.{smaller_by}
use Rattle.hashbag_script.proofs.TurnLemmas.{on_ok_from, on_ok_all, untouched_tables, untouched_bounded}
use Rattle.hashbag_script.proofs.script.pair.run_pair.Goals as goal

-- a bag that no call gets stays, with its replies
stays : {T S B : Type 0} (bag : Bag T S) (old new : Vec (Reply T) B) → new.items ≡ old.items → Stays bag bag old new
stays bag old new same = (refl, same)

pub returns-clause-roomy : goal.returns-clause-roomy
returns-clause-roomy g c X means_a roomy_a Y means_b roomy_b =
    on_err_weaker c.run-2.result (λ h.
    let short : vec_capacity c.reserve-2.new.self < vec_len c.reserve-2.new.self + vec_len c.args.steps_b = h.0 in
    let room = c.in_ok-reserve-2.ensures.ok in let many = c.len-2.ensures in
    absurd (omega arith)) (c.run-2.ensures.roomy Y means_b roomy_b)

pub returns-clause-first_roomy : goal.returns-clause-first_roomy
returns-clause-first_roomy g c X means_a roomy_a Y means_b roomy_b =
    on_err_weaker c.run-2.result (λ h.
    let short : vec_capacity c.reserve-2.new.self < vec_len c.reserve-2.new.self + vec_len c.args.steps_b = h.0 in
    let room = c.in_ok-reserve-2.ensures.ok in let many = c.len-2.ensures in
    absurd (omega arith)) (c.run-2.ensures.roomy Y means_b roomy_b)

pub returns-clause-second_roomy : goal.returns-clause-second_roomy
returns-clause-second_roomy g c X means_a roomy_a Y means_b roomy_b =
    on_err_weaker c.run-2.result (λ h.
    let short : vec_capacity c.reserve-2.new.self < vec_len c.reserve-2.new.self + vec_len c.args.steps_b = h.0 in
    let room = c.in_ok-reserve-2.ensures.ok in let many = c.len-2.ensures in
    absurd (omega arith)) (c.run-2.ensures.roomy Y means_b roomy_b)

pub returns-in_err-run-clause-roomy : goal.returns-in_err-run-clause-roomy
returns-in_err-run-clause-roomy g c X means_a roomy_a Y means_b roomy_b =
    let none = c.in_err-run.ensures.roomy X means_a roomy_a in
    let short : vec_capacity c.reserve.new.self < vec_len c.reserve.new.self + vec_len c.args.steps_a = none.0 in
    let room = c.in_ok-reserve.ensures.ok in let many = c.len.ensures in
    absurd (omega arith)

pub returns-in_err-run-clause-first_roomy : goal.returns-in_err-run-clause-first_roomy
returns-in_err-run-clause-first_roomy g c X means_a roomy_a Y means_b roomy_b =
    let none = c.in_err-run.ensures.roomy X means_a roomy_a in
    let short : vec_capacity c.reserve.new.self < vec_len c.reserve.new.self + vec_len c.args.steps_a = none.0 in
    let room = c.in_ok-reserve.ensures.ok in let many = c.len.ensures in
    absurd (omega arith)

pub returns-in_err-run-clause-second_roomy : goal.returns-in_err-run-clause-second_roomy
returns-in_err-run-clause-second_roomy g c X means_a roomy_a Y means_b roomy_b =
    let none = c.in_err-run.ensures.roomy X means_a roomy_a in
    let short : vec_capacity c.reserve.new.self < vec_len c.reserve.new.self + vec_len c.args.steps_a = none.0 in
    let room = c.in_ok-reserve.ensures.ok in let many = c.len.ensures in
    absurd (omega arith)

pub returns-in_err-reserve-clause-roomy : goal.returns-in_err-reserve-clause-roomy
returns-in_err-reserve-clause-roomy g c X means_a roomy_a Y means_b roomy_b =
    let full = c.in_err-reserve.ensures.full in let many = c.len.ensures in
    let short : vec_capacity c.args.replies_a.now < vec_len c.args.replies_a.now + vec_len c.args.steps_a = omega arith in
    OnErr-from _ (inl short)

pub returns-in_err-reserve-clause-first_roomy : goal.returns-in_err-reserve-clause-first_roomy
returns-in_err-reserve-clause-first_roomy g c X means_a roomy_a Y means_b roomy_b = OnErr-from _ (stays c.args.a.now c.args.replies_a.now c.reserve.new.self c.in_err-reserve.ensures.items)

pub returns-in_err-reserve-clause-second_roomy : goal.returns-in_err-reserve-clause-second_roomy
returns-in_err-reserve-clause-second_roomy g c X means_a roomy_a Y means_b roomy_b = OnErr-from _ (stays c.args.b.now c.args.replies_b.now c.args.replies_b.now refl)

pub returns-in_err-reserve-2-clause-roomy : goal.returns-in_err-reserve-2-clause-roomy
returns-in_err-reserve-2-clause-roomy g c X means_a roomy_a Y means_b roomy_b =
    let full = c.in_err-reserve-2.ensures.full in let many = c.len-2.ensures in
    let short : vec_capacity c.args.replies_b.now < vec_len c.args.replies_b.now + vec_len c.args.steps_b = omega arith in
    OnErr-from _ (inr short)

pub returns-in_err-reserve-2-clause-first_roomy : goal.returns-in_err-reserve-2-clause-first_roomy
returns-in_err-reserve-2-clause-first_roomy g c X means_a roomy_a Y means_b roomy_b = OnErr-from _ (stays c.args.a.now c.args.replies_a.now c.reserve.new.self c.in_ok-reserve.ensures.items)

pub returns-in_err-reserve-2-clause-second_roomy : goal.returns-in_err-reserve-2-clause-second_roomy
returns-in_err-reserve-2-clause-second_roomy g c X means_a roomy_a Y means_b roomy_b = OnErr-from _ (stays c.args.b.now c.args.replies_b.now c.reserve-2.new.self c.in_err-reserve-2.ensures.items)

-- no run was begun, since there was no room for the replies
not_begun : {T S S2 : Type 0} (a : Bag T S) (b : Bag T S2) (steps_a steps_b : List (Step T)) (before_a after_a before_b after_b : List (Reply T)) (NoRoom : Type 0)
    → NoRoom → after_a ≡ before_a → after_b ≡ before_b → IsPairNotBegun NoRoom (ran a a steps_a before_a after_a) (ran b b steps_b before_b after_b)
not_begun a b steps_a steps_b before_a after_a before_b after_b NoRoom short first second = (short, record { bag = refl; replies = first }, record { bag = refl; replies = second })

pub returns-in_err-reserve-2-clause-stopped : goal.returns-in_err-reserve-2-clause-stopped
returns-in_err-reserve-2-clause-stopped g c =
    let full = c.in_err-reserve-2.ensures.full in let many = c.len-2.ensures in
    let short : vec_capacity c.args.replies_b.now < vec_len c.args.replies_b.now + vec_len c.args.steps_b = omega arith in
    let none = not_begun c.args.a.now c.args.b.now c.args.steps_a.items c.args.steps_b.items c.args.replies_a.now.items _ c.args.replies_b.now.items _
    (HasNoRoom c.args.replies_a.now c.args.steps_a ⊎ HasNoRoom c.args.replies_b.now c.args.steps_b) (inr short) c.in_ok-reserve.ensures.items c.in_err-reserve-2.ensures.items in
    let cut : IsPairNotBegunOrStopped g.T.PartialEq.eq (HasNoRoom c.args.replies_a.now c.args.steps_a ⊎ HasNoRoom c.args.replies_b.now c.args.steps_b) (ran c.args.a.now c.args.a.now c.args.steps_a.items c.args.replies_a.now.items c.reserve.new.self.items)
    (ran c.args.b.now c.args.b.now c.args.steps_b.items c.args.replies_b.now.items c.reserve-2.new.self.items) = inl none in
    OnErr-from _ cut

pub returns-clause-stopped : goal.returns-clause-stopped
returns-clause-stopped g c =
    on_err_weaker c.run-2.result (λ h. elim h [
      | inl none ↦
          let short : vec_capacity c.reserve-2.new.self < vec_len c.reserve-2.new.self + vec_len c.args.steps_b = none.0 in
          let room = c.in_ok-reserve-2.ensures.ok in let many = c.len-2.ensures in
          absurd (omega arith)
      | inr stopped ↦ inr (inr (
        λ X means. record { replies = rw (← c.in_ok-reserve.ensures.items) (c.in_ok-run.ensures.replies X means); means = c.in_ok-run.ensures.means X means; limit = c.in_ok-run.ensures.limit X means },
        λ Y means. rw (← c.in_ok-reserve-2.ensures.items) (stopped Y means),
      ))
    ]) c.run-2.ensures.stopped

-- ---- the tables of each bag

pub returns-clause-first_tables : goal.returns-clause-first_tables
returns-clause-first_tables g c = rw (← c.in_ok-reserve.ensures.items) c.run.ensures.tables

pub returns-clause-second_tables : goal.returns-clause-second_tables
returns-clause-second_tables g c = rw (← c.in_ok-reserve-2.ensures.items) c.run-2.ensures.tables

pub returns-in_err-run-clause-first_tables : goal.returns-in_err-run-clause-first_tables
returns-in_err-run-clause-first_tables g c = rw (← c.in_ok-reserve.ensures.items) c.run.ensures.tables

pub returns-in_err-run-clause-second_tables : goal.returns-in_err-run-clause-second_tables
returns-in_err-run-clause-second_tables g c = untouched_tables g.T.PartialEq.eq c.args.b.now c.args.steps_b.items _ _ c.in_ok-reserve-2.ensures.items

pub returns-in_err-reserve-2-clause-first_tables : goal.returns-in_err-reserve-2-clause-first_tables
returns-in_err-reserve-2-clause-first_tables g c = untouched_tables g.T.PartialEq.eq c.args.a.now c.args.steps_a.items _ _ c.in_ok-reserve.ensures.items

pub returns-in_err-reserve-2-clause-second_tables : goal.returns-in_err-reserve-2-clause-second_tables
returns-in_err-reserve-2-clause-second_tables g c = untouched_tables g.T.PartialEq.eq c.args.b.now c.args.steps_b.items _ _ (search rules)

pub returns-in_err-reserve-clause-first_tables : goal.returns-in_err-reserve-clause-first_tables
returns-in_err-reserve-clause-first_tables g c = untouched_tables g.T.PartialEq.eq c.args.a.now c.args.steps_a.items _ _ (search rules)

pub returns-in_err-reserve-clause-second_tables : goal.returns-in_err-reserve-clause-second_tables
returns-in_err-reserve-clause-second_tables g c = untouched_tables g.T.PartialEq.eq c.args.b.now c.args.steps_b.items _ _ refl

pub returns-clause-first_bounded : goal.returns-clause-first_bounded
returns-clause-first_bounded g c = rw (← c.in_ok-reserve.ensures.items) c.run.ensures.bounded

pub returns-clause-second_bounded : goal.returns-clause-second_bounded
returns-clause-second_bounded g c = rw (← c.in_ok-reserve-2.ensures.items) c.run-2.ensures.bounded

pub returns-in_err-run-clause-first_bounded : goal.returns-in_err-run-clause-first_bounded
returns-in_err-run-clause-first_bounded g c = rw (← c.in_ok-reserve.ensures.items) c.run.ensures.bounded

pub returns-in_err-run-clause-second_bounded : goal.returns-in_err-run-clause-second_bounded
returns-in_err-run-clause-second_bounded g c = untouched_bounded g.T.PartialEq.eq c.args.b.now c.args.steps_b.items _ _ c.in_ok-reserve-2.ensures.items (smaller_by _ c.args.b.now.tables c.waiting-waiting_b.ensures.waiting c.waiting-waiting_b.ensures.smaller)

pub returns-in_err-reserve-2-clause-first_bounded : goal.returns-in_err-reserve-2-clause-first_bounded
returns-in_err-reserve-2-clause-first_bounded g c = untouched_bounded g.T.PartialEq.eq c.args.a.now c.args.steps_a.items _ _ c.in_ok-reserve.ensures.items (smaller_by _ c.args.a.now.tables c.waiting-waiting_a.ensures.waiting c.waiting-waiting_a.ensures.smaller)

pub returns-in_err-reserve-2-clause-second_bounded : goal.returns-in_err-reserve-2-clause-second_bounded
returns-in_err-reserve-2-clause-second_bounded g c = untouched_bounded g.T.PartialEq.eq c.args.b.now c.args.steps_b.items _ _ (search rules) (smaller_by _ c.args.b.now.tables c.waiting-waiting_b.ensures.waiting c.waiting-waiting_b.ensures.smaller)

pub returns-in_err-reserve-clause-first_bounded : goal.returns-in_err-reserve-clause-first_bounded
returns-in_err-reserve-clause-first_bounded g c = untouched_bounded g.T.PartialEq.eq c.args.a.now c.args.steps_a.items _ _ (search rules) (smaller_by _ c.args.a.now.tables c.waiting-waiting_a.ensures.waiting c.waiting-waiting_a.ensures.smaller)

pub returns-in_err-reserve-clause-second_bounded : goal.returns-in_err-reserve-clause-second_bounded
returns-in_err-reserve-clause-second_bounded g c = untouched_bounded g.T.PartialEq.eq c.args.b.now c.args.steps_b.items _ _ refl (smaller_by _ c.args.b.now.tables c.waiting-waiting_b.ensures.waiting c.waiting-waiting_b.ensures.smaller)

-- ---- what search no longer finds beside them

pub returns-clause-first : goal.returns-clause-first
returns-clause-first g c =
    on_ok_from _ c.run-2.result
    (λ X means. record { replies = rw (← c.in_ok-reserve.ensures.items) (c.in_ok-run.ensures.replies X means); means = c.in_ok-run.ensures.means X means; limit = c.in_ok-run.ensures.limit X means })

pub returns-clause-second : goal.returns-clause-second
returns-clause-second g c =
    on_ok_all _ _ _ _ c.run-2.result c.run-2.ensures.replies c.run-2.ensures.means c.run-2.ensures.limit
    (λ replies means limit Y is. record { replies = rw (← c.in_ok-reserve-2.ensures.items) (replies Y is); means = means Y is; limit = limit Y is })

pub returns-in_err-run-clause-stopped : goal.returns-in_err-run-clause-stopped
returns-in_err-run-clause-stopped g c =
    let cut : IsPairNotBegunOrStopped g.T.PartialEq.eq (HasNoRoom c.args.replies_a.now c.args.steps_a ⊎ HasNoRoom c.args.replies_b.now c.args.steps_b) (ran c.args.a.now c.run.new.bag c.args.steps_a.items c.args.replies_a.now.items c.run.new.replies.items)
    (ran c.args.b.now c.args.b.now c.args.steps_b.items c.args.replies_b.now.items c.reserve-2.new.self.items) = elim c.in_err-run.ensures.stopped [
      | inl none ↦
          let short : vec_capacity c.reserve.new.self < vec_len c.reserve.new.self + vec_len c.args.steps_a = none.0 in
          let room = c.in_ok-reserve.ensures.ok in let many = c.len.ensures in
          absurd (omega arith)
      | inr stopped ↦ inr (inl (λ X means. rw (← c.in_ok-reserve.ensures.items) (stopped X means), record { bag = refl; replies = c.in_ok-reserve-2.ensures.items }))
    ] in
    OnErr-from _ cut
