use Rattle.std.proofs.Common.{◌≡◌, ◌+◌, ◌≤◌, ◌++◌, ◌∷◌, [], inr, ℕ, Bool, false, List, length, vec_len, vec_capacity, refl, sym, ◌∙◌, ap, subst, append_assoc, arith, rules}
use Rattle.std.specs.Vec.Iter.{into_iter_items, into_iter_len}
use Rattle.std.proofs.lemmas.List.{append-nil, nil_from_length}
use Rattle.std.proofs.lemmas.List.Sorted.{IsPermutation-sym, IsPermutation-trans}
use Rattle.hashbag_table.proofs.EntryLemmas.{OnErr-from}
use Rattle.hashbag_core.specs.Bag.{Means}
use Rattle.hashbag_script.specs.Pairs.{ran, HasNoRoom, IsNotBegunOrStopped}
use Rattle.hashbag_script.specs.Script.{step as step_of, run as run_of, limit_left, newcomers, MayAllocate, reserves_or_shrinks, IsRoomy, IsStoppedFrom}
use Rattle.hashbag_core.proofs.OccurrenceLemmas.{bag_rearranged}
use Rattle.hashbag_script.proofs.RowLemmas.{IsSameRow, same_step, limit_same, asks_rearranged}
use Rattle.hashbag_script.proofs.ScriptLemmas.{run_none, run_more, limit_none, limit_more}
use Rattle.std.proofs.lemmas.Bool.{false≢true}
use Rattle.std.specs.List.{list_any}
use Rattle.hashbag_table.specs.Tables.{Tables, room}
use Rattle.hashbag_script.specs.declared.script.Step.{Step}
use Rattle.hashbag_core.proofs.HeldLemmas.{none_left}
use Rattle.hashbag_script.proofs.RoomLemmas.{neither_at, few_newcomers, roomy_first, next_enough, roomy_next}
use Rattle.hashbag_script.proofs.MoveLemmas.{Moves, moves_left, moves_within}
use Rattle.hashbag_script.proofs.StepLemmas.{leaves_rearranged}
use Rattle.hashbag_script.proofs.BoundLemmas.{shaped_by, smaller_by, no_slots_paid, paid_next, means_none, bounded_from, unanswered}
use Rattle.hashbag_script.proofs.TurnLemmas.{in_turn_more, in_turn_from, hold_rearranged}
use Rattle.hashbag_script.proofs.script.run.Goals as goal

pub loop-step-init : goal.loop-step-init
loop-step-init g c = record {
  taken = refl;
  long = search rules;
  room = search rules;
  replies = λ X means. rw (run_none g.T.PartialEq.eq c.args.bag.now.most X).1 (sym (append-nil _));
  means = λ X means. rw (run_none g.T.PartialEq.eq c.args.bag.now.most X).0 means;
  limit = λ X means. sym (limit_none g.T.PartialEq.eq c.args.bag.now.most X);
  hasher = refl;
  roomy = λ X means roomy. roomy_first g.met.T.Eq.laws c.args.bag.now.most X _ c.args.bag.now.tables roomy;
  held = c.slots-slots.ensures.held;
  shaped = let s = c.slots-slots.ensures in let w = c.waiting-waiting.ensures in shaped_by g.T.PartialEq.eq _ _ _ _ s.slots s.count s.values s.fits w.waiting w.smaller;
  paid = λ empty none. no_slots_paid g.T.PartialEq.eq c.args.bag.now.most c.args.bag.now.tables none;
  turned = λ X means. refl;
}

pub loop-step-preserved : goal.loop-step-preserved
loop-step-preserved g c =
    let at = c.loop-step in
    let x = c.in-Some.step in
    let eq = g.T.PartialEq.eq in
    let most = c.args.bag.now.most in
    let steps : into_iter_items at.step-iterator ≡ x ∷ into_iter_items c.next.new.self = c.in-Some.ensures.steps.0 in
    let shorter : into_iter_len c.next.new.self + 1 ≡ into_iter_len at.step-iterator = c.in-Some.ensures.steps.1 in
    let was : into_iter_len at.step-iterator ≡ length (into_iter_items at.step-iterator) = at.invariant.long in
    let fewer = ap (λ (l : List _). length l) steps in
    let room : vec_len at.replies + into_iter_len at.step-iterator ≤ vec_capacity at.replies = at.invariant.room in
    let longer = c.push_reserved.ensures.len in
    let capacity = c.push_reserved.ensures.capacity in
    let same : (X : List g.row.T.Denot) → Means c.args.bag.now X → IsSameRow (step_of eq (limit_left eq most X at.yielded) (run_of eq most X at.yielded).0 x) (step_of eq at.bag.most at.bag.items x) = λ X means.
    let before = at.invariant.means X means in
    same_step g.met.T.Eq.laws at.bag.most (limit_left eq most X at.yielded) (run_of eq most X at.yielded).0 at.bag.items x (at.invariant.limit X means) before c.apply.ensures.bag in
    let moved : reserves_or_shrinks x ≡ false → Moves (newcomers eq at.bag.items (step_of eq at.bag.most at.bag.items x).0) at.bag.tables c.apply.new.bag.tables = λ quiet.
    moves_left g.met.T.Eq.laws at.bag.items (step_of eq at.bag.most at.bag.items x).0 c.apply.new.bag.items x at.bag.tables c.apply.new.bag.tables c.in_ok-reply.ensures.left quiet c.in_ok-reply.ensures.turns in
    record {
      taken = append_assoc at.yielded (x ∷ []) _ ∙ rw steps at at.invariant.taken;
      long = omega arith;
      room = omega arith;
      replies = λ X means.
          let reply = c.in_ok-reply.ensures.reply ∙ sym (same X means).reply in
          let before = at.invariant.replies X means in
          let more = (run_more eq most X at.yielded x).1 in
          c.push_reserved.ensures.items ∙ rw (before, reply, more) (append_assoc _ (run_of eq most X at.yielded).1 _);
      means = λ X means. rw (run_more eq most X at.yielded x).0 (IsPermutation-trans _ _ _ (same X means).left c.in_ok-reply.ensures.left);
      limit = λ X means. c.in_ok-reply.ensures.limit ∙ sym (limit_same g.met.T.Eq.laws at.bag.most (limit_left eq most X at.yielded) (run_of eq most X at.yielded).0 at.bag.items x (at.invariant.limit X means) (at.invariant.means X means) c.apply.ensures.bag) ∙ sym (limit_more eq most X at.yielded x);
      hasher = c.in_ok-reply.ensures.hasher ∙ at.invariant.hasher;
      roomy = λ X means roomy.
          let so_far = rw steps at (at.invariant.roomy X means roomy) in
          let whole : at.yielded ++ x ∷ into_iter_items c.next.new.self ≡ into_iter_items c.into_iter-step-iterator.result = rw steps at at.invariant.taken in
          let quiet = neither_at at.yielded (into_iter_items c.next.new.self) x (ap (list_any reserves_or_shrinks) whole ∙ roomy.calls) in
          let enough = next_enough g.met.T.Eq.laws most at.bag.most X at.bag.items at.yielded (into_iter_items c.next.new.self) x _ at.bag.tables so_far (at.invariant.means X means) (same X means).left in
          roomy_next g.met.T.Eq.laws most at.bag.most X at.bag.items at.yielded (into_iter_items c.next.new.self) x _ at.bag.tables _ so_far (at.invariant.means X means) (same X means).left (moves_within _ _ _ (moved quiet) enough);
      held = c.slots-slots-in-loop-step.ensures.held;
      shaped = let s = c.slots-slots-in-loop-step.ensures in let w = c.waiting-waiting-in-loop-step.ensures in shaped_by g.T.PartialEq.eq _ _ _ _ s.slots s.count s.values s.fits w.waiting w.smaller;
      paid = λ empty none.
          let nothing = means_none g.T.PartialEq.eq c.args.bag.now empty in
          paid_next g.met.T.Eq.laws most at.bag.most at.bag.items at.yielded x c.args.bag.now.tables at.bag.tables c.apply.new.bag.tables (at.invariant.means [] nothing) (same [] nothing).left at.invariant.shaped
          moved c.in_ok-reply.ensures.fewer (at.invariant.paid empty none);
      turned = λ X means.
          in_turn_more eq most X at.yielded x c.args.bag.now.tables at.bag.tables c.apply.new.bag.tables (at.invariant.turned X means)
          (hold_rearranged g.met.T.Eq.laws (run_of eq most X at.yielded).0 at.bag.items at.bag.tables (at.invariant.means X means) at.invariant.held at.invariant.shaped.known)
          (leaves_rearranged g.met.T.Eq.laws (run_of eq most X at.yielded).0 (step_of eq (limit_left eq most X at.yielded) (run_of eq most X at.yielded).0 x).0 at.bag.items c.apply.new.bag.items at.bag.tables c.apply.new.bag.tables (at.invariant.means X means)
          (IsPermutation-trans _ _ _ (same X means).left c.in_ok-reply.ensures.left) x c.in_ok-reply.ensures.turns);
    }

pub returns-in_err-reply-clause-stopped : goal.returns-in_err-reply-clause-stopped
returns-in_err-reply-clause-stopped g c =
    let at = c.loop-step in
    let eq = g.T.PartialEq.eq in
    let most = c.args.bag.now.most in
    let steps : into_iter_items at.step-iterator ≡ c.in-Some.step ∷ into_iter_items c.next.new.self = c.in-Some.ensures.steps.0 in
    let whole : at.yielded ++ c.in-Some.step ∷ into_iter_items c.next.new.self ≡ c.args.steps.items = (rw steps at at.invariant.taken) ∙ c.into_iter-step-iterator.ensures.into_iter_gives.0 in
    let stopped : (X : List g.row.T.Denot) → Means c.args.bag.now X → IsStoppedFrom eq c.args.bag.now.most X c.args.steps.items c.args.replies.now.items at.replies.items c.apply.new.bag = λ X means. record {
      done = at.yielded;
      stopped_at = c.in-Some.step;
      dropped = into_iter_items c.next.new.self;
      parts = sym whole;
      replies = rw (← c.in_ok-reserve.ensures.items) (at.invariant.replies X means);
      means = rw c.in_err-reply.ensures.err (at.invariant.means X means);
      limit = rw c.in_err-reply.ensures.err (at.invariant.limit X means);
      may_allocate =
          let before = at.invariant.means X means in
          let asks = asks_rearranged g.met.T.Eq.laws (run_of eq most X at.yielded).0 at.bag.items before (bag_rearranged g.met.T.Eq.laws _ _ (IsPermutation-sym _ _ before) c.apply.ensures.bag) at.bag.tables c.in-Some.step c.in_err-reply.ensures.asked in
          subst (λ (t : Tables g.row.T.Denot). MayAllocate eq (limit_left eq most X at.yielded) (run_of eq most X at.yielded).0 t c.in-Some.step) (sym (ap (λ b. b.tables) c.in_err-reply.ensures.err))
          (subst (λ (m : ℕ). MayAllocate eq m (run_of eq most X at.yielded).0 at.bag.tables c.in-Some.step) (at.invariant.limit X means) asks);
      full = λ about.
          let few = few_newcomers g.met.T.Eq.laws at.bag.items (step_of eq at.bag.most at.bag.items c.in-Some.step).0 in
          ap (λ b. room b.tables) c.in_err-reply.ensures.err ∙ none_left (room at.bag.tables) (λ some. false≢true (c.in_err-reply.ensures.takes about (omega (arith, few, some))));
    } in
    let cut : IsNotBegunOrStopped eq (HasNoRoom c.args.replies.now c.args.steps) (ran c.args.bag.now c.apply.new.bag c.args.steps.items c.args.replies.now.items at.replies.items) = inr stopped in
    OnErr-from _ cut

-- the steps that the loop begins with are those of the run
from_start : {T : Type 0} {eq : T → T → Bool} {most : ℕ} (X : List T) (steps all : List (Step T)) (t : Tables T) → all ≡ steps → IsRoomy eq most X steps t → IsRoomy eq most X all t
from_start {eq = eq} {most = most} X steps all t e h = subst (λ l. IsRoomy eq most X l t) (sym e) h

pub returns-clause-slots : goal.returns-clause-slots
returns-clause-slots g c = λ X means roomy. (c.loop-step.invariant.roomy X means (from_start X _ _ c.args.bag.now.tables c.into_iter-step-iterator.ensures.into_iter_gives.0 roomy)).slots

pub returns-clause-roomy : goal.returns-clause-roomy
returns-clause-roomy g c = λ X means roomy. tt

-- a step that neither reserves nor shrinks doesn't fail where there is room
none_fails : (g : _) (c : goal.After-drop-step-iterator g) (X : List g.row.T.Denot) → Means c.args.bag.now X → IsRoomy g.T.PartialEq.eq c.args.bag.now.most X c.args.steps.items c.args.bag.now.tables → ⊥
none_fails g c X means roomy =
    let at = c.loop-step in
    let eq = g.T.PartialEq.eq in
    let most = c.args.bag.now.most in
    let start = from_start X _ _ c.args.bag.now.tables c.into_iter-step-iterator.ensures.into_iter_gives.0 roomy in
    let steps : into_iter_items at.step-iterator ≡ c.in-Some.step ∷ into_iter_items c.next.new.self = c.in-Some.ensures.steps.0 in
    let whole : at.yielded ++ c.in-Some.step ∷ into_iter_items c.next.new.self ≡ c.args.steps.items = (rw steps at at.invariant.taken) ∙ c.into_iter-step-iterator.ensures.into_iter_gives.0 in
    let so_far = rw steps at (at.invariant.roomy X means start) in
    let before = at.invariant.means X means in
    let same = same_step g.met.T.Eq.laws at.bag.most (limit_left eq most X at.yielded) (run_of eq most X at.yielded).0 at.bag.items c.in-Some.step (at.invariant.limit X means) before c.apply.ensures.bag in
    false≢true (c.in_err-reply.ensures.takes
    (neither_at at.yielded (into_iter_items c.next.new.self) c.in-Some.step (ap (list_any reserves_or_shrinks) whole ∙ roomy.calls))
    (next_enough g.met.T.Eq.laws most at.bag.most X at.bag.items at.yielded (into_iter_items c.next.new.self) c.in-Some.step _ at.bag.tables so_far before same.left))

pub returns-in_err-reply-clause-slots : goal.returns-in_err-reply-clause-slots
returns-in_err-reply-clause-slots g c = λ X means roomy. absurd (none_fails g c X means roomy)

pub returns-in_err-reply-clause-roomy : goal.returns-in_err-reply-clause-roomy
returns-in_err-reply-clause-roomy g c = λ X means roomy. absurd (none_fails g c X means roomy)

-- no room for the replies: nothing was done
pub returns-in_err-reserve-clause-stopped : goal.returns-in_err-reserve-clause-stopped
returns-in_err-reserve-clause-stopped g c = search rules

-- ---- clause `bounded`: how many slots there are after the steps with replies, if the run began without slots

pub returns-clause-bounded : goal.returns-clause-bounded
returns-clause-bounded g c = λ empty none.
    let at = c.loop-step in
    bounded_from g.T.PartialEq.eq c.args.bag.now.most at.yielded (into_iter_items at.step-iterator) c.args.steps.items c.args.replies.now.items at.replies.items c.args.bag.now.tables at.bag.tables
    (at.invariant.taken ∙ c.into_iter-step-iterator.ensures.into_iter_gives.0)
    (rw (← c.in_ok-reserve.ensures.items) (at.invariant.replies [] (means_none g.T.PartialEq.eq c.args.bag.now empty)))
    (at.invariant.paid empty none) at.invariant.shaped.smaller

pub returns-in_err-reply-clause-bounded : goal.returns-in_err-reply-clause-bounded
returns-in_err-reply-clause-bounded g c = λ empty none.
    let at = c.loop-step in
    let steps : into_iter_items at.step-iterator ≡ c.in-Some.step ∷ into_iter_items c.next.new.self = c.in-Some.ensures.steps.0 in
    rw c.in_err-reply.ensures.err
    (bounded_from g.T.PartialEq.eq c.args.bag.now.most at.yielded (into_iter_items at.step-iterator) c.args.steps.items c.args.replies.now.items at.replies.items c.args.bag.now.tables at.bag.tables
    (at.invariant.taken ∙ c.into_iter-step-iterator.ensures.into_iter_gives.0)
    (rw (← c.in_ok-reserve.ensures.items) (at.invariant.replies [] (means_none g.T.PartialEq.eq c.args.bag.now empty)))
    (at.invariant.paid empty none) at.invariant.shaped.smaller)

pub returns-in_err-reserve-clause-bounded : goal.returns-in_err-reserve-clause-bounded
returns-in_err-reserve-clause-bounded g c = λ empty none.
    bounded_from g.T.PartialEq.eq c.args.bag.now.most [] c.args.steps.items c.args.steps.items c.args.replies.now.items _ c.args.bag.now.tables c.args.bag.now.tables
    refl (unanswered g.T.PartialEq.eq c.args.bag.now.most [] _ _ (search rules)) (no_slots_paid g.T.PartialEq.eq c.args.bag.now.most c.args.bag.now.tables none) (let w = c.waiting-waiting.ensures in smaller_by _ c.args.bag.now.tables w.waiting w.smaller)

-- ---- what the steps with replies leave of the tables

pub returns-clause-tables : goal.returns-clause-tables
returns-clause-tables g c = λ X means.
    let at = c.loop-step in
    in_turn_from g.T.PartialEq.eq c.args.bag.now.most X at.yielded (into_iter_items at.step-iterator) c.args.steps.items c.args.replies.now.items at.replies.items c.args.bag.now.tables at.bag.tables
    (at.invariant.taken ∙ c.into_iter-step-iterator.ensures.into_iter_gives.0) (rw (← c.in_ok-reserve.ensures.items) (at.invariant.replies X means)) (at.invariant.turned X means)

pub returns-in_err-reply-clause-tables : goal.returns-in_err-reply-clause-tables
returns-in_err-reply-clause-tables g c = λ X means.
    let at = c.loop-step in
    let steps : into_iter_items at.step-iterator ≡ c.in-Some.step ∷ into_iter_items c.next.new.self = c.in-Some.ensures.steps.0 in
    rw c.in_err-reply.ensures.err
    (in_turn_from g.T.PartialEq.eq c.args.bag.now.most X at.yielded (into_iter_items at.step-iterator) c.args.steps.items c.args.replies.now.items at.replies.items c.args.bag.now.tables at.bag.tables
    (at.invariant.taken ∙ c.into_iter-step-iterator.ensures.into_iter_gives.0) (rw (← c.in_ok-reserve.ensures.items) (at.invariant.replies X means)) (at.invariant.turned X means))

pub returns-in_err-reserve-clause-tables : goal.returns-in_err-reserve-clause-tables
returns-in_err-reserve-clause-tables g c = λ X means.
    in_turn_from g.T.PartialEq.eq c.args.bag.now.most X [] c.args.steps.items c.args.steps.items c.args.replies.now.items _ c.args.bag.now.tables c.args.bag.now.tables
    refl (unanswered g.T.PartialEq.eq c.args.bag.now.most X _ _ (search rules)) refl

-- ---- all steps were done

all_taken : {T : Type 0} (done rest all steps : List (Step T)) → done ++ rest ≡ all → all ≡ steps → length rest ≡ 0 → done ≡ steps
all_taken done rest all steps taken gives none = sym (append-nil done) ∙ ap (λ (l : List (Step _)). done ++ l) (sym (nil_from_length rest none)) ∙ taken ∙ gives

pub returns-clause-replies : goal.returns-clause-replies
returns-clause-replies g c = λ X means.
    let at = c.loop-step in
    let all = all_taken at.yielded (into_iter_items at.step-iterator) _ c.args.steps.items at.invariant.taken c.into_iter-step-iterator.ensures.into_iter_gives.0 (sym at.invariant.long ∙ c.in-None.ensures.steps.0) in
    subst (λ l. at.replies.items ≡ c.args.replies.now.items ++ (run_of g.T.PartialEq.eq c.args.bag.now.most X l).1) all (rw (← c.in_ok-reserve.ensures.items) (at.invariant.replies X means))

pub returns-clause-means : goal.returns-clause-means
returns-clause-means g c = λ X means.
    let at = c.loop-step in
    let all = all_taken at.yielded (into_iter_items at.step-iterator) _ c.args.steps.items at.invariant.taken c.into_iter-step-iterator.ensures.into_iter_gives.0 (sym at.invariant.long ∙ c.in-None.ensures.steps.0) in
    subst (λ l. Means at.bag (run_of g.T.PartialEq.eq c.args.bag.now.most X l).0) all (at.invariant.means X means)

pub returns-clause-limit : goal.returns-clause-limit
returns-clause-limit g c = λ X means.
    let at = c.loop-step in
    let all = all_taken at.yielded (into_iter_items at.step-iterator) _ c.args.steps.items at.invariant.taken c.into_iter-step-iterator.ensures.into_iter_gives.0 (sym at.invariant.long ∙ c.in-None.ensures.steps.0) in
    subst (λ l. at.bag.most ≡ limit_left g.T.PartialEq.eq c.args.bag.now.most X l) all (at.invariant.limit X means)
