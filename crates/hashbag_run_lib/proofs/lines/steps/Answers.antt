use Rattle.std.proofs.Common.{◌≡◌, ◌+◌, ◌==◌, ◌<◌, List, Option, None, get_or, not, length, sym, ◌∙◌, ap, rules, Some}
use Rattle.std.specs.Iterator.{Yields}
use Rattle.std.proofs.lemmas.Iterator.{YieldsList}
use Rattle.std.specs.Prelude.{codes}
use borrow.Author.Tests.{tests}
use Rattle.std.proofs.lemmas.Iterator.Consumers.{YieldsList-turn, YieldsList-end}
use Rattle.std.proofs.lemmas.Iterator.Splits.{YieldsList-from_slice_split}
use Rattle.std.proofs.lemmas.List.{length_push}
use Rattle.hashbag_run_lib.proofs.CommandLemmas.{first_is, none_is, good_so_far, commands_more, commands_all}
use Rattle.hashbag_run_lib.proofs.lines.steps.Goals as goal

turn_after : {S A B : Type 0} {steps : S → Option A → S → Type 0} {v : A → B} {s : S} {all : List B} (xs : List A) (t : S) → Yields steps s xs t → (r : Option A) (u : S) (x : A) → r ≡ Some x → steps t r u → YieldsList steps v s all → (length xs < length all) × (v x ≡ get_or all (length xs) (v x))
turn_after xs t y r u x is next yields = YieldsList-turn yields xs t y r u x is next

end_after : {S A B : Type 0} {steps : S → Option A → S → Type 0} {v : A → B} {s : S} {all : List B} (xs : List A) (t : S) → Yields steps s xs t → (r : Option A) (u : S) → r ≡ None → steps t r u → YieldsList steps v s all → length xs ≡ length all
end_after xs t y r u is next yields = (YieldsList-end yields xs t y r u is next).1

pub returns-then-not-branch-clause-bad : goal.returns-then-not-branch-clause-bad
returns-then-not-branch-clause-bad c =
    let turn = turn_after c.loop-line.yielded _ c.loop-line.yielded_by _ _ c.in-Some.line c.in-Some.is c.next.ensures.steps
    (YieldsList-from_slice_split {s = c.into_iter-line-iterator.result} _ (λ b. b == 10) c.args.text.now (cc) (cc) (cc) (λ x b q k. search (rules, tests))) in
    let before = c.loop-line.invariant in
    let number = c.in_ok-number.ensures.next ∙ ap (λ n. n + 1) before.counted in
    first_is c.args.text.now (length c.loop-line.yielded) c.in-Some.line.now turn.0 turn.1 before.good (c.in_ok-push.ensures.good ∙ ap not c.if-not-branch.true) ∙ ap Some (sym number)

pub loop-line-preserved : goal.loop-line-preserved
loop-line-preserved c =
    let turn = turn_after c.loop-line.yielded _ c.loop-line.yielded_by _ _ c.in-Some.line c.in-Some.is c.next.ensures.steps
    (YieldsList-from_slice_split {s = c.into_iter-line-iterator.result} _ (λ b. b == 10) c.args.text.now (cc) (cc) (cc) (λ x b q k. search (rules, tests))) in
    let more = length_push c.loop-line.yielded c.in-Some.line in
    let before = c.loop-line.invariant in
    let good = c.in_ok-push.ensures.good ∙ ap not c.if-not-branch.false in
    record {
      counted = c.in_ok-number.ensures.next ∙ ap (λ n. n + 1) before.counted ∙ sym more;
      good = rw more (good_so_far c.args.text.now (length c.loop-line.yielded) c.in-Some.line.now turn.0 turn.1 before.good good);
      first = rw more (commands_more (codes "a") c.args.text.now (length c.loop-line.yielded) c.in-Some.line.now _ _ turn.0 turn.1 before.first c.in_ok-push.ensures.a);
      second = rw more (commands_more (codes "b") c.args.text.now (length c.loop-line.yielded) c.in-Some.line.now _ _ turn.0 turn.1 before.second c.in_ok-push.ensures.b);
    }

pub returns-clause-steps : goal.returns-clause-steps
returns-clause-steps c =
    let end = end_after c.loop-line.yielded _ c.loop-line.yielded_by _ _ c.in-None.is c.next.ensures.steps
    (YieldsList-from_slice_split {s = c.into_iter-line-iterator.result} _ (λ b. b == 10) c.args.text.now (cc) (cc) (cc) (λ x b q k. search (rules, tests))) in
    let before = c.loop-line.invariant in
    record {
      none_bad = none_is c.args.text.now (length c.loop-line.yielded) end before.good;
      first = commands_all (codes "a") c.args.text.now (length c.loop-line.yielded) _ end before.first;
      second = commands_all (codes "b") c.args.text.now (length c.loop-line.yielded) _ end before.second;
    }
