use Rattle.std.proofs.Common.{◌≡◌, ℕ, zero, suc, ◌+◌, ◌-◌, ◌≤◌, ◌⊎◌, inl, inr, Bool, List, [], ◌∷◌, All, max, ap, subst, refl, arith, rules}
use borrow.Author.Tests.{tests}
use Rattle.std.specs.Cmp.{IsEquivalence}
use Rattle.std.specs.List.{Contains}
use Rattle.std.proofs.lemmas.List.Elements.{All-head, All-tail}
use Rattle.std.proofs.lemmas.List.Sorted.{IsPermutation-refl}
use Rattle.hashbag.specs.Joins.{IsDifference}
use Rattle.hashbag.specs.Occurrences.{count}
use Rattle.hashbag.proofs.CallerLemmas.{excess_listed}
use Rattle.hashbag.proofs.ContainsLemmas.{not_in_nil, Contains-cases, Contains-same}
use Rattle.hashbag_callers.proofs.DeliveryLemmas.{CameMore, all_came_more, greater_reached}
use Rattle.hashbag_callers.proofs.deliveries.greatest_surplus.Goals as goal

module _ {T : Type 0} (eq : T → T → Bool) (X Y : List T) (v : T) where
  -- v's surplus is no more than n, or is listed in E
  abbrev Seen : ℕ → List (T × ℕ) → Type 0
  Seen n E = (count eq v X ≤ count eq v Y + n) ⊎ ((x : T) × Contains E (x, count eq v X - count eq v Y))

  none_seen : (laws : IsEquivalence eq) (E : List (T × ℕ)) → IsDifference eq X Y E → (k : ℕ) → count eq v X - count eq v Y ≡ k → Seen 0 E
  none_seen laws E h zero e = inl (omega arith)
  none_seen laws E h (suc k) e = inr (excess_listed laws X Y E h v (omega arith))

  one_seen : (n m : ℕ) (x : T × ℕ) (E : List (T × ℕ)) → n ≤ m → x.1 ≤ m → Seen n (x ∷ E) → Seen m E
  one_seen n m x E least at_least (inl few) = inl (omega arith)
  one_seen n m x E least at_least (inr there) = elim (Contains-cases x (there.0, count eq v X - count eq v Y) E there.1) as (λ _. Seen m E) [
    | inl is ↦ let number : x.1 ≡ count eq v X - count eq v Y = ap (λ (e : T × ℕ). e.1) is in inl (omega arith)
    | inr later ↦ inr (there.0, later)
  ]

  all_seen : (n : ℕ) (E : List (T × ℕ)) → E ≡ [] → Seen n E → count eq v X ≤ count eq v Y + n
  all_seen n E none (inl few) = few
  all_seen n E none (inr there) = absurd (not_in_nil _ (Contains-same E [] _ none there.1))

pub loop-surplus-init : goal.loop-surplus-init
loop-surplus-init g c =
    let eq = g.T.PartialEq.eq in
    let X = c.args.delivered.now.items in
    let Y = c.args.ordered.now.items in
    let E = c.difference-surplus-items.result in
    let difference = c.difference-surplus-items.ensures X Y (IsPermutation-refl X) (IsPermutation-refl Y) in
    record {
      most = λ v. rw c.into_iter-surplus-iterator.ensures.into_iter_gives (none_seen eq X Y v g.met.T.Eq.laws E difference _ refl);
      listed = rw c.into_iter-surplus-iterator.ensures.into_iter_gives (all_came_more eq X Y E difference);
      reached = λ some. absurd (omega arith);
    }

pub loop-surplus-preserved : goal.loop-surplus-preserved
loop-surplus-preserved g c =
    let eq = g.T.PartialEq.eq in
    let X = c.args.delivered.now.items in
    let Y = c.args.ordered.now.items in
    let most : c.max-greatest.result ≡ max c.loop-surplus.greatest c.in-Some.surplus = search (rules, tests) in
    let came = subst (λ (E : List (g.row.T.Denot × ℕ)). All (CameMore eq X Y) E) c.in-Some.ensures.steps c.loop-surplus.invariant.listed in
    record {
      most = λ v. one_seen eq X Y v c.loop-surplus.greatest c.max-greatest.result _ c.next.new.self (omega arith) (omega arith)
          (subst (λ (E : List (g.row.T.Denot × ℕ)). Seen eq X Y v c.loop-surplus.greatest E) c.in-Some.ensures.steps (c.loop-surplus.invariant.most v));
      listed = All-tail (CameMore eq X Y) _ c.next.new.self came;
      reached = greater_reached eq X Y c.loop-surplus.greatest c.max-greatest.result _ most (All-head (CameMore eq X Y) _ c.next.new.self came) c.loop-surplus.invariant.reached;
    }

pub returns : goal.returns
returns g c = record {
  most = λ v. all_seen g.T.PartialEq.eq c.args.delivered.now.items c.args.ordered.now.items v c.loop-surplus.greatest c.loop-surplus.surplus-iterator c.in-None.ensures.steps.0 (c.loop-surplus.invariant.most v);
  reached = c.loop-surplus.invariant.reached;
}
