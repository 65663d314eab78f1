use Rattle.std.proofs.Common.{◌≡◌, ℕ, zero, suc, ◌<◌, nat_lt, ◌≤◌, ◌⊎◌, inl, inr, Bool, true, false, List, [], ◌∷◌, All, max, ap, subst, refl, sym, arith, rules}
use borrow.Author.Tests.{tests, ltb-true, ltb-false}
use Rattle.std.specs.Cmp.{IsEquivalence}
use Rattle.std.specs.List.{Contains}
use Rattle.std.proofs.lemmas.List.Elements.{All-head, All-tail}
use Rattle.std.proofs.lemmas.List.Sorted.{IsPermutation-refl}
use Rattle.hashbag_core.specs.Occurrences.{count}
use Rattle.hashbag_core.specs.EqualityLaws.{count_congr}
use Rattle.hashbag_core.specs.Walks.{IsSetWalk}
use Rattle.hashbag_core.proofs.ContainsLemmas.{not_in_nil, All-from_Contains, Contains-cases, Contains-same}
use Rattle.hashbag_core.proofs.ExcessLemmas.{an_instance}
use Rattle.hashbag_core.proofs.JoinLemmas.{in_walk}
use Rattle.hashbag_ops.proofs.Walked.{onto_walk}
use Rattle.hashbag_ops.proofs.order.max_count.Goals as goal

module _ {T : Type 0} {eq : T → T → Bool} (laws : IsEquivalence eq) (X : List T) where
  abbrev Counted : T × ℕ → Type 0
  Counted e = count eq e.0 X ≡ e.1

  all_counted : (W : List (T × ℕ)) → IsSetWalk eq X W → All Counted W
  all_counted W h = All-from_Contains Counted W (λ e there. sym (in_walk laws X W h e there).1)

  abbrev Seen : T → ℕ → List (T × ℕ) → Type 0
  Seen v n W = (count eq v X ≤ n) ⊎ ((x : T) × Contains W (x, count eq v X))

  none_seen : (v : T) (W : List (T × ℕ)) → IsSetWalk eq X W → (k : ℕ) → count eq v X ≡ k → Seen v 0 W
  none_seen v W h zero e = inl (omega arith)
  none_seen v W h (suc k) e =
      let found = an_instance laws v X (omega arith) in
      let x = found.0 in
      inr (x, subst (λ (n : ℕ). Contains W (x, n)) (sym (count_congr laws X v x found.2)) (onto_walk X W h x found.1))

  one_seen : (v : T) (n m : ℕ) (x : T × ℕ) (W : List (T × ℕ)) → n ≤ m → x.1 ≤ m → Seen v n (x ∷ W) → Seen v m W
  one_seen v n m x W least at_least (inl few) = inl (omega arith)
  one_seen v n m x W least at_least (inr there) = elim (Contains-cases x (there.0, count eq v X) W there.1) as (λ _. Seen v m W) [
    | inl is ↦ let number : x.1 ≡ count eq v X = ap (λ (e : T × ℕ). e.1) is in inl (omega arith)
    | inr later ↦ inr (there.0, later)
  ]

  all_seen : (v : T) (n : ℕ) (W : List (T × ℕ)) → W ≡ [] → Seen v n W → count eq v X ≤ n
  all_seen v n W none (inl few) = few
  all_seen v n W none (inr there) = absurd (not_in_nil _ (Contains-same W [] _ none there.1))

  greater_reached : (n m : ℕ) (x : T × ℕ) → m ≡ max n x.1 → Counted x → (0 < n → (v : T) × (count eq v X ≡ n)) → 0 < m → (v : T) × (count eq v X ≡ m)
  greater_reached n m x is counted before some = by_case (nat_lt n x.1) refl
    where
      by_case : (b : Bool) → nat_lt n x.1 ≡ b → (v : T) × (count eq v X ≡ m)
      by_case true e = let above = ltb-true n x.1 e in (x.0, omega arith)
      by_case false e =
          let below = ltb-false n x.1 e in
          let there = before (omega arith) in
          let reached = there.1 in
          (there.0, omega arith)

pub loop-count-init : goal.loop-count-init
loop-count-init g c =
    let laws = g.met.T.Eq.laws in
    let X = c.args.bag.now.items in
    let W = c.set_iter-count-items.result in
    let walk = c.set_iter-count-items.ensures.walk X (IsPermutation-refl X) in
    record {
      most = λ v. rw c.into_iter-count-iterator.ensures.into_iter_gives (none_seen laws X v W walk _ refl);
      counted = rw c.into_iter-count-iterator.ensures.into_iter_gives (all_counted laws X W walk);
      reached = λ some. absurd (omega arith);
    }

pub loop-count-preserved : goal.loop-count-preserved
loop-count-preserved g c =
    let laws = g.met.T.Eq.laws in
    let X = c.args.bag.now.items in
    let before = c.loop-count.greatest in
    let after = c.max-greatest.result in
    let greater : after ≡ max before c.in-Some.count = search (rules, tests) in
    let came = subst (λ (E : List (g.row.T.Denot × ℕ)). All (Counted laws X) E) c.in-Some.ensures.steps c.loop-count.invariant.counted in
    record {
      most = λ v. one_seen laws X v before after _ c.next.new.self (omega arith) (omega arith) (subst (λ (E : List (g.row.T.Denot × ℕ)). Seen laws X v before E) c.in-Some.ensures.steps (c.loop-count.invariant.most v));
      counted = All-tail (Counted laws X) _ c.next.new.self came;
      reached = greater_reached laws X before after _ greater (All-head (Counted laws X) _ c.next.new.self came) c.loop-count.invariant.reached;
    }

pub returns-clause-most : goal.returns-clause-most
returns-clause-most g c = λ v. all_seen g.met.T.Eq.laws c.args.bag.now.items v c.loop-count.greatest c.loop-count.count-iterator c.in-None.ensures.steps.0 (c.loop-count.invariant.most v)
