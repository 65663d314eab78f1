use Rattle.std.proofs.Common.{◌≡◌, ℕ, zero, suc, ◌<◌, ◌⊎◌, inl, inr, Bool, true, List, [], ◌∷◌, min, All, ap, subst, refl, sym, ◌∙◌, arith}
use Rattle.std.specs.Cmp.{IsEquivalence}
use Rattle.std.specs.List.{Contains}
use Rattle.std.proofs.lemmas.Bool.{false≢true}
use Rattle.std.proofs.lemmas.List.Elements.{All-head, All-tail}
use Rattle.std.proofs.lemmas.List.Sorted.{IsPermutation-refl}
use Rattle.hashbag_core.specs.EqualityLaws.{count_congr}
use Rattle.hashbag_core.specs.Occurrences.{count}
use Rattle.hashbag_core.specs.Walks.{IsSetWalk}
use Rattle.hashbag_core.proofs.ContainsLemmas.{not_in_nil, Contains-cases, Contains-same}
use Rattle.hashbag_core.proofs.ExcessLemmas.{an_instance}
use Rattle.hashbag_ops.proofs.Walked.{onto_walk, all_occur}
use Rattle.hashbag_ops.proofs.compare.has_none_of.Goals as goal

module _ {T : Type 0} {eq : T → T → Bool} (laws : IsEquivalence eq) (X Y : List T) where
  -- v isn't in both, or is still to come in W
  abbrev Apart : T → List (T × ℕ) → Type 0
  Apart v W = (min (count eq v X) (count eq v Y) ≡ 0) ⊎ ((x : T) × Contains W (x, count eq v X) × (eq v x ≡ true))

  none_yet : (v : T) (W : List (T × ℕ)) → IsSetWalk eq X W → (k : ℕ) → count eq v X ≡ k → Apart v W
  none_yet v W h zero e = inl (omega arith)
  none_yet v W h (suc k) e =
      let found = an_instance laws v X (omega arith) in
      let there = onto_walk X W h found.0 found.1 in
      inr (found.0, subst (λ (n : ℕ). Contains W (found.0, n)) (sym (count_congr laws X v found.0 found.2)) there, found.2)

  one_passed : (v : T) (e : T × ℕ) (W : List (T × ℕ)) → count eq e.0 Y ≡ 0 → Apart v (e ∷ W) → Apart v W
  one_passed v e W none (inl apart) = inl apart
  one_passed v e W none (inr there) = elim (Contains-cases e (there.0, count eq v X) W there.1) as (λ _. Apart v W) [
    | inl is ↦
        let same : count eq v Y ≡ count eq e.0 Y = count_congr laws Y v there.0 there.2 ∙ ap (λ (p : T × ℕ). count eq p.0 Y) (sym is) in
        inl (omega arith)
    | inr later ↦ inr (there.0, later, there.2)
  ]

  all_passed : (v : T) (W : List (T × ℕ)) → W ≡ [] → Apart v W → min (count eq v X) (count eq v Y) ≡ 0
  all_passed v W none (inl apart) = apart
  all_passed v W none (inr there) = absurd (not_in_nil _ (Contains-same W [] _ none there.1))

-- of pairs whose values all occur in X the next one does, and so do the later ones
next_occurs : {T : Type 0} (eq : T → T → Bool) (X : List T) (W : List (T × ℕ)) (e : T × ℕ) (rest : List (T × ℕ)) → W ≡ e ∷ rest → All (λ e. 0 < count eq e.0 X) W → (0 < count eq e.0 X) × All (λ e. 0 < count eq e.0 X) rest
next_occurs {T} eq X W e rest steps there =
    let came = subst (λ (l : List (T × ℕ)). All (λ e. 0 < count eq e.0 X) l) steps there in
    (All-head (λ e. 0 < count eq e.0 X) e rest came, All-tail (λ e. 0 < count eq e.0 X) e rest came)

pub loop-value-init : goal.loop-value-init
loop-value-init g c =
    let laws = g.met.T.Eq.laws in
    let X = c.args.walked.now.items in
    let W = c.set_iter-value-items.result in
    let walk = c.set_iter-value-items.ensures.walk X (IsPermutation-refl X) in
    record {
      apart = λ v. rw c.into_iter-value-iterator.ensures.into_iter_gives (none_yet laws X c.args.other.now.items v W walk _ refl);
      there = rw c.into_iter-value-iterator.ensures.into_iter_gives (all_occur laws X W walk);
    }

pub returns-then-contains-gt0 : goal.returns-then-contains-gt0
returns-then-contains-gt0 g c =
    let eq = g.T.PartialEq.eq in
    let X = c.args.walked.now.items in
    let some : 0 < count eq c.in-Some.value.now X = (next_occurs eq X _ _ c.next.new.self c.in-Some.ensures.steps c.loop-value.invariant.there).0 in (
      λ t. absurd (false≢true t),
      λ apart.
          let none = apart c.in-Some.value.now in
          let there = c.contains.ensures.count in
          absurd (omega arith),
    )

pub loop-value-preserved : goal.loop-value-preserved
loop-value-preserved g c =
    let eq = g.T.PartialEq.eq in
    let laws = g.met.T.Eq.laws in
    let X = c.args.walked.now.items in
    let Y = c.args.other.now.items in
    let counted = c.contains.ensures.count in
    let none : count eq c.in-Some.value.now Y ≡ 0 = omega arith in
    record {
      apart = λ v. one_passed laws X Y v _ c.next.new.self none (subst (λ (W : List (g.row.T.Denot × ℕ)). Apart laws X Y v W) c.in-Some.ensures.steps (c.loop-value.invariant.apart v));
      there = (next_occurs eq X _ _ c.next.new.self c.in-Some.ensures.steps c.loop-value.invariant.there).1;
    }

pub returns : goal.returns
returns g c = (
  λ t v. all_passed g.met.T.Eq.laws c.args.walked.now.items c.args.other.now.items v c.loop-value.value-iterator c.in-None.ensures.steps.0 (c.loop-value.invariant.apart v),
  λ h. refl,
)
