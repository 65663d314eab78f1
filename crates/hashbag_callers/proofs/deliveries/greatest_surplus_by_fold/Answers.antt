use Rattle.std.proofs.Common.{◌≡◌, ℕ, zero, suc, ◌+◌, ◌-◌, ◌<◌, ◌≤◌, Bool, List, [], ◌∷◌, All, fold, max, inl, inr, sym, ap, subst, refl, arith, rules}
use borrow.Author.Tests.{tests}
use Rattle.std.specs.Cmp.{IsEquivalence}
use Rattle.std.specs.List.{Contains}
use Rattle.std.proofs.lemmas.Iterator.Consumers.{YieldsList-from_first, fold_from_yields_List}
use Rattle.std.proofs.lemmas.List.Elements.{All-head, All-tail}
use Rattle.std.proofs.lemmas.List.Sorted.{IsPermutation-refl}
use Rattle.hashbag.specs.Joins.{IsDifference}
use Rattle.hashbag.specs.Occurrences.{count}
use Rattle.hashbag.proofs.CallerLemmas.{excess_listed}
use Rattle.hashbag.proofs.ContainsLemmas.{not_in_nil, Contains-cases}
use Rattle.hashbag_callers.specs.Deliveries.{IsGreatestSurplus}
use Rattle.hashbag_callers.proofs.DeliveryLemmas.{CameMore, all_came_more, greater_reached}
use Rattle.hashbag_callers.proofs.deliveries.greatest_surplus_by_fold.Goals as goal

module _ {T : Type 0} where
  abbrev greater : ℕ → T × ℕ → ℕ
  greater n e = max e.1 n

  -- the fold is no less than where it began, and than each number
  begins : (E : List (T × ℕ)) (n : ℕ) → n ≤ fold greater n E
  begins [] n = omega arith
  begins (x ∷ E) n = let later = begins E (max x.1 n) in omega arith

  reaches : (E : List (T × ℕ)) (n : ℕ) (e : T × ℕ) → Contains E e → e.1 ≤ fold greater n E
  reaches [] n e there = absurd (not_in_nil e there)
  reaches (x ∷ E) n e there = elim (Contains-cases x e E there) as (λ _. e.1 ≤ fold greater (max x.1 n) E) [
    | inl is ↦ let number : x.1 ≡ e.1 = ap (λ (y : T × ℕ). y.1) is in let later = begins E (max x.1 n) in omega arith
    | inr later ↦ reaches E (max x.1 n) e later
  ]

  bound : {eq : T → T → Bool} (laws : IsEquivalence eq) (X Y : List T) (E : List (T × ℕ)) → IsDifference eq X Y E → (v : T) (k : ℕ) → count eq v X - count eq v Y ≡ k → count eq v X ≤ count eq v Y + fold greater 0 E
  bound {eq} laws X Y E h v zero e = omega arith
  bound {eq} laws X Y E h v (suc k) e =
      let there = excess_listed laws X Y E h v (omega arith) in
      let least = reaches E 0 (there.0, count eq v X - count eq v Y) there.1 in
      omega arith

  reached : (eq : T → T → Bool) (X Y : List T) (E : List (T × ℕ)) (n : ℕ) → All (CameMore eq X Y) E → (0 < n → (v : T) × (count eq v X ≡ count eq v Y + n)) → 0 < fold greater n E → (v : T) × (count eq v X ≡ count eq v Y + fold greater n E)
  reached eq X Y [] n came before = before
  reached eq X Y (x ∷ E) n came before =
      reached eq X Y E (max x.1 n) (All-tail (CameMore eq X Y) x E came) (greater_reached eq X Y n (max x.1 n) x (omega arith) (All-head (CameMore eq X Y) x E came) before)

pub returns : goal.returns
returns g c =
    let eq = g.T.PartialEq.eq in
    let X = c.args.delivered.now.items in
    let Y = c.args.ordered.now.items in
    let E = c.difference.result in
    let difference = c.difference.ensures X Y (IsPermutation-refl X) (IsPermutation-refl Y) in
    let folded = fold_from_yields_List _ greater 0 c.fold.result c.fold.ensures.ran (YieldsList-from_first (λ e. (e.0.now, e.1)) (λ s. s) E refl) (λ a x b q k. search (rules, tests)) in
    subst (λ (n : ℕ). IsGreatestSurplus eq X Y n) (sym folded) (record {
      most = λ v. bound g.met.T.Eq.laws X Y E difference v _ refl;
      reached = reached eq X Y E 0 (all_came_more eq X Y E difference) (λ some. absurd (omega arith));
    })
