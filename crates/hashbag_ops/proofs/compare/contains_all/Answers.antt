use Rattle.std.proofs.Common.{◌≡◌, ℕ, ◌≤◌, Bool, true, false, not, List, [], ◌∷◌, Option, Some, None, IsTrue, refl, sym, arith}
use Rattle.std.specs.Cmp.{IsEquivalence}
use Rattle.std.specs.Option.{MatchOption, is_some}
use Rattle.std.proofs.lemmas.Bool.{false≢true}
use Rattle.std.proofs.lemmas.List.Sorted.{IsPermutation-refl}
use Rattle.hashbag_core.specs.Joins.{IsDifference}
use Rattle.hashbag_core.specs.Occurrences.{count}
use Rattle.hashbag_core.proofs.CallerLemmas.{none_listed, listed_exceeds}
use Rattle.hashbag_core.proofs.ContainsLemmas.{Contains-same}
use Rattle.hashbag_core.proofs.MemberLemmas.{Contains-head}
use Rattle.hashbag_ops.proofs.compare.contains_all.Goals as goal

module _ {T A : Type 0} {eq : T → T → Bool} (laws : IsEquivalence eq) (X Y : List T) (E rest : List (T × ℕ)) (shown : A → T × ℕ) (h : IsDifference eq X Y E) where
  -- what the first item tells
  told : (first : Option A) (b : Bool) → MatchOption first ((E ≡ []) × (rest ≡ [])) (λ x. E ≡ shown x ∷ rest) → is_some first ≡ not b
      → (IsTrue b → (v : T) → count eq v X ≤ count eq v Y) × (((v : T) → count eq v X ≤ count eq v Y) → IsTrue b)
  told None true none is = ((λ _. none_listed laws X Y E h none.0), λ _. refl)
  told None false none is = absurd (cc)
  told (Some x) true one is = absurd (cc)
  told (Some x) false one is = (
    (λ t. absurd (false≢true t)),
    λ few.
        let more = listed_exceeds laws X Y E h (shown x) (Contains-same (shown x ∷ rest) E (shown x) (sym one) (Contains-head (shown x) rest)) in
        let least = few (shown x).0 in
        absurd (omega arith),
  )

pub returns : goal.returns
returns g c =
    let X = c.args.other.now.items in
    let Y = c.args.bag.now.items in
    told g.met.T.Eq.laws X Y c.difference.result c.next.new.self (λ e. (e.0.now, e.1)) (c.difference.ensures X Y (IsPermutation-refl X) (IsPermutation-refl Y)) c.next.result c.is_none.result c.next.ensures.steps c.is_none.ensures
