-- After a `retain` whose closure returns a number that follows from the value and its count.
use Rattle.std.proofs.Common.{◌≡◌, ℕ, ◌+◌, min, Bool, true, false, cond, nat_lt, List, [], ◌∷◌, ◌++◌, replicate, map, refl, sym, ◌∙◌, ap, subst, arith}
use borrow.Author.Tests.{ltb-false}
use denote.Ref.{Bor}
use denote.Param.Members.{Mut}
use Rattle.std.specs.Cmp.{IsEquivalence}
use Rattle.std.specs.Fn.{Called}
use Rattle.std.specs.List.{IsDistinct}
use Rattle.std.specs.Map.{keys_of}
use Rattle.std.proofs.lemmas.List.Sorted.{IsPermutation-refl}
use Rattle.std.proofs.lemmas.Map.Keys.{IsDistinct-tail}
use Rattle.hashbag_table.specs.Returned.{ReturnsInTurn, retained_entries}
use Rattle.hashbag_core.specs.Bag.{Bag, occurrences}
use Rattle.hashbag_core.specs.EqualityLaws.{count_append, count_congr}
use Rattle.hashbag_core.specs.Occurrences.{count}
use Rattle.hashbag_core.specs.Retain.{IsRetained}
use Rattle.hashbag_core.proofs.CallerLemmas.{count_means}
use Rattle.hashbag_core.proofs.DistinctLemmas.{absent_later}
use Rattle.hashbag_core.proofs.JoinLemmas.{keys_of_walk}
use Rattle.hashbag_core.proofs.Laws.{count_added}
use Rattle.hashbag_core.proofs.OccurrenceLemmas.{count_rearranged}

module _ {F T : Type 0} (g : Mut F (Bor T × (ℕ × Unit {0})) ℕ) (J : F → Type 0) (many : T → ℕ → ℕ)
    (says : (p q : F) (x : Bor T) (n a : ℕ) → J p → Called g p (x, (n, tt)) a q → (a ≡ many x.now n) × J q) where
  -- what a closure returned along a walk, if it returns `many` of the value and its count
  pub answers_by_count : (p : F) (walk : List (T × ℕ)) (returned : List ℕ) (last : F) → J p → ReturnsInTurn g p walk returned last → returned ≡ map (λ e. many e.0 e.1) walk
  answers_by_count p [] [] last j asked = refl
  answers_by_count p [] (a ∷ returned) last j asked = absurd asked
  answers_by_count p (e ∷ walk) [] last j asked = absurd asked
  answers_by_count p (e ∷ walk) (a ∷ returned) last j asked =
      let one = says p asked.0 asked.1.value e.1 a j asked.1.called in
      let later = answers_by_count asked.0 walk returned last one.1 asked.2 in
      λ i. (one.0 ∙ ap (λ (x : T). many x e.1) asked.1.shows) i ∷ later i

none_left : (n : ℕ) → 0 ≡ min n 0
none_left n = omega arith

module _ {T : Type 0} {eq : T → T → Bool} (laws : IsEquivalence eq) (many : T → ℕ → ℕ) (congr : (u v : T) (n : ℕ) → eq u v ≡ true → many u n ≡ many v n) where
  copies : (v x : T) (n : ℕ) (b : Bool) → eq v x ≡ b → count eq v (replicate n x) ≡ cond b n 0
  copies v x n b is =
      let all : count eq v (replicate n x) ≡ 0 + cond (eq v x) n 0 = count_added laws v x n [] in
      let same : cond (eq v x) n 0 ≡ cond b n 0 = ap (λ (b : Bool). cond b n 0) is in
      omega arith

  entry_kept : (b : Bool) (v : T) (m : ℕ) (es : List (T × ℕ)) → nat_lt 0 m ≡ b → occurrences (cond b ((v, m) ∷ es) es) ≡ replicate m v ++ occurrences es
  entry_kept true v m es e = refl
  entry_kept false v m es e =
      let above = ltb-false 0 m e in
      let none : m ≡ 0 = omega arith in
      sym (ap (λ (k : ℕ). replicate k v ++ occurrences es) none)

  -- n of x before a list
  copies_first : (v x : T) (n : ℕ) (X : List T) (b : Bool) → eq v x ≡ b → count eq v (replicate n x ++ X) ≡ cond b n 0 + count eq v X
  copies_first v x n X b is = count_append laws v (replicate n x) X ∙ ap (λ (k : ℕ). k + count eq v X) (copies v x n b is)

  kept_step : (v : T) (e : T × ℕ) (es rest : List (T × ℕ)) (b : Bool) → eq v e.0 ≡ b → count eq e.0 (occurrences es) ≡ 0
      → count eq v (occurrences rest) ≡ min (many v (count eq v (occurrences es))) (count eq v (occurrences es))
      → count eq v (replicate (min (many e.0 e.1) e.1) e.0 ++ occurrences rest) ≡ min (many v (count eq v (replicate e.1 e.0 ++ occurrences es))) (count eq v (replicate e.1 e.0 ++ occurrences es))
  kept_step v e es rest true same absent later =
      let m = min (many e.0 e.1) e.1 in
      let now = copies_first v e.0 m (occurrences rest) true same in
      let before = copies_first v e.0 e.1 (occurrences es) true same in
      let none : count eq v (occurrences es) ≡ 0 = count_congr laws (occurrences es) v e.0 same ∙ absent in
      let all : count eq v (replicate e.1 e.0 ++ occurrences es) ≡ e.1 = omega (arith, before, none) in
      let whole : count eq v (replicate m e.0 ++ occurrences rest) ≡ m = omega (arith, now, later, none) in
      whole ∙ ap (λ (k : ℕ). min k e.1) (sym (congr v e.0 e.1 same)) ∙ sym (ap (λ (k : ℕ). min (many v k) k) all)
  kept_step v e es rest false other absent later =
      let now = copies_first v e.0 (min (many e.0 e.1) e.1) (occurrences rest) false other in
      let before = copies_first v e.0 e.1 (occurrences es) false other in
      let all : count eq v (replicate e.1 e.0 ++ occurrences es) ≡ count eq v (occurrences es) = omega (arith, before) in
      let whole : count eq v (replicate (min (many e.0 e.1) e.1) e.0 ++ occurrences rest) ≡ count eq v (occurrences rest) = omega (arith, now) in
      whole ∙ later ∙ sym (ap (λ (k : ℕ). min (many v k) k) all)

  count_of_kept : (v : T) (W : List (T × ℕ)) → IsDistinct eq (keys_of W) → count eq v (occurrences (retained_entries W (map (λ e. many e.0 e.1) W))) ≡ min (many v (count eq v (occurrences W))) (count eq v (occurrences W))
  count_of_kept v [] distinct = none_left (many v 0)
  count_of_kept v (e ∷ W) distinct =
      ap (λ (l : List T). count eq v l) (entry_kept (nat_lt 0 (min (many e.0 e.1) e.1)) e.0 (min (many e.0 e.1) e.1) (retained_entries W (map (λ e. many e.0 e.1) W)) refl)
      ∙ kept_step v e W (retained_entries W (map (λ e. many e.0 e.1) W)) (eq v e.0) refl (absent_later laws e W distinct) (count_of_kept v W (IsDistinct-tail eq e.0 (keys_of W) distinct))

  -- after a `retain` (`retained`) whose closure returns that: the lesser of the count and `many` of v and its count
  pub count_retained_by : {F S : Type 0} (g : Mut F (Bor T × (ℕ × Unit {0})) ℕ) (f : F) (before after : Bag T S) (done : IsRetained eq g f before after) → done.returned ≡ map (λ e. many e.0 e.1) done.walk
      → (v : T) → count eq v after.items ≡ min (many v (count eq v before.items)) (count eq v before.items)
  count_retained_by g f before after done are v =
      let walk = done.set_walk.walk before.items (IsPermutation-refl _) in
      let distinct = subst (λ (l : List T). IsDistinct eq l) (sym (keys_of_walk laws before.items done.walk walk)) walk.each.once in
      count_means laws before after v (occurrences (retained_entries done.walk done.returned)) done.left.means ∙ ap (λ (a : List ℕ). count eq v (occurrences (retained_entries done.walk a))) are
      ∙ count_of_kept v done.walk distinct
      ∙ ap (λ (n : ℕ). min (many v n) n) (count_rearranged laws v (occurrences done.walk) before.items done.set_walk.means)
