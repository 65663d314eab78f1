-- What the numbers that a closure returns leave of a bag.
use Rattle.std.proofs.Common.{◌≡◌, ℕ, ◌<◌, ◌≤◌, ◌^◌, Bool, List, [], ◌∷◌, length, map, refl, sym, ◌∙◌, ap, arith}
use Rattle.std.specs.Cmp.{IsEquivalence}
use Rattle.std.proofs.lemmas.List.Sorted.{sum_by-IsPermutation}
use denote.Ref.{Bor}
use denote.Param.Members.{Mut}
use Rattle.std.specs.Fn.{Called}
use Rattle.hashbag_table.specs.Returned.{Retains, ReturnsInTurn, retained_entries}
use Rattle.hashbag_table.specs.Tables.{Tables}
use Rattle.hashbag_table.specs.Entries.{IsCounted, total}
use Rattle.hashbag_table.proofs.ReturnedLemmas.{total_kept}
use Rattle.hashbag_core.specs.Bag.{occurrences, IsTallied}
use Rattle.hashbag_core.specs.Retain.{IsRetained}
use Rattle.hashbag_core.proofs.OccurrenceLemmas.{occurrences_rearranged, bag_from_tally}
use Rattle.hashbag_core.proofs.WalkLemmas.{length_occurrences, set_walk_of_bag}

module _ {F T : Type 0} {eq : T → T → Bool} (laws : IsEquivalence eq) (g : Mut F (Bor T × (ℕ × Unit {0})) ℕ) (f : F) (es fs : List (T × ℕ)) (len : ℕ) {most : ℕ} (tally : IsTallied eq es len most) where
  pub total_fits : total es < 2 ^ 64
  total_fits =
      let sum = length_occurrences es in
      let len_sum = tally.sum in
      let fits = tally.fits in
      let limit = tally.limit in
      omega arith

  module _ (counted : IsCounted eq fs) (retains : Retains g f es fs) where
    -- no more is left than was there
    pub fewer_retained : length (occurrences fs) ≤ length (occurrences es)
    fewer_retained =
        let sum = length_occurrences fs in
        let before = length_occurrences es in
        let walked = sum_by-IsPermutation (λ e. e.1) es retains.walk retains.order in
        let fewer = total_kept retains.walk retains.returned in
        let kept_sum = sum_by-IsPermutation (λ e. e.1) (retained_entries retains.walk retains.returned) fs retains.retained in
        omega arith

    pub tally_retained : (left : ℕ) → left ≡ total fs → IsTallied eq fs left most
    tally_retained left is =
        let sum = length_occurrences fs in
        let len_sum = tally.sum in
        let fits = tally.fits in
        let fewer = fewer_retained in
        record { sum = is ∙ sym sum; fits = omega arith; limit = tally.limit; counted = counted }

    pub is_retained : {S : Type 0} (hasher after : S) (tables tables_after : Tables T) (left : ℕ) → left ≡ total fs → after ≡ hasher → IsRetained eq g f (record { items = occurrences es; hasher = hasher; tables = tables; most = most }) (record { items = occurrences fs; hasher = after; tables = tables_after; most = most })
    is_retained hasher after tables tables_after left is same = record {
      walk = retains.walk;
      set_walk = set_walk_of_bag laws hasher tables es retains.walk len tally retains.order;
      returned = retains.returned;
      last = retains.last;
      calls = retains.calls;
      left = record {
        means = occurrences_rearranged (retained_entries retains.walk retains.returned) fs retains.retained;
        hasher = same;
        limit = refl;
        bag = bag_from_tally laws fs left (tally_retained left is);
      };
    }

-- what a closure returns that decides by the value alone, as long as J holds of it
module _ {F T : Type 0} (g : Mut F (Bor T × (ℕ × Unit {0})) ℕ) (J : F → Type 0) (many : T → ℕ)
    (says : (p q : F) (x : Bor T) (n a : ℕ) → J p → Called g p (x, (n, tt)) a q → (a ≡ many x.now) × J q) where
  -- what a closure returned along a walk, if it returns `many` of the value alone
  pub answers_are : (p : F) (walk : List (T × ℕ)) (returned : List ℕ) (last : F) → J p → ReturnsInTurn g p walk returned last → returned ≡ map (λ e. many e.0) walk
  answers_are p [] [] last j asked = refl
  answers_are p [] (a ∷ returned) last j asked = absurd asked
  answers_are p (e ∷ walk) [] last j asked = absurd asked
  answers_are p (e ∷ walk) (a ∷ returned) last j asked =
      let one = says p asked.0 asked.1.value e.1 a j asked.1.called in
      let later = answers_are asked.0 walk returned last one.1 asked.2 in
      λ i. (one.0 ∙ ap many asked.1.shows) i ∷ later i
