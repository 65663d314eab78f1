-- Bags made of lists with quantities, and lists made of bags.
use Rattle.std.proofs.Common.{◌≡◌, ℕ, ◌+◌, ◌<◌, ◌≤◌, Bool, true, List, [], ◌∷◌, ◌++◌, length, get_or, take, replicate, cond, sum_by, map, Option, Some, Result, Ok, Err, IfErr, Ordering, nat_cmp, is_eq, refl, sym, ◌∙◌, ap, arith}
use Rattle.std.specs.Cmp.{IsEquivalence, IsTotalOrder, then_total, on_total, nat_cmp_total}
use Rattle.std.specs.Ordering.{ordering_then}
use Rattle.std.specs.List.{Contains}
use Rattle.std.specs.List.Sorted.{IsPermutation, IsSorted}
use Rattle.std.proofs.lemmas.Iterator.{YieldsList}
use Rattle.std.proofs.lemmas.Iterator.Consumers.{YieldsList-so_far, YieldsList-turn}
use Rattle.std.proofs.lemmas.List.{map-id, take_more}
use Rattle.std.proofs.lemmas.List.Elements.{All-contains}
use Rattle.std.proofs.lemmas.List.Sums.{sum_by-cons, sum_by_push, sum_by-take-le}
use Rattle.std.proofs.lemmas.List.Sorted.{ranks_by, IsPermutation-refl, sum_by-IsPermutation}
use Rattle.hashbag_core.specs.declared.bag.BagError.{BagError}
use Rattle.hashbag_core.specs.declared.bag.BagError.TheVariants.{Memory, TooMany, BelowTotal}
use Rattle.hashbag_core.specs.Bag.{Bag, occurrences}
use Rattle.hashbag_core.specs.EqualityLaws.{count_append}
use Rattle.hashbag_core.specs.Extends.{AsItIs, MayFailWith}
use Rattle.hashbag_core.specs.Inserts.{InsertsAll, InsertsUpTo, MayFailPair, empty_bag}
use Rattle.hashbag_core.specs.Occurrences.{greatest_total, count}
use Rattle.hashbag_core.specs.Walks.{IsSetWalk, IsSetWalkOf}
use Rattle.hashbag_core.proofs.ContainsLemmas.{All-from_Contains, Contains-map, Contains-same}
use Rattle.hashbag_core.proofs.CallerLemmas.{count_extended, items_that_came, pairs_as_they_are}
use Rattle.hashbag_core.proofs.ExcessLemmas.{an_instance}
use Rattle.hashbag_core.proofs.InsertLemmas.{all_added, length_in_turn, longer_by_numbers, some_added}
use Rattle.hashbag_core.proofs.JoinLemmas.{in_walk, count_of_item}
use Rattle.hashbag_core.proofs.JsonWriteLemmas.{set_walk_reordered, once_in_walk}
use Rattle.hashbag_core.proofs.Laws.{count_added}
use Rattle.hashbag_core.proofs.OccurrenceLemmas.{count_rearranged}
use Rattle.hashbag_csv.specs.Quantities.{number_sum, quantity, IsBalance}
use Rattle.hashbag_csv.proofs.SortedLemmas.{keys_rise}

module _ {T : Type 0} {eq : T → T → Bool} (laws : IsEquivalence eq) where
  -- a value that X has stands in each set walk of X
  stands : (X : List T) (W : List (T × ℕ)) → IsSetWalk eq X W → (v : T) → 0 < count eq v X → (e : T × ℕ) × Contains W e × (eq v e.0 ≡ true)
  stands X W h v some =
      let x = an_instance laws v X some in
      ((x.0, count eq x.0 X), Contains-same _ W (x.0, count eq x.0 X) (sym h.counts) (Contains-map (λ (u : T). (u, count eq u X)) x.0 h.values (All-contains (λ u. Contains h.values u) X x.0 h.each.all x.1)), x.2)

  -- a set walk that is sorted by its values is a balance
  pub balance_from_walk : {S : Type 0} {cmp : T → T → Ordering} → IsTotalOrder cmp → ((x y : T) → eq x y ≡ is_eq (cmp x y)) → (bag : Bag T S) (V W : List (T × ℕ)) → IsPermutation V W
      → IsSorted (λ x y. ordering_then (cmp x.0 y.0) (nat_cmp x.1 y.1)) W → IsSetWalkOf eq bag V → IsBalance eq cmp (λ v. count eq v bag.items) W
  balance_from_walk {cmp = cmp} total ties bag V W p up walk =
      let is = set_walk_reordered laws bag V W p walk in
      let of_items = is.walk bag.items (IsPermutation-refl bag.items) in
      record {
        rising = keys_rise laws total ties (λ (e : T × ℕ). e.0) (λ x y. nat_cmp x.1 y.1) (ranks_by (then_total (on_total (λ (e : T × ℕ). e.0) total) (on_total (λ (e : T × ℕ). e.1) nat_cmp_total)) (λ (e : T × ℕ). e)) W up (once_in_walk laws bag W is);
        counts = All-from_Contains (λ e. (e.1 ≡ count eq e.0 bag.items) × (0 < e.1)) W (λ e there.
            let at = in_walk laws bag.items W of_items e there in
            let some = count_of_item laws e.0 bag.items at.0 in
            let is_count = at.1 in
            (at.1, omega arith));
        each = λ v some. stands bag.items W of_items v some;
      }

  -- a list names a value as often as it occurs once the list is written out
  pub count_written : (v : T) (W : List (T × ℕ)) → count eq v (occurrences W) ≡ quantity eq v W
  count_written v [] = refl
  count_written v (e ∷ W) =
      let parts = count_append laws v (replicate e.1 e.0) (occurrences W) in
      let copies : count eq v (replicate e.1 e.0) ≡ 0 + cond (eq v e.0) e.1 0 = count_added laws v e.0 e.1 [] in
      let later = count_written v W in
      let sum = sum_by-cons (λ (p : T × ℕ). cond (eq v p.0) p.1 0) e W in
      omega arith

  -- so the entries of a set walk, in any order, name each value as often as the bag has it
  pub quantities_from_walk : {S : Type 0} (bag : Bag T S) (V W : List (T × ℕ)) → IsPermutation V W → IsSetWalkOf eq bag V → (v : T) → quantity eq v W ≡ count eq v bag.items
  quantities_from_walk bag V W p walk v =
      sum_by-IsPermutation (λ (e : T × ℕ). cond (eq v e.0) e.1 0) V W p ∙ sym (count_written v V) ∙ count_rearranged laws v (occurrences V) bag.items walk.means

  -- ---- a bag that is made of a list whose numbers fit

  within : {S : Type 0} (bag : Bag T S) (v : T) (n : ℕ) (e : BagError) → MayFailWith eq bag.most bag.items v n e → length bag.items + n ≤ bag.most → e ≡ Memory
  within bag v n TooMany over fits = absurd (omega (arith, over, fits))
  within bag v n Memory asks fits = refl
  within bag v n BelowTotal never fits = absurd never

  abbrev number : T × ℕ → ℕ
  number e = e.1

  -- the numbers before an item and its own are no more than all of them
  so_far_and_one : (all items : List (T × ℕ)) (p : T × ℕ) → map (λ e. e) items ≡ take (length items) all → length items < length all → p ≡ get_or all (length items) p → sum_by number items + p.1 ≤ sum_by number all
  so_far_and_one all items p so_far below is =
      let front : sum_by number (items ++ p ∷ []) ≡ sum_by number (take (length items + 1) all) =
      ap (sum_by number) ((λ i. (sym (map-id items) ∙ so_far) i ++ is i ∷ []) ∙ sym (take_more all (length items) p below)) in
      let sum = sum_by_push number items p in
      let few = sum_by-take-le number all (length items + 1) in
      omega (arith, front, sum, few)

  -- a bag that was made of a list is as long as its numbers say, so they fit
  module _ {S I : Type 0} {steps : I → Option (T × ℕ) → I → Type 0} {it : I} {all : List (T × ℕ)} (yields : YieldsList steps (λ e. e) it all) (hasher : S) (bag : Bag T S) (h : InsertsAll eq steps AsItIs it (empty_bag hasher) bag) where
    pub length_made : length bag.items ≡ number_sum all
    length_made =
        let long : length bag.items ≡ 0 + sum_by number h.items = longer_by_numbers h number (λ x p is. ap number is) in
        let came : sum_by number h.items ≡ number_sum all = ap (sum_by number) (sym (map-id h.items) ∙ items_that_came h.items h.yielded yields) in
        omega (arith, long, came)

    pub counts_made : (v : T) → count eq v bag.items ≡ quantity eq v all
    counts_made v =
        let came = pairs_as_they_are h.items h.pairs h.as_pairs ∙ sym (map-id h.items) ∙ items_that_came h.items h.yielded yields in
        let whole = count_extended laws v [] h.pairs bag (all_added laws h).means in
        let each = ap (λ (l : List (T × ℕ)). quantity eq v l) came in
        omega (arith, whole, each)

    pub numbers_fit : number_sum all ≤ greatest_total
    numbers_fit =
        let left = all_added laws h in
        let fits : length bag.items ≤ bag.most = left.bag.fits in
        let limit : bag.most ≡ greatest_total = left.limit in
        let long = length_made in
        omega (arith, fits, limit, long)

  module _ {S I : Type 0} {steps : I → Option (T × ℕ) → I → Type 0} {it : I} {all : List (T × ℕ)} (yields : YieldsList steps (λ e. e) it all) (fits : sum_by number all ≤ greatest_total) where
    declined : (hasher : S) (bag : Bag T S) (e : BagError) → InsertsUpTo eq steps AsItIs (MayFailPair eq) it (empty_bag hasher) bag e → e ≡ Memory
    declined hasher bag e h =
        let long : length bag.items ≡ 0 + sum_by number h.pairs = length_in_turn eq h.pairs (empty_bag hasher) bag h.turn in
        let same = ap (sum_by number) (pairs_as_they_are h.items h.pairs h.as_pairs) in
        let turn = YieldsList-turn yields h.items h.yielded.0 h.yielded.1 (Some h.failed) h.rest h.failed refl h.yielded.2 in
        let few = so_far_and_one all h.items h.failed (YieldsList-so_far yields h.items h.yielded.0 h.yielded.1) turn.0 turn.1 in
        let limit = (some_added laws h).limit in
        within bag h.failed.0 h.failed.1 e h.why.why (omega (arith, long, same, few, fits, limit))

    -- it fails only for memory
    pub only_memory : (r : Result (Bag T S) BagError) → IfErr r (λ e. (bag : Bag T S) × InsertsUpTo eq steps AsItIs (MayFailPair eq) it (empty_bag bag.hasher) bag e) → IfErr r (λ e. e ≡ Memory)
    only_memory (Ok bag) h = tt
    only_memory (Err e) h = declined h.0.hasher h.0 e h.1
