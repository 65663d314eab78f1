-- What is shown of a bag is shown of the texts that were counted in it.
use Rattle.std.proofs.Common.{◌≡◌, ◌<◌, ℕ, ◌+◌, false, cond, List, [], ◌∷◌, map, sum_by, take, String, string_bytes, string_eq, string_cmp, bytes_eq, Global, Less, refl, sym, ◌∙◌, ap}
use Rattle.std.specs.List.{AllByRecursion, IsDistinct}
use Rattle.std.specs.List.Sorted.{IsStrictlySortedBy}
use Rattle.std.specs.Map.{keys_of}
use Rattle.std.specs.String.{string_eq_equiv}
use Rattle.std.proofs.lemmas.List.{take-map}
use Rattle.std.proofs.lemmas.List.Elements.{All-from_recursion, All-map}
use Rattle.std.proofs.lemmas.List.Sorted.{IsPermutation-refl}
use Rattle.std.proofs.lemmas.List.Sums.{sum_by-cons}
use Rattle.hashbag_core.specs.Bag.{Bag, occurrences}
use Rattle.hashbag_core.specs.Walks.{IsSetWalkOf}
use Rattle.hashbag_core.proofs.JsonTripLemmas.{walked_counts}
use Rattle.hashbag_core.proofs.OccurrenceLemmas.{count_rearranged}
use Rattle.hashbag_core.proofs.JsonWriteLemmas.{once_in_walk}
use Rattle.hashbag_ops.proofs.Sums.{count_written}
use Rattle.hashbag_ops.specs.Order.{rank}
use Rattle.hashbag_words_lib.specs.Choice.{KeepsShown, AreChosen}
use Rattle.hashbag_words_lib.specs.Shown.{HasShown, AreShown, IsShownAs}
use Rattle.hashbag_words_lib.specs.Sorted.{row_of, of_row, times_in, text_cmp, Rises}
use Rattle.hashbag_words_lib.specs.declared.choice.Choice.{Choice}
use Rattle.hashbag_words_lib.specs.declared.choice.Order.{Order}
use Rattle.hashbag_words_lib.specs.declared.choice.Order.TheVariants.{Ascending, MostCommon}
use Rattle.hashbag_words_lib.proofs.TextLemmas.{same_by}

sum_of_rows : (v : String Global) (pairs : List (String Global × ℕ)) → times_in (string_bytes v) (map row_of pairs) ≡ sum_by (λ p. cond (string_eq v p.0) p.1 0) pairs
sum_of_rows v [] = refl
sum_of_rows v (p ∷ pairs) =
    sum_by-cons (of_row (string_bytes v)) (row_of p) (map row_of pairs)
    ∙ ap (λ (n : ℕ). cond (string_eq v p.0) p.1 0 + n) (sum_of_rows v pairs)
    ∙ sym (sum_by-cons (λ (q : String Global × ℕ). cond (string_eq v q.0) q.1 0) p pairs)

behind : (key : String Global) (pairs : List (String Global × ℕ)) → AllByRecursion (λ k. string_cmp key k ≡ Less) (keys_of pairs) → AllByRecursion (λ k. text_cmp (string_bytes key) k ≡ Less) (keys_of (map row_of pairs))
behind key [] all = tt
behind key (p ∷ pairs) all = (all.0, behind key pairs all.1)

rows_rise : (pairs : List (String Global × ℕ)) → IsStrictlySortedBy string_cmp (keys_of pairs) → Rises (map row_of pairs)
unfolding IsStrictlySortedBy
rows_rise [] up = tt
rows_rise (p ∷ pairs) up = (behind p.0 pairs up.0, rows_rise pairs up.1)

other_than : (key : String Global) (pairs : List (String Global × ℕ)) → AllByRecursion (λ k. string_eq key k ≡ false) (keys_of pairs) → AllByRecursion (λ k. bytes_eq (string_bytes key) k ≡ false) (keys_of (map row_of pairs))
other_than key [] all = tt
other_than key (p ∷ pairs) all = (all.0, other_than key pairs all.1)

distinct_rows : (pairs : List (String Global × ℕ)) → IsDistinct string_eq (keys_of pairs) → IsDistinct bytes_eq (keys_of (map row_of pairs))
unfolding IsDistinct
distinct_rows [] once = tt
distinct_rows (p ∷ pairs) once = (other_than p.0 pairs once.0, distinct_rows pairs once.1)

before_all : (first : String Global × ℕ) (pairs : List (String Global × ℕ)) → AllByRecursion (λ p. rank string_cmp first p ≡ Less) pairs → AllByRecursion (λ r. rank text_cmp (row_of first) r ≡ Less) (map row_of pairs)
before_all first [] all = tt
before_all first (p ∷ pairs) all = (all.0, before_all first pairs all.1)

ranked_rows : (pairs : List (String Global × ℕ)) → IsStrictlySortedBy (rank string_cmp) pairs → IsStrictlySortedBy (rank text_cmp) (map row_of pairs)
unfolding IsStrictlySortedBy
ranked_rows [] up = tt
ranked_rows (p ∷ pairs) up = (before_all p pairs up.0, ranked_rows pairs up.1)

take_rows : (k : ℕ) (pairs : List (String Global × ℕ)) → map row_of (take k pairs) ≡ take k (map row_of pairs)
take_rows k pairs = sym (take-map row_of k pairs)

module _ {S : Type 0} (choice : Choice) (bag : Bag (String Global) S) (texts : List (List ℕ)) (kept : KeepsShown choice texts bag) where
  has_shown : (pairs : List (String Global × ℕ)) → IsSetWalkOf string_eq bag pairs → HasShown choice texts (map row_of pairs)
  has_shown pairs walk = record {
    once = distinct_rows pairs (once_in_walk string_eq_equiv bag pairs walk);
    counts = λ text.
        same_by bag.items pairs (λ v. sum_of_rows v pairs ∙ sym (count_written string_eq_equiv v pairs) ∙ count_rearranged string_eq_equiv v (occurrences pairs) bag.items walk.means) text
        ∙ kept text;
    positive = All-map (λ (r : List ℕ × ℕ). 0 < r.1) row_of pairs
        (All-from_recursion (λ (p : String Global × ℕ). 0 < p.1) pairs (walked_counts string_eq_equiv bag.items pairs (walk.walk bag.items (IsPermutation-refl bag.items))));
  }

  are_shown : (order : Order) (pairs : List (String Global × ℕ)) → AreChosen order bag pairs → AreShown order choice texts (map row_of pairs)
  are_shown Ascending pairs shown = (has_shown pairs shown.0, rows_rise pairs shown.1)
  are_shown (MostCommon k) pairs shown =
      (map row_of shown.0, has_shown shown.0 shown.1, ranked_rows shown.0 shown.2, ap (map row_of) shown.3 ∙ take_rows k shown.0)

  pub is_shown_as : (written : List (List ℕ × ℕ) → List ℕ) (pairs : List (String Global × ℕ)) (bytes : List ℕ) → AreChosen choice.order bag pairs → bytes ≡ written (map row_of pairs) → IsShownAs choice written texts bytes
  is_shown_as written pairs bytes shown is = record {
    rows = map row_of pairs;
    shown = are_shown choice.order pairs shown;
    is = is;
  }
