use Rattle.std.proofs.Common.{◌≡◌, map, String, Global, is_eq, string_bytes, sym}
use Rattle.std.specs.String.{string_cmp, string_cmp_total, string_eq, string_eq_equiv}
use Rattle.std.proofs.lemmas.List.Sorted.{IsPermutation-map}
use Rattle.std.proofs.lemmas.Map.Text.{is_eq-slice_cmp}
use Rattle.hashbag_core.proofs.JsonWriteLemmas.{set_walk_reordered, rising_from_sorted, once_in_walk}
use Rattle.hashbag_core.specs.Walks.{seen}
use Rattle.hashbag_words_lib.proofs.choice.rising.Goals as goal

ties : (x y : String Global) → string_eq x y ≡ is_eq (string_cmp x y)
ties x y = sym (is_eq-slice_cmp (string_bytes x) (string_bytes y))

-- a set walk stays one in another order
pub returns-clause-walk : goal.returns-clause-walk
returns-clause-walk g c =
    let pairs = c.in_ok-pairs.pairs.items in
    let sorted = c.in_ok-sorted.sorted.items in
    set_walk_reordered string_eq_equiv c.args.bag.now (map seen pairs) (map seen sorted) (IsPermutation-map seen pairs sorted c.in_ok-sorted.ensures.permutation) c.in_ok-pairs.ensures.walk

pub returns-clause-rising : goal.returns-clause-rising
returns-clause-rising g c =
    rising_from_sorted string_eq_equiv string_cmp_total ties c.in_ok-sorted.sorted.items c.in_ok-sorted.ensures.sorted (once_in_walk string_eq_equiv c.args.bag.now _ (returns-clause-walk g c))
