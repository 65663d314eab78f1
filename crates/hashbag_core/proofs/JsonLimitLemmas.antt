-- Trees with a limit: what they open as, and which bag's tree they are.
use Rattle.std.proofs.Common.{◌≡◌, ℕ, ◌≤◌, ◌^◌, eqb, ltb, min, Bool, true, false, cond, List, [], map, All, Ordering, is_eq, Option, Some, None, option_and_then, Result, Ok, Err, refl, sym, ◌∙◌, ap, arith}
use borrow.Author.Tests.{eqb-true, ltb-true}
use Rattle.std.specs.Cmp.{IsEquivalence, IsTotalOrder}
use Rattle.serde_json.specs.Data.{Data, null, boolean, number, string, array, object, unsigned, Items, Members, member, no_members}
use Rattle.serde_json.specs.Find.{as_array, as_object, get, get_member}
use Rattle.serde_json.specs.View.{view, items_of, items_view}
use Rattle.serde_json.specs.Written.{has_float}
use Rattle.serde_json.specs.declared.value.Value.{Value}
use Rattle.hashbag_core.specs.declared.json.JsonError.TheVariants.{Memory}
use Rattle.hashbag_core.specs.Extends.{add_all}
use Rattle.hashbag_core.specs.JsonFaults.{list_of, array_of, limit_name, pairs_name, has_no_other, pairs_in, limit_in, opened_object, opened, limit_opened, limit_of, first_fault, opened_fault, fault}
use Rattle.hashbag_core.specs.JsonItemLaws.{u64_reads}
use Rattle.hashbag_core.specs.JsonItems.{u64_of, u64_within, u64_item}
use Rattle.hashbag_core.specs.JsonTrees.{IsReading, IsTree, IsBagTree, TellsApart, written, pair_tree}
use Rattle.hashbag_core.specs.Occurrences.{greatest_total, IsOneInstanceEach, SameCounts}
use Rattle.hashbag_core.proofs.JsonReadLemmas.{list_of-items_of}
use Rattle.hashbag_core.proofs.JsonSameLemmas.{equal_by_trees, tree_of_same_counts}
use Rattle.hashbag_core.proofs.JsonTripLemmas.{same_some, counts_read_back, trees_of}

pub same_ok : {X E : Type 0} (x y : X) → (let r : Result X E = Ok x in r) ≡ Ok y → x ≡ y
same_ok x y e = cc

-- ---- what a tree opens as

pub array_opened : (d : Data) (vs : List Value) → Some (items_view vs) ≡ as_array d → opened d ≡ Ok (greatest_total, map view vs)
array_opened null vs e = absurd (cc)
array_opened (boolean b) vs e = absurd (cc)
array_opened (number n) vs e = absurd (cc)
array_opened (string s) vs e = absurd (cc)
array_opened (array ds) vs e = ap (λ (l : Items). Ok (greatest_total, list_of l)) (sym (same_some _ _ e)) ∙ ap (λ (l : List Data). Ok (greatest_total, l)) (list_of-items_of (map view vs))
array_opened (object ms) vs e = absurd (cc)

pub object_opened : (d : Data) (ms : Members) (b : Bool) (p : Option (List Data)) (l : Option ℕ) → Some ms ≡ as_object d → has_no_other ms ≡ b → option_and_then array_of (get pairs_name d) ≡ p → option_and_then u64_item (get limit_name d) ≡ l
    → opened d ≡ opened_object (cond b p None) l
object_opened null ms b p l o names pairs limit = absurd (cc)
object_opened (boolean c) ms b p l o names pairs limit = absurd (cc)
object_opened (number n) ms b p l o names pairs limit = absurd (cc)
object_opened (string s) ms b p l o names pairs limit = absurd (cc)
object_opened (array ds) ms b p l o names pairs limit = absurd (cc)
object_opened (object ns) ms b p l o names pairs limit =
    let same : ns ≡ ms = sym (same_some ms ns o) in
    let no_other : has_no_other ns ≡ b = ap has_no_other same ∙ names in
    λ i. opened_object (cond (no_other i) (pairs i) None) (limit i)

memory_at : (p : Option (List Data)) (l : Option ℕ) → Err Memory ≡ opened_object p l → ⊥
memory_at None l e = cc
memory_at (Some ds) None e = cc
memory_at (Some ds) (Some n) e = cc

-- memory is no reason not to open one
pub not_memory : (d : Data) → Err Memory ≡ opened d → ⊥
not_memory null e = cc
not_memory (boolean b) e = cc
not_memory (number n) e = cc
not_memory (string s) e = cc
not_memory (array ds) e = cc
not_memory (object ms) e = memory_at (pairs_in ms) (limit_in ms) e

-- ---- a limit is a `usize`

within_at : (n limit : ℕ) (b : Bool) → ltb n (2 ^ 64) ≡ b → cond b (Some n) None ≡ Some limit → limit ≤ greatest_total
within_at n limit true low e =
    let below = ltb-true n (2 ^ 64) low in
    let same = same_some n limit e in
    omega arith
within_at n limit false low e = absurd (cc)

number_fits : (o : Option ℕ) (limit : ℕ) → option_and_then u64_within o ≡ Some limit → limit ≤ greatest_total
number_fits None limit e = absurd (cc)
number_fits (Some n) limit e = within_at n limit (ltb n (2 ^ 64)) refl e

limit_fits : (o : Option Data) (limit : ℕ) → option_and_then u64_item o ≡ Some limit → limit ≤ greatest_total
limit_fits None limit e = absurd (cc)
limit_fits (Some d) limit e = number_fits (u64_of d) limit e

object_fits : (p : Option (List Data)) (o : Option Data) (l : Option ℕ) → option_and_then u64_item o ≡ l → limit_opened (opened_object p l) ≤ greatest_total
object_fits None o l e = omega arith
object_fits (Some ds) o None e = omega arith
object_fits (Some ds) o (Some limit) e = limit_fits o limit e

pub limit_of_fits : (d : Data) → limit_of d ≤ greatest_total
limit_of_fits null = omega arith
limit_of_fits (boolean b) = omega arith
limit_of_fits (number n) = omega arith
limit_of_fits (string s) = omega arith
limit_of_fits (array ds) = omega arith
limit_of_fits (object ms) = object_fits (pairs_in ms) (get_member limit_name ms) (limit_in ms) refl

-- ---- what is written opens as the limit and the pairs

abbrev named : ℕ → Data → Data
named most p = object (member limit_name (number (unsigned most)) (member pairs_name p no_members))

named_opened : (most : ℕ) (ds : List Data) → most ≤ greatest_total → opened (named most (array (items_of ds))) ≡ Ok (most, ds)
named_opened most ds fits =
    let limit = u64_reads most (omega arith) in
    ap (λ (l : Option ℕ). opened_object (Some (list_of (items_of ds))) l) limit ∙ ap (λ (l : List Data). Ok (most, l)) (list_of-items_of ds)

written_opened_at : (most : ℕ) (ds : List Data) (b : Bool) → eqb most greatest_total ≡ b → most ≤ greatest_total → opened (cond b (array (items_of ds)) (named most (array (items_of ds)))) ≡ Ok (most, ds)
written_opened_at most ds true is fits = ap (λ (l : List Data). Ok (greatest_total, l)) (list_of-items_of ds) ∙ ap (λ (n : ℕ). Ok (n, ds)) (sym (eqb-true most greatest_total is))
written_opened_at most ds false is fits = named_opened most ds fits

pub written_opened : (most : ℕ) (p d : Data) (ds : List Data) → most ≤ greatest_total → p ≡ array (items_of ds) → d ≡ written most p → opened d ≡ Ok (most, ds)
written_opened most p d ds fits pairs is = ap opened (is ∙ ap (written most) pairs) ∙ written_opened_at most ds (eqb most greatest_total) refl fits

-- ---- the limit and the pairs of what is written are told by it

named_once : (a b : ℕ) (p q : Data) → named a p ≡ named b q → (a ≡ b) × (p ≡ q)
named_once a b p q e =
    let limits : Some a ≡ Some b = ap (λ (d : Data). option_and_then u64_of (get limit_name d)) e in
    let pairs : Some p ≡ Some q = ap (λ (d : Data). get pairs_name d) e in
    (same_some a b limits, same_some p q pairs)

array_not_named : (xs : Items) (b : ℕ) (p q : Data) → p ≡ array xs → p ≡ named b q → ⊥
array_not_named xs b p q is e = let both : Some xs ≡ None = ap as_array (sym is ∙ e) in cc

written_once_at : (a b : ℕ) (p q : Data) (xs ys : Items) (s t : Bool) → eqb a greatest_total ≡ s → eqb b greatest_total ≡ t → p ≡ array xs → q ≡ array ys → cond s p (named a p) ≡ cond t q (named b q) → (a ≡ b) × (p ≡ q)
written_once_at a b p q xs ys true true s t is_p is_q e = (eqb-true a greatest_total s ∙ sym (eqb-true b greatest_total t), e)
written_once_at a b p q xs ys true false s t is_p is_q e = absurd (array_not_named xs b p q is_p e)
written_once_at a b p q xs ys false true s t is_p is_q e = absurd (array_not_named ys a q p is_q (sym e))
written_once_at a b p q xs ys false false s t is_p is_q e = named_once a b p q e

written_once : (a b : ℕ) (p q : Data) (xs ys : Items) → p ≡ array xs → q ≡ array ys → written a p ≡ written b q → (a ≡ b) × (p ≡ q)
written_once a b p q xs ys is_p is_q e = written_once_at a b p q xs ys (eqb a greatest_total) (eqb b greatest_total) refl refl is_p is_q e

-- ---- no float

written_no_float_at : (most : ℕ) (p : Data) (b : Bool) → has_float p ≡ false → has_float (cond b p (named most p)) ≡ false
written_no_float_at most p true none = none
written_no_float_at most p false none = rw none

pub written_no_float : (most : ℕ) (p d : Data) → has_float p ≡ false → d ≡ written most p → has_float d ≡ false
written_no_float most p d none is = ap has_float is ∙ written_no_float_at most p (eqb most greatest_total) none

module _ {T : Type 0} {eq : T → T → Bool} (laws : IsEquivalence eq) {cmp : T → T → Ordering} (total : IsTotalOrder cmp) (ties : (x y : T) → eq x y ≡ is_eq (cmp x y))
    (is_item : T → Type 0) (tree_of : T → Data) (reads : Data → T → Type 0)
    (equal_is_item : (x y : T) → is_item x → eq x y ≡ true → is_item y)
    (equal_trees : (x y : T) → is_item x → is_item y → eq x y ≡ true → tree_of x ≡ tree_of y)
    (tree_is_read : (x : T) → is_item x → (y : T) × is_item y × reads (tree_of x) y)
    (reads_back : (x y : T) → is_item x → reads (tree_of x) y → eq x y ≡ true) where
  -- the tree of one bag is that of each bag with its counts and its limit
  pub same_bag_tree : (X Y : List T) (most : ℕ) (d : Data) → IsBagTree eq cmp tree_of X most d → All is_item X → IsOneInstanceEach eq Y → SameCounts eq Y X → IsBagTree eq cmp tree_of Y most d
  same_bag_tree X Y most d s items one same = record {
    pairs = s.pairs;
    array = tree_of_same_counts laws total ties is_item tree_of reads equal_is_item equal_trees tree_is_read reads_back X Y s.pairs s.array items one same;
    is = s.is;
  }

  -- and of no other bag
  pub tells_apart : (X : List T) (most : ℕ) (d : Data) → IsBagTree eq cmp tree_of X most d → All is_item X → TellsApart eq cmp tree_of is_item X most d
  tells_apart X most d s items = λ Y n e others t.
      let by_trees = equal_by_trees laws total ties is_item tree_of reads equal_is_item equal_trees tree_is_read reads_back X Y s.pairs t.pairs s.array t.array items others in (
        λ both. let pairs = by_trees.0 both.0 in s.is ∙ (λ i. written (both.1 i) (pairs i)) ∙ sym t.is,
        λ same. let once = written_once most n s.pairs t.pairs _ _ s.array.is t.array.is (sym s.is ∙ same ∙ t.is) in (by_trees.1 once.1, once.0),
      )

-- ---- what is written is read back

module _ {T : Type 0} {eq : T → T → Bool} (laws : IsEquivalence eq) (cmp : T → T → Ordering) (is_item : T → Type 0) (tree_of : T → Data) (has_item : Data → Bool) (reads : Data → T → Type 0)
    (tree_is_read : (x : T) → is_item x → (y : T) × is_item y × reads (tree_of x) y)
    (read_has_item : (d : Data) (x : T) → reads d x → has_item d ≡ true)
    (reads_back : (x y : T) → is_item x → reads (tree_of x) y → eq x y ≡ true) where
  pub bag_tree : (X : List T) (most limit : ℕ) (p d : Data) → limit ≡ most → IsTree eq cmp tree_of X p → d ≡ written limit p → IsBagTree eq cmp tree_of X most d
  bag_tree X most limit p d same tree is = record { pairs = p; array = tree; is = is ∙ ap (λ (n : ℕ). written n p) same }

  abbrev trees : (X : List T) (most : ℕ) (d : Data) → IsBagTree eq cmp tree_of X most d → List Data
  trees X most d tree = map (pair_tree tree_of) tree.array.pairs

  tree_opened : (X : List T) (most : ℕ) (d : Data) → most ≤ greatest_total → (tree : IsBagTree eq cmp tree_of X most d) → opened d ≡ Ok (most, trees X most d tree)
  tree_opened X most d fits tree = written_opened most tree.pairs d (trees X most d tree) fits tree.array.is tree.is

  pub limit_read_back : (X : List T) (most : ℕ) (d : Data) → most ≤ greatest_total → IsBagTree eq cmp tree_of X most d → limit_of d ≡ most
  limit_read_back X most d fits tree = ap limit_opened (tree_opened X most d fits tree)

  pub pairs_read_back : (X : List T) (most : ℕ) (d : Data) (pairs : List (T × ℕ)) → most ≤ greatest_total → IsBagTree eq cmp tree_of X most d → All is_item X → IsReading reads d pairs → SameCounts eq (add_all eq [] pairs) X
  pairs_read_back X most d pairs fits tree items reading =
      let same = same_ok (reading.limit, reading.trees) (most, trees X most d tree) (sym reading.inside ∙ tree_opened X most d fits tree) in
      counts_read_back laws cmp is_item tree_of has_item reads tree_is_read read_has_item reads_back X tree.pairs reading.trees pairs tree.array items (ap (λ (p : ℕ × List Data). p.1) same) reading.each

  pub none_at_fault : (X : List T) (limit end : ℕ) (p d : Data) → limit ≤ greatest_total → IsTree eq cmp tree_of X p → d ≡ written limit p → ((ds : List Data) → array_of p ≡ Some ds → first_fault (min end limit) has_item 0 0 ds ≡ None) → fault end has_item d ≡ None
  none_at_fault X limit end p d fits tree is good =
      let trees = map (pair_tree tree_of) tree.pairs in
      ap (opened_fault end has_item) (written_opened limit p d trees fits tree.is is) ∙ good trees (trees_of tree_of p tree.pairs tree.is)
