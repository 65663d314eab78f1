-- What is written reads back.
use Rattle.std.proofs.Common.{◌≡◌, ℕ, ◌<◌, ◌≤◌, ◌+◌, ◌||◌, Bool, true, false, cond, ltb, List, [], ◌∷◌, length, map, filter, sum_by, Ordering, All, Some, None, inl, inr, refl, sym, ◌∙◌, ap, subst, zero-add, arith}
use Rattle.std.specs.Cmp.{IsEquivalence}
use Rattle.std.specs.List.{AllByRecursion, AllZip, Contains, IsDistinct, list_any}
use Rattle.std.specs.Map.{keys_of}
use Rattle.std.proofs.lemmas.Bool.{le-ltb, false≢true}
use Rattle.std.proofs.lemmas.List.Elements.{All-contains, All-from_recursion, recursion_from_All}
use Rattle.std.proofs.lemmas.List.Sums.{length-filter, sum_by-cons}
use Rattle.std.proofs.lemmas.Map.Keys.{IsDistinct-head, IsDistinct-tail}
use Rattle.serde_json.specs.Data.{Data, number, unsigned, array}
use Rattle.serde_json.specs.View.{items_of}
use Rattle.serde_json.specs.Written.{has_float, items_have_float}
use Rattle.hashbag_core.specs.declared.json.JsonError.TheVariants.{BadItem, TooMany}
use Rattle.hashbag_core.specs.EqualityLaws.{count_congr}
use Rattle.hashbag_core.specs.Extends.{add_all}
use Rattle.hashbag_core.specs.JsonFaults.{array_of, pair_of, pair_fault, first_fault}
use Rattle.hashbag_core.specs.JsonItems.{u64_of}
use Rattle.hashbag_core.specs.JsonTrees.{IsPair, IsTree, pair_tree}
use Rattle.hashbag_core.specs.Occurrences.{count, add, SameCounts}
use Rattle.hashbag_core.specs.Walks.{IsSetWalk}
use Rattle.hashbag_core.proofs.ContainsLemmas.{All-from_Contains, Contains-cases, not_in_nil}
use Rattle.hashbag_core.proofs.JoinLemmas.{count_of_item, in_walk, keys_of_walk}
use Rattle.hashbag_core.proofs.JsonReadLemmas.{list_of-items_of}
use Rattle.hashbag_core.proofs.Laws.{count_added}

pub same_some : {X : Type 0} (x y : X) → Some x ≡ Some y → x ≡ y
same_some x y e = cc

-- ---- no fault

module _ {T : Type 0} (end : ℕ) (has_item : Data → Bool) (tree_of : T → Data) where
  -- the item and the count of an entry are good
  entry_is_good : (e : T × ℕ) (i total : ℕ) → has_item (tree_of e.0) ≡ true → total + e.1 ≤ end → pair_fault end has_item i total (pair_of (pair_tree tree_of e)) ≡ None
  entry_is_good e i total item fits =
      let low : ltb end (total + e.1) ≡ false = le-ltb _ _ (omega arith) in
      ap (λ (b : Bool). cond b (cond (ltb end (total + e.1)) (Some (TooMany i)) None) (Some (BadItem i))) item ∙ ap (λ (b : Bool). cond b (Some (TooMany i)) None) low

  no_first_fault : (es : List (T × ℕ)) (i total : ℕ) → AllByRecursion (λ x. has_item (tree_of x) ≡ true) (keys_of es) → total + sum_by (λ e. e.1) es ≤ end → first_fault end has_item i total (map (pair_tree tree_of) es) ≡ None
  unfolding first_fault
  no_first_fault [] i total items fits = refl
  no_first_fault (e ∷ es) i total items fits =
      let sum = sum_by-cons (λ (e : T × ℕ). e.1) e es in
      rw (entry_is_good e i total items.0 (omega arith)) (no_first_fault es (i + 1) (total + e.1) items.1 (omega arith))

-- the trees of a tree
pub trees_of : {T : Type 0} (tree_of : T → Data) (d : Data) (es : List (T × ℕ)) → d ≡ array (items_of (map (pair_tree tree_of) es)) → array_of d ≡ Some (map (pair_tree tree_of) es)
trees_of tree_of d es is = ap array_of is ∙ ap (λ l. Some l) (list_of-items_of (map (pair_tree tree_of) es))

-- ---- counts

either_false : (a b : Bool) → (a || b) ≡ false → (a ≡ false) × (b ≡ false)
either_false true b e = absurd (false≢true (sym e))
either_false false b e = (refl, e)

module _ {T : Type 0} (p : T → Bool) where
  none_passes : (xs : List T) → AllByRecursion (λ x. p x ≡ false) xs → list_any p xs ≡ false
  none_passes [] h = refl
  none_passes (x ∷ xs) h = ap (λ (b : Bool). b || list_any p xs) h.0 ∙ none_passes xs h.1

  fails : (xs : List T) (x : T) → list_any p xs ≡ false → Contains xs x → p x ≡ false
  fails [] x none there = absurd (not_in_nil x there)
  fails (z ∷ xs) x none there = elim (Contains-cases z x xs there) as (λ _. p x ≡ false) [
    | inl e ↦ ap p (sym e) ∙ (either_false (p z) (list_any p xs) none).0
    | inr later ↦ fails xs x (either_false (p z) (list_any p xs) none).1 later
  ]

  none_filtered : (xs : List T) → AllByRecursion (λ x. p x ≡ false) xs → length (filter p xs) ≡ 0
  none_filtered [] h = refl
  none_filtered (x ∷ xs) h = ap (λ (b : Bool). length (cond b (x ∷ filter p xs) (filter p xs))) h.0 ∙ none_filtered xs h.1

module _ {T : Type 0} {eq : T → T → Bool} (laws : IsEquivalence eq) where
  -- how often v stands in pairs
  abbrev pub tally : T → List (T × ℕ) → ℕ
  tally v [] = 0
  tally v (p ∷ ps) = cond (eq v p.0) p.1 0 + tally v ps

  pub eq_along : (v w x : T) → eq w x ≡ true → eq v x ≡ eq v w
  eq_along v w x e = laws.symm v x ∙ sym (laws.congr w x v e) ∙ laws.symm w v

  pub count_added_pairs : (v : T) (X : List T) (ps : List (T × ℕ)) → count eq v (add_all eq X ps) ≡ count eq v X + tally v ps
  count_added_pairs v X [] = omega arith
  count_added_pairs v X (p ∷ ps) =
      let later = count_added_pairs v (add eq p.0 p.1 X) ps in
      let here = count_added laws v p.0 p.1 X in
      omega arith

  pub same_tally : (v : T) (es ps : List (T × ℕ)) → AllZip (λ e p. (eq e.0 p.0 ≡ true) × (p.1 ≡ e.1)) es ps → tally v es ≡ tally v ps
  same_tally v [] [] h = refl
  same_tally v [] (p ∷ ps) h = absurd h
  same_tally v (e ∷ es) [] h = absurd h
  same_tally v (e ∷ es) (p ∷ ps) h =
      let here : cond (eq v e.0) e.1 0 ≡ cond (eq v p.0) p.1 0 = ap (λ (n : ℕ). cond (eq v e.0) n 0) (sym h.0.1) ∙ ap (λ (b : Bool). cond b p.1 0) (sym (eq_along v e.0 p.0 h.0.0)) in
      let later = same_tally v es ps h.1 in
      ap (λ (n : ℕ). n + tally v es) here ∙ ap (λ (n : ℕ). cond (eq v p.0) p.1 0 + n) later

  -- ---- the counts of a set walk

  abbrev with_counts : List T → List T → List (T × ℕ)
  with_counts X vs = map (λ y. (y, count eq y X)) vs

  tally_step : (v y : T) (vs X : List T) (b : Bool) → eq v y ≡ b → AllByRecursion (λ z. eq y z ≡ false) vs → tally v (with_counts X vs) ≡ cond (list_any (eq v) vs) (count eq v X) 0
      → cond b (count eq y X) 0 + tally v (with_counts X vs) ≡ cond (b || list_any (eq v) vs) (count eq v X) 0
  tally_step v y vs X true same apart later =
      let none : list_any (eq v) vs ≡ false = ap (λ (f : T → Bool). list_any f vs) (λ i z. laws.congr v y z same i) ∙ none_passes (eq y) vs apart in
      let rest : tally v (with_counts X vs) ≡ 0 = later ∙ ap (λ (b : Bool). cond b (count eq v X) 0) none in
      let counts = count_congr laws X v y same in
      omega arith
  tally_step v y vs X false other apart later = zero-add (tally v (with_counts X vs)) ∙ later

  tally_values : (v : T) (vs X : List T) → IsDistinct eq vs → tally v (with_counts X vs) ≡ cond (list_any (eq v) vs) (count eq v X) 0
  tally_values v [] X distinct = refl
  tally_values v (y ∷ vs) X distinct = tally_step v y vs X (eq v y) refl (IsDistinct-head eq y vs distinct) (tally_values v vs X (IsDistinct-tail eq y vs distinct))

  count_named : (v : T) (vs X : List T) (b : Bool) → list_any (eq v) vs ≡ b → All (λ x. Contains vs x) X → count eq v X ≡ cond b (count eq v X) 0
  count_named v vs X true some all = refl
  count_named v vs X false none all =
      let apart = All-from_Contains (λ x. eq v x ≡ false) X (λ x there. fails (eq v) vs x none (All-contains (λ x. Contains vs x) X x all there)) in
      sym (length-filter (eq v) X) ∙ none_filtered (eq v) X (recursion_from_All (λ x. eq v x ≡ false) X apart)

  -- a value's count is what stands beside it in a set walk
  pub count_walk : (v : T) (X : List T) (es : List (T × ℕ)) → IsSetWalk eq X es → count eq v X ≡ tally v es
  count_walk v X es walk =
      count_named v walk.values X (list_any (eq v) walk.values) refl walk.each.all
      ∙ sym (tally_values v walk.values X walk.each.once)
      ∙ ap (λ (l : List (T × ℕ)). tally v l) (sym walk.counts)

  -- each count in a set walk is at least 1
  pub walked_counts : (X : List T) (es : List (T × ℕ)) → IsSetWalk eq X es → AllByRecursion (λ e. 0 < e.1) es
  walked_counts X es walk = recursion_from_All (λ e. 0 < e.1) es (All-from_Contains (λ e. 0 < e.1) es (λ e there.
      let at = in_walk laws X es walk e there in
      subst (λ (n : ℕ). 0 < n) (sym at.1) (count_of_item laws e.0 X at.0)))

  -- ---- what holds of the items of X holds of the values of its walk, and the other way round

  module _ (P : T → Type 0) (X : List T) (es : List (T × ℕ)) (walk : IsSetWalk eq X es) where
    pub keys_walked : All P X → AllByRecursion P (keys_of es)
    keys_walked all = subst (λ (l : List T). AllByRecursion P l) (sym (keys_of_walk laws X es walk)) (recursion_from_All P walk.values (All-from_Contains P walk.values (λ y there.
        All-contains P X y all (All-contains (λ y. Contains X y) walk.values y walk.each.only there))))

    pub all_walked : AllByRecursion P (keys_of es) → All P X
    all_walked keys =
        let values = All-from_recursion P walk.values (subst (λ (l : List T). AllByRecursion P l) (keys_of_walk laws X es walk) keys) in
        All-from_Contains P X (λ x there. All-contains P walk.values x values (All-contains (λ x. Contains walk.values x) X x walk.each.all there))

pub all_weaker : {T : Type 0} (P Q : T → Type 0) → ((x : T) → P x → Q x) → (xs : List T) → AllByRecursion P xs → AllByRecursion Q xs
all_weaker P Q f [] h = tt
all_weaker P Q f (x ∷ xs) h = (f x h.0, all_weaker P Q f xs h.1)

-- ---- no float

module _ {T : Type 0} (tree_of : T → Data) where
  no_float_in_pairs : (es : List (T × ℕ)) → AllByRecursion (λ x. has_float (tree_of x) ≡ false) (keys_of es) → items_have_float (items_of (map (pair_tree tree_of) es)) ≡ false
  no_float_in_pairs [] h = refl
  no_float_in_pairs (e ∷ es) h = ap (λ (b : Bool). (b || false) || items_have_float (items_of (map (pair_tree tree_of) es))) h.0 ∙ no_float_in_pairs es h.1

  pub no_float_in_tree : (d : Data) (es : List (T × ℕ)) → d ≡ array (items_of (map (pair_tree tree_of) es)) → AllByRecursion (λ x. has_float (tree_of x) ≡ false) (keys_of es) → has_float d ≡ false
  no_float_in_tree d es is h = ap has_float is ∙ no_float_in_pairs es h

-- ---- the round trip

module _ {T : Type 0} {eq : T → T → Bool} (laws : IsEquivalence eq) (cmp : T → T → Ordering) (is_item : T → Type 0) (tree_of : T → Data) (has_item : Data → Bool) (reads : Data → T → Type 0)
    (tree_is_read : (x : T) → is_item x → (y : T) × is_item y × reads (tree_of x) y)
    (read_has_item : (d : Data) (x : T) → reads d x → has_item d ≡ true)
    (reads_back : (x y : T) → is_item x → reads (tree_of x) y → eq x y ≡ true) where
  pub no_fault_in_pairs : (end : ℕ) (es : List (T × ℕ)) → AllByRecursion is_item (keys_of es) → sum_by (λ e. e.1) es ≤ end → first_fault end has_item 0 0 (map (pair_tree tree_of) es) ≡ None
  no_fault_in_pairs end es items fits =
      let good = all_weaker is_item (λ x. has_item (tree_of x) ≡ true) (λ x h. let y = tree_is_read x h in read_has_item (tree_of x) y.0 y.2) (keys_of es) items in
      no_first_fault end has_item tree_of es 0 0 good (omega arith)

  read_pair_of : (e p : T × ℕ) → is_item e.0 → IsPair reads (pair_tree tree_of e) p → (eq e.0 p.0 ≡ true) × (p.1 ≡ e.1)
  read_pair_of e p item is =
      let parts = same_some (tree_of e.0, number (unsigned e.1)) (is.tree, is.number) is.parts in
      let tree : tree_of e.0 ≡ is.tree = ap (λ (q : Data × Data). q.0) parts in
      let n : number (unsigned e.1) ≡ is.number = ap (λ (q : Data × Data). q.1) parts in
      (reads_back e.0 p.0 item (subst (λ (t : Data). reads t p.0) (sym tree) is.item), same_some p.1 e.1 (sym is.count ∙ ap u64_of (sym n)))

  read_pairs_of : (es ps : List (T × ℕ)) → AllByRecursion is_item (keys_of es) → AllZip (IsPair reads) (map (pair_tree tree_of) es) ps → AllZip (λ e p. (eq e.0 p.0 ≡ true) × (p.1 ≡ e.1)) es ps
  read_pairs_of [] [] items h = tt
  read_pairs_of [] (p ∷ ps) items h = h
  read_pairs_of (e ∷ es) [] items h = h
  read_pairs_of (e ∷ es) (p ∷ ps) items h = (read_pair_of e p items.0 h.0, read_pairs_of es ps items.1 h.1)

  pub counts_read_back : (X : List T) (d : Data) (ds : List Data) (pairs : List (T × ℕ)) → (tree : IsTree eq cmp tree_of X d) → All is_item X → ds ≡ map (pair_tree tree_of) tree.pairs → AllZip (IsPair reads) ds pairs
      → SameCounts eq (add_all eq [] pairs) X
  counts_read_back X d ds pairs tree items trees zip = λ v.
      let each = subst (λ (l : List Data). AllZip (IsPair reads) l pairs) trees zip in
      let keys = keys_walked laws is_item X tree.pairs tree.walk items in
      let none : count eq v [] + tally laws v pairs ≡ tally laws v pairs = zero-add (tally laws v pairs) in
      count_added_pairs laws v [] pairs ∙ none ∙ sym (same_tally laws v tree.pairs pairs (read_pairs_of tree.pairs pairs keys each)) ∙ sym (count_walk laws v X tree.pairs tree.walk)
