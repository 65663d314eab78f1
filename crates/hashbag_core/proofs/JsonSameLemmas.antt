-- Trees tell bags apart.
use Rattle.std.proofs.Common.{◌≡◌, ℕ, ◌<◌, ◌+◌, Bool, true, false, cond, List, [], ◌∷◌, map, find, filter, length, Ordering, Less, Equal, Greater, is_eq, All, ◌↔◌, Some, unwrap_or, refl, sym, ◌∙◌, ap, subst, arith}
use Rattle.std.specs.Cmp.{IsEquivalence, IsTotalOrder}
use Rattle.std.specs.Ordering.{ordering_reverse}
use Rattle.std.specs.List.{AllByRecursion, AllZip, Contains, IsDistinct}
use Rattle.std.specs.List.Sorted.{IsStrictlySortedBy}
use Rattle.std.specs.Map.{keys_of}
use Rattle.std.proofs.lemmas.Bool.{false≢true}
use Rattle.std.proofs.lemmas.List.Elements.{All-contains}
use Rattle.std.proofs.lemmas.List.Sums.{length-filter}
use Rattle.std.proofs.lemmas.Map.Keys.{sorted_head, sorted_tail}
use Rattle.serde_json.specs.Data.{Data, number, unsigned, array}
use Rattle.serde_json.specs.View.{items_of}
use Rattle.hashbag_core.specs.Equality.{same_counts}
use Rattle.hashbag_core.specs.EqualityLaws.{count_congr, same_counts-Decides}
use Rattle.hashbag_core.specs.JsonFaults.{pair_of}
use Rattle.hashbag_core.specs.JsonItems.{u64_of}
use Rattle.hashbag_core.specs.JsonTrees.{IsTree, pair_tree}
use Rattle.hashbag_core.specs.Occurrences.{count, instance_or_itself, IsOneInstanceEach, SameCounts}
use Rattle.hashbag_core.specs.Walks.{IsEach, IsSetWalk}
use Rattle.hashbag_core.proofs.ContainsLemmas.{All-from_Contains, Contains-map, Contains-map_back, Contains-tail}
use Rattle.hashbag_core.proofs.JoinLemmas.{count_of_item, keys_of_walk}
use Rattle.hashbag_core.proofs.JsonTripLemmas.{same_some, tally, eq_along, same_tally, count_walk, walked_counts, keys_walked, trees_of}
use Rattle.hashbag_core.proofs.Laws.{instance_equals}
use Rattle.hashbag_core.proofs.MemberLemmas.{Contains-head}

module _ {T : Type 0} {eq : T → T → Bool} (laws : IsEquivalence eq) where
  -- ---- the instance of a value that is there is there

  present_step : (v x : T) (X : List T) (b : Bool) → eq v x ≡ b → (0 < length (filter (eq v) X) → Contains X (unwrap_or (find (eq v) X) v)) → 0 < length (cond b (x ∷ filter (eq v) X) (filter (eq v) X))
      → Contains (x ∷ X) (unwrap_or (cond b (Some x) (find (eq v) X)) v)
  present_step v x X true same later some = Contains-head x X
  present_step v x X false other later some = Contains-tail x _ X (later some)

  present_in : (v : T) (X : List T) → 0 < length (filter (eq v) X) → Contains X (instance_or_itself eq v X)
  present_in v [] some = absurd (omega arith)
  present_in v (x ∷ X) some = present_step v x X (eq v x) refl (present_in v X) some

  present : (v : T) (X : List T) → 0 < count eq v X → Contains X (instance_or_itself eq v X)
  present v X some = present_in v X (let same = length-filter (eq v) X in omega arith)

  -- ---- the values of a walk of X, as the instances of Y

  -- values that are exchanged for equal ones
  apart_still : (f : T → T) → ((x : T) → eq x (f x) ≡ true) → (x y : T) → eq x y ≡ false → eq (f x) (f y) ≡ false
  apart_still f same x y apart = sym (laws.congr x (f x) (f y) (same x)) ∙ eq_along laws x y (f y) (same y) ∙ apart

  all_apart : (f : T → T) → ((x : T) → eq x (f x) ≡ true) → (x : T) (ys : List T) → AllByRecursion (λ y. eq x y ≡ false) ys → AllByRecursion (λ y. eq (f x) y ≡ false) (map f ys)
  all_apart f same x [] h = tt
  all_apart f same x (y ∷ ys) h = (apart_still f same x y h.0, all_apart f same x ys h.1)

  once_still : (f : T → T) → ((x : T) → eq x (f x) ≡ true) → (xs : List T) → IsDistinct eq xs → IsDistinct eq (map f xs)
  unfolding IsDistinct
  once_still f same [] h = tt
  once_still f same (x ∷ xs) h = (all_apart f same x xs h.0, once_still f same xs h.1)

  module _ (X Y : List T) (one : IsOneInstanceEach eq Y) (counts : SameCounts eq Y X) where
    abbrev own : T → T
    own v = instance_or_itself eq v Y

    own_there : (v : T) → Contains X v → Contains Y (own v)
    own_there v there =
        let some = count_of_item laws v X there in
        let same = counts v in
        present v Y (omega arith)

    -- an item of Y is its own instance of the item of X that equals it
    own_is : (y x : T) → Contains Y y → Contains X x → eq y x ≡ true → own x ≡ y
    own_is y x in_y in_x same =
        let at_y = All-contains (λ a. All (λ b. eq a b ≡ true → a ≡ b) Y) Y y one in_y in
        sym (All-contains (λ b. eq y b ≡ true → y ≡ b) Y (own x) at_y (own_there x in_x) (eq_along laws y x (own x) (instance_equals laws x Y) ∙ same))

    pub each_own : (values : List T) → IsEach eq X values → IsEach eq Y (map own values)
    each_own values each = record {
      once = once_still own (λ x. instance_equals laws x Y) values each.once;
      all = All-from_Contains (λ y. Contains (map own values) y) Y (λ y in_y.
          let x = instance_or_itself eq y X in
          let some : 0 < count eq y X = let same = counts y in let here = count_of_item laws y Y in_y in omega arith in
          let in_x = present y X some in
          subst (λ (z : T). Contains (map own values) z) (own_is y x in_y in_x (instance_equals laws y X)) (Contains-map own x values (All-contains (λ x. Contains values x) X x each.all in_x)));
      only = All-from_Contains (λ y. Contains Y y) (map own values) (λ y there.
          let x = Contains-map_back own y values there in
          subst (λ (z : T). Contains Y z) x.2 (own_there x.0 (All-contains (λ y. Contains X y) values x.0 each.only x.1)));
    }

module _ {T : Type 0} {eq : T → T → Bool} (laws : IsEquivalence eq) {cmp : T → T → Ordering} (total : IsTotalOrder cmp) (ties : (x y : T) → eq x y ≡ is_eq (cmp x y)) where
  abbrev Alike : T × ℕ → T × ℕ → Type 0
  Alike e f = (eq e.0 f.0 ≡ true) × (f.1 ≡ e.1)

  apart_if_less : (x y : T) → cmp x y ≡ Less → eq x y ≡ false
  apart_if_less x y h = ties x y ∙ ap is_eq h

  none_at : (v x : T) (n : ℕ) → eq v x ≡ false → cond (eq v x) n 0 ≡ 0
  none_at v x n h = ap (λ (b : Bool). cond b n 0) h

  -- a value below all keys is not there
  none_above : (v : T) (es : List (T × ℕ)) → AllByRecursion (λ y. cmp v y ≡ Less) (keys_of es) → tally laws v es ≡ 0
  none_above v [] h = refl
  none_above v (e ∷ es) h =
      let here = none_at v e.0 e.1 (apart_if_less v e.0 h.0) in
      let later = none_above v es h.1 in
      omega arith

  above_all : (v x : T) (ks : List T) → (o : Ordering) → cmp v x ≡ o → o ≡ Less → AllByRecursion (λ y. cmp x y ≡ Less) ks → AllByRecursion (λ y. cmp v y ≡ Less) ks
  above_all v x [] o e less h = tt
  above_all v x (k ∷ ks) o e less h = (total.trans v x k (e ∙ less) h.0, above_all v x ks o e less h.1)

  -- the first of pairs in ascending order, and what is less than it
  at_first : (e : T × ℕ) (es : List (T × ℕ)) → IsStrictlySortedBy cmp (keys_of (e ∷ es)) → tally laws e.0 (e ∷ es) ≡ e.1
  at_first e es up =
      let here : cond (eq e.0 e.0) e.1 0 ≡ e.1 = ap (λ (b : Bool). cond b e.1 0) (laws.refl e.0) in
      let later = none_above e.0 es (sorted_head cmp e.0 (keys_of es) up) in
      omega arith

  before_first : (v : T) (e : T × ℕ) (es : List (T × ℕ)) → IsStrictlySortedBy cmp (keys_of (e ∷ es)) → cmp v e.0 ≡ Less → tally laws v (e ∷ es) ≡ 0
  before_first v e es up h = none_above v (e ∷ es) (h, above_all v e.0 (keys_of es) (cmp v e.0) refl h (sorted_head cmp e.0 (keys_of es) up))

  firsts_tie : (e f : T × ℕ) (es fs : List (T × ℕ)) (o : Ordering) → cmp e.0 f.0 ≡ o → IsStrictlySortedBy cmp (keys_of (e ∷ es)) → IsStrictlySortedBy cmp (keys_of (f ∷ fs)) → 0 < e.1 → 0 < f.1
      → ((v : T) → tally laws v (e ∷ es) ≡ tally laws v (f ∷ fs)) → eq e.0 f.0 ≡ true
  firsts_tie e f es fs Less is up vp p q same =
      let there = at_first e es up in
      let none = before_first e.0 f fs vp is in
      let at = same e.0 in
      absurd (omega arith)
  firsts_tie e f es fs Equal is up vp p q same = ties e.0 f.0 ∙ ap is_eq is
  firsts_tie e f es fs Greater is up vp p q same =
      let there = at_first f fs vp in
      let none = before_first f.0 e es up (total.antisymm f.0 e.0 ∙ ap ordering_reverse is) in
      let at = same f.0 in
      absurd (omega arith)

  -- pairs in ascending order with the same counts are alike
  pub alike_pairs : (es fs : List (T × ℕ)) → IsStrictlySortedBy cmp (keys_of es) → IsStrictlySortedBy cmp (keys_of fs) → AllByRecursion (λ e. 0 < e.1) es → AllByRecursion (λ e. 0 < e.1) fs
      → ((v : T) → tally laws v es ≡ tally laws v fs) → AllZip Alike es fs
  alike_pairs [] [] up vp p q same = tt
  alike_pairs [] (f ∷ fs) up vp p q same =
      let some : 0 < f.1 = q.0 in
      let there = at_first f fs vp in
      let at : 0 ≡ tally laws f.0 (f ∷ fs) = same f.0 in
      absurd (omega arith)
  alike_pairs (e ∷ es) [] up vp p q same =
      let some : 0 < e.1 = p.0 in
      let there = at_first e es up in
      let at : tally laws e.0 (e ∷ es) ≡ 0 = same e.0 in
      absurd (omega arith)
  alike_pairs (e ∷ es) (f ∷ fs) up vp p q same =
      let tie = firsts_tie e f es fs (cmp e.0 f.0) refl up vp p.0 q.0 same in
      let here = at_first e es up in
      let there = at_first f fs vp in
      let at_e = same e.0 in
      let at_f = same f.0 in
      let moved : (ps : List (T × ℕ)) → tally laws e.0 ps ≡ tally laws f.0 ps = tally_along e.0 f.0 tie in
      let along = moved (f ∷ fs) in
      let n : f.1 ≡ e.1 = omega arith in
      let later : (v : T) → tally laws v es ≡ tally laws v fs = λ v.
      let both = same v in
      let first : cond (eq v e.0) e.1 0 ≡ cond (eq v f.0) f.1 0 = ap (λ (k : ℕ). cond (eq v e.0) k 0) (sym n) ∙ ap (λ (b : Bool). cond b f.1 0) (sym (eq_along laws v e.0 f.0 tie)) in
      omega arith in
      ((tie, n), alike_pairs es fs (sorted_tail cmp e.0 (keys_of es) up) (sorted_tail cmp f.0 (keys_of fs) vp) p.1 q.1 later)
    where
      tally_along : (x y : T) → eq x y ≡ true → (ps : List (T × ℕ)) → tally laws x ps ≡ tally laws y ps
      tally_along x y tie [] = refl
      tally_along x y tie (p ∷ ps) = ap (λ (b : Bool). cond b p.1 0 + tally laws x ps) (laws.congr x y p.0 tie) ∙ ap (λ (k : ℕ). cond (eq y p.0) p.1 0 + k) (tally_along x y tie ps)

  module _ (is_item : T → Type 0) (tree_of : T → Data) (reads : Data → T → Type 0)
      (equal_is_item : (x y : T) → is_item x → eq x y ≡ true → is_item y)
      (equal_trees : (x y : T) → is_item x → is_item y → eq x y ≡ true → tree_of x ≡ tree_of y)
      (tree_is_read : (x : T) → is_item x → (y : T) × is_item y × reads (tree_of x) y)
      (reads_back : (x y : T) → is_item x → reads (tree_of x) y → eq x y ≡ true) where
    alike_trees : (es fs : List (T × ℕ)) → AllByRecursion is_item (keys_of es) → AllZip Alike es fs → map (pair_tree tree_of) es ≡ map (pair_tree tree_of) fs
    alike_trees [] [] items h = refl
    alike_trees [] (f ∷ fs) items h = absurd h
    alike_trees (e ∷ es) [] items h = absurd h
    alike_trees (e ∷ es) (f ∷ fs) items h =
        let t : tree_of e.0 ≡ tree_of f.0 = equal_trees e.0 f.0 items.0 (equal_is_item e.0 f.0 items.0 h.0.0) h.0.0 in
        let n : f.1 ≡ e.1 = h.0.1 in
        let later = alike_trees es fs items.1 h.1 in
        λ i. array (items_of (t i ∷ number (unsigned (sym n i)) ∷ [])) ∷ later i

    -- lists with the same counts have one tree
    pub one_tree : (X Y : List T) (d e : Data) → IsTree eq cmp tree_of X d → IsTree eq cmp tree_of Y e → All is_item X → SameCounts eq Y X → e ≡ d
    one_tree X Y d e s t items same =
        let counts : (v : T) → tally laws v s.pairs ≡ tally laws v t.pairs = λ v. sym (count_walk laws v X s.pairs s.walk) ∙ sym (same v) ∙ count_walk laws v Y t.pairs t.walk in
        let alike = alike_pairs s.pairs t.pairs s.rising t.rising (walked_counts laws X s.pairs s.walk) (walked_counts laws Y t.pairs t.walk) counts in
        t.is ∙ ap (λ l. array (items_of l)) (sym (alike_trees s.pairs t.pairs (keys_walked laws is_item X s.pairs s.walk items) alike)) ∙ sym s.is

    same_head : (a b : Data) (xs ys : List Data) → a ∷ xs ≡ b ∷ ys → (a ≡ b) × (xs ≡ ys)
    same_head a b xs ys e = (cc, cc)

    items_tie : (x y : T) → is_item x → is_item y → tree_of x ≡ tree_of y → eq x y ≡ true
    items_tie x y h k e =
        let z = tree_is_read x h in
        laws.congr x z.0 y (reads_back x z.0 h z.2) ∙ laws.symm z.0 y ∙ reads_back y z.0 k (subst (λ (t : Data). reads t z.0) e z.2)

    alike_from_trees : (es fs : List (T × ℕ)) → AllByRecursion is_item (keys_of es) → AllByRecursion is_item (keys_of fs) → map (pair_tree tree_of) es ≡ map (pair_tree tree_of) fs → AllZip Alike es fs
    alike_from_trees [] [] a b h = tt
    alike_from_trees [] (f ∷ fs) a b h = absurd (cc)
    alike_from_trees (e ∷ es) [] a b h = absurd (cc)
    alike_from_trees (e ∷ es) (f ∷ fs) a b h =
        let both = same_head (pair_tree tree_of e) (pair_tree tree_of f) (map (pair_tree tree_of) es) (map (pair_tree tree_of) fs) h in
        let parts = same_some (tree_of e.0, number (unsigned e.1)) (tree_of f.0, number (unsigned f.1)) (ap pair_of both.0) in
        let t : tree_of e.0 ≡ tree_of f.0 = ap (λ (q : Data × Data). q.0) parts in
        let n : Some e.1 ≡ Some f.1 = ap (λ (q : Data × Data). u64_of q.1) parts in
        ((items_tie e.0 f.0 a.0 b.0 t, sym (same_some e.1 f.1 n)), alike_from_trees es fs a.1 b.1 both.1)

    -- lists with one tree have the same counts
    pub counts_from_tree : (X Y : List T) (d : Data) → IsTree eq cmp tree_of X d → IsTree eq cmp tree_of Y d → All is_item X → All is_item Y → SameCounts eq Y X
    counts_from_tree X Y d s t xs ys = λ v.
        let trees = same_some _ _ (sym (trees_of tree_of d s.pairs s.is) ∙ trees_of tree_of d t.pairs t.is) in
        let alike = alike_from_trees s.pairs t.pairs (keys_walked laws is_item X s.pairs s.walk xs) (keys_walked laws is_item Y t.pairs t.walk ys) trees in
        count_walk laws v Y t.pairs t.walk ∙ sym (same_tally laws v s.pairs t.pairs alike) ∙ sym (count_walk laws v X s.pairs s.walk)

    -- whether the counts are the same is whether the trees are
    pub equal_by_trees : (X Y : List T) (d e : Data) → IsTree eq cmp tree_of X d → IsTree eq cmp tree_of Y e → All is_item X → All is_item Y → (same_counts eq X Y ≡ true) ↔ (d ≡ e)
    equal_by_trees X Y d e s t xs ys = (
      λ equal. sym (one_tree X Y d e s t xs (λ v. sym ((same_counts-Decides laws X Y).0 equal v))),
      λ same. (same_counts-Decides laws X Y).1 (λ v. sym (counts_from_tree X Y d s (subst (λ (x : Data). IsTree eq cmp tree_of Y x) (sym same) t) xs ys v)),
    )

    -- ---- the tree of one list is that of each list with its counts

    order_still : (f : T → T) → ((x : T) → eq x (f x) ≡ true) → (x y : T) → cmp (f x) (f y) ≡ cmp x y
    order_still f tied x y =
        let at_x = total.congr x (f x) (f y) (ties_equal x (f x) (tied x)) in
        let at_y = total.congr y (f y) x (ties_equal y (f y) (tied y)) in
        sym at_x ∙ total.antisymm x (f y) ∙ ap ordering_reverse (sym at_y) ∙ sym (total.antisymm x y)
      where
        ties_equal : (x y : T) → eq x y ≡ true → cmp x y ≡ Equal
        ties_equal x y e = equal_from (cmp x y) (sym (ties x y) ∙ e)
          where
            equal_from : (o : Ordering) → is_eq o ≡ true → o ≡ Equal
            equal_from Less h = absurd (false≢true h)
            equal_from Equal h = refl
            equal_from Greater h = absurd (false≢true h)

    all_below_still : (f : T → T) → ((x : T) → eq x (f x) ≡ true) → (x : T) (ys : List T) → AllByRecursion (λ y. cmp x y ≡ Less) ys → AllByRecursion (λ y. cmp (f x) y ≡ Less) (map f ys)
    all_below_still f tied x [] h = tt
    all_below_still f tied x (y ∷ ys) h = (order_still f tied x y ∙ h.0, all_below_still f tied x ys h.1)

    rising_still : (f : T → T) → ((x : T) → eq x (f x) ≡ true) → (xs : List T) → IsStrictlySortedBy cmp xs → IsStrictlySortedBy cmp (map f xs)
    unfolding IsStrictlySortedBy
    rising_still f tied [] h = tt
    rising_still f tied (x ∷ xs) h = (all_below_still f tied x xs h.0, rising_still f tied xs h.1)

    alike_still : (f : T → T) → ((x : T) → eq x (f x) ≡ true) → (X Y : List T) → SameCounts eq Y X → (vs : List T) → AllZip Alike (map (λ v. (v, count eq v X)) vs) (map (λ v. (v, count eq v Y)) (map f vs))
    alike_still f tied X Y same [] = tt
    alike_still f tied X Y same (v ∷ vs) = ((tied v, sym (count_congr laws Y v (f v) (tied v)) ∙ same v), alike_still f tied X Y same vs)

    pub tree_of_same_counts : (X Y : List T) (d : Data) → IsTree eq cmp tree_of X d → All is_item X → IsOneInstanceEach eq Y → SameCounts eq Y X → IsTree eq cmp tree_of Y d
    tree_of_same_counts X Y d s items one same =
        let f = λ (v : T). instance_or_itself eq v Y in
        let tied = λ (v : T). instance_equals laws v Y in
        let vs = s.walk.values in
        let pairs = map (λ v. (v, count eq v Y)) (map f vs) in
        let walk : IsSetWalk eq Y pairs = record { values = map f vs; each = each_own laws X Y one same vs s.walk.each; counts = refl } in
        let up : IsStrictlySortedBy cmp vs = subst (λ (l : List T). IsStrictlySortedBy cmp l) (keys_of_walk laws X s.pairs s.walk) s.rising in
        let alike : AllZip Alike s.pairs pairs = subst (λ (l : List (T × ℕ)). AllZip Alike l pairs) (sym s.walk.counts) (alike_still f tied X Y same vs) in
        record {
          pairs = pairs;
          walk = walk;
          rising = subst (λ (l : List T). IsStrictlySortedBy cmp l) (sym (keys_of_walk laws Y pairs walk)) (rising_still f tied vs up);
          is = s.is ∙ ap (λ l. array (items_of l)) (alike_trees s.pairs pairs (keys_walked laws is_item X s.pairs s.walk items) alike);
        }
