-- A list of which each value keeps at most a given number of occurrences.
use Rattle.std.proofs.Common.{◌≡◌, ℕ, zero, suc, ◌+◌, min, nat_lt, ltb, Bool, true, false, cond, List, [], ◌∷◌, ◌++◌, replicate, map, find, option_map, unwrap_or, All, refl, sym, ◌∙◌, ap, subst, arith}
use borrow.Author.Tests.{ltb-true, ltb-false}
use Rattle.std.specs.Cmp.{IsEquivalence}
use Rattle.std.specs.List.{IsDistinct}
use Rattle.std.specs.List.Sorted.{IsPermutation}
use Rattle.std.specs.Map.{keys_of}
use Rattle.std.proofs.lemmas.List.{map-id}
use Rattle.std.proofs.lemmas.List.Elements.{All-weaker}
use Rattle.std.proofs.lemmas.List.Sorted.{IsPermutation-refl, IsPermutation-sym, IsPermutation-trans, IsPermutation-cons, IsPermutation-middle, All-permutation}
use Rattle.std.proofs.lemmas.Map.Keys.{IsDistinct-head, IsDistinct-tail}
use Rattle.hashbag_table.specs.Returned.{retained_entries}
use Rattle.hashbag_table.proofs.ListLemmas.{along_permutation, IsPermutation-same}
use Rattle.hashbag_core.specs.Bag.{Bag, occurrences, IsBagOf}
use Rattle.hashbag_core.specs.Occurrences.{count, IsBag, IsOneInstanceEach}
use Rattle.hashbag_script.specs.Rows.{quota, retained}
use Rattle.hashbag_core.specs.Walks.{IsSetWalkOf, IsSetWalk}
use Rattle.hashbag_core.specs.EqualityLaws.{count_append}
use Rattle.hashbag_core.proofs.MemberLemmas.{map-map}
use Rattle.hashbag_core.proofs.OccurrenceLemmas.{count_rearranged, all_occurrences}

zero_left : (n : ℕ) → 0 + n ≡ n
zero_left n = omega arith

module _ {T : Type 0} {eq : T → T → Bool} (laws : IsEquivalence eq) where
  -- equal values have the same quota
  pub quota_congr : (list : List (T × ℕ)) (u v : T) → eq u v ≡ true → quota eq list u ≡ quota eq list v
  quota_congr list u v same = λ i. unwrap_or (option_map (λ p. p.1) (find (λ p. laws.congr u v p.0 same i) list)) 0

  module _ (many : T → ℕ) (congr : (u v : T) → eq u v ≡ true → many u ≡ many v) where
    -- ---- whatever the order of the list

    one_instance_rearranged : (X Y : List T) → IsPermutation X Y → IsOneInstanceEach eq X → IsOneInstanceEach eq Y
    one_instance_rearranged X Y h one =
        All-permutation (λ x. All (λ y. eq x y ≡ true → x ≡ y) Y) X Y h
        (All-weaker (λ x. All (λ y. eq x y ≡ true → x ≡ y) X) (λ x. All (λ y. eq x y ≡ true → x ≡ y) Y) (λ x each. All-permutation (λ y. eq x y ≡ true → x ≡ y) X Y h each) X one)

    one_instance_tail : (x : T) (X : List T) → IsOneInstanceEach eq (x ∷ X) → IsOneInstanceEach eq X
    one_instance_tail x X one = λ k d below j e under. one (suc k) d (omega arith) (suc j) e (omega arith)

    abbrev Leaves : List T → List T → Type 0
    Leaves X Y = IsPermutation X Y × (IsOneInstanceEach eq X → IsPermutation (retained eq many X) (retained eq many Y))

    kept_head : (x : T) (X Y : List T) (b c : Bool) → b ≡ c → IsPermutation X Y → IsPermutation (cond b (x ∷ X) X) (cond c (x ∷ Y) Y)
    kept_head x X Y true true e h = IsPermutation-cons x X Y h
    kept_head x X Y true false e h = absurd (cc)
    kept_head x X Y false true e h = absurd (cc)
    kept_head x X Y false false e h = h

    leaves_head : (x : T) (X Y : List T) → Leaves X Y → Leaves (x ∷ X) (x ∷ Y)
    leaves_head x X Y h = (
      IsPermutation-cons x X Y h.0,
      λ one. kept_head x _ _ (nat_lt (count eq x X) (many x)) (nat_lt (count eq x Y) (many x)) (ap (λ (n : ℕ). nat_lt n (many x)) (count_rearranged laws x X Y h.0)) (h.1 (one_instance_tail x X one)),
    )

    count_past : (x y : T) (X : List T) → eq x y ≡ false → count eq x (y ∷ X) ≡ count eq x X
    count_past x y X other =
        let parts = count_append laws x (y ∷ []) X in
        let none : count eq x (y ∷ []) ≡ 0 = zero_left _ ∙ ap (λ (b : Bool). cond b 1 0) other in
        omega arith

    heads_kept : (x y : T) (X : List T) (a b c d : Bool) → a ≡ d → b ≡ c → IsPermutation (cond a (x ∷ cond b (y ∷ X) X) (cond b (y ∷ X) X)) (cond c (y ∷ cond d (x ∷ X) X) (cond d (x ∷ X) X))
    heads_kept x y X true true true true e f = IsPermutation-middle (x ∷ []) y X
    heads_kept x y X true false false true e f = IsPermutation-refl _
    heads_kept x y X false true true false e f = IsPermutation-refl _
    heads_kept x y X false false false false e f = IsPermutation-refl _
    heads_kept x y X true b c false e f = absurd (cc)
    heads_kept x y X false b c true e f = absurd (cc)
    heads_kept x y X true true false true e f = absurd (cc)
    heads_kept x y X true false true true e f = absurd (cc)
    heads_kept x y X false true false false e f = absurd (cc)
    heads_kept x y X false false true false e f = absurd (cc)

    leaves_turned : (x y : T) (X : List T) (b : Bool) → eq x y ≡ b → IsOneInstanceEach eq (x ∷ y ∷ X) → IsPermutation (retained eq many (x ∷ y ∷ X)) (retained eq many (y ∷ x ∷ X))
    leaves_turned x y X true same one =
        let is : x ≡ y = one 0 x (omega arith) 1 x (omega arith) same in
        IsPermutation-same _ _ (λ i. retained eq many (is i ∷ sym is i ∷ X))
    leaves_turned x y X false other one =
        heads_kept x y (retained eq many X) (nat_lt (count eq x (y ∷ X)) (many x)) (nat_lt (count eq y X) (many y)) (nat_lt (count eq y (x ∷ X)) (many y)) (nat_lt (count eq x X) (many x))
        (ap (λ (n : ℕ). nat_lt n (many x)) (count_past x y X other)) (sym (ap (λ (n : ℕ). nat_lt n (many y)) (count_past y x X (laws.symm y x ∙ other))))

    leaves : (X Y : List T) → IsPermutation X Y → Leaves X Y
    leaves = along_permutation Leaves
        (λ X. (IsPermutation-refl X, λ one. IsPermutation-refl _))
        leaves_head
        (λ x y X. (IsPermutation-middle (x ∷ []) y X, leaves_turned x y X (eq x y) refl))
        (λ X Y Z f g. (IsPermutation-trans _ _ _ f.0 g.0, λ one. IsPermutation-trans _ _ _ (f.1 one) (g.1 (one_instance_rearranged X Y f.0 one))))

    -- what is kept doesn't depend on the order
    pub retained_rearranged : (X Y : List T) → IsPermutation X Y → IsOneInstanceEach eq X → IsPermutation (retained eq many X) (retained eq many Y)
    retained_rearranged X Y h one = (leaves X Y h).1 one

    -- ---- the occurrences of a map

    count_copies : (n : ℕ) (v : T) (Z : List T) → count eq v Z ≡ 0 → count eq v (replicate n v ++ Z) ≡ n
    count_copies zero v Z none = none
    count_copies (suc n) v Z none =
        let parts = count_append laws v (v ∷ []) (replicate n v ++ Z) in
        let one : count eq v (v ∷ []) ≡ 1 = zero_left _ ∙ ap (λ (b : Bool). cond b 1 0) (laws.refl v) in
        let later = count_copies n v Z none in
        omega arith

    copies_step : (n m : ℕ) (v : T) (R L : List T) (b : Bool) → ltb n m ≡ b → R ≡ replicate (min m n) v ++ L → cond b (v ∷ R) R ≡ replicate (min m (suc n)) v ++ L
    copies_step n m v R L true e h =
        let below = ltb-true n m e in
        let all : min m n ≡ n = omega arith in
        let more : min m (suc n) ≡ suc n = omega arith in
        ap (λ (l : List T). v ∷ l) (h ∙ ap (λ (k : ℕ). replicate k v ++ L) all) ∙ sym (ap (λ (k : ℕ). replicate k v ++ L) more)
    copies_step n m v R L false e h =
        let above = ltb-false n m e in
        let same : min m n ≡ min m (suc n) = omega arith in
        h ∙ ap (λ (k : ℕ). replicate k v ++ L) same

    copies_kept : (n : ℕ) (v : T) (Z : List T) → count eq v Z ≡ 0 → retained eq many (replicate n v ++ Z) ≡ replicate (min (many v) n) v ++ retained eq many Z
    copies_kept zero v Z none = ap (λ (k : ℕ). replicate k v ++ retained eq many Z) (none_left (many v))
      where
        none_left : (m : ℕ) → 0 ≡ min m 0
        none_left m = omega arith
    copies_kept (suc n) v Z none =
        ap (λ (k : ℕ). cond (nat_lt k (many v)) (v ∷ retained eq many (replicate n v ++ Z)) (retained eq many (replicate n v ++ Z))) (count_copies n v Z none)
        ∙ copies_step n (many v) v (retained eq many (replicate n v ++ Z)) (retained eq many Z) (ltb n (many v)) refl (copies_kept n v Z none)

    entry_kept : (b : Bool) (v : T) (m : ℕ) (es : List (T × ℕ)) → nat_lt 0 m ≡ b → replicate m v ++ occurrences es ≡ occurrences (cond b ((v, m) ∷ es) es)
    entry_kept true v m es e = refl
    entry_kept false v m es e =
        let above = ltb-false 0 m e in
        let none : m ≡ 0 = omega arith in
        ap (λ (k : ℕ). replicate k v ++ occurrences es) none

    absent : (v : T) (X : List T) → All (λ y. eq v y ≡ false) X → count eq v X ≡ 0
    absent v [] h = refl
    absent v (y ∷ X) h = count_past v y X (h 0 y (omega arith)) ∙ absent v X (λ k d below. h (suc k) d (omega arith))

    -- what is kept of the occurrences of a map, where no two values are equal
    pub retained_occurrences : (es : List (T × ℕ)) → IsDistinct eq (keys_of es) → retained eq many (occurrences es) ≡ occurrences (retained_entries es (map (λ e. many e.0) es))
    retained_occurrences [] distinct = refl
    retained_occurrences (e ∷ es) distinct =
        let none = absent e.0 (occurrences es) (all_occurrences laws (λ y. eq e.0 y ≡ false) es (IsDistinct-head eq e.0 (keys_of es) distinct)) in
        copies_kept e.1 e.0 (occurrences es) none
        ∙ ap (λ (l : List T). replicate (min (many e.0) e.1) e.0 ++ l) (retained_occurrences es (IsDistinct-tail eq e.0 (keys_of es) distinct))
        ∙ entry_kept (nat_lt 0 (min (many e.0) e.1)) e.0 (min (many e.0) e.1) (retained_entries es (map (λ e. many e.0) es)) refl

    walk_distinct : (X : List T) (W : List (T × ℕ)) → IsSetWalk eq X W → IsDistinct eq (keys_of W)
    walk_distinct X W walk =
        let keys : keys_of W ≡ walk.values = ap (λ (l : List (T × ℕ)). keys_of l) walk.counts ∙ map-map (λ v. (v, count eq v X)) (λ e. e.0) walk.values ∙ map-id walk.values in
        subst (λ (l : List T). IsDistinct eq l) (sym keys) walk.each.once

    -- what is left of a bag of which each value keeps at most a given number
    pub retained_of_bag : {S : Type 0} (before after : Bag T S) (W : List (T × ℕ)) (returned : List ℕ) → IsBag eq before.most before.items → IsSetWalkOf eq before W → returned ≡ map (λ e. many e.0) W
        → IsBagOf eq before (occurrences (retained_entries W returned)) after → IsBagOf eq before (retained eq many before.items) after
    retained_of_bag before after W returned bag walk are left = record {
      means =
          IsPermutation-trans _ _ _ (retained_rearranged before.items (occurrences W) (IsPermutation-sym _ _ walk.means) bag.one_instance)
          (IsPermutation-trans _ _ _ (IsPermutation-same _ _ (retained_occurrences W (walk_distinct before.items W (walk.walk before.items (IsPermutation-refl _))) ∙ ap (λ (a : List ℕ). occurrences (retained_entries W a)) (sym are))) left.means);
      hasher = left.hasher;
      limit = left.limit;
      bag = left.bag;
    }
