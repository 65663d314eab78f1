-- For callers: how often each value occurs after a call, from the clause that says what the bag then means (`IsBagOf`,
-- `InsertsAll`, `IsRetained`). Each comment says after which call, and by which clause.
--
-- `laws` is `g.met.T.Eq.laws` under a bound `T: Eq`, and `nat_eq_equiv` of `Rattle.std.specs.Cmp` at unsigned numbers.
use Rattle.std.proofs.Common.{◌≡◌, ℕ, zero, suc, ◌+◌, ◌-◌, ◌<◌, ◌≤◌, min, Bool, true, false, cond, nat_lt, List, [], ◌∷◌, ◌++◌, length, replicate, take, drop, get_or, filter, map, count_by, sum_by, Option, String, string_bytes, Result, Ok, Err, IfErr, refl, sym, ◌∙◌, ap, subst, arith}
use borrow.Author.Tests.{ltb-false}
use denote.Ref.{Bor}
use denote.Param.Members.{Mut}
use Rattle.std.specs.Cmp.{IsEquivalence}
use Rattle.std.specs.Cmp.Lexicographic.{nat_list_eq_equiv}
use Rattle.std.specs.List.{IsDistinct, AllByRecursion, AllZip, Contains}
use Rattle.std.specs.Iterator.{Drains}
use Rattle.std.specs.List.Sorted.{IsPermutation}
use Rattle.std.specs.Map.{keys_of}
use Rattle.std.specs.Str.{bytes_eq}
use Rattle.std.specs.String.{string_eq}
use Rattle.std.proofs.lemmas.Iterator.{YieldsList, items_from_drains}
use Rattle.std.proofs.lemmas.List.{length-drop, length-replicate, map-id, take_more}
use Rattle.std.proofs.lemmas.List.Sums.{length-filter, sum_by-cons, sum_by-append}
use Rattle.std.proofs.lemmas.List.Elements.{All-drop, filter_passes}
use Rattle.std.proofs.lemmas.List.Sorted.{IsPermutation-refl}
use Rattle.std.proofs.lemmas.Map.Keys.{IsDistinct-tail}
use Rattle.hashbag_table.specs.Returned.{retained_entries}
use Rattle.hashbag_table.proofs.CloneLemmas.{all_to_recursion}
use Rattle.hashbag_table.proofs.KeyLemmas.{named_is}
use Rattle.hashbag_core.specs.declared.bag.BagError.{BagError}
use Rattle.hashbag_core.specs.declared.bag.BagError.TheVariants.{Memory, TooMany, BelowTotal}
use Rattle.hashbag_core.specs.Bag.{Bag, Means, occurrences, IsBagOf}
use Rattle.hashbag_core.specs.Equality.{bag_eq}
use Rattle.hashbag_core.specs.EqualityLaws.{count_congr, count_append, same_counts-Decides}
use Rattle.hashbag_core.specs.Extends.{add_all, Once, AsItIs}
use Rattle.hashbag_core.specs.Inserts.{MayFail, InsertsAll}
use Rattle.hashbag_core.specs.Joins.{IsDifference}
use Rattle.hashbag_core.specs.Keys.{InsertsNamed}
use Rattle.hashbag_core.specs.Occurrences.{count_named, less_named, alike, others, count, instance_or_itself, add, less, put, SameCounts}
use Rattle.hashbag_core.specs.Retain.{IsRetained}
use Rattle.hashbag_core.specs.Walks.{IsSetWalk}
use Rattle.hashbag_core.proofs.DistinctLemmas.{absent_later}
use Rattle.hashbag_core.proofs.EqualityLemmas.{count_in_others}
use Rattle.hashbag_core.proofs.ContainsLemmas.{not_in_nil, Contains-same}
use Rattle.hashbag_core.proofs.ExcessLemmas.{an_instance}
use Rattle.hashbag_core.proofs.InsertLemmas.{all_added}
use Rattle.hashbag_core.proofs.Laws.{count_added, count_all_added, insertions_in_any_order, instance_equals}
use Rattle.hashbag_core.proofs.MemberLemmas.{map-map}
use Rattle.hashbag_core.proofs.OccurrenceLemmas.{count_rearranged}
use Rattle.hashbag_core.proofs.TakeLemmas.{none_of_others}

none_before : (n : ℕ) → 0 + n ≡ n
none_before n = omega arith

-- pairs that went in as they came are the pairs that came
pub pairs_as_they_are : {T : Type 0} (came pairs : List (T × ℕ)) → AllZip AsItIs came pairs → pairs ≡ came
pairs_as_they_are [] [] h = refl
pairs_as_they_are [] (p ∷ pairs) h = absurd h
pairs_as_they_are (e ∷ came) [] h = absurd h
pairs_as_they_are (e ∷ came) (p ∷ pairs) h = λ i. h.0 i ∷ pairs_as_they_are came pairs h.1 i

-- the law `one` of a text as a key: a text names one `String`, whose bytes are k
pub text_names_one : {Z : Type 0} (k : List ℕ) (x w : String Z) → bytes_eq (string_bytes x) k ≡ true → bytes_eq (string_bytes w) k ≡ string_eq w x
text_names_one k x w does =
    nat_list_eq_equiv.symm (string_bytes w) k ∙ nat_list_eq_equiv.congr k (string_bytes x) (string_bytes w) (nat_list_eq_equiv.symm k (string_bytes x) ∙ does)
    ∙ nat_list_eq_equiv.symm (string_bytes x) (string_bytes w)

-- one more item of a list, as a loop goes over it, by any test
pub count_by_take_next : {X : Type 0} (p : X → Bool) (xs : List X) (k : ℕ) (d : X) → k < length xs → count_by p (take (k + 1) xs) ≡ count_by p (take k xs) + cond (p (get_or xs k d)) 1 0
count_by_take_next {X} p xs k d below =
    ap (λ (l : List X). count_by p l) (take_more xs k d below) ∙ sum_by-append (λ x. cond (p x) 1 0) (take k xs) (get_or xs k d ∷ []) ∙ ap (λ (n : ℕ). count_by p (take k xs) + n) (none_before _)

none_either : (b : Bool) → ◌≡◌ {A = ℕ} 0 (cond b 0 0)
none_either true = refl
none_either false = refl

-- an insertion that the limit allows fails for memory alone: for the clauses `fails` of `insert`, `insert_many` and an entry's `or_insert`
pub fails_for_memory : {T S A : Type 0} (eq : T → T → Bool) (bag : Bag T S) (v : T) (n : ℕ) (r : Result A BagError) → IfErr r (MayFail eq bag v n) → length bag.items + n ≤ bag.most → IfErr r (λ e. e ≡ Memory)
fails_for_memory eq bag v n (Ok a) fails fits = tt
fails_for_memory eq bag v n (Err TooMany) fails fits = let over = fails.why in absurd (omega (arith, over, fits))
fails_for_memory eq bag v n (Err Memory) fails fits = refl
fails_for_memory eq bag v n (Err BelowTotal) fails fits = absurd fails.why

-- what an iterator gave to its end is the list that it yields: for the items of `Extends` and of the clause `len` of an extend
pub items_that_came : {S A B : Type 0} {steps : S → Option A → S → Type 0} {v : A → B} {it : S} {all : List B} → (came : List A) → Drains steps it came → YieldsList steps v it all → map v came ≡ all
items_that_came came h yields = items_from_drains came (h.1.0, h.1.1, λ _. (h.0, h.1.2)) yields

module _ {T : Type 0} {eq : T → T → Bool} (laws : IsEquivalence eq) where
  -- ---- lists

  one_more : (y : T) (L kept : List T) (a b : Bool) → a ≡ b → length kept ≡ cond b (length L) 0 → length (cond a (y ∷ kept) kept) ≡ cond b (length (y ∷ L)) 0
  one_more y L kept true true e h = ap (λ (n : ℕ). suc n) h
  one_more y L kept true false e h = absurd (cc)
  one_more y L kept false true e h = absurd (cc)
  one_more y L kept false false e h = h

  copies_found : (v x : T) (L : List T) → AllByRecursion (λ y. eq x y ≡ true) L → length (filter (eq v) L) ≡ cond (eq v x) (length L) 0
  copies_found v x [] h = none_either (eq v x)
  copies_found v x (y ∷ L) h =
      let same : eq v y ≡ eq v x = laws.symm v y ∙ sym (laws.congr x y v h.0) ∙ laws.symm x v in
      one_more y L (filter (eq v) L) (eq v y) (eq v x) same (copies_found v x L h.1)

  -- copies of x are occurrences of each value that equals x, and of no other
  count_copies : (v x : T) (L : List T) → AllByRecursion (λ y. eq x y ≡ true) L → count eq v L ≡ cond (eq v x) (length L) 0
  count_copies v x L h = sym (length-filter (eq v) L) ∙ copies_found v x L h

  same_copies : (x : T) (n : ℕ) → AllByRecursion (λ y. eq x y ≡ true) (replicate n x)
  same_copies x zero = tt
  same_copies x (suc n) = (laws.refl x, same_copies x n)

  count_replicate : (v x : T) (n : ℕ) → count eq v (replicate n x) ≡ cond (eq v x) n 0
  count_replicate v x n = count_copies v x (replicate n x) (same_copies x n) ∙ ap (λ (k : ℕ). cond (eq v x) k 0) (length-replicate n x)

  count_others : (v x : T) (X : List T) (b : Bool) → eq v x ≡ b → count eq v (others eq x X) ≡ cond b 0 (count eq v X)
  count_others v x X true same = count_congr laws (others eq x X) v x same ∙ sym (length-filter (eq x) (others eq x X)) ∙ ap (λ (l : List T). length l) (none_of_others (eq x) X)
  count_others v x X false other = count_in_others laws x v X (laws.symm x v ∙ other)

  count_alike_left : (v x : T) (n : ℕ) (X : List T) → count eq v (drop n (alike eq x X)) ≡ cond (eq v x) (count eq x X - n) 0
  count_alike_left v x n X =
      count_copies v x (drop n (alike eq x X)) (all_to_recursion (λ y. eq x y ≡ true) (drop n (alike eq x X)) (All-drop (λ y. eq x y ≡ true) n _ (filter_passes (eq x) X)))
      ∙ ap (λ (k : ℕ). cond (eq v x) k 0) (length-drop n (alike eq x X) ∙ ap (λ (k : ℕ). k - n) (length-filter (eq x) X))

  one_of_two : (b : Bool) (k m c d : ℕ) → c ≡ cond b 0 m → d ≡ cond b k 0 → c + d ≡ cond b k m
  one_of_two true k m c d first second = omega arith
  one_of_two false k m c d first second = omega arith

  -- where all that equal x make way for a list Z of such, each value that equals x occurs as often as in Z
  count_beside : (v x : T) (k : ℕ) (X Z : List T) (b : Bool) → eq v x ≡ b → count eq v Z ≡ cond (eq v x) k 0 → count eq v (others eq x X ++ Z) ≡ cond b k (count eq v X)
  count_beside v x k X Z b is copies =
      count_append laws v (others eq x X) Z ∙ one_of_two b k (count eq v X) _ _ (count_others v x X b is) (copies ∙ ap (λ (b : Bool). cond b k 0) is)

  count_less_at : (v x : T) (n : ℕ) (X : List T) (b : Bool) → eq v x ≡ b → count eq v (less eq x n X) ≡ cond b (count eq v X - n) (count eq v X)
  count_less_at v x n X true same = count_beside v x (count eq x X - n) X (drop n (alike eq x X)) true same (count_alike_left v x n X) ∙ ap (λ (k : ℕ). k - n) (sym (count_congr laws X v x same))
  count_less_at v x n X false other = count_beside v x (count eq x X - n) X (drop n (alike eq x X)) false other (count_alike_left v x n X)

  -- n fewer of x are n fewer of each value that equals x
  pub count_less : (v x : T) (n : ℕ) (X : List T) → count eq v (less eq x n X) ≡ cond (eq v x) (count eq v X - n) (count eq v X)
  count_less v x n X = count_less_at v x n X (eq v x) refl

  count_put_at : (v x : T) (n : ℕ) (X : List T) (b : Bool) → eq v x ≡ b → count eq v (put eq x n X) ≡ cond b n (count eq v X)
  count_put_at v x n X b is = count_beside v x n X (replicate n x) b is (count_replicate v x n)

  -- n of x in the place of all that equal it are n of each value that equals x
  pub count_put : (v x : T) (n : ℕ) (X : List T) → count eq v (put eq x n X) ≡ cond (eq v x) n (count eq v X)
  count_put v x n X = count_put_at v x n X (eq v x) refl

  -- the same where the stored instance of x is what stands there
  pub count_put_instance : (v x : T) (n : ℕ) (X : List T) → count eq v (put eq (instance_or_itself eq x X) n X) ≡ cond (eq v x) n (count eq v X)
  count_put_instance v x n X =
      let i = instance_or_itself eq x X in
      let same : eq v i ≡ eq v x = laws.symm v i ∙ sym (laws.congr x i v (instance_equals laws x X)) ∙ laws.symm x v in
      count_put v i n X ∙ ap (λ (b : Bool). cond b n (count eq v X)) same

  -- ---- keys

  -- if the key names v (`does`), what it names occurs as often as v. `one` is the key's law `names_one`
  pub count_of_key : (v : T) (names : T → Bool) → ((x w : T) → names x ≡ true → names w ≡ eq w x) → names v ≡ true → (X : List T) → count_named names X ≡ count eq v X
  count_of_key v names one does X = ap (λ (test : T → Bool). count_named test X) (named_is eq laws names one v does)

  -- a removal by a key that names x is one of x, so that a proof goes on as at `&x`. `one` is the key's law `names_one`
  pub less_of_key : (x : T) (names : T → Bool) → ((y w : T) → names y ≡ true → names w ≡ eq w y) → names x ≡ true → (n : ℕ) (X : List T) → less_named names n X ≡ less eq x n X
  less_of_key x names one does n X = ap (λ (test : T → Bool). less_named test n X) (named_is eq laws names one x does)

  -- ---- bags

  module _ {S : Type 0} (before after : Bag T S) where
    -- any call: the bag has the counts of each list X that it means, as by `IsBagOf`
    pub count_means : (v : T) (X : List T) → Means after X → count eq v after.items ≡ count eq v X
    count_means v X means = sym (count_rearranged laws v X after.items means)

    -- after `reserve`, `use_spare`, `shrink_to_fit`, `finish_carry` (`items`): each count is what it was
    pub count_kept : (v : T) → IsBagOf eq before before.items after → count eq v after.items ≡ count eq v before.items
    count_kept v h = count_means v before.items h.means

    -- after `insert`, `insert_many` (`added` of `inserted`), or an entry that inserted (`added` of `vacant`): x occurs n times more
    pub count_inserted : (x : T) (n : ℕ) → IsBagOf eq before (add eq x n before.items) after → count eq x after.items ≡ count eq x before.items + n
    count_inserted x n h = count_means x (add eq x n before.items) h.means ∙ count_added laws x x n before.items ∙ ap (λ (b : Bool). count eq x before.items + cond b n 0) (laws.refl x)

    -- after an insertion of x, if v doesn't equal it: v occurs as often as before
    pub count_inserted_other : (v x : T) (n : ℕ) → IsBagOf eq before (add eq x n before.items) after → eq v x ≡ false → count eq v after.items ≡ count eq v before.items
    count_inserted_other v x n h other =
        let all = count_means v (add eq x n before.items) h.means in
        let more : count eq v (add eq x n before.items) ≡ count eq v before.items + 0 = count_added laws v x n before.items ∙ ap (λ (b : Bool). count eq v before.items + cond b n 0) other in
        omega arith

    -- after the same, of every value v: n times more if v equals x, else as often as before
    pub count_inserted_any : (v x : T) (n : ℕ) → IsBagOf eq before (add eq x n before.items) after → count eq v after.items ≡ count eq v before.items + cond (eq v x) n 0
    count_inserted_any v x n h = count_means v (add eq x n before.items) h.means ∙ count_added laws v x n before.items

    -- after `insert_key`, `insert_many_key` (`inserted`): n times more if the key names v, else as often as before. `one` is the key's law
    -- `names_one`
    pub count_inserted_key : (v : T) (names : T → Bool) (n : ℕ) → ((x w : T) → names x ≡ true → names w ≡ eq w x) → InsertsNamed eq names n before after → count eq v after.items ≡ count eq v before.items + cond (names v) n 0
    count_inserted_key v names n one h = count_inserted_any v h.0 n h.2.added ∙ ap (λ (b : Bool). count eq v before.items + cond b n 0) (sym (one h.0 v h.1))

    -- after `remove`, `remove_up_to`, `take_one`, `take_all` (`left` of `fewer`): x occurs n times less, or not at all
    pub count_removed : (x : T) (n : ℕ) → IsBagOf eq before (less eq x n before.items) after → count eq x after.items ≡ count eq x before.items - n
    count_removed x n h = count_means x (less eq x n before.items) h.means ∙ count_less_at x x n before.items true (laws.refl x)

    -- after a removal of x, if v doesn't equal it: v occurs as often as before
    pub count_removed_other : (v x : T) (n : ℕ) → IsBagOf eq before (less eq x n before.items) after → eq v x ≡ false → count eq v after.items ≡ count eq v before.items
    count_removed_other v x n h other = count_means v (less eq x n before.items) h.means ∙ count_less_at v x n before.items false other

    -- after the same, of every value v: n times less, or not at all, if v equals x, else as often as before
    pub count_removed_any : (v x : T) (n : ℕ) → IsBagOf eq before (less eq x n before.items) after → count eq v after.items ≡ cond (eq v x) (count eq v before.items - n) (count eq v before.items)
    count_removed_any v x n h = count_means v (less eq x n before.items) h.means ∙ count_less v x n before.items

    -- after a removal by a key that names x (`does`): x occurs n times less, or not at all. `one` is the key's law `names_one`
    pub count_removed_key : (x : T) (names : T → Bool) (n : ℕ) → ((y w : T) → names y ≡ true → names w ≡ eq w y) → names x ≡ true → IsBagOf eq before (less_named names n before.items) after → count eq x after.items ≡ count eq x before.items - n
    count_removed_key x names n one does h =
        count_means x (less_named names n before.items) h.means ∙ ap (λ (X : List T). count eq x X) (less_of_key x names one does n before.items) ∙ count_less_at x x n before.items true (laws.refl x)

    -- after `replace` (`stored` of `replaced`): x occurs n times, here once
    pub count_replaced : (x : T) (n : ℕ) → IsBagOf eq before (put eq x n before.items) after → count eq x after.items ≡ n
    count_replaced x n h = count_means x (put eq x n before.items) h.means ∙ count_put_at x x n before.items true (laws.refl x)

    -- after `replace` by x, if v doesn't equal it: v occurs as often as before
    pub count_replaced_other : (v x : T) (n : ℕ) → IsBagOf eq before (put eq x n before.items) after → eq v x ≡ false → count eq v after.items ≡ count eq v before.items
    count_replaced_other v x n h other = count_means v (put eq x n before.items) h.means ∙ count_put_at v x n before.items false other

    -- after `set_count` (`set`), or an `and_modify` that left n (`changes`: `present`, `absent`): x occurs n times
    pub count_set : (x : T) (n : ℕ) → IsBagOf eq before (put eq (instance_or_itself eq x before.items) n before.items) after → count eq x after.items ≡ n
    count_set x n h =
        count_means x (put eq (instance_or_itself eq x before.items) n before.items) h.means ∙ count_put_instance x x n before.items ∙ ap (λ (b : Bool). cond b n (count eq x before.items)) (laws.refl x)

    -- after a call that set the count of x, if v doesn't equal it: v occurs as often as before
    pub count_set_other : (v x : T) (n : ℕ) → IsBagOf eq before (put eq (instance_or_itself eq x before.items) n before.items) after → eq v x ≡ false → count eq v after.items ≡ count eq v before.items
    count_set_other v x n h other =
        count_means v (put eq (instance_or_itself eq x before.items) n before.items) h.means ∙ count_put_instance v x n before.items ∙ ap (λ (b : Bool). cond b n (count eq v before.items)) other

  -- after extends and collections (`all` by `all_added`, `fails` by `some_added`): v occurs as often as in X, and as the numbers of the
  -- pairs whose value equals v add up to. X is what the bag had, [] for a collection
  pub count_extended : {S : Type 0} (v : T) (X : List T) (pairs : List (T × ℕ)) (after : Bag T S) → Means after (add_all eq X pairs) → count eq v after.items ≡ count eq v X + sum_by (λ p. cond (eq v p.0) p.1 0) pairs
  count_extended v X pairs after means = sym (count_rearranged laws v (add_all eq X pairs) after.items means) ∙ count_all_added laws v X pairs

  -- if each item is inserted once, the numbers of the pairs whose value equals v add up to its count in the list
  pub count_once : (v : T) (xs : List T) (pairs : List (T × ℕ)) → AllZip Once xs pairs → sum_by (λ p. cond (eq v p.0) p.1 0) pairs ≡ count eq v xs
  count_once v [] [] h = refl
  count_once v [] (p ∷ pairs) h = absurd h
  count_once v (x ∷ xs) [] h = absurd h
  count_once v (x ∷ xs) (p ∷ pairs) h =
      let sum = sum_by-cons (λ p. cond (eq v p.0) p.1 0) p pairs in
      let first : cond (eq v p.0) p.1 0 ≡ cond (eq v x) 1 0 = ap (λ (q : T × ℕ). cond (eq v q.0) q.1 0) h.0 in
      let parts = count_append laws v (x ∷ []) xs in
      let one : count eq v (x ∷ []) ≡ cond (eq v x) 1 0 = none_before _ in
      let later = count_once v xs pairs h.1 in
      omega arith

  -- the count in the first k + 1 items of a list, as a loop goes over it, from that in the first k
  pub count_take_next : (v : T) (xs : List T) (k : ℕ) (d : T) → k < length xs → count eq v (take (k + 1) xs) ≡ count eq v (take k xs) + cond (eq v (get_or xs k d)) 1 0
  count_take_next v xs k d below =
      ap (λ (l : List T). count eq v l) (take_more xs k d below) ∙ count_append laws v (take k xs) (get_or xs k d ∷ []) ∙ ap (λ (n : ℕ). count eq v (take k xs) + n) (none_before _)

  -- ---- equality

  -- `==`: bags with the same counts are equal
  pub equal_from_counts : {S : Type 0} (a b : Bag T S) → SameCounts eq a.items b.items → bag_eq eq a b ≡ true
  equal_from_counts a b same = (same_counts-Decides laws a.items b.items).1 same

  -- and so are bags that mean what the same insertions, in any two orders, made of one list
  pub equal_from_insertions : {S : Type 0} (a b : Bag T S) (X : List T) (pairs others : List (T × ℕ)) → IsPermutation pairs others → Means a (add_all eq X pairs) → Means b (add_all eq X others) → bag_eq eq a b ≡ true
  equal_from_insertions a b X pairs others order first second =
      equal_from_counts a b (λ v. sym (count_rearranged laws v (add_all eq X pairs) a.items first) ∙ insertions_in_any_order laws X pairs others order v ∙ count_rearranged laws v (add_all eq X others) b.items second)

  -- ---- differences

  -- of a `difference`: a value of which X has more than Y is listed with its excess
  pub excess_listed : (X Y : List T) (E : List (T × ℕ)) → IsDifference eq X Y E → (v : T) → 0 < count eq v X - count eq v Y → (x : T) × Contains E (x, count eq v X - count eq v Y)
  excess_listed X Y E h v some =
      let found = an_instance laws v X (omega arith) in
      let x = found.0 in
      let in_X = count_congr laws X v x found.2 in
      let in_Y = count_congr laws Y v x found.2 in
      (x, (h.exactly x (count eq v X - count eq v Y)).1 (found.1, (λ i. in_X i - in_Y i), some))

  -- of a `difference`: if nothing is listed, X has no more of any value than Y
  pub none_listed : (X Y : List T) (E : List (T × ℕ)) → IsDifference eq X Y E → E ≡ [] → (v : T) → count eq v X ≤ count eq v Y
  none_listed X Y E h none v = by_excess (count eq v X - count eq v Y) refl
    where
      by_excess : (n : ℕ) → count eq v X - count eq v Y ≡ n → count eq v X ≤ count eq v Y
      by_excess zero e = omega arith
      by_excess (suc n) e = let there = excess_listed X Y E h v (omega arith) in absurd (not_in_nil _ (Contains-same E [] _ none there.1))

  -- of a `difference`: X has more of what is listed than Y
  pub listed_exceeds : (X Y : List T) (E : List (T × ℕ)) → IsDifference eq X Y E → (e : T × ℕ) → Contains E e → count eq e.0 Y < count eq e.0 X
  listed_exceeds X Y E h e there =
      let is = (h.exactly e.0 e.1).0 there in
      let n = is.1 in
      let some = is.2 in
      omega arith

  -- ---- what a closure leaves that decides by the value alone

  set_walk_distinct : (X : List T) (W : List (T × ℕ)) → IsSetWalk eq X W → IsDistinct eq (keys_of W)
  set_walk_distinct X W walk =
      let keys : keys_of W ≡ walk.values = ap (λ (l : List (T × ℕ)). keys_of l) walk.counts ∙ map-map (λ v. (v, count eq v X)) (λ e. e.0) walk.values ∙ map-id walk.values in
      subst (λ (l : List T). IsDistinct eq l) (sym keys) walk.each.once

  module _ (many : T → ℕ) (congr : (u v : T) → eq u v ≡ true → many u ≡ many v) where
    entry_kept : (b : Bool) (v : T) (m : ℕ) (es : List (T × ℕ)) → nat_lt 0 m ≡ b → occurrences (cond b ((v, m) ∷ es) es) ≡ replicate m v ++ occurrences es
    entry_kept true v m es e = refl
    entry_kept false v m es e =
        let above = ltb-false 0 m e in
        let none : m ≡ 0 = omega arith in
        sym (ap (λ (k : ℕ). replicate k v ++ occurrences es) none)

    -- m copies of x before a list
    copies_before : (v x : T) (m : ℕ) (X : List T) (b : Bool) → eq v x ≡ b → count eq v (replicate m x ++ X) ≡ cond b m 0 + count eq v X
    copies_before v x m X b is = count_append laws v (replicate m x) X ∙ ap (λ (k : ℕ). k + count eq v X) (count_replicate v x m ∙ ap (λ (b : Bool). cond b m 0) is)

    kept_step : (v : T) (e : T × ℕ) (es rest : List (T × ℕ)) (b : Bool) → eq v e.0 ≡ b → count eq e.0 (occurrences es) ≡ 0 → count eq v (occurrences rest) ≡ min (many v) (count eq v (occurrences es))
        → count eq v (replicate (min (many e.0) e.1) e.0 ++ occurrences rest) ≡ min (many v) (count eq v (replicate e.1 e.0 ++ occurrences es))
    kept_step v e es rest b is absent later =
        rw (copies_before v e.0 (min (many e.0) e.1) (occurrences rest) b is, copies_before v e.0 e.1 (occurrences es) b is) (by_test b is)
      where
        by_test : (b : Bool) → eq v e.0 ≡ b → cond b (min (many e.0) e.1) 0 + count eq v (occurrences rest) ≡ min (many v) (cond b e.1 0 + count eq v (occurrences es))
        by_test true same =
            let none : count eq v (occurrences es) ≡ 0 = count_congr laws (occurrences es) v e.0 same ∙ absent in
            let quota = congr v e.0 same in
            omega arith
        by_test false other = omega arith

    none_left : (n : ℕ) → 0 ≡ min n 0
    none_left n = omega arith

    count_of_kept : (v : T) (W : List (T × ℕ)) → IsDistinct eq (keys_of W) → count eq v (occurrences (retained_entries W (map (λ e. many e.0) W))) ≡ min (many v) (count eq v (occurrences W))
    count_of_kept v [] distinct = none_left (many v)
    count_of_kept v (e ∷ W) distinct =
        ap (λ (l : List T). count eq v l) (entry_kept (nat_lt 0 (min (many e.0) e.1)) e.0 (min (many e.0) e.1) (retained_entries W (map (λ e. many e.0) W)) refl)
        ∙ kept_step v e W (retained_entries W (map (λ e. many e.0) W)) (eq v e.0) refl (absent_later laws e W distinct) (count_of_kept v W (IsDistinct-tail eq e.0 (keys_of W) distinct))

    -- after `retain` (`retained`): the lesser of the count before and `many v`, if the closure returns `many` of the value alone, as
    -- `answers_are` of `RetainLemmas` shows
    pub count_retained : {F S : Type 0} (g : Mut F (Bor T × (ℕ × Unit {0})) ℕ) (f : F) (before after : Bag T S) (done : IsRetained eq g f before after) → done.returned ≡ map (λ e. many e.0) done.walk
        → (v : T) → count eq v after.items ≡ min (many v) (count eq v before.items)
    count_retained g f before after done are v =
        count_means before after v (occurrences (retained_entries done.walk done.returned)) done.left.means ∙ ap (λ (a : List ℕ). count eq v (occurrences (retained_entries done.walk a))) are
        ∙ count_of_kept v done.walk (set_walk_distinct before.items done.walk (done.set_walk.walk before.items (IsPermutation-refl _)))
        ∙ ap (λ (n : ℕ). min (many v) n) (count_rearranged laws v (occurrences done.walk) before.items done.set_walk.means)

  -- after an `extend` by a known list xs, or `from_iter` (`all`): v occurs as often more as in xs
  pub count_listed : {S I : Type 0} {steps : I → Option T → I → Type 0} {it : I} (before after : Bag T S) (xs : List T) → InsertsAll eq steps Once it before after → YieldsList steps (λ x. x) it xs
      → (v : T) → count eq v after.items ≡ count eq v before.items + count eq v xs
  count_listed before after xs all yields v =
      let came = sym (map-id all.items) ∙ items_that_came all.items all.yielded yields in
      let whole = count_extended v before.items all.pairs after (all_added laws all).means in
      let each = count_once v all.items all.pairs all.as_pairs ∙ ap (λ (l : List T). count eq v l) came in
      omega arith

  moved_at : (b : Bool) (f f' t t' n : ℕ) → (b ≡ true → n ≤ f) → f' ≡ cond b (f - n) f → t' ≡ t + cond b n 0 → f' + t' ≡ f + t
  moved_at true f f' t t' n some less more = let least = some refl in omega arith
  moved_at false f f' t t' n some less more = omega arith

  -- after a removal of n of x from one bag, which had them (`left` of `fewer`), and an insertion of n of an equal y into another (`added` of
  -- `inserted`): both together have v as often as before
  pub count_moved : {S S2 : Type 0} (from from' : Bag T S) (to to' : Bag T S2) (v x y : T) (n : ℕ) → eq x y ≡ true
      → n ≤ count eq x from.items → IsBagOf eq from (less eq x n from.items) from' → IsBagOf eq to (add eq y n to.items) to'
      → count eq v from'.items + count eq v to'.items ≡ count eq v from.items + count eq v to.items
  count_moved from from' to to' v x y n alike some less more =
      let went = count_inserted_any to to' v y n more ∙ ap (λ (b : Bool). count eq v to.items + cond b n 0) (laws.symm v y ∙ sym (laws.congr x y v alike) ∙ laws.symm x v) in
      moved_at (eq v x) _ _ _ _ n (λ same. let equal = count_congr laws from.items v x same in omega arith) (count_removed_any from from' v x n less) went

-- after the next `remove` of a loop over a list: as many less than at the start as the list so far has (`seen`), or none
pub left_after : (b : Bool) (start old new seen seen' : ℕ) → old ≡ start - seen → new ≡ cond b (old - 1) old → seen' ≡ seen + cond b 1 0 → new ≡ start - seen'
left_after true start old new seen seen' before gone next = omega arith
left_after false start old new seen seen' before gone next = omega arith
