-- Lists of occurrences up to their order, and the occurrences of a finite map.
use Rattle.std.proofs.Common.{◌≡◌, ℕ, zero, suc, ◌<◌, ◌≤◌, ◌+◌, ◌-◌, ltb, Bool, true, false, cond, not, List, [], ◌∷◌, ◌++◌, length, replicate, drop, slice_get, All, Option, Some, None, option_map, unwrap_or, IfSome, refl, sym, ◌∙◌, ap, subst, append_assoc, arith, slice_index_or, IsSome, min}
use borrow.Author.Tests.{ltb-true, ltb-false}
use Rattle.std.specs.Cmp.{IsEquivalence}
use Rattle.std.specs.List.{IsDistinct, AllByRecursion}
use Rattle.std.specs.List.Sorted.{IsPermutation}
use Rattle.std.specs.Map.{keys_of, lookup, lookup_entry, lookup_key}
use Rattle.std.proofs.lemmas.List.{append-nil, nil_from_length, drop_all, length-replicate, length-append, length-drop, drop-replicate, replicate-append-replicate}
use Rattle.std.proofs.lemmas.List.Sums.{length-filter, count_by-le-length}
use Rattle.std.proofs.lemmas.List.Elements.{filter_agree, filter-append, All-filter, filter_passes, All-append, All-replicate, All-nil, All-weaker}
use Rattle.std.proofs.lemmas.List.Sorted.{IsPermutation-sym, IsPermutation-trans, IsPermutation-append_left, IsPermutation-append_comm, All-permutation, length_permutation, sum_by-IsPermutation, IsPermutation-filter_both}
use Rattle.std.proofs.lemmas.Map.{lookup-none}
use Rattle.std.proofs.lemmas.Map.Made.{lookup_key_passes}
use Rattle.std.proofs.lemmas.Map.Entries.{none_past_head}
use Rattle.std.proofs.lemmas.Map.Views.{IfSome-lookup_from_All}
use Rattle.std.proofs.lemmas.Bool.{false≢true}
use Rattle.std.proofs.lemmas.Map.Keys.{IsDistinct-head, IsDistinct-tail}
use Rattle.hashbag_table.specs.Entries.{count_of, stored_or_itself, without, with_count, with_fewer, IsCounted}
use Rattle.hashbag_table.proofs.EntryLemmas.{entry_none_from_lookup, without_absent, lookup-entry, lookup_key-entry, with_fewer-some, with_fewer-all}
use Rattle.hashbag_core.specs.Occurrences.{greatest_total, alike, others, count, instance, instance_or_itself, add, less, put, recount, IsBag}
use Rattle.hashbag_core.specs.Bag.{occurrences, IsTallied}
use Rattle.hashbag_table.proofs.ListLemmas.{IsPermutation-same, IsPermutation-flat_map, IsPermutation-filter, find-filter, filter-replicate, all_same_rearranged}

-- the occurrences of a map whatever the order of its entries
pub occurrences_rearranged : {T : Type 0} (es fs : List (T × ℕ)) → IsPermutation es fs → IsPermutation (occurrences es) (occurrences fs)
occurrences_rearranged {T} es fs h = IsPermutation-flat_map (λ (e : T × ℕ). replicate e.1 e.0) es fs h

module _ {T : Type 0} {eq : T → T → Bool} (laws : IsEquivalence eq) where
  -- ---- lists up to their order

  -- the items of a bag that are equal to v are all the same
  pub alike_same_instance : {most : ℕ} → (v : T) (X : List T) → IsBag eq most X → All (λ x. All (λ y. x ≡ y) (alike eq v X)) (alike eq v X)
  alike_same_instance v X bag = λ k d at.
      let x = slice_index_or (alike eq v X) k d in
      let passes : eq v x ≡ true = filter_passes (eq v) X k d at in
      let one : All (λ y. eq x y ≡ true → x ≡ y) (alike eq v X) = All-filter (eq v) (λ y. eq x y ≡ true → x ≡ y) X (All-filter (eq v) (λ x. All (λ y. eq x y ≡ true → x ≡ y) X) X bag.one_instance k d at) in
      λ j e under. one j e under (sym (laws.congr v x (slice_index_or (alike eq v X) j e) passes) ∙ filter_passes (eq v) X j e under)

  -- they are the same list whatever the order of the bag's list
  pub alike_rearranged : {most : ℕ} → (v : T) (X Y : List T) → IsBag eq most X → IsPermutation X Y → alike eq v X ≡ alike eq v Y
  alike_rearranged v X Y bag h = all_same_rearranged _ _ (alike_same_instance v X bag) (IsPermutation-filter (eq v) X Y h)

  pub count_rearranged : (v : T) (X Y : List T) → IsPermutation X Y → count eq v X ≡ count eq v Y
  count_rearranged v X Y h = sym (sum_by-IsPermutation _ X Y h)

  pub instance_rearranged : {most : ℕ} → (v : T) (X Y : List T) → IsBag eq most X → IsPermutation X Y → instance eq v X ≡ instance eq v Y
  instance_rearranged v X Y bag h = find-filter (eq v) X ∙ ap (λ l. slice_get l 0) (alike_rearranged v X Y bag h) ∙ sym (find-filter (eq v) Y)

  pub add_rearranged : {most : ℕ} → (v : T) (n : ℕ) (X Y : List T) → IsBag eq most X → IsPermutation X Y → IsPermutation (add eq v n X) (add eq v n Y)
  add_rearranged v n X Y bag h =
      subst (λ (i : Option T). IsPermutation (add eq v n X) (Y ++ replicate n (unwrap_or i v))) (instance_rearranged v X Y bag h) (IsPermutation-append_left _ _ _ h)

  pub less_rearranged : {most : ℕ} → (v : T) (n : ℕ) (X Y : List T) → IsBag eq most X → IsPermutation X Y → IsPermutation (less eq v n X) (less eq v n Y)
  less_rearranged v n X Y bag h =
      subst (λ (l : List T). IsPermutation (less eq v n X) (others eq v Y ++ drop n l)) (alike_rearranged v X Y bag h) (IsPermutation-append_left _ _ _ (IsPermutation-filter _ X Y h))

  pub put_rearranged : (v : T) (n : ℕ) (X Y : List T) → IsPermutation X Y → IsPermutation (put eq v n X) (put eq v n Y)
  put_rearranged v n X Y h = IsPermutation-append_left _ _ _ (IsPermutation-filter _ X Y h)

  pub bag_rearranged : {most : ℕ} → (X Y : List T) → IsPermutation X Y → IsBag eq most X → IsBag eq most Y
  bag_rearranged X Y h bag = record {
    one_instance = All-permutation (λ x. All (λ y. eq x y ≡ true → x ≡ y) Y) X Y h (All-weaker (λ x. All (λ y. eq x y ≡ true → x ≡ y) X) (λ x. All (λ y. eq x y ≡ true → x ≡ y) Y) (λ x one. All-permutation (λ y. eq x y ≡ true → x ≡ y) X Y h one) X bag.one_instance);
    fits = rw (length_permutation X Y h) bag.fits;
  }

  -- ---- the occurrences of a map

  absent_past_head : (v : T) (e : T × ℕ) (es : List (T × ℕ)) → IsDistinct eq (keys_of (e ∷ es)) → eq v e.0 ≡ true → lookup (eq v) es ≡ None
  absent_past_head v e es distinct h = lookup-none (eq v) es (none_past_head laws v e es distinct h)

  alike_step : (v : T) (e : T × ℕ) (es : List (T × ℕ)) → (b : Bool) → (b ≡ true → lookup (eq v) es ≡ None)
      → alike eq v (occurrences es) ≡ replicate (count_of eq v es) (stored_or_itself eq v es)
      → cond b (replicate e.1 e.0) [] ++ alike eq v (occurrences es) ≡ replicate (unwrap_or (cond b (Some e.1) (lookup (eq v) es)) 0) (unwrap_or (cond b (Some e.0) (lookup_key (eq v) es)) v)
  alike_step v e es true none h =
      let empty : count_of eq v es ≡ 0 = ap (λ (o : Option ℕ). unwrap_or o 0) (none refl) in
      ap (λ l. replicate e.1 e.0 ++ l) (h ∙ ap (λ (n : ℕ). replicate n (stored_or_itself eq v es)) empty) ∙ append-nil _
  alike_step v e es false none h = h

  -- what is equal to v is v's stored instance, as often as its count
  pub alike_occurrences : (v : T) (es : List (T × ℕ)) → IsDistinct eq (keys_of es) → alike eq v (occurrences es) ≡ replicate (count_of eq v es) (stored_or_itself eq v es)
  alike_occurrences v [] distinct = refl
  alike_occurrences v (e ∷ es) distinct =
      filter-append (eq v) (replicate e.1 e.0) (occurrences es) ∙ ap (λ l. l ++ alike eq v (occurrences es)) (filter-replicate (eq v) e.1 e.0)
      ∙ alike_step v e es (eq v e.0) (absent_past_head v e es distinct) (alike_occurrences v es (IsDistinct-tail eq _ _ distinct))

  others_step : (v : T) (e : T × ℕ) (es : List (T × ℕ)) → (b : Bool) → (b ≡ true → lookup (eq v) es ≡ None)
      → others eq v (occurrences es) ≡ occurrences (without eq v es)
      → cond (not b) (replicate e.1 e.0) [] ++ others eq v (occurrences es) ≡ occurrences (cond b es (e ∷ without eq v es))
  others_step v e es true none h = h ∙ ap occurrences (without_absent (eq v) es (entry_none_from_lookup (eq v) es (none refl)))
  others_step v e es false none h = ap (λ l. replicate e.1 e.0 ++ l) h

  -- what is not, is what the map without v holds
  pub others_occurrences : (v : T) (es : List (T × ℕ)) → IsDistinct eq (keys_of es) → others eq v (occurrences es) ≡ occurrences (without eq v es)
  others_occurrences v [] distinct = refl
  others_occurrences v (e ∷ es) distinct =
      filter-append (λ x. not (eq v x)) (replicate e.1 e.0) (occurrences es) ∙ ap (λ l. l ++ others eq v (occurrences es)) (filter-replicate (λ x. not (eq v x)) e.1 e.0)
      ∙ others_step v e es (eq v e.0) (absent_past_head v e es distinct) (others_occurrences v es (IsDistinct-tail eq _ _ distinct))

  -- the count in the list is the count in the map
  pub count_occurrences : (v : T) (es : List (T × ℕ)) → IsDistinct eq (keys_of es) → count eq v (occurrences es) ≡ count_of eq v es
  count_occurrences v es distinct = sym (length-filter (eq v) (occurrences es)) ∙ ap (λ (l : List T). length l) (alike_occurrences v es distinct) ∙ length-replicate _ _

  first_copy : (c : ℕ) (x : T) → 0 < c → slice_get (replicate c x) 0 ≡ Some x
  first_copy zero x h = absurd (omega arith)
  first_copy (suc c) x h = refl

  -- an entry that is found is found with its number, which isn't 0
  found_some : (v : T) (es : List (T × ℕ)) (e : T × ℕ) → IsCounted eq es → lookup_entry (eq v) es ≡ Some e → (lookup (eq v) es ≡ Some e.1) × (0 < e.1)
  found_some v es e counted p =
      let found : lookup (eq v) es ≡ Some e.1 = lookup-entry (eq v) es ∙ ap (option_map (λ (e : T × ℕ). e.1)) p in
      (found, subst (λ (o : Option ℕ). IfSome o (λ n. 0 < n)) found (IfSome-lookup_from_All (λ n. 0 < n) (eq v) es counted.positive))

  -- the instance in the list is the one that the map stores
  pub instance_occurrences : (v : T) (es : List (T × ℕ)) → IsCounted eq es → instance eq v (occurrences es) ≡ lookup_key (eq v) es
  instance_occurrences v es counted = find-filter (eq v) (occurrences es) ∙ ap (λ (l : List T). slice_get l 0) (alike_occurrences v es counted.distinct) ∙ first (lookup_entry (eq v) es) refl
    where
      first : (o : Option (T × ℕ)) → lookup_entry (eq v) es ≡ o → slice_get (replicate (count_of eq v es) (stored_or_itself eq v es)) 0 ≡ lookup_key (eq v) es
      first None p =
          let none : count_of eq v es ≡ 0 = ap (λ (o : Option ℕ). unwrap_or o 0) (lookup-entry (eq v) es ∙ ap (option_map (λ (e : T × ℕ). e.1)) p) in
          ap (λ (n : ℕ). slice_get (replicate n (stored_or_itself eq v es)) 0) none ∙ sym (lookup_key-entry (eq v) es ∙ ap (option_map (λ (e : T × ℕ). e.0)) p)
      first (Some e) p =
          let found = found_some v es e counted p in
          let key : lookup_key (eq v) es ≡ Some e.0 = lookup_key-entry (eq v) es ∙ ap (option_map (λ (e : T × ℕ). e.0)) p in
          ap (λ (o : Option ℕ). slice_get (replicate (unwrap_or o 0) (stored_or_itself eq v es)) 0) found.0 ∙ first_copy e.1 _ found.1 ∙ ap (λ (o : Option T). Some (unwrap_or o v)) key ∙ sym key

  -- a map's occurrences are those of v and those of the map without v
  occurrences_parts : (v : T) (es : List (T × ℕ)) → IsCounted eq es → IsPermutation (occurrences es) (replicate (count_of eq v es) (stored_or_itself eq v es) ++ occurrences (without eq v es))
  occurrences_parts v es counted =
      subst (λ (l : List T). IsPermutation (occurrences es) (l ++ occurrences (without eq v es))) (alike_occurrences v es counted.distinct)
      (subst (λ (l : List T). IsPermutation (occurrences es) (alike eq v (occurrences es) ++ l)) (others_occurrences v es counted.distinct)
      (IsPermutation-filter_both (eq v) (λ x. not (eq v x)) (λ x. refl) (occurrences es)))

  -- n more of v in the map are n more in the list
  pub add_occurrences : (v : T) (n : ℕ) (es fs : List (T × ℕ)) → IsCounted eq es → IsPermutation (with_count eq v (count_of eq v es + n) es) fs → IsPermutation (add eq v n (occurrences es)) (occurrences fs)
  add_occurrences v n es fs counted h =
      let i = stored_or_itself eq v es in
      let c = count_of eq v es in
      let rest = occurrences (without eq v es) in
      let front : replicate n i ++ (replicate c i ++ rest) ≡ replicate (c + n) i ++ rest =
      sym (append_assoc (replicate n i) (replicate c i) rest) ∙ ap (λ (l : List T). l ++ rest) (replicate-append-replicate n c i) ∙ ap (λ (k : ℕ). replicate k i ++ rest) (omega arith) in
      subst (λ (o : Option T). IsPermutation (occurrences es ++ replicate n (unwrap_or o v)) (occurrences fs)) (sym (instance_occurrences v es counted))
      (IsPermutation-trans _ _ _ (IsPermutation-append_left (replicate n i) _ _ (occurrences_parts v es counted))
      (IsPermutation-trans _ _ _ (IsPermutation-append_comm (replicate c i ++ rest) (replicate n i))
      (IsPermutation-trans _ _ _ (IsPermutation-same _ _ front) (IsPermutation-flat_map (λ (e : T × ℕ). replicate e.1 e.0) _ _ h))))

  -- what is the entries but for v and n of w behind them, is that with n of w before them
  behind : (v w : T) (n : ℕ) (es fs : List (T × ℕ)) (X : List T) → X ≡ occurrences (without eq v es) ++ replicate n w → IsPermutation ((w, n) ∷ without eq v es) fs → IsPermutation X (occurrences fs)
  behind v w n es fs X is h =
      IsPermutation-trans _ _ _ (IsPermutation-same _ _ is)
      (IsPermutation-trans _ _ _ (IsPermutation-append_comm (occurrences (without eq v es)) (replicate n w)) (occurrences_rearranged _ _ h))

  less_is : (v : T) (n : ℕ) (es : List (T × ℕ)) → IsCounted eq es → less eq v n (occurrences es) ≡ occurrences (without eq v es) ++ replicate (count_of eq v es - n) (stored_or_itself eq v es)
  less_is v n es counted =
      ap (λ (l : List T). l ++ drop n (alike eq v (occurrences es))) (others_occurrences v es counted.distinct)
      ∙ ap (λ (l : List T). occurrences (without eq v es) ++ l) (ap (drop n) (alike_occurrences v es counted.distinct) ∙ drop-replicate n _ _)

  -- where some of v are left
  pub less_occurrences : (v : T) (n : ℕ) (es fs : List (T × ℕ)) → IsCounted eq es → IsPermutation (with_count eq v (count_of eq v es - n) es) fs → IsPermutation (less eq v n (occurrences es)) (occurrences fs)
  less_occurrences v n es fs counted h = behind v (stored_or_itself eq v es) (count_of eq v es - n) es fs _ (less_is v n es counted) h

  -- where none is left
  pub less_all_occurrences : (v : T) (n : ℕ) (es fs : List (T × ℕ)) → IsCounted eq es → count_of eq v es ≤ n → IsPermutation (without eq v es) fs → IsPermutation (less eq v n (occurrences es)) (occurrences fs)
  less_all_occurrences v n es fs counted all h =
      let none : count_of eq v es - n ≡ 0 = omega arith in
      IsPermutation-trans _ _ _ (IsPermutation-same _ _ (less_is v n es counted ∙ ap (λ (k : ℕ). occurrences (without eq v es) ++ replicate k (stored_or_itself eq v es)) none ∙ append-nil _))
      (IsPermutation-flat_map (λ (e : T × ℕ). replicate e.1 e.0) _ _ h)

  -- n fewer of v in the map are n fewer in the list
  pub fewer_occurrences : (v : T) (n : ℕ) (es fs : List (T × ℕ)) → IsCounted eq es → IsPermutation (with_fewer eq v n es) fs → IsPermutation (less eq v n (occurrences es)) (occurrences fs)
  fewer_occurrences v n es fs counted h = by_test (ltb n (count_of eq v es)) refl
    where
      by_test : (b : Bool) → ltb n (count_of eq v es) ≡ b → IsPermutation (less eq v n (occurrences es)) (occurrences fs)
      by_test true e = less_occurrences v n es fs counted (subst (λ (l : List (T × ℕ)). IsPermutation l fs) (with_fewer-some eq v n es (ltb-true _ _ e)) h)
      by_test false e = less_all_occurrences v n es fs counted (ltb-false _ _ e) (subst (λ (l : List (T × ℕ)). IsPermutation l fs) (with_fewer-all eq v n es (ltb-false _ _ e)) h)

  -- n of v in the place of all that are equal to it
  pub put_occurrences : (v : T) (n : ℕ) (es fs : List (T × ℕ)) → IsCounted eq es → IsPermutation ((v, n) ∷ without eq v es) fs → IsPermutation (put eq v n (occurrences es)) (occurrences fs)
  put_occurrences v n es fs counted h = behind v v n es fs _ (ap (λ (l : List T). l ++ replicate n v) (others_occurrences v es counted.distinct)) h

  pub all_occurrences : (P : T → Type 0) (es : List (T × ℕ)) → AllByRecursion P (keys_of es) → All P (occurrences es)
  all_occurrences P [] h = All-nil P
  all_occurrences P (e ∷ es) h = All-append P (replicate e.1 e.0) (occurrences es) (All-replicate P e.1 e.0 h.0) (all_occurrences P es h.1)

  one_instance_occurrences : (es : List (T × ℕ)) → IsDistinct eq (keys_of es) → All (λ x. All (λ y. eq x y ≡ true → x ≡ y) (occurrences es)) (occurrences es)
  one_instance_occurrences [] distinct = All-nil _
  one_instance_occurrences (e ∷ es) distinct =
      let k = e.0 in
      let copies = replicate e.1 e.0 in
      let rest = occurrences es in
      let apart : All (λ y. eq k y ≡ false) rest = all_occurrences (λ y. eq k y ≡ false) es (IsDistinct-head eq k (keys_of es) distinct) in
      let later = one_instance_occurrences es (IsDistinct-tail eq k (keys_of es) distinct) in
      let of_copies : All (λ y. eq k y ≡ true → k ≡ y) (copies ++ rest) = All-append (λ y. eq k y ≡ true → k ≡ y) copies rest (All-replicate (λ y. eq k y ≡ true → k ≡ y) e.1 k (λ same. refl)) (All-weaker (λ y. eq k y ≡ false) (λ y. eq k y ≡ true → k ≡ y) (λ y f t. absurd (false≢true (sym f ∙ t))) rest apart) in
      let of_rest : All (λ x. All (λ y. eq x y ≡ true → x ≡ y) (copies ++ rest)) rest = λ j d at.
      let x = slice_index_or rest j d in
      All-append (λ y. eq x y ≡ true → x ≡ y) copies rest (All-replicate (λ y. eq x y ≡ true → x ≡ y) e.1 k (λ t. absurd (false≢true (sym (apart j d at) ∙ laws.symm k x ∙ t)))) (later j d at) in
      All-append (λ x. All (λ y. eq x y ≡ true → x ≡ y) (copies ++ rest)) copies rest (All-replicate (λ x. All (λ y. eq x y ≡ true → x ≡ y) (copies ++ rest)) e.1 k of_copies) of_rest

  -- the occurrences of a map are a list that a bag may mean
  pub bag_occurrences : {most : ℕ} → (es : List (T × ℕ)) → IsCounted eq es → length (occurrences es) ≤ most → IsBag eq most (occurrences es)
  bag_occurrences es counted fits = record { one_instance = one_instance_occurrences es counted.distinct; fits = fits }

  -- ---- lengths

  pub length_added : (v : T) (n : ℕ) (X Y : List T) → IsPermutation (add eq v n X) Y → length Y ≡ length X + n
  length_added v n X Y h = length_permutation (add eq v n X) Y h ∙ length-append X (replicate n (unwrap_or (instance eq v X) v)) ∙ ap (λ (k : ℕ). length X + k) (length-replicate n _)

  length_split : (v : T) (X : List T) → length (alike eq v X) + length (others eq v X) ≡ length X
  length_split v X = sym (length-append (alike eq v X) (others eq v X)) ∙ length_permutation X _ (IsPermutation-filter_both (eq v) (λ x. not (eq v x)) (λ x. refl) X)

  pub length_less : (v : T) (n : ℕ) (X Y : List T) → IsPermutation (less eq v n X) Y → length Y + min n (count eq v X) ≡ length X
  length_less v n X Y h =
      let whole = length_split v X in
      let alike_count = length-filter (eq v) X in
      let parts : length Y ≡ length (others eq v X) + (length (alike eq v X) - n) =
      length_permutation (less eq v n X) Y h ∙ length-append (others eq v X) (drop n (alike eq v X)) ∙ ap (λ (k : ℕ). length (others eq v X) + k) (length-drop n (alike eq v X)) in
      omega arith

  -- a count is at most the length
  pub count_le : (v : T) (X : List T) → count eq v X ≤ length X
  count_le v X = count_by-le-length (eq v) X

  -- what an entry says of the count
  pub count_of_entry : (v : T) (es : List (T × ℕ)) (r : Option (T × ℕ)) → r ≡ lookup_entry (eq v) es → count_of eq v es ≡ unwrap_or (option_map (λ (e : T × ℕ). e.1) r) 0
  count_of_entry v es r p = ap (λ (o : Option ℕ). unwrap_or o 0) (lookup-entry (eq v) es) ∙ ap (λ (o : Option (T × ℕ)). unwrap_or (option_map (λ (e : T × ℕ). e.1) o) 0) (sym p)

  -- what has a count is there
  pub present_from_count : (v : T) (es : List (T × ℕ)) → 0 < count_of eq v es → IsSome (lookup_entry (eq v) es)
  present_from_count v es h = there (lookup_entry (eq v) es) refl
    where
      there : (o : Option (T × ℕ)) → lookup_entry (eq v) es ≡ o → IsSome o
      there None p = let none = count_of_entry v es None (sym p) in absurd (omega arith)
      there (Some e) p = refl

  -- what is absent isn't found; it is put as it is added, and so is what its count is set to
  pub none_found : (v : T) (X : List T) → count eq v X ≡ 0 → instance eq v X ≡ None
  none_found v X none = find-filter (eq v) X ∙ ap (λ (l : List T). slice_get l 0) (nil_from_length (alike eq v X) (length-filter (eq v) X ∙ none))

  -- then all are others
  all_others : (v : T) (X : List T) → count eq v X ≡ 0 → (alike eq v X ≡ []) × IsPermutation X (others eq v X)
  all_others v X none =
      let empty : alike eq v X ≡ [] = nil_from_length (alike eq v X) (length-filter (eq v) X ∙ none) in
      (empty, subst (λ (l : List T). IsPermutation X (l ++ others eq v X)) empty (IsPermutation-filter_both (eq v) (λ x. not (eq v x)) (λ x. refl) X))

  pub put_absent : (v : T) (n : ℕ) (X : List T) → count eq v X ≡ 0 → IsPermutation (put eq v n X) (add eq v n X)
  put_absent v n X none =
      subst (λ (o : Option T). IsPermutation (put eq v n X) (X ++ replicate n (unwrap_or o v))) (sym (none_found v X none)) (IsPermutation-append_left _ _ _ (IsPermutation-sym _ _ (all_others v X none).1))

  pub recount_absent : (v : T) (n : ℕ) (X : List T) → count eq v X ≡ 0 → IsPermutation (recount eq v n X) (add eq v n X)
  recount_absent v n X none = subst (λ (o : Option T). IsPermutation (put eq (unwrap_or o v) n X) (add eq v n X)) (sym (none_found v X none)) (put_absent v n X none)

  -- what has no count is absent
  pub absent_from_count : (v : T) (es : List (T × ℕ)) → IsCounted eq es → count_of eq v es ≡ 0 → lookup_entry (eq v) es ≡ None
  absent_from_count v es counted none = by_entry (lookup_entry (eq v) es) refl
    where
      by_entry : (o : Option (T × ℕ)) → lookup_entry (eq v) es ≡ o → o ≡ None
      by_entry None p = refl
      by_entry (Some e) p =
          let found = found_some v es e counted p in
          let some = found.1 in
          let number : count_of eq v es ≡ e.1 = ap (λ (o : Option ℕ). unwrap_or o 0) found.0 in
          absurd (omega arith)

  -- n of a value that was absent
  pub new_occurrences : (v : T) (n : ℕ) (es fs : List (T × ℕ)) → IsCounted eq es → count eq v (occurrences es) ≡ 0 → IsPermutation ((v, n) ∷ without eq v es) fs → IsPermutation (add eq v n (occurrences es)) (occurrences fs)
  new_occurrences v n es fs counted none h =
      IsPermutation-trans _ _ _ (IsPermutation-sym _ _ (put_absent v n (occurrences es) none)) (put_occurrences v n es fs counted h)

  -- what is absent can't be taken
  pub less_absent : (v : T) (n : ℕ) (X : List T) → count eq v X ≡ 0 → IsPermutation (less eq v n X) X
  less_absent v n X none =
      let all = all_others v X none in
      let same : less eq v n X ≡ others eq v X = ap (λ (l : List T). others eq v X ++ drop n l) all.0 ∙ ap (λ (l : List T). others eq v X ++ l) (drop_all n [] (omega arith)) ∙ append-nil _ in
      subst (λ (l : List T). IsPermutation l X) (sym same) (IsPermutation-sym _ _ all.1)

  pub bag_from_tally : {most : ℕ} → (es : List (T × ℕ)) (total : ℕ) → IsTallied eq es total most → IsBag eq most (occurrences es)
  bag_from_tally es total tally = bag_occurrences es tally.counted (let same = tally.sum in let fits = tally.fits in omega arith)

  pub fits_from_tally : {most : ℕ} → (es : List (T × ℕ)) (total : ℕ) → IsTallied eq es total most → length (occurrences es) ≤ greatest_total
  fits_from_tally es total tally = let same = tally.sum in let fits = tally.fits in let limit = tally.limit in omega arith

  -- n more in the map and in the total
  pub tally_added : {most : ℕ} → (v : T) (n : ℕ) (es fs : List (T × ℕ)) (total : ℕ) → IsTallied eq es total most → IsCounted eq fs → total + n ≤ most → IsPermutation (add eq v n (occurrences es)) (occurrences fs) → IsTallied eq fs (total + n) most
  tally_added v n es fs total tally counted fits h = record {
    sum = ap (λ (k : ℕ). k + n) tally.sum ∙ sym (length_added v n (occurrences es) (occurrences fs) h);
    fits = fits;
    limit = tally.limit;
    counted = counted;
  }

  -- the total is the count of a value and the others
  tally_split : {most : ℕ} → (v : T) (es : List (T × ℕ)) (total : ℕ) → IsTallied eq es total most → total ≡ count_of eq v es + length (others eq v (occurrences es))
  tally_split v es total tally =
      let whole = length_split v (occurrences es) in
      let alike_count = length-filter (eq v) (occurrences es) in
      let same = count_occurrences v es tally.counted.distinct in
      let sum = tally.sum in
      omega arith

  -- n others in the place of all that are equal to v, in the map and in the total
  tally_others : {most : ℕ} → (v : T) (n : ℕ) (es fs : List (T × ℕ)) (total : ℕ) → IsTallied eq es total most → IsCounted eq fs → total - count_of eq v es + n ≤ most → length (occurrences fs) ≡ length (others eq v (occurrences es)) + n → IsTallied eq fs (total - count_of eq v es + n) most
  tally_others v n es fs total tally counted fits parts = record {
    sum = let split = tally_split v es total tally in omega arith;
    fits = fits;
    limit = tally.limit;
    counted = counted;
  }

  -- n fewer in the map and in the total, or as many as there are
  pub tally_less : {most : ℕ} → (v : T) (n taken : ℕ) (es fs : List (T × ℕ)) (total : ℕ) → IsTallied eq es total most → taken ≡ min n (count_of eq v es) → IsCounted eq fs → IsPermutation (less eq v n (occurrences es)) (occurrences fs) → IsTallied eq fs (total - taken) most
  tally_less v n taken es fs total tally number counted h =
      let fewer = rw (count_occurrences v es tally.counted.distinct) at (length_less v n (occurrences es) (occurrences fs) h) in
      let was = tally.sum in
      let fits = tally.fits in
      record { sum = omega arith; fits = omega arith; limit = tally.limit; counted = counted }

  -- what is equal to an item of a value's own is equal to the value
  others_alike : (v w : T) (X : List T) → eq v w ≡ true → others eq w X ≡ others eq v X
  others_alike v w X same = filter_agree (λ x. not (eq w x)) (λ x. not (eq v x)) (λ x. ap not (sym (laws.congr v w x same))) X

  -- the stored instance is equal to the value
  stored_alike : (v : T) (es : List (T × ℕ)) → 0 < count_of eq v es → eq v (stored_or_itself eq v es) ≡ true
  stored_alike v es some = there (lookup_entry (eq v) es) refl
    where
      there : (o : Option (T × ℕ)) → lookup_entry (eq v) es ≡ o → eq v (stored_or_itself eq v es) ≡ true
      there None p = let none = count_of_entry v es None (sym p) in absurd (omega arith)
      there (Some e) p =
          let key : lookup_key (eq v) es ≡ Some e.0 = lookup_key-entry (eq v) es ∙ ap (option_map (λ (x : T × ℕ). x.0)) p in
          subst (λ (k : T). eq v k ≡ true) (sym (ap (λ (o : Option T). unwrap_or o v) key)) (lookup_key_passes (eq v) es e.0 key)

  -- the list but for v, with n of the stored instance, where v is there
  set_is : (v : T) (n : ℕ) (es : List (T × ℕ)) → IsCounted eq es → 0 < count_of eq v es → put eq (instance_or_itself eq v (occurrences es)) n (occurrences es) ≡ occurrences (without eq v es) ++ replicate n (stored_or_itself eq v es)
  set_is v n es counted some =
      ap (λ (o : Option T). put eq (unwrap_or o v) n (occurrences es)) (instance_occurrences v es counted)
      ∙ ap (λ (l : List T). l ++ replicate n (stored_or_itself eq v es)) (others_alike v (stored_or_itself eq v es) (occurrences es) (stored_alike v es some) ∙ others_occurrences v es counted.distinct)

  pub set_occurrences : (v : T) (n : ℕ) (es fs : List (T × ℕ)) → IsCounted eq es → 0 < count_of eq v es → IsPermutation (with_count eq v n es) fs → IsPermutation (put eq (instance_or_itself eq v (occurrences es)) n (occurrences es)) (occurrences fs)
  set_occurrences v n es fs counted some h =
      behind v (stored_or_itself eq v es) n es fs _ (set_is v n es counted some) h

  pub set_none_occurrences : (v : T) (n : ℕ) (es fs : List (T × ℕ)) → IsCounted eq es → 0 < count_of eq v es → n ≡ 0 → IsPermutation (without eq v es) fs → IsPermutation (put eq (instance_or_itself eq v (occurrences es)) n (occurrences es)) (occurrences fs)
  set_none_occurrences v n es fs counted some none h =
      IsPermutation-trans _ _ _ (IsPermutation-same _ _ (set_is v n es counted some ∙ ap (λ (k : ℕ). occurrences (without eq v es) ++ replicate k (stored_or_itself eq v es)) none ∙ append-nil _))
      (occurrences_rearranged _ _ h)

  -- n of the stored instance, in the map and in the total
  pub tally_set : {most : ℕ} → (v : T) (n : ℕ) (es fs : List (T × ℕ)) (total : ℕ) → IsTallied eq es total most → IsCounted eq fs → 0 < count_of eq v es → total - count_of eq v es + n ≤ most → IsPermutation (put eq (instance_or_itself eq v (occurrences es)) n (occurrences es)) (occurrences fs) → IsTallied eq fs (total - count_of eq v es + n) most
  tally_set v n es fs total tally counted some fits h =
      let i = stored_or_itself eq v es in
      let rest : length (others eq v (occurrences es)) ≡ length (occurrences (without eq v es)) = ap (λ (l : List T). length l) (others_occurrences v es tally.counted.distinct) in
      let copies = length-replicate n i in
      let parts : length (occurrences fs) ≡ length (occurrences (without eq v es)) + length (replicate n i) =
      length_permutation _ _ h ∙ ap (λ (l : List T). length l) (set_is v n es tally.counted some) ∙ length-append (occurrences (without eq v es)) (replicate n i) in
      tally_others v n es fs total tally counted fits (omega arith)

  -- n of v in the place of all that are equal to it, in the map and in the total
  pub tally_put : {most : ℕ} → (v : T) (n : ℕ) (es fs : List (T × ℕ)) (total : ℕ) → IsTallied eq es total most → IsCounted eq fs → total - count_of eq v es + n ≤ most → IsPermutation (put eq v n (occurrences es)) (occurrences fs) → IsTallied eq fs (total - count_of eq v es + n) most
  tally_put v n es fs total tally counted fits h =
      let copies = length-replicate n v in
      let parts : length (occurrences fs) ≡ length (others eq v (occurrences es)) + length (replicate n v) = length_permutation _ _ h ∙ length-append (others eq v (occurrences es)) (replicate n v) in
      tally_others v n es fs total tally counted fits (omega arith)

  -- the same entries in another order
  pub tally_rearranged : {most : ℕ} → (es fs : List (T × ℕ)) (total : ℕ) → IsTallied eq es total most → IsCounted eq fs → IsPermutation es fs → IsTallied eq fs total most
  tally_rearranged es fs total tally counted h = record {
    sum = tally.sum ∙ sym (length_permutation _ _ (occurrences_rearranged es fs h));
    fits = tally.fits;
    limit = tally.limit;
    counted = counted;
  }

  -- no entries
  pub tally_none : (most : ℕ) → most ≤ greatest_total → IsTallied eq [] 0 most
  unfolding IsDistinct
  tally_none most limit = record { sum = refl; fits = omega arith; limit = limit; counted = record { distinct = tt; positive = All-nil _ } }

  -- a count is at most the total
  pub count_in_tally : {most : ℕ} → (v : T) (es : List (T × ℕ)) (total : ℕ) → IsTallied eq es total most → count_of eq v es ≤ total
  count_in_tally v es total tally = let split = tally_split v es total tally in omega arith
