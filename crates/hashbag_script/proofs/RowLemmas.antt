-- The table of steps up to the order of the list, and how a row goes on where its test is known.
use Rattle.std.proofs.Common.{◌≡◌, ℕ, ◌+◌, ◌-◌, ◌<◌, ◌≤◌, ◌==◌, zero, suc, min, nat_lt, ltb, Some, None, Bool, true, false, cond, List, [], length, unwrap_or, refl, sym, ◌∙◌, ap, subst, arith}
use borrow.Author.Tests.{ltb-true, lt-ltb}
use Rattle.std.specs.Cmp.{IsEquivalence}
use Rattle.std.proofs.lemmas.Bool.Decides.{nat_tests}
use Rattle.std.specs.List.Sorted.{IsPermutation}
use Rattle.std.proofs.lemmas.List.Sorted.{IsPermutation-refl, IsPermutation-sym, IsPermutation-trans, length_permutation}
use Rattle.hashbag_script.specs.declared.script.Step.{Step}
use Rattle.hashbag_script.specs.declared.script.Step.TheVariants.{Insert, InsertMany, Replace, Remove, RemoveUpTo, TryTake, TakeAll, EntrySet, EntryOr, Retain, Clear, Count as CountStep, Reserve, ShrinkToFit, Limit}
use Rattle.hashbag_script.specs.declared.script.Reply.{Reply}
use Rattle.hashbag_script.specs.declared.script.Reply.TheVariants.{Count, Left, Taken, Absent, Done, TooMany, BelowTotal}
use Rattle.hashbag_core.specs.Bag.{Bag, IsBagOf}
use Rattle.hashbag_core.specs.Occurrences.{count, instance_or_itself, stored, add, less, put, IsBag}
use Rattle.hashbag_script.specs.Rows.{insert_row, replace_row, try_take_row, take_all_row, entry_set_row, entry_or_row, quota}
use Rattle.hashbag_script.specs.Script.{step, limit_after, MayAllocate, NeedsMemory, MayShrink}
use Rattle.hashbag_table.specs.Tables.{Tables, IsLeast}
use Rattle.std.proofs.lemmas.List.{nil_from_length}
use Rattle.hashbag_script.proofs.DistinctOrder.{distinct_rearranged}
use Rattle.hashbag_core.proofs.OccurrenceLemmas.{bag_rearranged, count_rearranged, instance_rearranged, add_rearranged, less_rearranged, put_rearranged, less_absent, length_added}
use Rattle.hashbag_script.proofs.QuotaLemmas.{quota_congr, retained_rearranged}
use Rattle.hashbag_core.proofs.TakeLemmas.{stored_there, stored_count, stored_instance, stored_some}

-- a test that a number is above another
pub above : (a b : ℕ) → a < b → nat_lt a b ≡ true
above a b h = lt-ltb a b h

pub not_above : (a b : ℕ) → b ≤ a → nat_lt a b ≡ false
not_above a b h = by_test (ltb a b) refl
  where
    by_test : (t : Bool) → ltb a b ≡ t → t ≡ false
    by_test true e = let over = ltb-true a b e in absurd (omega arith)
    by_test false e = refl

-- the same replies, and the same lists but for their order
pub record IsSameRow {T : Type 0} (p q : List T × Reply T) : Type 0 where
  pub left : IsPermutation p.0 q.0
  pub reply : p.1 ≡ q.1

same_choice : {T : Type 0} (b c : Bool) (p q r s : List T × Reply T) → b ≡ c → IsSameRow p q → IsSameRow r s → IsSameRow (cond b p r) (cond c q s)
same_choice {T} b c p q r s e x y = subst (λ (t : Bool). IsSameRow (cond b p r) (cond t q s)) e (chosen b)
  where
    chosen : (t : Bool) → IsSameRow (cond t p r) (cond t q s)
    chosen true = x
    chosen false = y

module _ {T : Type 0} {eq : T → T → Bool} (laws : IsEquivalence eq) {most : ℕ} (X Y : List T) (h : IsPermutation X Y) (bag : IsBag eq most X) where
  long : length X ≡ length Y
  long = sym (length_permutation X Y h)

  often : (v : T) → count eq v X ≡ count eq v Y
  often v = count_rearranged laws v X Y h

  stored_same : (v : T) → instance_or_itself eq v X ≡ instance_or_itself eq v Y
  stored_same v = ap (λ o. unwrap_or o v) (instance_rearranged laws v X Y bag h)

  unchanged : (r s : Reply T) → r ≡ s → IsSameRow (X, r) (Y, s)
  unchanged r s e = record { left = h; reply = e }

  insert_rearranged : (v : T) (n : ℕ) → IsSameRow (insert_row eq most v n X) (insert_row eq most v n Y)
  insert_rearranged v n =
      same_choice (nat_lt most (length X + n)) (nat_lt most (length Y + n)) (X, TooMany) (Y, TooMany) (add eq v n X, Count (count eq v X)) (add eq v n Y, Count (count eq v Y))
      (ap (λ (k : ℕ). nat_lt most (k + n)) long) (unchanged TooMany TooMany refl)
      (record { left = add_rearranged laws v n X Y bag h; reply = ap (λ k. Count k) (often v) })

  replace_rearranged : (v : T) → IsSameRow (replace_row eq most v X) (replace_row eq most v Y)
  replace_rearranged v =
      same_choice (nat_lt most (length X - count eq v X + 1)) (nat_lt most (length Y - count eq v Y + 1)) (X, TooMany) (Y, TooMany) (put eq v 1 X, Count (count eq v X)) (put eq v 1 Y, Count (count eq v Y))
      (ap (λ (k : ℕ). nat_lt most (k - count eq v X + 1)) long ∙ ap (λ (k : ℕ). nat_lt most (length Y - k + 1)) (often v)) (unchanged TooMany TooMany refl)
      (record { left = put_rearranged laws v 1 X Y h; reply = ap (λ k. Count k) (often v) })

  taken_rearranged : (v : T) (n : ℕ) (r s : Reply T) → r ≡ s → IsSameRow (less eq v n X, r) (less eq v n Y, s)
  taken_rearranged v n r s e = record { left = less_rearranged laws v n X Y bag h; reply = e }

  try_take_rearranged : (v : T) → IsSameRow (try_take_row eq v X) (try_take_row eq v Y)
  try_take_rearranged v =
      same_choice (count eq v X == 0) (count eq v Y == 0) (X, Absent) (Y, Absent) (some X) (some Y) (ap (λ (k : ℕ). k == 0) (often v)) (unchanged Absent Absent refl)
      (same_choice (count eq v X == 1) (count eq v Y == 1) (less eq v 1 X, Taken (instance_or_itself eq v X) 1) (less eq v 1 Y, Taken (instance_or_itself eq v Y) 1) (less eq v 1 X, Left (count eq v X)) (less eq v 1 Y, Left (count eq v Y))
      (ap (λ (k : ℕ). k == 1) (often v))
      (taken_rearranged v 1 _ _ (ap (λ i. Taken i 1) (stored_same v)))
      (taken_rearranged v 1 _ _ (ap (λ k. Left k) (often v))))
    where
      some : List T → List T × Reply T
      some Z = cond (count eq v Z == 1) (less eq v 1 Z, Taken (instance_or_itself eq v Z) 1) (less eq v 1 Z, Left (count eq v Z))

  take_all_rearranged : (v : T) → IsSameRow (take_all_row eq v X) (take_all_row eq v Y)
  take_all_rearranged v =
      same_choice (count eq v X == 0) (count eq v Y == 0) (X, Absent) (Y, Absent) (less eq v (count eq v X) X, Taken (instance_or_itself eq v X) (count eq v X)) (less eq v (count eq v Y) Y, Taken (instance_or_itself eq v Y) (count eq v Y))
      (ap (λ (k : ℕ). k == 0) (often v)) (unchanged Absent Absent refl)
      (subst (λ (k : ℕ). IsSameRow (less eq v (count eq v X) X, Taken (instance_or_itself eq v X) (count eq v X)) (less eq v k Y, Taken (instance_or_itself eq v Y) k)) (often v)
      (taken_rearranged v (count eq v X) _ _ (ap (λ i. Taken i (count eq v X)) (stored_same v))))

  entry_set_rearranged : (v : T) (n : ℕ) → IsSameRow (entry_set_row eq most v n X) (entry_set_row eq most v n Y)
  entry_set_rearranged v n =
      same_choice (count eq v X == 0) (count eq v Y == 0) (X, Absent) (Y, Absent) (some X) (some Y) (ap (λ (k : ℕ). k == 0) (often v)) (unchanged Absent Absent refl)
      (same_choice (nat_lt most (length X - count eq v X + n)) (nat_lt most (length Y - count eq v Y + n)) (X, TooMany) (Y, TooMany) (put eq (instance_or_itself eq v X) n X, Done) (put eq (instance_or_itself eq v Y) n Y, Done)
      (ap (λ (k : ℕ). nat_lt most (k - count eq v X + n)) long ∙ ap (λ (k : ℕ). nat_lt most (length Y - k + n)) (often v)) (unchanged TooMany TooMany refl)
      (subst (λ (i : T). IsSameRow (put eq (instance_or_itself eq v X) n X, Done) (put eq i n Y, Done)) (stored_same v)
      (record { left = put_rearranged laws (instance_or_itself eq v X) n X Y h; reply = refl })))
    where
      some : List T → List T × Reply T
      some Z = cond (nat_lt most (length Z - count eq v Z + n)) (Z, TooMany) (put eq (instance_or_itself eq v Z) n Z, Done)

  entry_or_rearranged : (v : T) (q : ℕ) → IsSameRow (entry_or_row eq most v q X) (entry_or_row eq most v q Y)
  entry_or_rearranged v q =
      same_choice (nat_lt 0 (count eq v X)) (nat_lt 0 (count eq v Y)) (X, Count (count eq v X)) (Y, Count (count eq v Y)) (none X) (none Y) (ap (λ (k : ℕ). nat_lt 0 k) (often v)) (unchanged _ _ (ap (λ k. Count k) (often v)))
      (same_choice (nat_lt most (length X + q)) (nat_lt most (length Y + q)) (X, TooMany) (Y, TooMany) (add eq v q X, Count q) (add eq v q Y, Count q)
      (ap (λ (k : ℕ). nat_lt most (k + q)) long) (unchanged TooMany TooMany refl)
      (record { left = add_rearranged laws v q X Y bag h; reply = refl }))
    where
      none : List T → List T × Reply T
      none Z = cond (nat_lt most (length Z + q)) (Z, TooMany) (add eq v q Z, Count q)

  -- a step replies alike, and leaves the same list but for its order
  pub step_rearranged : (s : Step T) → IsSameRow (step eq most X s) (step eq most Y s)
  step_rearranged (Insert v) = insert_rearranged v 1
  step_rearranged (InsertMany v n) = insert_rearranged v n
  step_rearranged (Replace v) = replace_rearranged v
  step_rearranged (Remove v) = taken_rearranged v 1 _ _ (ap (λ k. Count k) (often v))
  step_rearranged (RemoveUpTo v q) = taken_rearranged v q _ _ (ap (λ (k : ℕ). Count (k - min q k)) (often v))
  step_rearranged (TryTake v) = try_take_rearranged v
  step_rearranged (TakeAll v) = take_all_rearranged v
  step_rearranged (EntrySet v n) = entry_set_rearranged v n
  step_rearranged (EntryOr v q) = entry_or_rearranged v q
  step_rearranged (Retain list) = record { left = retained_rearranged laws (quota eq list.items) (quota_congr laws list.items) X Y h bag.one_instance; reply = refl }
  step_rearranged Clear = record { left = IsPermutation-refl []; reply = refl }
  step_rearranged (CountStep v) = unchanged _ _ (ap (λ k. Count k) (often v))
  step_rearranged (Reserve n) = unchanged _ _ refl
  step_rearranged ShrinkToFit = unchanged _ _ refl
  step_rearranged (Limit n) = unchanged _ _ (ap (λ (k : ℕ). cond (nat_lt n k) BelowTotal Done) long)

  -- and the same limit
  pub limit_rearranged : (s : Step T) → limit_after eq most X s ≡ limit_after eq most Y s
  limit_rearranged (Insert v) = refl
  limit_rearranged (InsertMany v n) = refl
  limit_rearranged (Replace v) = refl
  limit_rearranged (Remove v) = refl
  limit_rearranged (RemoveUpTo v q) = refl
  limit_rearranged (TryTake v) = refl
  limit_rearranged (TakeAll v) = refl
  limit_rearranged (EntrySet v n) = refl
  limit_rearranged (EntryOr v q) = refl
  limit_rearranged (Retain list) = refl
  limit_rearranged Clear = refl
  limit_rearranged (CountStep v) = refl
  limit_rearranged (Reserve n) = refl
  limit_rearranged ShrinkToFit = refl
  limit_rearranged (Limit n) = ap (λ (k : ℕ). cond (nat_lt n k) most n) long

  needs_rearranged : (v : T) (n : ℕ) → NeedsMemory eq most v n Y → NeedsMemory eq most v n X
  needs_rearranged v n needs =
      let same = often v in
      let as_long = long in
      let absent = needs.absent in
      let fits = needs.fits in
      record { absent = omega arith; some = needs.some; fits = omega arith }

  shrink_rearranged : (tables : Tables T) → MayShrink eq Y tables → MayShrink eq X tables
  shrink_rearranged tables may = record {
    some = λ none. may.some (nil_from_length Y (let nothing : length X ≡ 0 = ap (λ (l : List T). length l) none in let same = long in omega (arith, same, nothing)));
    smaller = λ m least. may.smaller m (subst (λ (k : ℕ). IsLeast 0 k m) (distinct_rearranged laws X Y h) least);
  }

  -- what may allocate may do so whatever the order of the list
  pub asks_rearranged : (tables : Tables T) (s : Step T) → MayAllocate eq most Y tables s → MayAllocate eq most X tables s
  asks_rearranged tables (Insert v) asks = needs_rearranged v 1 asks
  asks_rearranged tables (InsertMany v n) asks = needs_rearranged v n asks
  asks_rearranged tables (Replace v) asks = needs_rearranged v 1 asks
  asks_rearranged tables (Remove v) asks = asks
  asks_rearranged tables (RemoveUpTo v q) asks = asks
  asks_rearranged tables (TryTake v) asks = asks
  asks_rearranged tables (TakeAll v) asks = asks
  asks_rearranged tables (EntrySet v n) asks = asks
  asks_rearranged tables (EntryOr v q) asks = needs_rearranged v q asks
  asks_rearranged tables (Retain list) asks = asks
  asks_rearranged tables Clear asks = asks
  asks_rearranged tables (CountStep v) asks = asks
  asks_rearranged tables (Reserve n) asks = asks
  asks_rearranged tables ShrinkToFit asks = shrink_rearranged tables asks
  asks_rearranged tables (Limit n) asks = asks

module _ {T : Type 0} {eq : T → T → Bool} (laws : IsEquivalence eq) where
  -- the same of a bag with the limit m, which is also said otherwise
  pub same_step : (m most : ℕ) (X Y : List T) (s : Step T) → m ≡ most → IsPermutation X Y → IsBag eq m Y → IsSameRow (step eq most X s) (step eq m Y s)
  same_step m most X Y s is h bag = subst (λ (k : ℕ). IsSameRow (step eq k X s) (step eq m Y s)) is (step_rearranged laws X Y h (bag_rearranged laws Y X (IsPermutation-sym _ _ h) bag) s)

  pub limit_same : (m most : ℕ) (X Y : List T) (s : Step T) → m ≡ most → IsPermutation X Y → IsBag eq m Y → limit_after eq most X s ≡ limit_after eq m Y s
  limit_same m most X Y s is h bag = subst (λ (k : ℕ). limit_after eq k X s ≡ limit_after eq m Y s) is (limit_rearranged laws X Y h (bag_rearranged laws Y X (IsPermutation-sym _ _ h) bag) s)

  -- nothing is taken from what is absent
  pub bag_of_absent : {S : Type 0} (v : T) (n : ℕ) (before after : Bag T S) → count eq v before.items ≡ 0 → IsBagOf eq before (less eq v n before.items) after → IsBagOf eq before before.items after
  bag_of_absent v n before after none left = record {
    means = IsPermutation-trans _ _ _ (IsPermutation-sym _ _ (less_absent laws v n before.items none)) left.means;
    hasher = left.hasher;
    limit = left.limit;
    bag = left.bag;
  }

  none_counts : (k : ℕ) → k ≡ 0 → (k == 0) ≡ true
  none_counts k e = ap (λ (n : ℕ). n == 0) e

  some_count : (k : ℕ) → 0 < k → (k == 0) ≡ false
  some_count k h = grind (arith, nat_tests)

  pub try_take_row-absent : (v : T) (X : List T) → count eq v X ≡ 0 → try_take_row eq v X ≡ (X, Absent)
  try_take_row-absent v X none =
      ap (λ (b : Bool). cond b (X, Absent) (cond (count eq v X == 1) (less eq v 1 X, Taken (instance_or_itself eq v X) 1) (less eq v 1 X, Left (count eq v X)))) (none_counts _ none)

  pub take_all_row-absent : (v : T) (X : List T) → count eq v X ≡ 0 → take_all_row eq v X ≡ (X, Absent)
  take_all_row-absent v X none =
      ap (λ (b : Bool). cond b (X, Absent) (less eq v (count eq v X) X, Taken (instance_or_itself eq v X) (count eq v X))) (none_counts _ none)

  pub take_all_row-some : (v : T) (X : List T) (i : T) (n : ℕ) → Some (i, n) ≡ stored eq v X → take_all_row eq v X ≡ (less eq v (count eq v X) X, Taken i n)
  take_all_row-some v X i n e =
      ap (λ (b : Bool). cond b (X, Absent) (less eq v (count eq v X) X, Taken (instance_or_itself eq v X) (count eq v X))) (some_count _ (stored_some laws v X (i, n) e))
      ∙ ap (λ (x : T). (less eq v (count eq v X) X, Taken x (count eq v X))) (sym (stored_instance laws v X i n e))
      ∙ ap (λ (k : ℕ). (less eq v (count eq v X) X, Taken i k)) (sym (stored_count laws v X i n e))

  -- what is not stored has the count 0
  pub none_from_stored : (v : T) (X : List T) → None ≡ stored eq v X → count eq v X ≡ 0
  none_from_stored v X e = by_count (count eq v X) refl
    where
      by_count : (k : ℕ) → count eq v X ≡ k → k ≡ 0
      by_count zero h = refl
      by_count (suc k) h = absurd (stored_there laws v X (omega arith) e)

  entry_or_row-occupied : (most : ℕ) (v : T) (q : ℕ) (X : List T) → 0 < count eq v X → entry_or_row eq most v q X ≡ (X, Count (count eq v X))
  entry_or_row-occupied most v q X some =
      ap (λ (b : Bool). cond b (X, Count (count eq v X)) (cond (nat_lt most (length X + q)) (X, TooMany) (add eq v q X, Count q))) (above 0 (count eq v X) some)

  pub entry_or_row-vacant : (most : ℕ) (v : T) (q : ℕ) (X : List T) → count eq v X ≡ 0 → length X + q ≤ most → entry_or_row eq most v q X ≡ (add eq v q X, Count q)
  entry_or_row-vacant most v q X none fits =
      ap (λ (b : Bool). cond b (X, Count (count eq v X)) (cond (nat_lt most (length X + q)) (X, TooMany) (add eq v q X, Count q))) (not_above 0 (count eq v X) (omega arith))
      ∙ ap (λ (b : Bool). cond b (X, TooMany) (add eq v q X, Count q)) (not_above most (length X + q) fits)

  -- a row that was done: its reply, and the bag that it left
  pub record IsDoneRow {S : Type 0} (row : List T × Reply T) (before : Bag T S) (reply : Reply T) (after : Bag T S) : Type 0 where
    pub reply_is : reply ≡ row.1
    pub left : IsBagOf eq before row.0 after

  -- what `or_insert_many` says of a count that it answers is the row of the step
  pub entry_or_done : {S : Type 0} (v : T) (q n : ℕ) (before after : Bag T S) → IsBag eq before.most before.items
      → (0 < count eq v before.items → (n ≡ count eq v before.items) × (after ≡ before))
      → (count eq v before.items ≡ 0 → (n ≡ q) × IsBagOf eq before (add eq v q before.items) after)
      → IsDoneRow (entry_or_row eq before.most v q before.items) before (Count n) after
  entry_or_done {S} v q n before after bag occupied vacant = by_count (count eq v before.items) refl
    where
      by_count : (k : ℕ) → count eq v before.items ≡ k → IsDoneRow (entry_or_row eq before.most v q before.items) before (Count n) after
      by_count zero e =
          let left = (vacant e).1 in
          let long = length_added laws v q before.items after.items left.means in
          let within = left.bag.fits in
          let same = left.limit in
          subst (λ (row : List T × Reply T). IsDoneRow row before (Count n) after) (sym (entry_or_row-vacant before.most v q before.items e (omega arith)))
          (record { reply_is = ap (λ k. Count k) (vacant e).0; left = left })
      by_count (suc k) e =
          let some : 0 < count eq v before.items = omega arith in
          subst (λ (row : List T × Reply T). IsDoneRow row before (Count n) after) (sym (entry_or_row-occupied before.most v q before.items some))
          (record {
            reply_is = ap (λ k. Count k) (occupied some).0;
            left = subst (λ (b : Bag T S). IsBagOf eq before before.items b) (sym (occupied some).1) (record { means = IsPermutation-refl _; hasher = refl; limit = refl; bag = bag });
          })

  -- a row that leaves the list as it is, of a bag that is as it was
  pub row_kept : {S : Type 0} (row : List T × Reply T) (r : Reply T) (before after : Bag T S) → IsBag eq before.most before.items → row ≡ (before.items, r) → after ≡ before → IsBagOf eq before row.0 after
  row_kept {S} row r before after bag is same =
      subst (λ (p : List T × Reply T). IsBagOf eq before p.0 after) (sym is)
      (subst (λ (b : Bag T S). IsBagOf eq before before.items b) (sym same) (record { means = IsPermutation-refl _; hasher = refl; limit = refl; bag = bag }))

  pub insert_row-passes : (most : ℕ) (v : T) (n : ℕ) (X : List T) → most < length X + n → insert_row eq most v n X ≡ (X, TooMany)
  insert_row-passes most v n X passes = ap (λ (b : Bool). cond b (X, TooMany) (add eq v n X, Count (count eq v X))) (above most (length X + n) passes)

  pub replace_row-passes : (most : ℕ) (v : T) (X : List T) → count eq v X ≡ 0 → most < length X + 1 → replace_row eq most v X ≡ (X, TooMany)
  replace_row-passes most v X none passes = ap (λ (b : Bool). cond b (X, TooMany) (put eq v 1 X, Count (count eq v X))) (above most (length X - count eq v X + 1) (omega (arith, none, passes)))
