-- The balance of a day, one entry after the other.
use Rattle.std.proofs.Common.{◌≡◌, ℕ, ◌+◌, Bool, true, false, cond, List, [], ◌∷◌, ◌++◌, map, bytes_eq, String, Global, refl, sym, ◌∙◌, ap, subst, append_assoc, ◌<◌, All, get_or, arith}
use Rattle.std.proofs.lemmas.List.{append-nil, get_or-map, length-map, map-append}
use Rattle.std.proofs.lemmas.List.Sums.{sum_by-cons}
use Rattle.std.specs.Borrow.{Bor}
use Rattle.std.specs.Cmp.Lexicographic.{slice_cmp}
use Rattle.std.specs.List.{Contains}
use Rattle.std.specs.List.Sorted.{IsStrictlySortedBy}
use Rattle.std.specs.Map.{keys_of}
use Rattle.std.specs.Ordering.{nat_cmp}
use Rattle.std.specs.String.{string_bytes}
use Rattle.hashbag_csv.specs.Quantities.{quantity, IsBalance}
use Rattle.hashbag_ledger_lib.specs.Dated.{came_of, count_of, counting_by, counts_at, moved, with_bytes, named_sum, net, went_of, Dated, HasSumsOf, IsBalanceAt, IsNetOf}
use Rattle.hashbag_ledger_lib.specs.Ledger.{coming, going}
use Rattle.hashbag_ledger_lib.specs.Numbers.{size}
use Rattle.hashbag_ledger_lib.specs.declared.dated.Part.{Part}
use Rattle.hashbag_ledger_lib.specs.declared.dated.Part.TheVariants.{In as Came, Out as Went, Both}
use Rattle.hashbag_ledger_lib.specs.declared.movements.Change.{Change}
use Rattle.hashbag_ledger_lib.specs.declared.movements.Change.TheVariants.{In, Out}
use Rattle.hashbag_ledger_lib.specs.declared.movements.Movement.{Movement}

module _ (date : List ℕ) (e : Dated) (part : Part) (xs : List (Bor (List ℕ) × ℕ)) where
  counting_next : (es : List Dated) → counting_by date (e ∷ es) ≡ counting_by date (e ∷ []) ++ counting_by date es
  counting_next es = by_case (counts_at date e)
    where
      by_case : (b : Bool) → cond b (e.0.movement ∷ counting_by date es) (counting_by date es) ≡ cond b (e.0.movement ∷ []) [] ++ counting_by date es
      by_case true = refl
      by_case false = refl

  -- it counts
  pub pushed_one : (ys : List (Bor (List ℕ) × ℕ)) (x : Bor (List ℕ) × ℕ) → counts_at date e ≡ true → ys ≡ xs ++ x ∷ [] → with_bytes x ≡ moved part e.0.movement
      → map with_bytes ys ≡ map with_bytes xs ++ map (moved part) (counting_by date (e ∷ []))
  pushed_one ys x counts is same =
      ap (map with_bytes) is ∙ map-append with_bytes xs (x ∷ []) ∙ ap (λ (r : List ℕ × ℕ). map with_bytes xs ++ r ∷ []) same
      ∙ ap (λ (b : Bool). map with_bytes xs ++ map (moved part) (cond b (e.0.movement ∷ []) [])) (sym counts)

  -- it doesn't
  pub pushed_none : counts_at date e ≡ false → map with_bytes xs ≡ map with_bytes xs ++ map (moved part) (counting_by date (e ∷ []))
  pushed_none counts = sym (append-nil (map with_bytes xs)) ∙ ap (λ (b : Bool). map with_bytes xs ++ map (moved part) (cond b (e.0.movement ∷ []) [])) (sym counts)

  -- one entry less is left
  pub next_moved : (all : List (List ℕ × ℕ)) (ys : List (Bor (List ℕ) × ℕ)) (es : List Dated)
      → map with_bytes xs ++ map (moved part) (counting_by date (e ∷ es)) ≡ all
      → map with_bytes ys ≡ map with_bytes xs ++ map (moved part) (counting_by date (e ∷ []))
      → map with_bytes ys ++ map (moved part) (counting_by date es) ≡ all
  next_moved all ys es whole pushed =
      ap (λ (l : List (List ℕ × ℕ)). l ++ map (moved part) (counting_by date es)) pushed
      ∙ append_assoc (map with_bytes xs) (map (moved part) (counting_by date (e ∷ []))) (map (moved part) (counting_by date es))
      ∙ ap (λ (l : List (List ℕ × ℕ)). map with_bytes xs ++ l) (sym (map-append (moved part) (counting_by date (e ∷ [])) (counting_by date es)) ∙ ap (map (moved part)) (sym (counting_next es)))
      ∙ whole

-- ---- sums

abbrev of_row : List ℕ → List ℕ × ℕ → ℕ
of_row v r = cond (bytes_eq v r.0) r.1 0

abbrev of_movement : (Change → ℕ) → List ℕ → Movement (String Global) → ℕ
of_movement f v m = cond (bytes_eq v (string_bytes m.article)) (f m.change) 0

pub came_is : (v : List ℕ) (ms : List (Movement (String Global))) → named_sum v (map (moved Came) ms) ≡ came_of v ms
came_is v [] = refl
came_is v (m ∷ ms) =
    let rows = sum_by-cons (of_row v) (moved Came m) (map (moved Came) ms) in
    let all = sum_by-cons (of_movement coming v) m ms in
    let later = came_is v ms in
    omega arith

pub went_is : (v : List ℕ) (ms : List (Movement (String Global))) → named_sum v (map (moved Went) ms) ≡ went_of v ms
went_is v [] = refl
went_is v (m ∷ ms) =
    let rows = sum_by-cons (of_row v) (moved Went m) (map (moved Went) ms) in
    let all = sum_by-cons (of_movement going v) m ms in
    let later = went_is v ms in
    omega arith

size_is : (c : Change) (b : Bool) → cond b (size c) 0 ≡ cond b (coming c) 0 + cond b (going c) 0
size_is (In n) true = omega arith
size_is (In n) false = refl
size_is (Out n) true = omega arith
size_is (Out n) false = refl

pub both_is : (v : List ℕ) (ms : List (Movement (String Global))) → named_sum v (map (moved Both) ms) ≡ came_of v ms + went_of v ms
both_is v [] = refl
both_is v (m ∷ ms) =
    let rows = sum_by-cons (of_row v) (moved Both m) (map (moved Both) ms) in
    let came = sum_by-cons (of_movement coming v) m ms in
    let went = sum_by-cons (of_movement going v) m ms in
    let here = size_is m.change (bytes_eq v (string_bytes m.article)) in
    let later = both_is v ms in
    omega arith

-- how many a bag of a list has
pub sum_named : (v : Bor (List ℕ)) (L : List (Bor (List ℕ) × ℕ)) → quantity (λ x y. bytes_eq x.now y.now) v L ≡ named_sum v.now (map with_bytes L)
sum_named v [] = refl
sum_named v (e ∷ L) =
    let here = sum_by-cons (λ (x : Bor (List ℕ) × ℕ). cond (bytes_eq v.now x.0.now) x.1 0) e L in
    let rows = sum_by-cons (of_row v.now) (with_bytes e) (map with_bytes L) in
    let later = sum_named v L in
    omega arith

-- ---- the balance

key_within : (L : List (Bor (List ℕ) × ℕ)) (e : Bor (List ℕ) × ℕ) → Contains L e → Contains (keys_of L) e.0
key_within L e there =
    let long = length-map L (λ x. x.0) in
    let below = there.1 in
    (there.0, omega arith, get_or-map (λ x. x.0) L there.0 e e.0 below ∙ ap (λ (x : Bor (List ℕ) × ℕ). x.0) there.2)

module _ (date : List ℕ) (es : List Dated) where
  abbrev all_counting : List (Movement (String Global))
  all_counting = counting_by date es

  -- a bag whose list has what these movements move
  abbrev IsOf : Part → List (Bor (List ℕ)) → List (Bor (List ℕ) × ℕ) → Type 0
  IsOf part items list = HasSumsOf list items × (map with_bytes list ≡ map (moved part) all_counting)

  by_list : (part : Part) (items : List (Bor (List ℕ))) (list : List (Bor (List ℕ) × ℕ)) → IsOf part items list → (v : Bor (List ℕ)) → count_of v items ≡ named_sum v.now (map (moved part) all_counting)
  by_list part items list h v = h.0 v ∙ ap (named_sum v.now) h.1

  pub is_balance : (came went all : List (Bor (List ℕ))) (c w a articles : List (Bor (List ℕ) × ℕ)) (rows : List (Bor (List ℕ) × Change))
      → IsOf Came came c → IsOf Went went w → IsOf Both all a
      → IsBalance (λ x y. bytes_eq x.now y.now) (λ x y. slice_cmp nat_cmp x.now y.now) (λ v. count_of v all) articles
      → keys_of rows ≡ keys_of articles → All (IsNetOf came went) rows → IsBalanceAt date es rows
  is_balance came went all c w a articles rows is_came is_went is_all balance keys nets = record {
    numbers = λ k d within.
        let r = get_or rows k d in
        let came_to = by_list Came came c is_came r.0 ∙ came_is r.0.now all_counting in
        let went_to = by_list Went went w is_went r.0 ∙ went_is r.0.now all_counting in
        nets k d within ∙ (λ i. net (came_to i) (went_to i));
    rising = subst (λ (ks : List (Bor (List ℕ))). IsStrictlySortedBy (λ x y. slice_cmp nat_cmp x.now y.now) ks) (sym keys) balance.rising;
    each = λ v some.
        let b : Bor (List ℕ) = record { ref_ptr = (0, 0); now = v } in
        let there : count_of b all ≡ came_of v all_counting + went_of v all_counting = by_list Both all a is_all b ∙ both_is v all_counting in
        let (e, within, same) = balance.each b (subst (λ (n : ℕ). 0 < n) (sym there) some) in
        (e.0, subst (λ (ks : List (Bor (List ℕ))). Contains ks e.0) (sym keys) (key_within articles e within), same);
  }
