-- Room along a run, and which steps bring in a value.
use Rattle.std.proofs.Common.{◌≡◌, ℕ, zero, suc, ◌+◌, ◌-◌, ◌<◌, ◌≤◌, ◌==◌, Bool, true, false, cond, ◌||◌, List, [], ◌∷◌, ◌++◌, length, replicate, refl, sym, ap, ◌∙◌, arith}
use Rattle.std.specs.Cmp.{IsEquivalence}
use Rattle.std.specs.List.{list_any}
use Rattle.std.specs.List.Sorted.{IsPermutation}
use Rattle.std.proofs.lemmas.List.Folds.{list_any-append}
use Rattle.std.proofs.lemmas.List.Sorted.{list_any-IsPermutation, IsPermutation-refl}
use Rattle.hashbag_table.specs.Tables.{Tables, room, KeepsRoom}
use Rattle.hashbag_core.specs.Occurrences.{count, others, add, put}
use Rattle.hashbag_core.proofs.OccurrenceLemmas.{count_rearranged, put_absent}
use Rattle.hashbag_script.specs.declared.script.Step.{Step}
use Rattle.hashbag_script.specs.declared.script.Reply.{Reply}
use Rattle.hashbag_script.specs.declared.script.Reply.TheVariants.{Count, TooMany}
use Rattle.hashbag_script.specs.Script.{step, limit_after, limit_left, run, arrivals, newcomers, has_newcomer, reserves_or_shrinks, IsRoomy}
use Rattle.hashbag_script.specs.Rows.{insert_row, replace_row, entry_or_row}
use Rattle.hashbag_script.proofs.DistinctOrder.{count_alike, other_counts}
use Rattle.hashbag_script.proofs.RowLemmas.{not_above, entry_or_row-vacant}
use Rattle.hashbag_script.proofs.ScriptLemmas.{run_none, run_more, limit_none, limit_more}

abbrev one_if : Bool → ℕ
one_if b = cond b 1 0

few_if : (b : Bool) → one_if b ≤ 1
few_if true = omega arith
few_if false = omega arith

or_true : (a b : Bool) → b ≡ true → (a || b) ≡ true
or_true true b h = refl
or_true false b h = h

or_false_left : (a b : Bool) → (a || b) ≡ false → a ≡ false
or_false_left true b h = h
or_false_left false b h = refl

or_false_right : (a b : Bool) → (a || b) ≡ false → b ≡ false
or_false_right true b h = absurd (cc)
or_false_right false b h = h

-- no step of a run reserves or shrinks, so neither does the next one, nor do those after it
module _ {T : Type 0} where
  pub neither_at : (done rest : List (Step T)) (s : Step T) → list_any reserves_or_shrinks (done ++ s ∷ rest) ≡ false → reserves_or_shrinks s ≡ false
  neither_at done rest s h =
      or_false_left (reserves_or_shrinks s) (list_any reserves_or_shrinks rest) (or_false_right (list_any reserves_or_shrinks done) (list_any reserves_or_shrinks (s ∷ rest)) (sym (list_any-append reserves_or_shrinks done (s ∷ rest)) ∙ h))

module _ {T : Type 0} (eq : T → T → Bool) where
  -- after the steps that were done there is room for what the others bring in, and there are as many slots
  pub record IsStillRoomy (most : ℕ) (X : List T) (done rest : List (Step T)) (before now : Tables T) : Type 0 where
    pub enough : arrivals eq (limit_left eq most X done) (run eq most X done).0 rest ≤ room now
    pub slots : length now.newer ≡ length before.newer

module _ {T : Type 0} {eq : T → T → Bool} (laws : IsEquivalence eq) where
  -- ---- values that are brought in

  pub few_newcomers : (X Y : List T) → newcomers eq X Y ≤ 1
  few_newcomers X Y = few_if (has_newcomer eq X Y)

  test_congr : (X Z : List T) → IsPermutation X Z → (Y : List T) → has_newcomer eq X Y ≡ has_newcomer eq Z Y
  test_congr X Z h [] = refl
  test_congr X Z h (y ∷ Y) = ap (λ (k : ℕ). (k == 0) || has_newcomer eq X Y) (count_rearranged laws y X Z h) ∙ ap (λ (b : Bool). (count eq y Z == 0) || b) (test_congr X Z h Y)

  -- as many, whatever the order of the lists
  pub newcomers_rearranged : (X Z Y W : List T) → IsPermutation X Z → IsPermutation Y W → newcomers eq X Y ≡ newcomers eq Z W
  newcomers_rearranged X Z Y W h k = ap one_if (test_congr X Z h Y ∙ list_any-IsPermutation (λ y. count eq y Z == 0) Y W k)

  none_counts : (k : ℕ) → k ≡ 0 → (k == 0) ≡ true
  none_counts k e = ap (λ (n : ℕ). n == 0) e

  newcomer_found : (v : T) (X Y : List T) → count eq v X ≡ 0 → 0 < count eq v Y → has_newcomer eq X Y ≡ true
  newcomer_found v X [] none some = absurd (omega (arith, some))
  newcomer_found v X (y ∷ Y) none some = by_equal (eq v y) refl (newcomer_found v X Y none)
    where
      by_equal : (b : Bool) → eq v y ≡ b → (0 < count eq v Y → has_newcomer eq X Y ≡ true) → has_newcomer eq X (y ∷ Y) ≡ true
      by_equal true same later = ap (λ (b : Bool). b || has_newcomer eq X Y) (none_counts (count eq y X) (sym (count_alike laws v y same X) ∙ none))
      by_equal false other later = or_true (count eq y X == 0) (has_newcomer eq X Y) (later (let k = other_counts laws v y Y other in omega (arith, k, some)))

  -- a value that is absent before, and present after, came
  pub newcomer_there : (v : T) (X Y : List T) → count eq v X ≡ 0 → 0 < count eq v Y → newcomers eq X Y ≡ 1
  newcomer_there v X Y none some = ap one_if (newcomer_found v X Y none some)

  newcomer_last : (v : T) (n : ℕ) (X Z : List T) → count eq v X ≡ 0 → 0 < n → has_newcomer eq X (Z ++ replicate n v) ≡ true
  newcomer_last v zero X Z none some = absurd (omega arith)
  newcomer_last v (suc n) X Z none some =
      list_any-append (λ y. count eq y X == 0) Z (v ∷ replicate n v)
      ∙ or_true (has_newcomer eq X Z) _ (ap (λ (b : Bool). b || has_newcomer eq X (replicate n v)) (none_counts (count eq v X) none))

  pub one_put : (v : T) (n : ℕ) (X : List T) → count eq v X ≡ 0 → 0 < n → newcomers eq X (put eq v n X) ≡ 1
  one_put v n X none some = ap one_if (newcomer_last v n X (others eq v X) none some)

  pub one_added : (v : T) (n : ℕ) (X : List T) → count eq v X ≡ 0 → 0 < n → newcomers eq X (add eq v n X) ≡ 1
  one_added v n X none some = sym (newcomers_rearranged X X (put eq v n X) (add eq v n X) (IsPermutation-refl X) (put_absent laws v n X none)) ∙ one_put v n X none some

  -- ---- the rows that bring in a value

  pub one_inserted : (most : ℕ) (v : T) (n : ℕ) (X : List T) → count eq v X ≡ 0 → 0 < n → length X + n ≤ most → newcomers eq X (insert_row eq most v n X).0 ≡ 1
  one_inserted most v n X none some fits =
      let row : insert_row eq most v n X ≡ (add eq v n X, Count (count eq v X)) = ap (λ (b : Bool). cond b (X, TooMany) (add eq v n X, Count (count eq v X))) (not_above most (length X + n) fits) in
      ap (λ (p : List T × Reply T). newcomers eq X p.0) row ∙ one_added v n X none some

  pub one_replaced : (most : ℕ) (v : T) (X : List T) → count eq v X ≡ 0 → length X + 1 ≤ most → newcomers eq X (replace_row eq most v X).0 ≡ 1
  one_replaced most v X none fits =
      let row : replace_row eq most v X ≡ (put eq v 1 X, Count (count eq v X)) = ap (λ (b : Bool). cond b (X, TooMany) (put eq v 1 X, Count (count eq v X))) (not_above most (length X - count eq v X + 1) (omega (arith, none, fits))) in
      ap (λ (p : List T × Reply T). newcomers eq X p.0) row ∙ one_put v 1 X none (omega arith)

  pub one_entered : (most : ℕ) (v : T) (q : ℕ) (X : List T) → count eq v X ≡ 0 → 0 < q → length X + q ≤ most → newcomers eq X (entry_or_row eq most v q X).0 ≡ 1
  one_entered most v q X none some fits = ap (λ (p : List T × Reply T). newcomers eq X p.0) (entry_or_row-vacant laws most v q X none fits) ∙ one_added v q X none some

  -- ---- room along a run

  pub roomy_first : (most : ℕ) (X : List T) (steps : List (Step T)) (t : Tables T) → IsRoomy eq most X steps t → IsStillRoomy eq most X [] steps t t
  roomy_first most X steps t h = record { enough = rw ((run_none eq most X).0, limit_none eq most X) h.enough; slots = refl }

  arrivals_more : (most : ℕ) (X : List T) (s : Step T) (rest : List (Step T)) → arrivals eq most X (s ∷ rest) ≡ newcomers eq X (step eq most X s).0 + arrivals eq (limit_after eq most X s) (step eq most X s).0 rest
  unfolding arrivals
  arrivals_more most X s rest = refl

  -- they are what the next step brings into a bag with the same items, and the later arrivals
  arrivals_next : (most m : ℕ) (X B : List T) (done rest : List (Step T)) (s : Step T) → IsPermutation (run eq most X done).0 B → IsPermutation (step eq (limit_left eq most X done) (run eq most X done).0 s).0 (step eq m B s).0
      → arrivals eq (limit_left eq most X done) (run eq most X done).0 (s ∷ rest)
      ≡ newcomers eq B (step eq m B s).0 + arrivals eq (limit_after eq (limit_left eq most X done) (run eq most X done).0 s) (step eq (limit_left eq most X done) (run eq most X done).0 s).0 rest
  arrivals_next most m X B done rest s means left =
      let more = arrivals_more (limit_left eq most X done) (run eq most X done).0 s rest in
      let same = newcomers_rearranged (run eq most X done).0 B (step eq (limit_left eq most X done) (run eq most X done).0 s).0 (step eq m B s).0 means left in
      omega (arith, more, same)

  -- what the next step may bring in has room
  pub next_enough : (most m : ℕ) (X B : List T) (done rest : List (Step T)) (s : Step T) (before now : Tables T) → IsStillRoomy eq most X done (s ∷ rest) before now → IsPermutation (run eq most X done).0 B → IsPermutation (step eq (limit_left eq most X done) (run eq most X done).0 s).0 (step eq m B s).0
      → newcomers eq B (step eq m B s).0 ≤ room now
  next_enough most m X B done rest s before now h means left =
      let next = arrivals_next most m X B done rest s means left in
      let enough = h.enough in
      omega (arith, next, enough)

  pub roomy_next : (most m : ℕ) (X B : List T) (done rest : List (Step T)) (s : Step T) (before now after : Tables T) → IsStillRoomy eq most X done (s ∷ rest) before now → IsPermutation (run eq most X done).0 B → IsPermutation (step eq (limit_left eq most X done) (run eq most X done).0 s).0 (step eq m B s).0
      → KeepsRoom (newcomers eq B (step eq m B s).0) now after → IsStillRoomy eq most X (done ++ s ∷ []) rest before after
  roomy_next most m X B done rest s before now after h means left kept =
      let next = arrivals_next most m X B done rest s means left in
      let enough = h.enough in
      let kept_room = kept.room in
      record {
        enough = rw ((run_more eq most X done s).0, limit_more eq most X done s) (omega (arith, next, enough, kept_room));
        slots = kept.slots ∙ h.slots;
      }
