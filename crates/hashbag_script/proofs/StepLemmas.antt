-- What a step leaves of the tables, from what the call says that it makes; and whatever the order of the lists.
use Rattle.std.proofs.Common.{◌≡◌, ℕ, ◌+◌, ◌-◌, ◌<◌, Bool, cond, List, length, refl, sym, ap, subst, ◌∙◌, inl, inr, arith}
use Rattle.std.specs.Cmp.{IsEquivalence}
use Rattle.std.specs.List.Sorted.{IsPermutation}
use Rattle.std.proofs.lemmas.Bool.{cases_lt}
use Rattle.std.proofs.lemmas.List.{nil_from_length}
use Rattle.std.proofs.lemmas.List.Sorted.{length_permutation}
use Rattle.hashbag_table.specs.Tables.{Tables, ReservesOrStays, ShrinksOrStays}
use Rattle.hashbag_core.specs.Bag.{Bag}
use Rattle.hashbag_core.specs.Held.{Recounts, RecountsAs, HasFewer}
use Rattle.hashbag_core.specs.Inserts.{Inserts, Replaces}
use Rattle.hashbag_core.specs.Occurrences.{count, add, less, put}
use Rattle.hashbag_core.proofs.CallerLemmas.{count_less, count_put}
use Rattle.hashbag_core.proofs.Laws.{count_added}
use Rattle.hashbag_core.proofs.OccurrenceLemmas.{count_rearranged}
use Rattle.hashbag_script.specs.declared.script.Step.{Step}
use Rattle.hashbag_script.specs.declared.script.Step.TheVariants.{Insert, InsertMany, Replace, Remove, RemoveUpTo, TryTake, TakeAll, EntrySet, EntryOr, Retain, Clear, Count, Reserve, ShrinkToFit, Limit}
use Rattle.hashbag_script.specs.Turns.{SetsCount, StoresValue, LeavesTables}
use Rattle.hashbag_script.proofs.DistinctOrder.{distinct_rearranged}

-- ---- what a call says

module _ {T S : Type 0} (eq : T → T → Bool) (v : T) (before after : Bag T S) where
  -- the count of v in the bag before, and after
  abbrev pub SetsCountOf : Type 0
  SetsCountOf = SetsCount eq v (count eq v before.items) (count eq v after.items) before.tables after.tables

  abbrev pub StoresValueOf : Type 0
  StoresValueOf = StoresValue eq v (count eq v before.items) (count eq v after.items) before.tables after.tables

  -- a bag that is as it was
  pub sets_unchanged : after ≡ before → SetsCountOf
  sets_unchanged same =
      let often : count eq v after.items ≡ count eq v before.items = ap (λ (b : Bag T S). count eq v b.items) same in
      let tables = ap (λ (b : Bag T S). b.tables) same in
      record {
        arrives = λ none some. absurd (omega (arith, often, none, some));
        absent = λ none still. tables;
        present = λ some. inr (often, tables);
      }

  pub stores_unchanged : count eq v before.items ≡ 0 → after ≡ before → StoresValueOf
  stores_unchanged none same =
      let often : count eq v after.items ≡ count eq v before.items = ap (λ (b : Bag T S). count eq v b.items) same in
      record {
        arrives = λ absent some. absurd (omega (arith, often, absent, some));
        absent = λ absent still. ap (λ (b : Bag T S). b.tables) same;
        present = λ some. absurd (omega (arith, none, some));
      }

  -- a value that was there, and whose slot has its new count
  pub sets_recounted : 0 < count eq v before.items → RecountsAs eq v before after → SetsCountOf
  sets_recounted there slot = record {
    arrives = λ none some. absurd (omega (arith, there, none));
    absent = λ none still. absurd (omega (arith, there, none));
    present = λ some. inl slot;
  }

module _ {T : Type 0} {eq : T → T → Bool} (laws : IsEquivalence eq) where
  module _ {S : Type 0} (v : T) (before after : Bag T S) where
    pub sets_inserted : (n : ℕ) → Inserts eq v n before after → SetsCountOf eq v before after
    sets_inserted n done = record {
      arrives = λ none some. done.arrives (omega (arith, more, none, some)) none;
      absent = λ none still. ap (λ (b : Bag T S). b.tables) (done.none (omega (arith, more, none, still)));
      present = λ some. elim (cases_lt 0 n) [
        | inl many ↦ inl (subst (λ (k : ℕ). Recounts eq v k before.tables after.tables) (sym more) (done.slot many some))
        | inr nothing ↦ inr (omega (arith, more, nothing), ap (λ (b : Bag T S). b.tables) (done.none (omega (arith, nothing))))
      ];
    } where
      more : count eq v after.items ≡ count eq v before.items + n
      more =
          sym (count_rearranged laws v (add eq v n before.items) after.items done.added.means) ∙ count_added laws v v n before.items
          ∙ ap (λ (b : Bool). count eq v before.items + cond b n 0) (laws.refl v)

    pub sets_fewer : (n : ℕ) → HasFewer eq (eq v) n before after → SetsCountOf eq v before after
    sets_fewer n done = record {
      arrives = λ none some. absurd (omega (arith, fewer, none, some));
      absent = λ none still. ap (λ (b : Bag T S). b.tables) (done.none none);
      present = λ some. inl (subst (λ (k : ℕ). Recounts eq v k before.tables after.tables) (sym fewer) (done.slot some));
    } where
      fewer : count eq v after.items ≡ count eq v before.items - n
      fewer =
          sym (count_rearranged laws v (less eq v n before.items) after.items done.left.means) ∙ count_less laws v v n before.items
          ∙ ap (λ (b : Bool). cond b (count eq v before.items - n) (count eq v before.items)) (laws.refl v)

    pub stores_replaced : Replaces eq v before after → StoresValueOf eq v before after
    stores_replaced done = record {
      arrives = λ none some. done.arrives none;
      absent = λ none still. absurd (omega (arith, once, still));
      present = λ some. done.slot some;
    } where
      once : count eq v after.items ≡ 1
      once =
          sym (count_rearranged laws v (put eq v 1 before.items) after.items done.stored.means) ∙ count_put laws v v 1 before.items
          ∙ ap (λ (b : Bool). cond b 1 (count eq v before.items)) (laws.refl v)

    -- a value that was there and leaves all as it is, or that was absent
    pub sets_entered : (n : ℕ) → (0 < count eq v before.items → after ≡ before) → (count eq v before.items ≡ 0 → Inserts eq v n before after) → SetsCountOf eq v before after
    sets_entered n there absent = elim (cases_lt 0 (count eq v before.items)) [
      | inl some ↦ sets_unchanged eq v before after (there some)
      | inr none ↦ sets_inserted n (absent (omega (arith, none)))
    ]

  -- ---- whatever the order of the lists

  module _ (X Y B C : List T) (old new : Tables T) (before : IsPermutation X B) (after : IsPermutation Y C) where
    set_rearranged : (v : T) → SetsCount eq v (count eq v B) (count eq v C) old new → SetsCount eq v (count eq v X) (count eq v Y) old new
    set_rearranged v sets =
        subst (λ (d : ℕ). SetsCount eq v (count eq v X) d old new) (sym (count_rearranged laws v Y C after))
        (subst (λ (c : ℕ). SetsCount eq v c (count eq v C) old new) (sym (count_rearranged laws v X B before)) sets)

    store_rearranged : (v : T) → StoresValue eq v (count eq v B) (count eq v C) old new → StoresValue eq v (count eq v X) (count eq v Y) old new
    store_rearranged v stores =
        subst (λ (d : ℕ). StoresValue eq v (count eq v X) d old new) (sym (count_rearranged laws v Y C after))
        (subst (λ (c : ℕ). StoresValue eq v c (count eq v C) old new) (sym (count_rearranged laws v X B before)) stores)

    -- what a step leaves
    pub leaves_rearranged : (s : Step T) → LeavesTables eq B C s old new → LeavesTables eq X Y s old new
    leaves_rearranged (Insert v) leaves = set_rearranged v leaves
    leaves_rearranged (InsertMany v n) leaves = set_rearranged v leaves
    leaves_rearranged (Replace v) leaves = store_rearranged v leaves
    leaves_rearranged (Remove v) leaves = set_rearranged v leaves
    leaves_rearranged (RemoveUpTo v q) leaves = set_rearranged v leaves
    leaves_rearranged (TryTake v) leaves = set_rearranged v leaves
    leaves_rearranged (TakeAll v) leaves = set_rearranged v leaves
    leaves_rearranged (EntrySet v n) leaves = set_rearranged v leaves
    leaves_rearranged (EntryOr v q) leaves = set_rearranged v leaves
    leaves_rearranged (Retain list) leaves = leaves
    leaves_rearranged Clear leaves = leaves
    leaves_rearranged (Count v) leaves = leaves
    leaves_rearranged (Reserve n) leaves = subst (λ (k : ℕ). ReservesOrStays n k old new) (sym (distinct_rearranged laws X B before)) leaves
    leaves_rearranged ShrinkToFit leaves = record {
      none = λ empty. leaves.none (nil_from_length B (let long = length_permutation X B before in let nothing : length X ≡ 0 = ap (λ (l : List T). length l) empty in omega (arith, long, nothing)));
      shrinks = subst (λ (k : ℕ). ShrinksOrStays k old new) (sym (distinct_rearranged laws X B before)) leaves.shrinks;
    }
    leaves_rearranged (Limit n) leaves = leaves
