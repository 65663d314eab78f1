-- Tables along a run.
use Rattle.std.proofs.Common.{◌≡◌, ℕ, ◌+◌, ◌-◌, ◌<◌, ◌≤◌, Bool, List, [], ◌∷◌, ◌++◌, length, take, Result, Ok, Err, OnOk, refl, sym, subst, ◌∙◌}
use Rattle.std.specs.Cmp.{IsEquivalence}
use Rattle.std.specs.List.Sorted.{IsPermutation}
use Rattle.hashbag_table.specs.Tables.{Tables, values}
use Rattle.hashbag_core.specs.Bag.{Bag}
use Rattle.hashbag_core.specs.Held.{AreHeld}
use Rattle.hashbag_core.specs.Occurrences.{distinct_count}
use Rattle.hashbag_script.specs.declared.script.Step.{Step}
use Rattle.hashbag_script.specs.declared.script.Reply.{Reply}
use Rattle.hashbag_script.specs.Pairs.{ran}
use Rattle.hashbag_script.specs.Script.{step, limit_after, limit_left, run}
use Rattle.hashbag_script.specs.Turns.{LeavesTables, TablesHold, TablesInTurn, AreTablesInTurn, IsBoundedRun}
use Rattle.hashbag_script.proofs.BoundLemmas.{are_answered, bounded_from, no_slots_paid, unanswered}
use Rattle.hashbag_script.proofs.DistinctOrder.{distinct_rearranged}

-- what holds whatever is answered, and what follows where three things hold of an answer
pub on_ok_from : {A E : Type 0} (P : Type 0) (r : Result A E) → P → OnOk r P
on_ok_from P (Ok x) p = p
on_ok_from P (Err e) p = tt

pub on_ok_all : {A E : Type 0} (P Q R W : Type 0) (r : Result A E) → OnOk r P → OnOk r Q → OnOk r R → (P → Q → R → W) → OnOk r W
on_ok_all P Q R W (Ok x) p q h all = all p q h
on_ok_all P Q R W (Err e) p q h all = tt

module _ {T : Type 0} (eq : T → T → Bool) where
  -- one more step at the end of a run
  pub in_turn_more : (most : ℕ) (X : List T) (done : List (Step T)) (s : Step T) (old now new : Tables T) → TablesInTurn eq most X done old now → TablesHold eq (run eq most X done).0 now
      → LeavesTables eq (run eq most X done).0 (step eq (limit_left eq most X done) (run eq most X done).0 s).0 s now new → TablesInTurn eq most X (done ++ s ∷ []) old new
  unfolding run limit_left
  in_turn_more most X [] s old now new before hold turns = (new, subst (λ t. TablesHold eq X t) before hold, subst (λ t. LeavesTables eq X (step eq most X s).0 s t new) before turns, refl)
  in_turn_more most X (r ∷ done) s old now new before hold turns = (before.0, before.1, before.2, in_turn_more (limit_after eq most X r) (step eq most X r).0 done s before.0 now new before.3 hold turns)

  -- the steps that have replies are those that were done
  pub in_turn_from : (most : ℕ) (X : List T) (done rest steps : List (Step T)) (before after : List (Reply T)) (old new : Tables T) → done ++ rest ≡ steps → after ≡ before ++ (run eq most X done).1
      → TablesInTurn eq most X done old new → TablesInTurn eq most X (take (length after - length before) steps) old new
  in_turn_from most X done rest steps before after old new parts replied turned =
      subst (λ (l : List (Step T)). TablesInTurn eq most X l old new) (sym (are_answered eq most X done rest steps before after parts replied)) turned

  -- no step has a reply, and the bag is as it was
  pub untouched_tables : {S : Type 0} (bag : Bag T S) (steps : List (Step T)) (before after : List (Reply T)) → after ≡ before → AreTablesInTurn eq (ran bag bag steps before after)
  untouched_tables bag steps before after same X means = in_turn_from bag.most X [] steps steps before after bag.tables bag.tables refl (unanswered eq bag.most X before after same) refl

  pub untouched_bounded : {S : Type 0} (bag : Bag T S) (steps : List (Step T)) (before after : List (Reply T)) → after ≡ before
      → (0 < length bag.tables.waiting → length bag.tables.waiting + 16 ≤ length bag.tables.newer) → IsBoundedRun eq (ran bag bag steps before after)
  untouched_bounded bag steps before after same smaller empty none =
      bounded_from eq bag.most [] steps steps before after bag.tables bag.tables refl (unanswered eq bag.most [] before after same) (no_slots_paid eq bag.most bag.tables none) smaller

module _ {T : Type 0} {eq : T → T → Bool} (laws : IsEquivalence eq) where
  -- whatever the order of the list
  pub hold_rearranged : (X B : List T) (t : Tables T) → IsPermutation X B → AreHeld eq B t → values t ≡ distinct_count eq B → TablesHold eq X t
  hold_rearranged X B t means held number = record { items = B; means = means; held = held; number = number ∙ sym (distinct_rearranged laws X B means) }
