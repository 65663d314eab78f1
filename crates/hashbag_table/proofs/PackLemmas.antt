-- All values move into one table, which was of Empty slots.
use Rattle.std.proofs.Common.{◌≡◌, ℕ, ◌≤◌, Bool, List, ◌++◌, length, replicate, sym, ap, subst, ◌∙◌, inl, arith}
use Rattle.std.proofs.lemmas.List.{drop_all}
use Rattle.hashbag_slots.specs.declared.slots.Slot.{Slot}
use Rattle.hashbag_slots.specs.declared.slots.Slot.TheVariants.{Empty}
use Rattle.hashbag_slots.specs.Slots.{holds, live_count, removed_count, slot_at, entries}
use Rattle.hashbag_slots.specs.Columns.{Columns, IsReached}
use Rattle.hashbag_slots.proofs.Tables.{slot_at-replicate}
use Rattle.hashbag_table.specs.Entries.{IsCounted}
use Rattle.hashbag_table.specs.Tables.{most_used, Tables, values, IsPacked, MayAdopt, Carried}
use Rattle.hashbag_table.proofs.CarryLemmas.{live_fresh, removed_fresh, entries_fresh}
use Rattle.hashbag_table.proofs.UnmovedLemmas.{unmoved_blank}

-- the values of k or fewer slots have room in a table of Empty slots, which may follow them
pub may_pack : {T : Type 0} (eq : T → T → Bool) (hash : T → ℕ) (blank : Columns T) (former : List (Slot T)) (k : ℕ) → blank.slots ≡ replicate (length blank.slots) Empty → IsReached hash blank → IsCounted eq (entries former)
    → live_count former ≤ most_used (length blank.slots) → length former ≤ k → MayAdopt eq hash blank former k
may_pack eq hash blank former k empty reached counted enough most =
    let a = live_fresh blank.slots empty in let b = removed_fresh blank.slots empty in
    record {
      reached = reached;
      apart = λ p v n here q lt. ap (λ ss. holds (eq v) (slot_at ss q)) empty ∙ ap (holds (eq v)) (slot_at-replicate (length blank.slots) q);
      unmoved = unmoved_blank blank.slots (length blank.slots) empty;
      counted = subst (λ es. IsCounted eq (es ++ entries former)) (sym (entries_fresh blank.slots empty)) counted;
      fits = omega (arith, a, b, enough);
      carries = omega (arith, most);
      smaller = inl most;
    }

-- they were carried into it
module _ {T : Type 0} (blank former : List (Slot T)) (k : ℕ) (empty : blank ≡ replicate (length blank) Empty) (most : length former ≤ k) (new : Tables T) (h : Carried k blank former new.newer new.waiting) where
  pub packed : IsPacked new
  packed = record {
    waiting = h.waits ∙ drop_all k former most;
    room = let a = h.removed in let none = removed_fresh blank empty in let r : removed_count new.newer ≡ 0 = omega (arith, a, none) in omega (arith, r);
  }

  pub values_packed : values new ≡ live_count former
  values_packed = let a = h.live in let none = live_fresh blank empty in omega (arith, a, none)
