-- The three numbers that are kept with two tables: what they say, and what they still say after a write.
use Rattle.std.proofs.Common.{◌≡◌, ℕ, ◌+◌, ◌-◌, ◌^◌, ◌<◌, ◌≤◌, Bool, true, false, List, length, refl, sym, ap, subst, ◌∙◌, inl, inr, arith, slice_set}
use Rattle.std.proofs.lemmas.Bool.{cases_lt}
use Rattle.std.proofs.lemmas.List.{length-set, get_or-set_other}
use Rattle.std.specs.Cmp.{IsEquivalence}
use Rattle.hashbag_slots.specs.declared.slots.Slot.{Slot}
use Rattle.hashbag_slots.specs.declared.slots.Slot.TheVariants.{Empty, Removed, Moved, Live}
use Rattle.hashbag_slots.specs.Slots.{path_slot, is_live, live_count, removed_count, holds, slot_at, recounted, Places, IsAbsent, KeepsPaths, AreApart}
use Rattle.hashbag_slots.proofs.Probing.{holder, holds_dead, absent_at_stop}
use Rattle.hashbag_slots.proofs.Strides.{path_near}
use Rattle.hashbag_slots.proofs.Carrying.{length-Places, live-Places}
use Rattle.hashbag_slots.proofs.Tables.{within_table}
use Rattle.hashbag_slots.proofs.Walking.{live_entry}
use Rattle.hashbag_table.specs.Tables.{most_used, IsAtOnce, IsHinted}
use Rattle.hashbag_table.proofs.CarryLemmas.{removed-Places}
use Rattle.hashbag_table.proofs.RoomKeptLemmas.{IsTaken, same_taken}
use Rattle.hashbag_table.proofs.KeyLemmas.{named_is}

-- none can be placed at once, as far as is known
pub none_at_once : {T : Type 0} (newer older : List (Slot T)) → IsAtOnce newer older 0
none_at_once newer older = record { alone = λ some. absurd (omega arith); fits = λ some. absurd (omega arith) }

-- with `edge` and `at_once` 0
pub hints_new : {T : Type 0} (newer older : List (Slot T)) (carried_to quick : ℕ) → (quick < 2 ^ 16 → (length newer ≡ quick + 1) × (length older ≡ 0)) → IsHinted newer older carried_to 0 quick 0
hints_new newer older carried_to quick is = record { quick_is = is; edge_within = omega arith; edge_ends = λ some. absurd (omega arith); places = none_at_once newer older }

-- a slot that is Live stays so when its count is set
pub recounted_taken : {T : Type 0} (n : ℕ) (s : Slot T) → is_live s ≡ true → IsTaken (recounted n s)
recounted_taken n Empty live = absurd (cc)
recounted_taken n Removed live = absurd (cc)
recounted_taken n Moved live = absurd (cc)
recounted_taken n (Live v m) live = refl

module _ {T : Type 0} {newer older : List (Slot T)} {carried_to edge quick at_once : ℕ} (hints : IsHinted newer older carried_to edge quick at_once) where
  -- as many slots as before, and the carried ones are the same
  pub hints_kept : (newer1 older1 : List (Slot T)) (k : ℕ) → length newer1 ≡ length newer → length older1 ≡ length older → ((p : ℕ) → p < carried_to → slot_at older1 p ≡ slot_at older p) → IsAtOnce newer1 older1 k → IsHinted newer1 older1 carried_to edge quick k
  hints_kept newer1 older1 k newers olders same places = record {
    quick_is = λ small. let is = hints.quick_is small in (newers ∙ is.0, olders ∙ is.1);
    edge_within = hints.edge_within;
    edge_ends = λ some. same (edge - 1) (let within = hints.edge_within in omega arith) ∙ hints.edge_ends some;
    places = places;
  }

  -- the older table is the same
  pub hints_newer : (newer1 : List (Slot T)) (k : ℕ) → length newer1 ≡ length newer → IsAtOnce newer1 older k → IsHinted newer1 older carried_to edge quick k
  hints_newer newer1 k newers places = hints_kept newer1 older k newers (let e : length older ≡ length older = λ i. length older in e) (λ q lt i. slot_at older q) places

  -- a value was placed in the newer table
  pub hints_placed : (newer1 : List (Slot T)) (v : T) (n k : ℕ) → Places v n newer newer1 → (0 < k → k + 1 ≤ at_once) → IsHinted newer1 older carried_to edge quick k
  hints_placed newer1 v n k put fewer =
      let len = length-Places v n newer newer1 put in let live = live-Places v n newer newer1 put in let removed = removed-Places v n newer newer1 put in
      let most : most_used (length newer1) ≡ most_used (length newer) = ap most_used len in
      hints_newer newer1 k len (record {
        alone = λ some. hints.places.alone (let less = fewer some in omega arith);
        fits = λ some. let less = fewer some in let fits = hints.places.fits (omega arith) in omega arith;
      })

  -- a Live slot of the newer table was written: it stays Live, or is Removed
  pub hints_written : (newer1 : List (Slot T)) (p : ℕ) (s : Slot T) → newer1 ≡ slice_set newer p s → is_live (slot_at newer p) ≡ true → IsTaken s → IsHinted newer1 older carried_to edge quick at_once
  hints_written newer1 p s now was taken =
      let len : length newer1 ≡ length newer = ap length now ∙ length-set newer p s in
      let l = live_entry (slot_at newer p) was in
      let same = same_taken newer p s l.0 l.1 (within_table newer p was) l.2 taken in
      let live : live_count newer1 ≡ live_count (slice_set newer p s) = ap live_count now in let removed : removed_count newer1 ≡ removed_count (slice_set newer p s) = ap removed_count now in
      let most : most_used (length newer1) ≡ most_used (length newer) = ap most_used len in
      hints_newer newer1 at_once len (record {
        alone = hints.places.alone;
        fits = λ some. let fits = hints.places.fits some in omega arith;
      })

  -- one waiting slot was written
  pub hints_waiting : (older1 : List (Slot T)) (p : ℕ) (s : Slot T) → older1 ≡ slice_set older (carried_to + p) s → IsHinted newer older1 carried_to edge quick at_once
  hints_waiting older1 p s now =
      let len : length older1 ≡ length older = ap length now ∙ length-set older (carried_to + p) s in
      hints_kept newer older1 at_once (λ i. length newer) len
      (λ q lt. ap (λ ss. slot_at ss q) now ∙ get_or-set_other older (carried_to + p) q s Empty (λ e. absurd (omega arith)))
      (record { alone = λ some. len ∙ hints.places.alone some; fits = hints.places.fits })

  -- while slots wait, none is placed at once
  pub none_while : 0 < length older → at_once ≡ 0
  none_while waits = elim (cases_lt 0 at_once) [
    | inl some ↦ absurd (let none = hints.places.alone some in omega arith)
    | inr none ↦ omega arith
  ]

-- the next 16 slots were carried
pub hints_carried : {T : Type 0} (newer older newer1 older1 : List (Slot T)) (carried_to edge quick at_once result last edge1 quick1 : ℕ) → IsHinted newer older carried_to edge quick at_once
    → ((p : ℕ) → slot_at older p ≡ Empty → slot_at older1 p ≡ Empty) → (0 < result → result ≡ carried_to + 16) → (0 < last → (carried_to < last) × (last ≤ carried_to + 16) × (last ≤ length older)) → (0 < last → slot_at older (last - 1) ≡ Empty)
    → (result ≡ 0 → edge1 ≡ 0) → (0 < result → 0 < last → edge1 ≡ last) → (0 < result → last ≡ 0 → edge1 ≡ edge) → (quick1 < 2 ^ 16 → (length newer1 ≡ quick1 + 1) × (length older1 ≡ 0))
    → 0 < length older → IsHinted newer1 older1 result edge1 quick1 at_once
hints_carried newer older newer1 older1 carried_to edge quick at_once result last edge1 quick1 hints stays far after ends none to_last kept small waits =
    let within = hints.edge_within in let none_now = none_while hints waits in
    let places : IsAtOnce newer1 older1 at_once = record { alone = λ some. absurd (omega arith); fits = λ some. absurd (omega arith) } in
    elim (cases_lt 0 result) [
      | inl some ↦
          let at = far some in
          elim (cases_lt 0 last) [
            | inl found ↦
                let is = to_last some found in let a = after found in let near = a.1 in let low = a.0 in record {
                  quick_is = small;
                  edge_within = omega arith;
                  edge_ends = λ _. ap (λ e. slot_at older1 (e - 1)) is ∙ stays (last - 1) (ends found);
                  places = places;
                }
            | inr nothing ↦
                let is = kept some (omega arith) in record {
                  quick_is = small;
                  edge_within = omega arith;
                  edge_ends = λ more. ap (λ e. slot_at older1 (e - 1)) is ∙ stays (edge - 1) (hints.edge_ends (omega arith));
                  places = places;
                }
          ]
      | inr over ↦
          let is = none (omega arith) in record { quick_is = small; edge_within = omega arith; edge_ends = λ more. absurd (omega arith); places = places }
    ]

-- a value whose home is before `edge` is absent. `alike`: what passes the test has the hash h
pub absent_edge : {T : Type 0} (test : T → Bool) (hash : T → ℕ) (h : ℕ) → ((v : T) → test v ≡ true → hash v ≡ h) → (ss : List (Slot T)) → KeepsPaths hash ss → (edge : ℕ) → edge ≤ length ss
    → ((p : ℕ) → p < edge → is_live (slot_at ss p) ≡ false) → slot_at ss (edge - 1) ≡ Empty → path_slot (length ss) h 0 < edge → IsAbsent test ss
absent_edge test hash h alike ss paths edge within dead ends before =
    let n = length ss in let home = path_slot n h 0 in let steps : ℕ = edge - 1 - home in let there : home + steps ≡ edge - 1 = omega arith in
    absent_at_stop test hash h alike ss paths steps
    (λ k lt. ap (λ p. holds test (slot_at ss p)) (path_near n h k (omega arith)) ∙ holds_dead test (slot_at ss (home + k)) (dead (home + k) (omega arith)))
    (ap (slot_at ss) (path_near n h steps (omega arith) ∙ there) ∙ ends)

-- what a key names isn't in the newer table if it is in the older one
pub older_only : {T : Type 0} (eq : T → T → Bool) (laws : IsEquivalence eq) (names : T → Bool) (one : (v w : T) → names v ≡ true → names w ≡ eq w v) (older newer : List (Slot T)) → AreApart eq older newer
    → (p : ℕ) → holds names (slot_at older p) ≡ true → IsAbsent names newer
older_only eq laws names one older newer apart p held =
    let h = holder names (slot_at older p) held in
    subst (λ test. IsAbsent test newer) (sym (named_is eq laws names one h.0 h.3)) (apart p h.0 h.1 h.2)
