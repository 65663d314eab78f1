-- What calls leave of the slots of a bag, from what the calls of its table leave of them.
use Rattle.std.proofs.Common.{◌≡◌, ℕ, zero, suc, ◌+◌, ◌-◌, ◌<◌, ◌≤◌, Bool, cond, List, [], length, replicate, None, IsSome, refl, sym, ap, subst, ◌∙◌, inl, inr, arith}
use Rattle.std.specs.Cmp.{IsEquivalence}
use Rattle.std.proofs.lemmas.Bool.{cases_lt, ne_eqb}
use Rattle.std.proofs.lemmas.List.{nil_from_length, length-replicate}
use Rattle.hashbag_slots.specs.declared.slots.Slot.{Slot}
use Rattle.hashbag_slots.specs.declared.slots.Slot.TheVariants.{Empty, Removed}
use Rattle.hashbag_slots.specs.Slots.{recounted, live_count}
use Rattle.hashbag_table.specs.Table.{Table, IsMapOf}
use Rattle.hashbag_table.specs.Entries.{entry_of, IsCounted}
use Rattle.hashbag_table.specs.Tables.{Tables, most_used, room, entries_of, IsLeast, IsPacked, KeepsRoom, Writes, Rewrites, slot_in}
use Rattle.hashbag_table.proofs.CarryLemmas.{live_fresh, live_empty, removed_empty}
use Rattle.hashbag_core.specs.Bag.{Bag, occurrences, IsBagOf, IsTallied}
use Rattle.hashbag_core.specs.Occurrences.{count}
use Rattle.hashbag_core.specs.Held.{no_slots_after_building, cleared, left_in, AreHeld}
use Rattle.hashbag_core.proofs.OccurrenceLemmas.{bag_from_tally, count_occurrences, count_of_entry, absent_from_count, occurrences_rearranged, present_from_count, tally_rearranged}
use Rattle.hashbag_core.proofs.WalkLemmas.{length_occurrences, length_le_total}

-- what a bag with a limit shows of its table
abbrev pub shown : {T S : Type 0} → ℕ → Table T S → Bag T S
shown most t = record { items = occurrences t.entries; hasher = t.hasher; tables = t.tables; most = most }

pub none_left : (k : ℕ) → (0 < k → ⊥) → k ≡ 0
none_left zero h = refl
none_left (suc k) h = absurd (h (omega arith))

pub more_than_one : (k : ℕ) → 0 < k → (k ≡ 1 → ⊥) → 0 < k - 1
more_than_one zero some several = absurd (omega arith)
more_than_one (suc zero) some several = absurd (several refl)
more_than_one (suc (suc k)) some several = omega arith

module _ {T : Type 0} where
  pub tables_from : (t u : Tables T) → t.newer ≡ u.newer → t.waiting ≡ u.waiting → t.older ≡ u.older → t.built ≡ u.built → t ≡ u
  tables_from t u p q o r = λ i. record { newer = p i; waiting = q i; older = o i; built = r i }

  -- where there are no slots, none waits
  pub none_from_newer : (t : Tables T) (w k : ℕ) → t.newer ≡ [] → w ≡ length t.waiting → (0 < w → w + 16 ≤ length t.newer) → (w ≡ 0 → t.older ≡ 0) → t.built ≡ k → t ≡ no_slots_after_building k
  none_from_newer t w k newer is smaller freed built =
      let none : length t.newer ≡ 0 = ap (λ (ss : List (Slot T)). length ss) newer in
      let idle : w ≡ 0 = none_left w (λ some. let more = smaller some in omega (arith, more, none)) in
      tables_from t (no_slots_after_building k) newer (nil_from_length t.waiting (sym is ∙ idle)) (freed idle) built

  -- the least table for n values that is made of Empty slots has room for them
  pub room_made : (n : ℕ) (t : Tables T) → t.newer ≡ replicate (length t.newer) Empty → IsLeast 0 n (length t.newer) → IsPacked t → n ≤ room t
  room_made n t fresh least packed =
      let live = live_fresh t.newer fresh in
      let none : live_count t.waiting ≡ 0 = ap (λ (ss : List (Slot T)). live_count ss) packed.waiting in
      let enough = least.enough in
      let is = packed.room in
      omega (arith, live, none, enough, is)

  left_some : (n : ℕ) (s : Slot T) → 0 < n → recounted n s ≡ left_in n s
  left_some n s some = ap (λ (b : Bool). cond b Removed (recounted n s)) (sym (ne_eqb n 0 (λ e. omega (arith, e, some))))

  left_none : (n : ℕ) (s : Slot T) → n ≡ 0 → Removed ≡ left_in n s
  left_none n s none = ap (λ k. left_in k s) (sym none)

  rewrites_by : (test : T → Bool) (f h : Slot T → Slot T) (old new : Tables T) → ((s : Slot T) → f s ≡ h s) → Rewrites test f old new → Rewrites test h old new
  rewrites_by test f h old new same r = record { spot = r.spot; held = r.held; after = subst (λ s. Writes r.spot s old new) (same (slot_in old r.spot)) r.after }

  -- cleared slots have as much room as their number allows
  pub room_cleared : (t : Tables T) → KeepsRoom 0 t (cleared t)
  room_cleared t =
      let live = live_empty T (length t.newer) in
      let removed = removed_empty T (length t.newer) in
      let empty : Slot T = Empty in
      let long = ap most_used (length-replicate (length t.newer) empty) in
      record { slots = length-replicate (length t.newer) empty; room = omega (arith, live, removed, long); built = refl }

module _ {T : Type 0} (eq : T → T → Bool) where
  -- a map of counts that is the Live slots
  pub held_by : (es : List (T × ℕ)) (t : Tables T) → es ≡ entries_of t.newer t.waiting → IsCounted eq es → AreHeld eq (occurrences es) t
  held_by es t are counted = record { entries = ap occurrences are; counted = subst (λ fs. IsCounted eq fs) are counted }

module _ {T : Type 0} (test : T → Bool) where
  -- some of a value are left, or none
  pub recounts_some : (n : ℕ) (old new : Tables T) → 0 < n → Rewrites test (recounted n) old new → Rewrites test (left_in n) old new
  recounts_some n old new some r = rewrites_by test (recounted n) (left_in n) old new (λ s. left_some n s some) r

  pub recounts_none : (n : ℕ) (old new : Tables T) → n ≡ 0 → Rewrites test (λ _. Removed) old new → Rewrites test (left_in n) old new
  recounts_none n old new none r = rewrites_by test (λ _. Removed) (left_in n) old new (λ s. left_none n s none) r

  -- of m of a value q are taken
  pub recounts_fewer : (m q : ℕ) (old new : Tables T) → 0 < m → (q < m → Rewrites test (recounted (m - q)) old new) → (0 < m → m ≤ q → Rewrites test (λ _. Removed) old new) → Rewrites test (left_in (m - q)) old new
  recounts_fewer m q old new some fewer gone = elim (cases_lt q m) [
    | inl less ↦ recounts_some (m - q) old new (omega (arith, less)) (fewer less)
    | inr all ↦ recounts_none (m - q) old new (omega (arith, all)) (gone some (omega (arith, all)))
  ]

module _ {T : Type 0} {eq : T → T → Bool} (laws : IsEquivalence eq) where
  -- ---- what is there and what isn't, of a bag and of its table

  pub absent_in_table : (v : T) (es : List (T × ℕ)) → IsCounted eq es → count eq v (occurrences es) ≡ 0 → entry_of eq v es ≡ None
  absent_in_table v es counted none = absent_from_count laws v es counted (sym (count_occurrences laws v es counted.distinct) ∙ none)

  pub absent_from_table : (v : T) (es : List (T × ℕ)) → IsCounted eq es → entry_of eq v es ≡ None → count eq v (occurrences es) ≡ 0
  absent_from_table v es counted none = count_occurrences laws v es counted.distinct ∙ count_of_entry laws v es None (sym none)

  pub present_in_table : (v : T) (es : List (T × ℕ)) → IsCounted eq es → 0 < count eq v (occurrences es) → IsSome (entry_of eq v es)
  present_in_table v es counted some =
      let same = count_occurrences laws v es counted.distinct in
      present_from_count laws v es (omega (arith, same, some))

  pub no_entries : (es : List (T × ℕ)) → IsCounted eq es → occurrences es ≡ [] → es ≡ []
  no_entries es counted none =
      let long = length_occurrences es in
      let few = length_le_total es counted.positive in
      let zero_long : length (occurrences es) ≡ 0 = ap (λ (X : List T). length X) none in
      nil_from_length es (omega (arith, long, few, zero_long))

-- the entries of a bag's table in another order: the bag means what it did
pub items_stay : {T S : Type 0} {eq : T → T → Bool} (laws : IsEquivalence eq) {most : ℕ} (total : ℕ) (old new : Table T S) → IsTallied eq old.entries total most → IsMapOf eq old old.entries new
    → IsBagOf eq (shown most old) (occurrences old.entries) (shown most new)
items_stay laws total old new was same = record {
  means = occurrences_rearranged _ _ same.means;
  hasher = same.hasher;
  limit = refl;
  bag = bag_from_tally laws _ _ (tally_rearranged laws _ _ total was same.counted same.means);
}
