-- Reading the columns.
use Rattle.std.proofs.Common.{◌≡◌, ◌≢◌, ℕ, zero, suc, ◌<◌, ◌≤◌, inl, inr, Bool, true, false, cond, leb, nat_eq, List, [], ◌∷◌, length, Option, Some, None, get_or, refl, sym, ap, subst, ◌∙◌, arith}
use Rattle.std.proofs.lemmas.Bool.{cases_lt, le-leb, lt-leb}
use Rattle.hashbag_slots.specs.declared.slots.Slot.TheVariants.{Empty, Removed, Moved, Live}
use Rattle.hashbag_slots.specs.Slots.{path_slot, slot_at, holds, is_live, is_removed, IsNextLive, IsFirstFree}
use Rattle.hashbag_slots.specs.Columns.{fingerprint_of, IsNextLiveTag, slot_of, slots_of, columns, Agree, IsReached}
use Rattle.hashbag_slots.proofs.Paths.{path_below}
use Rattle.hashbag_slots.proofs.Probing.{false_by, holder}

-- a slot without a value is not Live
blank_dead : (T : Type 0) (a b : Bool) → is_live {T = T} (cond a Removed (cond b Moved Empty)) ≡ false
blank_dead T true b = refl
blank_dead T false true = refl
blank_dead T false false = refl

blank_removed : (T : Type 0) (a b : Bool) → is_removed {T = T} (cond a Removed (cond b Moved Empty)) ≡ a
blank_removed T true b = refl
blank_removed T false true = refl
blank_removed T false false = refl

pub dead_slot : (T : Type 0) (t : ℕ) → is_live {T = T} (slot_of t None) ≡ false
dead_slot T t = blank_dead T (nat_eq t 1) (nat_eq t 2)

pub removed_slot : (T : Type 0) (t : ℕ) → is_removed {T = T} (slot_of t None) ≡ nat_eq t 1
removed_slot T t = blank_removed T (nat_eq t 1) (nat_eq t 2)

module _ {T : Type 0} where
  pub length-slots_of : (ts : List ℕ) (cs : List (Option (T × ℕ))) → length ts ≡ length cs → length (slots_of ts cs) ≡ length ts
  length-slots_of [] cs e = refl
  length-slots_of (t ∷ ts) [] e = absurd (omega arith)
  length-slots_of (t ∷ ts) (c ∷ cs) e = ap suc (length-slots_of ts cs (omega arith))

  pub slot_at-slots_of : (ts : List ℕ) (cs : List (Option (T × ℕ))) (p : ℕ) → length ts ≡ length cs → slot_at (slots_of ts cs) p ≡ slot_of (get_or ts p 0) (get_or cs p None)
  slot_at-slots_of [] [] p e = refl
  slot_at-slots_of [] (c ∷ cs) p e = absurd (omega arith)
  slot_at-slots_of (t ∷ ts) [] p e = absurd (omega arith)
  slot_at-slots_of (t ∷ ts) (c ∷ cs) zero e = refl
  slot_at-slots_of (t ∷ ts) (c ∷ cs) (suc p) e = slot_at-slots_of ts cs p (omega arith)

  pub none_cases : (c : Option (T × ℕ)) → ((e : T × ℕ) → c ≡ Some e → ⊥) → c ≡ None
  none_cases None h = refl
  none_cases (Some e) h = absurd (h e refl)

  cell_of_live : (t : ℕ) (c : Option (T × ℕ)) → is_live (slot_of t c) ≡ true → (e : T × ℕ) × (c ≡ Some e)
  cell_of_live t None h = absurd (let d = dead_slot T t in cc)
  cell_of_live t (Some e) h = (e, refl)

module _ {T : Type 0} (ts : List ℕ) (cs : List (Option (T × ℕ))) (agree : Agree ts cs) (p : ℕ) where
  pub at : slot_at (slots_of ts cs) p ≡ slot_of (get_or ts p 0) (get_or cs p None)
  at = slot_at-slots_of ts cs p agree.same_length

  pub live_at : (e : T × ℕ) → get_or cs p None ≡ Some e → slot_at (slots_of ts cs) p ≡ Live e.0 e.1
  live_at e h = at ∙ ap (slot_of (get_or ts p 0)) h

  -- a tag below 128 is that of an empty cell
  pub no_cell : get_or ts p 0 < 128 → get_or cs p None ≡ None
  no_cell low = none_cases (get_or cs p None) (λ e h. let m = agree.tagged p e h in omega arith)

  pub dead_at : get_or ts p 0 < 128 → is_live (slot_at (slots_of ts cs) p) ≡ false
  dead_at low = ap is_live at ∙ ap (λ c. is_live (slot_of (get_or ts p 0) c)) (no_cell low) ∙ dead_slot T (get_or ts p 0)

  pub removed_at : get_or ts p 0 < 128 → is_removed (slot_at (slots_of ts cs) p) ≡ nat_eq (get_or ts p 0) 1
  removed_at low = ap is_removed at ∙ ap (λ c. is_removed (slot_of (get_or ts p 0) c)) (no_cell low) ∙ removed_slot T (get_or ts p 0)

  pub tagged_at : is_live (slot_at (slots_of ts cs) p) ≡ true → (128 ≤ get_or ts p 0) × (e : T × ℕ) × (get_or cs p None ≡ Some e)
  tagged_at h =
      let c = cell_of_live (get_or ts p 0) (get_or cs p None) (sym (ap is_live at) ∙ h) in
      (agree.tagged p c.0 c.1, c.0, c.1)

  pub alive_at : 128 ≤ get_or ts p 0 → is_live (slot_at (slots_of ts cs) p) ≡ true
  alive_at h = let c = agree.filled p h in ap is_live (live_at c.0 c.1)

  -- a slot is Live exactly if its tag is a fingerprint
  pub live_by_tag : leb 128 (get_or ts p 0) ≡ is_live (slot_at (slots_of ts cs) p)
  live_by_tag = elim (cases_lt (get_or ts p 0) 128) [
    | inl low ↦ lt-leb 128 (get_or ts p 0) low ∙ sym (dead_at low)
    | inr high ↦ le-leb 128 (get_or ts p 0) high ∙ sym (alive_at high)
  ]

  pub low_at : is_live (slot_at (slots_of ts cs) p) ≡ false → get_or ts p 0 < 128
  low_at h = elim (cases_lt (get_or ts p 0) 128) [ inl a ↦ a | inr b ↦ absurd (let z = alive_at b in cc) ]

  -- the byte 0 is an Empty slot
  pub empty_at : get_or ts p 0 ≡ 0 → slot_at (slots_of ts cs) p ≡ Empty
  empty_at z =
      let none = no_cell (omega arith) in
      at ∙ ap (λ t. slot_of t (get_or cs p None)) z ∙ ap (slot_of 0) none

  module _ (test : T → Bool) where
    pub holds_at : (e : T × ℕ) → get_or cs p None ≡ Some e → holds test (slot_at (slots_of ts cs) p) ≡ test e.0
    holds_at e h = ap (holds test) (live_at e h)

    -- a slot with another fingerprint than what passes has holds another value
    pub holds_other : (hash : T → ℕ) (h : ℕ) → ((v : T) → test v ≡ true → hash v ≡ h) → IsReached hash (columns ts cs) → get_or ts p 0 ≢ fingerprint_of h → holds test (slot_at (slots_of ts cs) p) ≡ false
    holds_other hash h alike reached ne =
        false_by _ (λ yes.
        let found = holder test (slot_at (slots_of ts cs) p) yes in
        absurd (ne (reached.fingerprints p found.0 found.1 found.2 ∙ ap (λ k. fingerprint_of k) (alike found.0 found.3))))

module _ {T : Type 0} (ts : List ℕ) (cs : List (Option (T × ℕ))) (agree : Agree ts cs) (from : ℕ) where
  -- what the tags say of the next Live slot
  pub next_slot : (p : ℕ) → IsNextLiveTag ts from p → IsNextLive (slots_of ts cs) from p
  next_slot p h = record {
    after = h.0;
    within = let l = length-slots_of ts cs agree.same_length in let i = h.1 in omega arith;
    live = alive_at ts cs agree p h.2;
    between = λ q a b. dead_at ts cs agree q (h.3 q a b);
  }

-- the first tag on the path of a hash that is no fingerprint
pub record IsFirstLow (ts : List ℕ) (hash p : ℕ) : Type 0 where
  pub step : ℕ
  pub within : step < length ts
  pub on_path : p ≡ path_slot (length ts) hash step
  pub bound : p < length ts
  pub free : get_or ts p 0 < 128
  pub front : (before : ℕ) → before < step → 128 ≤ get_or ts (path_slot (length ts) hash before) 0

module _ {T : Type 0} (ts : List ℕ) (cs : List (Option (T × ℕ))) (agree : Agree ts cs) (hash p : ℕ) where
  pub first_free : IsFirstFree hash (slots_of ts cs) p → IsFirstLow ts hash p
  first_free first =
      let len : length (slots_of ts cs) ≡ length ts = length-slots_of ts cs agree.same_length in
      let lt = first.within in
      let is : p ≡ path_slot (length ts) hash first.step = first.on_path ∙ ap (λ n. path_slot n hash first.step) len in
      let below = path_below (length ts) hash first.step (omega arith) in
      record {
        step = first.step;
        within = omega arith;
        on_path = is;
        bound = omega arith;
        free = low_at ts cs agree p first.free;
        front = λ before low. (tagged_at ts cs agree (path_slot (length ts) hash before) (subst (λ n. is_live (slot_at (slots_of ts cs) (path_slot n hash before)) ≡ true) len (first.front before low))).0;
      }

  pub first_low : (step : ℕ) → step < length ts → p ≡ path_slot (length ts) hash step → get_or ts p 0 < 128 → ((before : ℕ) → before < step → 128 ≤ get_or ts (path_slot (length ts) hash before) 0) → IsFirstFree hash (slots_of ts cs) p
  first_low step lt is low front =
      let len : length (slots_of ts cs) ≡ length ts = length-slots_of ts cs agree.same_length in
      record {
        step = step;
        within = omega arith;
        on_path = is ∙ sym (ap (λ n. path_slot n hash step) len);
        free = dead_at ts cs agree p low;
        front = λ before lt. subst (λ n. is_live (slot_at (slots_of ts cs) (path_slot n hash before)) ≡ true) (sym len) (alive_at ts cs agree (path_slot (length ts) hash before) (front before lt));
      }
