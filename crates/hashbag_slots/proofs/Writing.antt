-- A write to one place of both columns.
use Rattle.std.proofs.Common.{◌≡◌, ℕ, zero, suc, ◌+◌, ◌-◌, ◌<◌, ◌≤◌, ◌⊎◌, inl, inr, Bool, true, false, cond, nat_eq, List, [], ◌∷◌, ◌++◌, take, drop, length, Option, Some, None, get_or, refl, sym, ap, subst, ◌∙◌, arith, slice_set, replicate}
use Rattle.std.proofs.lemmas.Bool.{cases_eq, cases_lt}
use Rattle.std.proofs.lemmas.List.{get_or-set_same, get_or-set_other, length-set, length-replicate, get_or_past}
use Rattle.std.specs.Cmp.{IsEquivalence}
use Rattle.hashbag_slots.specs.declared.slots.Slot.{Slot}
use Rattle.hashbag_slots.specs.declared.slots.Slot.TheVariants.{Empty, Live}
use Rattle.hashbag_slots.specs.Slots.{IsSlotCount, path_slot, slot_at, is_live, KeepsPaths, IsTable, IsAbsent}
use Rattle.hashbag_slots.specs.Columns.{fingerprint_of, slot_of, slots_of, columns, Agree, IsColumns, IsReached}
use Rattle.hashbag_slots.proofs.Edits.{set_cases}
use Rattle.hashbag_slots.proofs.Reading.{length-slots_of, dead_slot, removed_slot, live_at, dead_at, alive_at, removed_at, tagged_at}
use Rattle.hashbag_slots.proofs.Tables.{slot_at-replicate, IsTable-empty, IsTable-put, IsTable-take, IsTable-rewrite, KeepsPaths-empty, KeepsPaths-keep, KeepsPaths-place}

pub some_cell : {T : Type 0} (e f : T × ℕ) → (let c : Option (T × ℕ) = Some e in c) ≡ Some f → e ≡ f
some_cell e f h = cc

pub set_at : {X : Type 0} (xs : List X) (p : ℕ) (x d : X) → p < length xs → (q : ℕ) → ((q ≡ p) × (get_or (slice_set xs p x) q d ≡ x)) ⊎ ((q ≡ p → ⊥) × (get_or (slice_set xs p x) q d ≡ get_or xs q d))
set_at xs p x d within q =
    elim (cases_eq q p) [
      | inl e ↦ inl (e, ap (λ r. get_or (slice_set xs p x) r d) e ∙ get_or-set_same xs p x d within)
      | inr ne ↦ inr (ne, get_or-set_other xs p q x d ne)
    ]

pub all_same : {X : Type 0} (xs : List X) (n : ℕ) (x d : X) → length xs ≡ n → ((q : ℕ) → q < n → get_or xs q d ≡ x) → xs ≡ replicate n x
all_same [] zero x d e h = refl
all_same [] (suc n) x d e h = absurd (omega arith)
all_same (y ∷ xs) zero x d e h = absurd (omega arith)
all_same (y ∷ xs) (suc n) x d e h = (λ i. h 0 (omega arith) i ∷ all_same xs n x d (omega arith) (λ q lt. h (suc q) (omega arith)) i)

pub blank_same : {X : Type 0} (n q : ℕ) (x : X) → get_or (replicate n x) q x ≡ x
blank_same zero q x = refl
blank_same (suc n) zero x = refl
blank_same (suc n) (suc q) x = blank_same n q x

pub set_twice : {X : Type 0} (xs : List X) (p : ℕ) (x y : X) → slice_set (slice_set xs p x) p y ≡ slice_set xs p y
set_twice [] p x y = refl
set_twice (z ∷ xs) zero x y = refl
set_twice (z ∷ xs) (suc p) x y = ap (λ ys. z ∷ ys) (set_twice xs p x y)

-- an element was replaced, and then replaced again
pub put_back : {X : Type 0} (xs ys zs : List X) (p : ℕ) (x y : X) → ys ≡ slice_set xs p x → zs ≡ slice_set ys p y → zs ≡ slice_set xs p y
put_back xs ys zs p x y first then = then ∙ ap (λ l. slice_set l p y) first ∙ set_twice xs p x y

-- a whole list was written anew
pub whole : (zs ts : List ℕ) (n : ℕ) → length zs ≡ n → length ts ≡ n → take n (zs ++ drop (length zs) ts) ≡ zs
whole [] [] zero e f = refl
whole [] [] (suc n) e f = absurd (omega arith)
whole [] (t ∷ ts) zero e f = absurd (omega arith)
whole [] (t ∷ ts) (suc n) e f = absurd (omega arith)
whole (z ∷ zs) [] n e f = absurd (omega arith)
whole (z ∷ zs) (t ∷ ts) zero e f = absurd (omega arith)
whole (z ∷ zs) (t ∷ ts) (suc n) e f = ap (λ ys. z ∷ ys) (whole zs ts n (omega arith) (omega arith))

low_zeros : (n p : ℕ) → get_or (replicate n 0) p 0 < 128
low_zeros zero p = omega arith
low_zeros (suc n) zero = omega arith
low_zeros (suc n) (suc p) = low_zeros n p

set_same : {X : Type 0} (xs : List X) (p : ℕ) (d : X) → slice_set xs p (get_or xs p d) ≡ xs
set_same [] p d = refl
set_same (x ∷ xs) zero d = refl
set_same (x ∷ xs) (suc p) d = ap (λ ys. x ∷ ys) (set_same xs p d)

module _ {T : Type 0} where
  pub set-slots_of : (ts : List ℕ) (cs : List (Option (T × ℕ))) (p t : ℕ) (c : Option (T × ℕ)) → length ts ≡ length cs → slots_of (slice_set ts p t) (slice_set cs p c) ≡ slice_set (slots_of ts cs) p (slot_of t c)
  set-slots_of [] [] p t c e = refl
  set-slots_of [] (x ∷ cs) p t c e = absurd (omega arith)
  set-slots_of (u ∷ ts) [] p t c e = absurd (omega arith)
  set-slots_of (u ∷ ts) (x ∷ cs) zero t c e = refl
  set-slots_of (u ∷ ts) (x ∷ cs) (suc p) t c e = ap (λ ss. slot_of u x ∷ ss) (set-slots_of ts cs p t c (omega arith))

module _ {T : Type 0} (ts : List ℕ) (cs : List (Option (T × ℕ))) (agree : Agree ts cs) (p : ℕ) (within : p < length ts) where
  in_cells : p < length cs
  in_cells = let e = agree.same_length in omega arith

  pub Agree-full : (t : ℕ) (e : T × ℕ) → 128 ≤ t → Agree (slice_set ts p t) (slice_set cs p (Some e))
  Agree-full t e high = record {
    same_length = length-set ts p t ∙ agree.same_length ∙ sym (length-set cs p (Some e));
    filled = λ q h. elim (set_at cs p (Some e) None in_cells q) [
      | inl x ↦ (e, x.1)
      | inr x ↦
          let other : get_or (slice_set ts p t) q 0 ≡ get_or ts q 0 = get_or-set_other ts p q t 0 x.0 in
          let c = agree.filled q (omega arith) in (c.0, x.1 ∙ c.1)
    ];
    tagged = λ q f h. elim (set_at ts p t 0 within q) [
      | inl x ↦ let is = x.1 in omega arith
      | inr x ↦
          let other : get_or (slice_set cs p (Some e)) q None ≡ get_or cs q None = get_or-set_other cs p q (Some e) None x.0 in
          let m = agree.tagged q f (sym other ∙ h) in let is = x.1 in omega arith
    ];
  }

  pub Agree-empty : (t : ℕ) → t < 128 → Agree (slice_set ts p t) (slice_set cs p None)
  Agree-empty t low = record {
    same_length = length-set ts p t ∙ agree.same_length ∙ sym (length-set cs p None);
    filled = λ q h. elim (set_at ts p t 0 within q) [
      | inl x ↦ absurd (let is = x.1 in omega arith)
      | inr x ↦
          let c = agree.filled q (let is = x.1 in omega arith) in (c.0, get_or-set_other cs p q None None x.0 ∙ c.1)
    ];
    tagged = λ q f h. elim (set_at cs p None None in_cells q) [
      | inl x ↦ absurd (let is = x.1 in cc)
      | inr x ↦
          let m = agree.tagged q f (sym x.1 ∙ h) in let other = get_or-set_other ts p q t 0 x.0 in omega arith
    ];
  }

  abbrev ss : List (Slot T)
  ss = slots_of ts cs

  inside : p < length ss
  inside = let l = length-slots_of ts cs agree.same_length in omega arith

  -- ---- what is reached stays reached
  fingerprints-set : (hash : T → ℕ) → IsReached hash (columns ts cs) → (t : ℕ) (c : Option (T × ℕ)) → ((v : T) (n : ℕ) → slot_of t c ≡ Live v n → t ≡ fingerprint_of (hash v))
      → (q : ℕ) (v : T) (n : ℕ) → slot_at (slots_of (slice_set ts p t) (slice_set cs p c)) q ≡ Live v n → get_or (slice_set ts p t) q 0 ≡ fingerprint_of (hash v)
  fingerprints-set hash reached t c new q v n h =
      let h' : slot_at (slice_set ss p (slot_of t c)) q ≡ Live v n = sym (ap (λ xs. slot_at xs q) (set-slots_of ts cs p t c agree.same_length)) ∙ h in
      elim (set_cases ss p (slot_of t c) inside q) [
        | inl x ↦ ap (λ r. get_or (slice_set ts p t) r 0) x.0 ∙ get_or-set_same ts p t 0 within ∙ new v n (sym x.1 ∙ h')
        | inr x ↦ get_or-set_other ts p q t 0 x.0 ∙ reached.fingerprints q v n (sym x.1 ∙ h')
      ]

  pub IsReached-set : (hash : T → ℕ) → IsReached hash (columns ts cs) → (t : ℕ) (c : Option (T × ℕ)) → ((v : T) (n : ℕ) → slot_of t c ≡ Live v n → t ≡ fingerprint_of (hash v))
      → KeepsPaths hash (slice_set ss p (slot_of t c)) → IsReached hash (columns (slice_set ts p t) (slice_set cs p c))
  IsReached-set hash reached t c new rule = record {
    paths = subst (KeepsPaths hash) (sym (set-slots_of ts cs p t c agree.same_length)) rule;
    fingerprints = fingerprints-set hash reached t c new;
  }

module _ {T : Type 0} (n : ℕ) where
  abbrev nothing : List (Option (T × ℕ))
  nothing = replicate n None

  slots_of-empty : (k : ℕ) → slots_of (replicate k 0) (let cs : List (Option (T × ℕ)) = replicate k None in cs) ≡ replicate k Empty
  slots_of-empty zero = refl
  slots_of-empty (suc k) = ap (λ ss. Empty ∷ ss) (slots_of-empty k)

  Agree-blank : Agree {T = T} (replicate n 0) nothing
  Agree-blank = record {
    same_length = length-replicate n 0 ∙ sym (length-replicate n None);
    filled = λ p h. absurd (omega (arith, low_zeros n p, h));
    tagged = λ p e h. absurd (let none : get_or nothing p None ≡ None = blank_same n p None in cc);
  }

  IsColumns-blank : (eq : T → T → Bool) → IsSlotCount n → IsColumns eq (replicate n 0) nothing 0 0
  IsColumns-blank eq c = record { agree = Agree-blank; table = subst (λ ss. IsTable eq ss 0 0) (sym (slots_of-empty n)) (IsTable-empty eq n c) }

  IsReached-blank : (hash : T → ℕ) → IsReached hash (columns (replicate n 0) nothing)
  IsReached-blank hash = record {
    paths = subst (KeepsPaths hash) (sym (slots_of-empty n)) (KeepsPaths-empty hash n);
    fingerprints = λ p v k h. absurd (let e = slot_at-replicate {T = T} n p in let s = ap (λ ss. slot_at ss p) (slots_of-empty n) in cc);
  }

-- columns of nothing, however they are named
module _ {T : Type 0} (n : ℕ) (ts : List ℕ) (cs : List (Option (T × ℕ))) (tags : ts ≡ replicate n 0) (cells : cs ≡ replicate n None) where
  pub blank_columns : (eq : T → T → Bool) → IsSlotCount n → IsColumns eq ts cs 0 0
  blank_columns eq c = subst (λ us. IsColumns eq us cs 0 0) (sym tags) (subst (λ ds. IsColumns eq (replicate n 0) ds 0 0) (sym cells) (IsColumns-blank n eq c))

  pub blank_slots : slots_of ts cs ≡ replicate n Empty
  blank_slots = (λ i. slots_of (tags i) (cells i)) ∙ slots_of-empty {T = T} n n

  pub blank_reached : (hash : T → ℕ) → IsReached hash (columns ts cs)
  blank_reached hash = subst (λ us. IsReached hash (columns us cs)) (sym tags) (subst (λ ds. IsReached hash (columns (replicate n 0) ds)) (sym cells) (IsReached-blank n hash))

module _ {T : Type 0} (ts : List ℕ) (cs : List (Option (T × ℕ))) where
  -- a cell is written beside a tag that stays
  same_tag : (p : ℕ) (c : Option (T × ℕ)) → columns (slice_set ts p (get_or ts p 0)) (slice_set cs p c) ≡ columns ts (slice_set cs p c)
  same_tag p c = ap (λ us. columns us (slice_set cs p c)) (set_same ts p 0)

  module _ (agree : Agree ts cs) (p : ℕ) (e : T × ℕ) (cell : get_or cs p None ≡ Some e) where
    here : 128 ≤ get_or ts p 0
    here = agree.tagged p e cell

    pub in_tags : p < length ts
    in_tags = elim (cases_lt p (length ts)) [ inl a ↦ a | inr b ↦ absurd (let z = get_or_past ts p 0 b in let h = here in omega arith) ]

    pub in_slots : p < length (slots_of ts cs)
    in_slots = let l = length-slots_of ts cs agree.same_length in let i = in_tags in omega arith

    pub rewritten : (w : T) (n : ℕ) → slots_of ts (slice_set cs p (Some (w, n))) ≡ slice_set (slots_of ts cs) p (Live w n)
    rewritten w n = sym (ap (λ s. s.slots) (same_tag p (Some (w, n)))) ∙ set-slots_of ts cs p (get_or ts p 0) (Some (w, n)) agree.same_length

    was : slot_at (slots_of ts cs) p ≡ Live e.0 e.1
    was = live_at ts cs agree p e cell

    pub Agree-rewrite : (f : T × ℕ) → Agree ts (slice_set cs p (Some f))
    Agree-rewrite f = subst (λ us. Agree us (slice_set cs p (Some f))) (set_same ts p 0) (Agree-full ts cs agree p in_tags (get_or ts p 0) f here)

    pub IsReached-rewrite : (hash : T → ℕ) → IsReached hash (columns ts cs) → (w : T) (n : ℕ) → hash e.0 ≡ hash w → IsReached hash (columns ts (slice_set cs p (Some (w, n))))
    IsReached-rewrite hash reached w n same =
        subst (IsReached hash) (same_tag p (Some (w, n))) (IsReached-set ts cs agree p in_tags hash reached (get_or ts p 0) (Some (w, n))
        (λ v k h. reached.fingerprints p e.0 e.1 was ∙ ap (λ x. fingerprint_of x) (same ∙ ap hash (let z : w ≡ v = cc in z)))
        (KeepsPaths-keep hash (slots_of ts cs) reached.paths p (Live w n) in_slots (λ h. cc) (λ v k h. (e.0, e.1, was, same ∙ ap hash (let z : w ≡ v = cc in z)))))

    pub IsReached-take : (hash : T → ℕ) → IsReached hash (columns ts cs) → (t : ℕ) → is_live {T = T} (slot_of t None) ≡ false → (slot_of {T = T} t None ≡ Empty → ⊥) → IsReached hash (columns (slice_set ts p t) (slice_set cs p None))
    IsReached-take hash reached t dead full =
        IsReached-set ts cs agree p in_tags hash reached t None (λ v k h. absurd (let z = ap is_live h in cc))
        (KeepsPaths-keep hash (slots_of ts cs) reached.paths p (slot_of t None) in_slots full (λ v k h. absurd (let z = ap is_live h in cc)))

  module _ (agree : Agree ts cs) where
    pub IsReached-place : (hash : T → ℕ) → IsReached hash (columns ts cs) → (v : T) (n t at step : ℕ) → at < length ts → step < length ts → at ≡ path_slot (length ts) (hash v) step → t ≡ fingerprint_of (hash v)
        → ((before : ℕ) → before < step → 128 ≤ get_or ts (path_slot (length ts) (hash v) before) 0) → IsReached hash (columns (slice_set ts at t) (slice_set cs at (Some (v, n))))
    IsReached-place hash reached v n t at step within lt is fingerprint front =
        let ss = slots_of ts cs in
        let len : length ss ≡ length ts = length-slots_of ts cs agree.same_length in
        let at' : path_slot (length ss) (hash v) step ≡ at = ap (λ k. path_slot k (hash v) step) len ∙ sym is in
        IsReached-set ts cs agree at within hash reached t (Some (v, n)) (λ w k h. fingerprint ∙ ap (λ x. fingerprint_of (hash x)) (let z : v ≡ w = cc in z))
        (subst (λ q. KeepsPaths hash (slice_set ss q (Live v n))) at' (KeepsPaths-place hash ss reached.paths v n step (omega arith)
        (λ before low. alive_at ts cs agree (path_slot (length ss) (hash v) before) (subst (λ k. 128 ≤ get_or ts (path_slot k (hash v) before) 0) (sym len) (front before low)))))

module _ {T : Type 0} (eq : T → T → Bool) (laws : IsEquivalence eq) (ts : List ℕ) (cs : List (Option (T × ℕ))) (live removed p : ℕ) (cols : IsColumns eq ts cs live removed) where
  abbrev slots : List (Slot T)
  slots = slots_of ts cs

  pub IsColumns-put : (v : T) (n t : ℕ) → p < length ts → get_or ts p 0 < 128 → 128 ≤ t → IsAbsent (eq v) slots → 0 < n
      → IsColumns eq (slice_set ts p t) (slice_set cs p (Some (v, n))) (live + 1) (removed - cond (nat_eq (get_or ts p 0) 1) 1 0)
  IsColumns-put v n t within low high absent pos =
      let len = length-slots_of ts cs cols.agree.same_length in
      let inside : p < length slots = omega arith in
      record {
        agree = Agree-full ts cs cols.agree p within t (v, n) high;
        table = subst (λ ss. IsTable eq ss (live + 1) (removed - cond (nat_eq (get_or ts p 0) 1) 1 0)) (sym (set-slots_of ts cs p t (Some (v, n)) cols.agree.same_length))
            (subst (λ b. IsTable eq (slice_set slots p (Live v n)) (live + 1) (removed - cond b 1 0)) (removed_at ts cs cols.agree p low)
            (IsTable-put eq laws slots live removed p cols.table v n (dead_at ts cs cols.agree p low) inside absent pos));
      }

  pub IsColumns-rewrite : (e : T × ℕ) → get_or cs p None ≡ Some e → (w : T) (n : ℕ) → eq e.0 w ≡ true → 0 < n → IsColumns eq ts (slice_set cs p (Some (w, n))) live removed
  IsColumns-rewrite e cell w n same pos = record {
    agree = Agree-rewrite ts cs cols.agree p e cell (w, n);
    table = subst (λ ss. IsTable eq ss live removed) (sym (rewritten ts cs cols.agree p e cell w n))
        (IsTable-rewrite eq laws slots live removed p cols.table e.0 w e.1 n (live_at ts cs cols.agree p e cell) (in_slots ts cs cols.agree p e cell) same pos);
  }

  pub IsColumns-take : (e : T × ℕ) → get_or cs p None ≡ Some e → (t : ℕ) → t < 128 → IsColumns eq (slice_set ts p t) (slice_set cs p None) (live - 1) (removed + cond (nat_eq t 1) 1 0)
  IsColumns-take e cell t low = record {
    agree = Agree-empty ts cs cols.agree p (in_tags ts cs cols.agree p e cell) t low;
    table = subst (λ ss. IsTable eq ss (live - 1) (removed + cond (nat_eq t 1) 1 0)) (sym (set-slots_of ts cs p t None cols.agree.same_length))
        (subst (λ b. IsTable eq (slice_set slots p (slot_of t None)) (live - 1) (removed + cond b 1 0)) (removed_slot T t)
        (IsTable-take eq laws slots live removed p cols.table (slot_of t None) (ap is_live (live_at ts cs cols.agree p e cell)) (dead_slot T t) (in_slots ts cs cols.agree p e cell)));
  }

  -- the cell of a Live slot has its value and its count, which is at least 1
  pub cell_at : is_live (slot_at slots p) ≡ true → (e : T × ℕ) × (get_or cs p None ≡ Some e) × (slot_at slots p ≡ Live e.0 e.1) × (0 < e.1)
  cell_at h =
      let m = tagged_at ts cs cols.agree p h in
      let w = live_at ts cs cols.agree p m.1 m.2 in
      (m.1, m.2, w, cols.table.distinct.positive p m.1.0 m.1.1 w)
