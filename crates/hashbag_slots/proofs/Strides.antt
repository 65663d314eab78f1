-- A probe that goes on by several slots at once, none of which wraps.
use Rattle.std.proofs.Common.{◌⊎◌, ◌≡◌, ℕ, ◌+◌, ◌-◌, ◌%◌, ◌<◌, ◌≤◌, Bool, true, false, List, Option, length, nat_eq, sym, ap, subst, ◌∙◌, inl, inr, arith}
use Rattle.std.proofs.Math.Nat.{mod-add-mod, mod-eq_of_lt}
use Rattle.std.proofs.lemmas.Bool.{cases_eq, cases_lt, eqb-false}
use Rattle.hashbag_slots.specs.declared.slots.Slot.{Slot}
use Rattle.hashbag_slots.specs.Slots.{path_slot, is_live, holds, slot_at, IsAbsent, IsFirstFree}
use Rattle.hashbag_slots.specs.Columns.{fingerprint_of, tag_at, slots_of, columns, Agree, IsReached}
use Rattle.hashbag_slots.proofs.Paths.{path_to, path_wraps}
use Rattle.hashbag_slots.proofs.Probing.{absent_at_end, absent_at_stop}
use Rattle.hashbag_slots.proofs.Reading.{length-slots_of, holds_other, empty_at}

pub path_ahead : (n h s k : ℕ) → path_slot n h s + k < n → path_slot n h (s + k) ≡ path_slot n h s + k
path_ahead n h s k lt =
    let e : h + (s + k) ≡ h + s + k = omega arith in
    ap (λ x. x % n) e ∙ sym (mod-add-mod (h + s) n k) ∙ mod-eq_of_lt lt

-- the first places of a path
pub path_near : (n h k : ℕ) → path_slot n h 0 + k < n → path_slot n h k ≡ path_slot n h 0 + k
path_near n h k lt = let e : k ≡ 0 + k = omega arith in ap (path_slot n h) e ∙ path_ahead n h 0 k lt

-- what holds at each place that was passed, and at the next r, holds at all of these
pub further : (Q : ℕ → Type 0) (n h s r : ℕ) → path_slot n h s + r ≤ n → ((k : ℕ) → k < s → Q (path_slot n h k)) → ((p : ℕ) → path_slot n h s ≤ p → p < path_slot n h s + r → Q p) → (k : ℕ) → k < s + r → Q (path_slot n h k)
further Q n h s r room before run k lt =
    elim (cases_lt k s) [
      | inl a ↦ before k a
      | inr b ↦
          let e : s + (k - s) ≡ k = omega arith in
          let ahead : path_slot n h (s + (k - s)) ≡ path_slot n h s + (k - s) = path_ahead n h s (k - s) (omega arith) in
          subst (λ i. Q (path_slot n h i)) e (subst Q (sym ahead) (run (path_slot n h s + (k - s)) (omega arith) (omega arith)))
    ]

-- how many of sixteen slots come before the end of n, and where the path is after them
module _ (n h step at : ℕ) (some : 0 < n) (here : path_slot n h step ≡ at) (bound : at < n) where
  abbrev pub Reach : ℕ → Type 0
  Reach r = (at + r ≤ n) × (r ≤ 16) × (((at + 16 < n) × (r ≡ 16) × (path_slot n h (step + r) ≡ at + 16)) ⊎ ((n ≤ at + 16) × (at + r ≡ n) × (path_slot n h (step + r) ≡ 0)))

  pub reach : (r : ℕ) × Reach r
  reach =
      elim (cases_lt (at + 16) n) [
        | inl short ↦ (16, (omega arith, omega arith, inl (short, omega arith, path_ahead n h step 16 (omega arith) ∙ ap (λ p. p + 16) here)))
        | inr long ↦
            let r : ℕ = n - at in let end : at + r ≡ n = omega arith in
            (r, (omega arith, omega arith, inr (long, end, path_wraps n h step r some (omega arith))))
      ]

-- `free` is n, and the first `step` slots of a path are Live; or `free` is the first place on the path whose slot isn't Live
abbrev pub FreeSoFar : ℕ → ℕ → List ℕ → ℕ → ℕ → Type 0
FreeSoFar n h ts step free =
    ((free ≡ n) × ((k : ℕ) → k < step → 128 ≤ tag_at ts (path_slot n h k)))
    ⊎ ((free < n) × (f : ℕ) × (f < n) × (free ≡ path_slot n h f) × (tag_at ts free < 128) × ((k : ℕ) → k < f → 128 ≤ tag_at ts (path_slot n h k)))

module _ (n h : ℕ) (ts : List ℕ) where
  -- one more stretch of r slots, none before of which is free
  pub free_next : (step at r free : ℕ) → path_slot n h step ≡ at → at + r ≤ n → ((k : ℕ) → k < step → 128 ≤ tag_at ts (path_slot n h k)) → free ≤ n
      → (free < n → (at ≤ free) × (free < at + r) × (tag_at ts free < 128)) → ((p : ℕ) → at ≤ p → p < at + r → p < free → 128 ≤ tag_at ts p) → FreeSoFar n h ts (step + r) free
  free_next step at r free here room front bound low before =
      elim (cases_lt free n) [
        | inl found ↦
            let is = low found in let from = is.0 in let near = is.1 in let q : ℕ = free - at in
            let back : at + q ≡ free = omega arith in
            let passed : (k : ℕ) → k < step + q → 128 ≤ tag_at ts (path_slot n h k) =
            further (λ p. 128 ≤ tag_at ts p) n h step q (omega arith) front (λ p a b. before p (omega arith) (omega arith) (omega arith)) in
            let there : path_slot n h (step + q) ≡ free = path_ahead n h step q (omega arith) ∙ ap (λ p. p + q) here ∙ back in
            let to = path_to n h free found in
            let within : step + q < n =
            elim (cases_lt to.0 (step + q)) [
              | inl earlier ↦ absurd (let high = passed to.0 earlier in let at_it = ap (tag_at ts) to.2 in let less = is.2 in omega arith)
              | inr after ↦ let t = to.1 in omega arith
            ] in
            inr (found, step + q, within, sym there, is.2, passed)
        | inr none ↦
            inl (omega arith, further (λ p. 128 ≤ tag_at ts p) n h step r (omega arith) front (λ p a b. before p (omega arith) (omega arith) (omega arith)))
      ]

-- `alike`: what passes the test has the hash h
module _ {T : Type 0} (test : T → Bool) (hash : T → ℕ) (h : ℕ) (alike : (v : T) → test v ≡ true → hash v ≡ h) (ts : List ℕ) (cs : List (Option (T × ℕ))) (agree : Agree ts cs) (reached : IsReached hash (columns ts cs)) where
  -- slots whose tags are not the fingerprint of the hash hold other values
  pub others : (fingerprint : ℕ) → fingerprint ≡ fingerprint_of h → (from r : ℕ) → ((p : ℕ) → from ≤ p → p < r → nat_eq (tag_at ts p) fingerprint ≡ false) → (p : ℕ) → from ≤ p → p < r → holds test (slot_at (slots_of ts cs) p) ≡ false
  others fingerprint is from r differ p a b = holds_other ts cs agree p test hash h alike reached (λ e. eqb-false (tag_at ts p) fingerprint (differ p a b) (e ∙ sym is))

  -- a slot holds another value if it does so where its tag is the fingerprint of the hash
  pub other : (fingerprint : ℕ) → fingerprint ≡ fingerprint_of h → (p : ℕ) → (tag_at ts p ≡ fingerprint → holds test (slot_at (slots_of ts cs) p) ≡ false) → holds test (slot_at (slots_of ts cs) p) ≡ false
  other fingerprint is p same =
      elim (cases_eq (tag_at ts p) fingerprint) [
        | inl equal ↦ same equal
        | inr differs ↦ holds_other ts cs agree p test hash h alike reached (λ e. differs (e ∙ sym is))
      ]

  -- the path meets an Empty slot, and no slot before it holds the value
  pub absent_past : (step : ℕ) → ((k : ℕ) → k < step → holds test (slot_at (slots_of ts cs) (path_slot (length ts) h k)) ≡ false) → tag_at ts (path_slot (length ts) h step) ≡ 0 → IsAbsent test (slots_of ts cs)
  absent_past step passed empty =
      let ss = slots_of ts cs in let len : length ss ≡ length ts = length-slots_of ts cs agree.same_length in
      absent_at_stop test hash h alike ss reached.paths step (λ k lt. ap (λ n. holds test (slot_at ss (path_slot n h k))) len ∙ passed k lt)
      (ap (λ n. slot_at ss (path_slot n h step)) len ∙ empty_at ts cs agree (path_slot (length ts) h step) empty)

  -- the same, where n is the number of slots
  pub absent_before : (n : ℕ) → length ts ≡ n → (step : ℕ) → ((k : ℕ) → k < step → holds test (slot_at (slots_of ts cs) (path_slot n h k)) ≡ false) → tag_at ts (path_slot n h step) ≡ 0 → IsAbsent test (slots_of ts cs)
  absent_before n long step passed empty =
      absent_past step (λ k lt. ap (λ m. holds test (slot_at (slots_of ts cs) (path_slot m h k))) long ∙ passed k lt) (ap (λ m. tag_at ts (path_slot m h step)) long ∙ empty)

  -- every slot was passed
  pub absent_all : (n : ℕ) → length ts ≡ n → ((k : ℕ) → k < n → holds test (slot_at (slots_of ts cs) (path_slot n h k)) ≡ false) → IsAbsent test (slots_of ts cs)
  absent_all n long passed =
      let ss = slots_of ts cs in let len : length ss ≡ length ts = length-slots_of ts cs agree.same_length in
      absent_at_end test hash h alike ss (λ k lt. ap (λ m. holds test (slot_at ss (path_slot m h k))) (len ∙ long) ∙ passed k (omega arith))

  -- an Empty slot is at `first + stop`, and no slot with the fingerprint that comes before it on the path holds the value
  pub absent_near : (fingerprint : ℕ) → fingerprint ≡ fingerprint_of h → (first stop : ℕ) → first ≡ path_slot (length ts) h 0 → first + stop < length ts → tag_at ts (first + stop) ≡ 0
      → ((p : ℕ) → first ≤ p → p < first + stop → tag_at ts p ≡ fingerprint → holds test (slot_at (slots_of ts cs) p) ≡ false) → IsAbsent test (slots_of ts cs)
  absent_near fingerprint is first stop at within empty same =
      let ss = slots_of ts cs in
      let there : (k : ℕ) → k ≤ stop → path_slot (length ss) h k ≡ first + k = λ k le.
      ap (λ n. path_slot n h k) (length-slots_of ts cs agree.same_length) ∙ path_near (length ts) h k (omega arith) ∙ ap (λ p. p + k) (sym at) in
      absent_at_stop test hash h alike ss reached.paths stop
      (λ k lt. subst (λ p. holds test (slot_at ss p) ≡ false) (sym (there k (omega arith))) (other fingerprint is (first + k) (same (first + k) (omega arith) (omega arith))))
      (ap (slot_at ss) (there stop (omega arith)) ∙ empty_at ts cs agree (first + stop) empty)

-- the first free slot from a place on, before which all slots on the path of a hash are Live, is the first one on that path
module _ {T : Type 0} (ss : List (Slot T)) (h place step : ℕ) (there : place ≡ path_slot (length ss) h step) (front : (before : ℕ) → before < step → is_live (slot_at ss (path_slot (length ss) h before)) ≡ true) where
  abbrev n : ℕ
  n = length ss

  same_path : (k : ℕ) → path_slot n place k ≡ path_slot n h (step + k)
  same_path k = let e : h + (step + k) ≡ h + step + k = omega arith in ap (λ p. (p + k) % n) there ∙ mod-add-mod (h + step) n k ∙ ap (λ x. x % n) (sym e)

  pub free_later : (p : ℕ) → IsFirstFree place ss p → IsFirstFree h ss p
  free_later p first =
      let f = first.step in let lt = first.within in let is : p ≡ path_slot n h (step + f) = first.on_path ∙ same_path f in
      let live : (k : ℕ) → k < step + f → is_live (slot_at ss (path_slot n h k)) ≡ true = λ k less.
      elim (cases_lt k step) [
        | inl before ↦ front k before
        | inr after ↦
            let back : step + (k - step) ≡ k = omega arith in
            ap (λ q. is_live (slot_at ss (path_slot n h q))) (sym back) ∙ ap (λ q. is_live (slot_at ss q)) (sym (same_path (k - step))) ∙ first.front (k - step) (omega arith)
      ] in
      let below : p < n = omega arith in
      let to = path_to n h p below in
      record {
        step = step + f;
        within = elim (cases_lt to.0 (step + f)) [
          | inl earlier ↦ absurd (let yes = live to.0 earlier in let same = ap (λ q. is_live (slot_at ss q)) to.2 in let no = first.free in cc)
          | inr after ↦ let t = to.1 in omega arith
        ];
        on_path = is;
        free = first.free;
        front = live;
      }
