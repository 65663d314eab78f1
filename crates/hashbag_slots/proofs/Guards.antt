-- The tags of a table's slots, among the tags that are stored: 16 guards come after them, all 2.
use Rattle.std.proofs.Common.{◌≡◌, ℕ, zero, suc, ◌+◌, ◌-◌, ◌<◌, ◌≤◌, eqb, leb, Bool, List, [], ◌∷◌, ◌++◌, length, take, drop, get_or, Option, refl, sym, ap, subst, ◌∙◌, inl, inr, arith, slice_set, replicate}
use Rattle.std.proofs.lemmas.Bool.{cases_lt, ne_eqb, lt-leb}
use Rattle.std.proofs.lemmas.List.{length-set, length-take-le, length-replicate, length-append, length-drop, get_or-take, get_or-drop, get_or_past, get_or-set_other, get_or-append-add, get_or-replicate, take_at}
use Rattle.hashbag_slots.specs.Slots.{IsSlotCount}
use Rattle.hashbag_slots.specs.Columns.{slots_of, IsGuarded, IsStored}
use Rattle.hashbag_slots.specs.Group.{IsTagMask}
use Rattle.hashbag_slots.proofs.GroupLemmas.{tells_same}
use Rattle.hashbag_slots.proofs.Reading.{length-slots_of}

-- a write before the n-th place is one of the first n
pub set-take : {X : Type 0} (xs : List X) (n p : ℕ) (x : X) → p < n → take n (slice_set xs p x) ≡ slice_set (take n xs) p x
set-take [] zero p x lt = refl
set-take [] (suc n) p x lt = refl
set-take (y ∷ xs) zero p x lt = absurd (omega arith)
set-take (y ∷ xs) (suc n) zero x lt = refl
set-take (y ∷ xs) (suc n) (suc p) x lt = ap (λ ys. y ∷ ys) (set-take xs n p x (omega arith))

-- there is no fingerprint past the end
pub tagged_within : (ts : List ℕ) (p : ℕ) → 128 ≤ get_or ts p 0 → p < length ts
tagged_within ts p high = elim (cases_lt p (length ts)) [ inl a ↦ a | inr b ↦ absurd (let past = get_or_past ts p 0 b in omega arith) ]

module _ (n : ℕ) (ts : List ℕ) (guarded : IsGuarded n ts) where
  -- the tags of all slots are stored
  pub stored : n ≤ length ts
  stored = elim (cases_lt 0 n) [ inl some ↦ let l = guarded.long some in omega arith | inr none ↦ omega arith ]

  pub length-first : length (take n ts) ≡ n
  length-first = length-take-le n ts stored

  pub first_tag : (p : ℕ) → p < n → get_or (take n ts) p 0 ≡ get_or ts p 0
  first_tag p lt = get_or-take n ts p 0 lt

  pub no_tag : (p : ℕ) → n ≤ p → get_or (take n ts) p 0 ≡ 0
  no_tag p le = get_or_past (take n ts) p 0 (let l = length-first in omega arith)

  -- a tag that isn't 2 is that of a slot
  pub of_slot : (p : ℕ) → p < n + 16 → 0 < n → (get_or ts p 0 ≡ 2 → ⊥) → p < n
  of_slot p lt some other =
      elim (cases_lt p n) [
        | inl before ↦ before
        | inr beyond ↦ absurd (other (guarded.guards p beyond lt some))
      ]

  -- a fingerprint is that of a slot
  pub same_tagged : (tag : ℕ) → 128 ≤ tag → 0 < n → (p : ℕ) → eqb (get_or ts p 0) tag ≡ eqb (get_or (take n ts) p 0) tag
  same_tagged tag high some p =
      elim (cases_lt p n) [
        | inl before ↦ ap (λ t. eqb t tag) (sym (first_tag p before))
        | inr beyond ↦
            let none = no_tag p beyond in
            elim (cases_lt p (n + 16)) [
              | inl near ↦ let guard = guarded.guards p beyond near some in ne_eqb _ _ (λ e. absurd (omega arith)) ∙ sym (ne_eqb _ _ (λ e. absurd (omega arith)))
              | inr far ↦
                  let past : get_or ts p 0 ≡ 0 = get_or_past ts p 0 (let l = guarded.long some in omega arith) in
                  ne_eqb _ _ (λ e. absurd (omega arith)) ∙ sym (ne_eqb _ _ (λ e. absurd (omega arith)))
            ]
      ]

  pub same_live : 0 < n → (p : ℕ) → leb 128 (get_or ts p 0) ≡ leb 128 (get_or (take n ts) p 0)
  same_live some p =
      elim (cases_lt p n) [
        | inl before ↦ ap (leb 128) (sym (first_tag p before))
        | inr beyond ↦
            let none = no_tag p beyond in
            elim (cases_lt p (n + 16)) [
              | inl near ↦ let guard = guarded.guards p beyond near some in lt-leb 128 _ (omega arith) ∙ sym (lt-leb 128 _ (omega arith))
              | inr far ↦
                  let past : get_or ts p 0 ≡ 0 = get_or_past ts p 0 (let l = guarded.long some in omega arith) in
                  lt-leb 128 _ (omega arith) ∙ sym (lt-leb 128 _ (omega arith))
            ]
      ]

  pub mask_first : (tag from until bits : ℕ) → 128 ≤ tag → 0 < n → IsTagMask ts tag from until bits → IsTagMask (take n ts) tag from until bits
  mask_first tag from until bits high some =
      tells_same (λ p. eqb (get_or ts p 0) tag) (λ p. eqb (get_or (take n ts) p 0) tag) from until bits (λ p _. same_tagged tag high some p)

  -- all tags of slots become 0
  pub take_cleared : take n (replicate n 0 ++ drop n ts) ≡ replicate n 0
  take_cleared = take_at (replicate n 0) (drop n ts) n (length-replicate n 0)

  pub guarded_cleared : IsGuarded n (replicate n 0 ++ drop n ts)
  guarded_cleared =
      let zeros = length-replicate n (let t : ℕ = 0 in t) in record {
        long = λ some. length-append (replicate n 0) (drop n ts) ∙ (let l = guarded.long some in let rest = length-drop n ts in omega arith);
        guards = λ p le near some.
            let e : length (replicate n (let t : ℕ = 0 in t)) + (p - n) ≡ p = omega arith in let back : n + (p - n) ≡ p = omega arith in
            ap (λ q. get_or (replicate n 0 ++ drop n ts) q 0) (sym e) ∙ get_or-append-add (replicate n 0) (drop n ts) (p - n) 0 ∙ get_or-drop n ts (p - n) 0
            ∙ ap (λ q. get_or ts q 0) back ∙ guarded.guards p le near some;
      }

  pub guarded_set : (p t : ℕ) → p < n → IsGuarded n (slice_set ts p t)
  guarded_set p t lt = record {
    long = λ some. length-set ts p t ∙ guarded.long some;
    guards = λ q le near some. get_or-set_other ts p q t 0 (λ e. absurd (omega arith)) ∙ guarded.guards q le near some;
  }

-- tags of slots with the guards after them
module _ (n : ℕ) (us ts : List ℕ) (long : length us ≡ n) (is : ts ≡ us ++ replicate 16 2) where
  pub take_front : take n ts ≡ us
  take_front = ap (take n) is ∙ take_at us (replicate 16 2) n long

  pub guarded_by : IsGuarded n ts
  guarded_by = record {
    long = λ some. ap length is ∙ length-append us (replicate 16 2) ∙ let l = length-replicate 16 (let t : ℕ = 2 in t) in omega arith;
    guards = λ p le near some.
        let e : length us + (p - length us) ≡ p = omega arith in
        ap (λ (l : List ℕ). get_or l p 0) is ∙ ap (λ q. get_or (us ++ replicate 16 2) q 0) (sym e) ∙ get_or-append-add us (replicate 16 2) (p - length us) 0
        ∙ get_or-replicate 16 (p - length us) 2 0 (omega arith);
  }

-- the tags of n Empty slots
module _ (n : ℕ) (ts : List ℕ) (is : 0 < n → ts ≡ replicate n 0 ++ replicate 16 2) where
  pub take_fresh : take n ts ≡ replicate n 0
  take_fresh =
      elim (cases_lt 0 n) [
        | inl some ↦ take_front n (replicate n 0) ts (length-replicate n 0) (is some)
        | inr none ↦ let zero : n ≡ 0 = omega arith in ap (λ m. take m ts) zero ∙ ap (λ m. replicate m 0) (sym zero)
      ]

  pub guarded_fresh : IsGuarded n ts
  guarded_fresh = record {
    long = λ some. (guarded_by n (replicate n 0) ts (length-replicate n 0) (is some)).long some;
    guards = λ p le near some. (guarded_by n (replicate n 0) ts (length-replicate n 0) (is some)).guards p le near some;
  }

-- what is stored of a table
module _ {T : Type 0} (eq : T → T → Bool) (n : ℕ) (ts : List ℕ) (cs : List (Option (T × ℕ))) (live removed : ℕ) (is : IsStored eq n ts cs live removed) where
  pub slots_are : length (slots_of (take n ts) cs) ≡ n
  slots_are = length-slots_of (take n ts) cs is.shown.agree.same_length ∙ length-first n ts is.guarded

  pub slot_count : IsSlotCount n
  slot_count = subst IsSlotCount slots_are is.shown.table.count
