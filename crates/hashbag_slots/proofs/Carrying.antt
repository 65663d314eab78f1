-- Slots of the older table that are carried, and pairs that are placed in the newer one.
use Rattle.std.proofs.Common.{◌≡◌, ℕ, zero, suc, ◌+◌, ◌-◌, ◌<◌, ◌≤◌, Bool, false, List, [], ◌∷◌, ◌++◌, length, take, drop, refl, sym, ap, subst, ◌∙◌, inl, inr, arith, slice_set}
use Rattle.std.proofs.lemmas.Bool.{cases_lt}
use Rattle.std.proofs.Math.Seq.{take-add}
use Rattle.std.proofs.lemmas.List.{ext_get_or, drop-drop, length-set, length-drop, take_more, get_or-drop}
use Rattle.hashbag_slots.specs.declared.slots.Slot.{Slot}
use Rattle.hashbag_slots.specs.declared.slots.Slot.TheVariants.{Empty, Removed, Moved, Live}
use Rattle.hashbag_slots.specs.Slots.{is_live, holds, live_count, removed_count, is_removed, slot_at, IsAbsent, IsSet, entries, Places, PlacesAll, moved, Carries, entries_in, AreApart}
use Rattle.hashbag_slots.specs.Columns.{Columns, CarriesInto, IsReached}
use Rattle.hashbag_slots.proofs.Probing.{false_by}
use Rattle.hashbag_slots.proofs.Edits.{set_cases, count-set}

module _ {T : Type 0} where
  pub length-Places : (v : T) (n : ℕ) (old new : List (Slot T)) → Places v n old new → length new ≡ length old
  length-Places v n old new put = ap length put.after ∙ length-set old put.at (Live v n)

  pub live-Places : (v : T) (n : ℕ) (old new : List (Slot T)) → Places v n old new → live_count new ≡ live_count old + 1
  live-Places v n old new put =
      let e = rw put.free at (count-set old put.at (Live v n) put.within is_live) in
      let f = ap live_count put.after in
      omega (arith, e, f)

  pub removed-Places : (v : T) (n : ℕ) (old new : List (Slot T)) → Places v n old new → removed_count new ≤ removed_count old
  removed-Places v n old new put =
      let e = count-set old put.at (Live v n) put.within is_removed in
      let f = ap removed_count put.after in
      omega (arith, e, f)

  pub IsAbsent-Places : (test : T → Bool) (v : T) (n : ℕ) (old new : List (Slot T)) → IsAbsent test old → Places v n old new → test v ≡ false → IsAbsent test new
  IsAbsent-Places test v n old new absent put unequal =
      subst (IsAbsent test) (sym put.after) (λ p lt.
      elim (set_cases old put.at (Live v n) put.within p) [
        | inl x ↦ ap (holds test) x.1 ∙ unequal
        | inr x ↦ ap (holds test) x.1 ∙ absent p (let e = length-set old put.at (Live v n) in omega arith)
      ])

  pub AreApart-carry : (eq : T → T → Bool) (older self next : List (Slot T)) (at : ℕ) (v : T) (n : ℕ) → IsSet eq older → AreApart eq older self → at < length older
      → slot_at older at ≡ Live v n → Places v n self next → AreApart eq (slice_set older at Moved) next
  AreApart-carry eq older self next at v n set apart within was put p w m here =
      elim (set_cases older at Moved within p) [
        | inl x ↦ absurd (let z = x.1 in cc)
        | inr x ↦
            let there : slot_at older p ≡ Live w m = sym x.1 ∙ here in
            IsAbsent-Places (eq w) v n self next (apart p w m there) put
            (false_by (eq w v) (λ yes. absurd (x.0 (set.apart p at w v m n there was yes))))
      ]

  pub PlacesAll-append : (hash : T → ℕ) (es fs : List (T × ℕ)) (a b c : List (Slot T)) → PlacesAll hash es a b → PlacesAll hash fs b c → PlacesAll hash (es ++ fs) a c
  PlacesAll-append hash [] fs a b c p q = subst (λ x. PlacesAll hash fs x c) p q
  PlacesAll-append hash (e ∷ es) fs a b c p q = (p.0, p.1, PlacesAll-append hash es fs p.0 b c p.2 q)

  entries-append : (xs ys : List (Slot T)) → entries (xs ++ ys) ≡ entries xs ++ entries ys
  entries-append [] ys = refl
  entries-append (Empty ∷ xs) ys = entries-append xs ys
  entries-append (Removed ∷ xs) ys = entries-append xs ys
  entries-append (Moved ∷ xs) ys = entries-append xs ys
  entries-append (Live v n ∷ xs) ys = ap (λ es. (v, n) ∷ es) (entries-append xs ys)

  pub entries_in_more : (from k : ℕ) (ss : List (Slot T)) → from + k < length ss → entries_in from (k + 1) ss ≡ entries_in from k ss ++ entries (slot_at ss (from + k) ∷ [])
  entries_in_more from k ss lt =
      ap entries (take_more (drop from ss) k Empty (let l = length-drop from ss in omega arith) ∙ ap (λ s. take k (drop from ss) ++ s ∷ []) (get_or-drop from ss k Empty)) ∙ entries-append (take k (drop from ss)) (slot_at ss (from + k) ∷ [])

  -- a slot that is not Live is left as it is
  pub carried_same : (s : Slot T) → is_live s ≡ false → moved s ≡ s
  carried_same Empty h = refl
  carried_same Removed h = refl
  carried_same Moved h = refl
  carried_same (Live v n) h = absurd (cc)

  pub no_entries : (s : Slot T) → is_live s ≡ false → entries (s ∷ []) ≡ []
  no_entries Empty h = refl
  no_entries Removed h = refl
  no_entries Moved h = refl
  no_entries (Live v n) h = absurd (cc)

  pub Carries-none : (from : ℕ) (ss : List (Slot T)) → Carries from 0 ss ss
  Carries-none from ss = record { same_length = refl; inside = λ p a b. absurd (omega arith); outside = λ p h. refl }

  pub Carries-more : (from k : ℕ) (old mid new : List (Slot T)) → from + k < length old → Carries from k old mid → new ≡ slice_set mid (from + k) (moved (slot_at mid (from + k))) → Carries from (k + 1) old new
  Carries-more from k old mid new lt carry after =
      let at = from + k in
      let s = moved (slot_at mid at) in
      let within : at < length mid = let e = carry.same_length in omega arith in
      let here : slot_at mid at ≡ slot_at old at = carry.outside at (inr (omega arith)) in
      subst (Carries from (k + 1) old) (sym after) (record {
        same_length = length-set mid at s ∙ carry.same_length;
        inside = λ p a b.
            elim (set_cases mid at s within p) [
              | inl x ↦ x.1 ∙ ap moved (here ∙ ap (slot_at old) (sym x.0))
              | inr x ↦ x.1 ∙ carry.inside p a (let ne = x.0 in elim (cases_lt p at) [ inl y ↦ y | inr y ↦ absurd (ne (let z : p ≡ at = omega arith in z)) ])
            ];
        outside = λ p h.
            elim (set_cases mid at s within p) [
              | inl x ↦ absurd (let e = x.0 in elim h [ inl y ↦ omega arith | inr y ↦ omega arith ])
              | inr x ↦ x.1 ∙ carry.outside p (elim h [ inl y ↦ inl y | inr y ↦ inr (omega arith) ])
            ];
      })

  -- one slot
  pub Carries-one : (at : ℕ) (old new : List (Slot T)) → at < length old → new ≡ slice_set old at (moved (slot_at old at)) → Carries at 1 old new
  Carries-one at old new lt after =
      let e : at ≡ at + 0 = omega arith in
      Carries-more at 0 old old new (omega arith) (Carries-none at old) (subst (λ p. new ≡ slice_set old p (moved (slot_at old p))) e after)

  pub entries_in_one : (at : ℕ) (ss : List (Slot T)) → at < length ss → entries_in at 1 ss ≡ entries (slot_at ss at ∷ [])
  entries_in_one at ss lt = entries_in_more at 0 ss (omega arith) ∙ ap (λ p. entries (slot_at ss p ∷ [])) (let e : at + 0 ≡ at = omega arith in e)

  no_entries_in : (at k : ℕ) (ss : List (Slot T)) → at + k ≤ length ss → ((p : ℕ) → at ≤ p → p < at + k → is_live (slot_at ss p) ≡ false) → entries_in at k ss ≡ []
  no_entries_in at zero ss within dead = refl
  no_entries_in at (suc k) ss within dead =
      let more : suc k ≡ k + 1 = omega arith in
      ap (λ j. entries_in at j ss) more ∙ entries_in_more at k ss (omega arith)
      ∙ ap (λ es. es ++ entries (slot_at ss (at + k) ∷ [])) (no_entries_in at k ss (omega arith) (λ p a b. dead p a (omega arith)))
      ∙ no_entries (slot_at ss (at + k)) (dead (at + k) (omega arith) (omega arith))

  -- to carry slots of which none is Live changes nothing
  pub CarriesInto-dead : (eq : T → T → Bool) (hash : T → ℕ) (at k : ℕ) (newer older : Columns T) → at + k ≤ length older.slots
      → ((p : ℕ) → at ≤ p → p < at + k → is_live (slot_at older.slots p) ≡ false) → AreApart eq older.slots newer.slots → IsReached hash newer → CarriesInto eq hash at k newer older newer older
  CarriesInto-dead eq hash at k newer older within dead apart reached = record {
    placed = subst (λ es. PlacesAll hash es newer.slots newer.slots) (sym (no_entries_in at k older.slots within dead)) refl;
    left = record { same_length = refl; inside = λ p a b. sym (carried_same (slot_at older.slots p) (dead p a b)); outside = λ p h. refl };
    apart = apart;
    sum = refl;
    removed = omega arith;
    slots = refl;
    reached = reached;
    older_reached = λ h r. r;
  }

  -- a carry goes on where another one ended
  pub Carries-join : (from at n : ℕ) (old mid new : List (Slot T)) → from ≤ at → Carries from (at - from) old mid → Carries at n mid new → Carries from (at + n - from) old new
  Carries-join from at n old mid new le a b = record {
    same_length = b.same_length ∙ a.same_length;
    inside = λ p x y. elim (cases_lt p at) [
      | inl before ↦ b.outside p (inl before) ∙ a.inside p x (omega arith)
      | inr beyond ↦ b.inside p beyond (omega arith) ∙ ap moved (a.outside p (inr (omega arith)))
    ];
    outside = λ p h. elim h [
      | inl before ↦ b.outside p (inl (omega arith)) ∙ a.outside p (inl before)
      | inr beyond ↦ b.outside p (inr (omega arith)) ∙ a.outside p (inr (omega arith))
    ];
  }

  pub PlacesAll-join : (hash : T → ℕ) (from at n : ℕ) (old mid a b c : List (Slot T)) → from ≤ at → Carries from (at - from) old mid → PlacesAll hash (entries_in from (at - from) old) a b → PlacesAll hash (entries_in at n mid) b c → PlacesAll hash (entries_in from (at + n - from) old) a c
  PlacesAll-join hash from at n old mid a b c le carry p q =
      let k = at - from in let xs = drop from old in
      let ahead : drop at mid ≡ drop at old =
      ext_get_or Empty (drop at mid) (drop at old) (let l = length-drop at mid in let m = length-drop at old in let same = carry.same_length in omega arith)
      (λ i lt. get_or-drop at mid i Empty ∙ carry.outside (at + i) (inr (omega arith)) ∙ sym (get_or-drop at old i Empty)) in
      let there : drop k xs ≡ drop at old = drop-drop k from old ∙ ap (λ j. drop j old) (let e : from + k ≡ at = omega arith in e) in
      let more : at + n - from ≡ k + n = omega arith in
      let es : entries_in from (at + n - from) old ≡ entries_in from k old ++ entries_in at n mid =
      ap (λ m. entries (take m xs)) more ∙ ap entries (take-add k n xs) ∙ entries-append (take k xs) (take n (drop k xs)) ∙ ap (λ ys. entries (take k xs) ++ entries (take n ys)) (there ∙ sym ahead) in
      subst (λ ys. PlacesAll hash ys a c) (sym es) (PlacesAll-append hash (entries_in from k old) (entries_in at n mid) a b c p q)

  -- a carry goes on where another one ended, over both tables
  pub CarriesInto-join : (eq : T → T → Bool) (hash : T → ℕ) (from at n : ℕ) (newer older a b newer' older' : Columns T) → from ≤ at
      → CarriesInto eq hash from (at - from) newer older a b → CarriesInto eq hash at n a b newer' older' → CarriesInto eq hash from (at + n - from) newer older newer' older'
  CarriesInto-join eq hash from at n newer older a b newer' older' le c d = record {
    placed = PlacesAll-join hash from at n older.slots b.slots newer.slots a.slots newer'.slots le c.left c.placed d.placed;
    left = Carries-join from at n older.slots b.slots older'.slots le c.left d.left;
    apart = d.apart;
    sum = d.sum ∙ c.sum;
    removed = let x = c.removed in let y = d.removed in omega arith;
    slots = d.slots ∙ c.slots;
    reached = d.reached;
    older_reached = λ h r. d.older_reached h (c.older_reached h r);
  }

  -- a carry goes on past slots of which none is Live
  pub CarriesInto-skip : (eq : T → T → Bool) (hash : T → ℕ) (from at to : ℕ) (newer older a b : Columns T) → from ≤ at → at ≤ to → to ≤ length older.slots
      → ((p : ℕ) → at ≤ p → p < to → is_live (slot_at older.slots p) ≡ false) → CarriesInto eq hash from (at - from) newer older a b → CarriesInto eq hash from (to - from) newer older a b
  CarriesInto-skip eq hash from at to newer older a b begun le within dead c =
      let len = c.left.same_length in let end : at + (to - at) - from ≡ to - from = omega arith in
      subst (λ k. CarriesInto eq hash from k newer older a b) end
      (CarriesInto-join eq hash from at (to - at) newer older a b a b begun c
      (CarriesInto-dead eq hash at (to - at) a b (omega arith)
      (λ p x y. ap is_live (c.left.outside p (inr (omega arith))) ∙ dead p x (omega arith)) c.apart c.reached))
