-- Two tables, of which the older is carried.
use Rattle.std.proofs.Common.{◌≡◌, ℕ, zero, suc, ◌+◌, ◌-◌, ◌*◌, ◌<◌, ◌≤◌, min, ◌⊎◌, Bool, true, false, List, [], ◌∷◌, ◌++◌, length, take, drop, replicate, refl, sym, ap, subst, ◌∙◌, inl, inr, arith, append_assoc, None}
use Rattle.std.specs.Cmp.{IsEquivalence}
use Rattle.std.specs.Map.{lookup_entry}
use Rattle.std.specs.List.{IsDistinct}
use Rattle.std.specs.List.Sorted.{IsPermutation}
use Rattle.std.proofs.lemmas.Bool.{cases_lt}
use Rattle.std.proofs.lemmas.List.{length-drop, length-take, take-append-drop, get_or-drop, drop-drop, drop_all, length-append, get_or_append_left, get_or-append-add, same_lists, get_or_default}
use Rattle.std.proofs.lemmas.List.Sorted.{IsPermutation-refl, IsPermutation-trans, IsPermutation-append_left, IsPermutation-append_comm}
use Rattle.hashbag_slots.specs.declared.slots.Slot.{Slot}
use Rattle.hashbag_slots.specs.declared.slots.Slot.TheVariants.{Empty, Removed, Moved, Live}
use Rattle.hashbag_slots.specs.Slots.{is_live, is_removed, holds, live_count, removed_count, slot_at, Places, PlacesAll, moved, Carries, entries, entries_in, AreApart}
use Rattle.hashbag_slots.specs.Columns.{Columns, IsReached}
use Rattle.hashbag_slots.proofs.Edits.{count-set, set_cases}
use Rattle.hashbag_slots.proofs.Tables.{within_table}
use Rattle.hashbag_slots.proofs.Carrying.{length-Places, live-Places, IsAbsent-Places}
use Rattle.hashbag_table.specs.Entries.{IsCounted}
use Rattle.hashbag_table.specs.Tables.{most_used, Tables, Fills, room_of, entries_of, AreTables, IsTables, MayAdopt, Carried, Roomy, room, values, fresh, grown_slots, IsReady, Arrives}
use Rattle.hashbag_table.proofs.EntryLemmas.{counted_rearranged}
use Rattle.hashbag_slots.proofs.Tables.{slot_at-replicate}
use Rattle.hashbag_table.proofs.UnmovedLemmas.{unmoved_blank, unmoved_filled}
use Rattle.hashbag_table.proofs.SlotLemmas.{entries-append, entries_few, live-drop, absent_both, IsCounted-cons, entries-Places, entries-PlacesAll}

pub IsCounted-nil : (T : Type 0) (eq : T → T → Bool) → IsCounted eq []
unfolding IsDistinct
IsCounted-nil T eq = record { distinct = tt; positive = λ k d lt. absurd (omega arith) }

module _ {T : Type 0} where
  pub Fills-none : (ss : List (Slot T)) → Fills 0 ss ss
  Fills-none ss = record { same_length = refl; places = []; at_most = omega arith; each = λ p. inl refl }

  pub Fills-Places : (v : T) (n : ℕ) (old new : List (Slot T)) → Places v n old new → Fills 1 old new
  Fills-Places v n old new put = record {
    same_length = length-Places v n old new put;
    places = put.at ∷ [];
    at_most = omega arith;
    each = λ p.
        elim (set_cases old put.at (Live v n) put.within p) [
          | inl x ↦ inr ((0, omega arith, sym x.0), ap (λ q. is_live (slot_at old q)) x.0 ∙ put.free, ap (λ ss. is_live (slot_at ss p)) put.after ∙ ap is_live x.1)
          | inr x ↦ inl (ap (λ ss. slot_at ss p) put.after ∙ x.1)
        ];
  }

  pub Fills-then : (j k : ℕ) (a b c : List (Slot T)) → Fills j a b → Fills k b c → Fills (j + k) a c
  Fills-then j k a b c f h =
      let l = length-append f.places h.places in
      record {
        same_length = h.same_length ∙ f.same_length;
        places = f.places ++ h.places;
        at_most = let x = f.at_most in let y = h.at_most in omega arith;
        each = λ p.
            elim (f.each p) [
              | inl x ↦ elim (h.each p) [
                | inl y ↦ inl (y ∙ x)
                | inr y ↦
                    let i = y.0 in
                    let within : length f.places + i.0 < length (f.places ++ h.places) = let z = i.1 in omega arith in
                    inr ((length f.places + i.0, within, get_or-append-add f.places h.places i.0 0 ∙ i.2), sym (ap is_live x) ∙ y.1, y.2)
              ]
              | inr x ↦ elim (h.each p) [
                | inl y ↦
                    let i = x.0 in
                    let within : i.0 < length (f.places ++ h.places) = let z = i.1 in omega arith in
                    inr ((i.0, within, get_or_append_left f.places h.places 0 i.0 i.1 ∙ i.2), x.1, ap is_live y ∙ x.2)
                | inr y ↦ absurd (let z = x.2 in let w = y.1 in cc)
              ]
            ];
      }

  -- a Live slot stays Live
  pub stays_live : (k : ℕ) (a b : List (Slot T)) → Fills k a b → (p : ℕ) → is_live (slot_at a p) ≡ true → is_live (slot_at b p) ≡ true
  stays_live k a b f p live = elim (f.each p) [ inl same ↦ ap is_live same ∙ live | inr filled ↦ filled.2 ]

  pub Fills-PlacesAll : (hash : T → ℕ) (es : List (T × ℕ)) (a b : List (Slot T)) → PlacesAll hash es a b → Fills (length es) a b
  Fills-PlacesAll hash [] a b h = subst (Fills 0 a) (sym h) (Fills-none a)
  Fills-PlacesAll hash (e ∷ es) a b h =
      let k : 1 + length es ≡ suc (length es) = omega arith in
      subst (λ n. Fills n a b) k (Fills-then 1 (length es) a h.0 b (Fills-Places e.0 e.1 a h.0 h.1.places) (Fills-PlacesAll hash es h.0 b h.2))

  pub Fills-more : (j k : ℕ) (a b : List (Slot T)) → j ≤ k → Fills j a b → Fills k a b
  Fills-more j k a b le f = record { same_length = f.same_length; places = f.places; at_most = let x = f.at_most in omega arith; each = f.each }

  -- a carry: at most k slots of the older table are looked at
  pub Fills-carry : (hash : T → ℕ) (k from many : ℕ) (older a b : List (Slot T)) → many ≤ k → PlacesAll hash (entries_in from many older) a b → Fills k a b
  Fills-carry hash k from many older a b few all =
      let es = entries_in from many older in
      let l = entries_few (take many (drop from older)) in
      let t = length-take many (drop from older) in
      let le : length es ≤ k = omega arith in
      Fills-more (length es) k a b le (Fills-PlacesAll hash es a b all)

  -- what waits after a carry is what waited, without the slots that were looked at
  pub drop-Carries : (from many : ℕ) (old new : List (Slot T)) → Carries from many old new → drop (from + many) new ≡ drop (from + many) old
  drop-Carries from many old new carry =
      let e = carry.same_length in
      let l = length-drop (from + many) new in
      let m = length-drop (from + many) old in
      let same : length (drop (from + many) new) ≡ length (drop (from + many) old) = omega arith in
      same_lists (drop (from + many) new) (drop (from + many) old) same (λ k d lt.
      let lt_old : k < length (drop (from + many) old) = omega arith in
      get_or_default (drop (from + many) new) k d Empty lt ∙ get_or-drop (from + many) new k Empty ∙ carry.outside (from + many + k) (inr (omega arith)) ∙ sym (get_or-drop (from + many) old k Empty)
      ∙ sym (get_or_default (drop (from + many) old) k d Empty lt_old))

  carried_dead : (s : Slot T) → is_live (moved s) ≡ false
  carried_dead Empty = refl
  carried_dead Removed = refl
  carried_dead Moved = refl
  carried_dead (Live v n) = refl

  pub removed-Places : (v : T) (n : ℕ) (old new : List (Slot T)) → Places v n old new → removed_count new ≤ removed_count old
  removed-Places v n old new put =
      let e = count-set old put.at (Live v n) put.within is_removed in
      let f = ap removed_count put.after in
      omega (arith, e, f)

module _ {T : Type 0} (eq : T → T → Bool) (hash : T → ℕ) (newer older newer1 older1 : Columns T) (carried_to many : ℕ)
    (tables : AreTables eq hash newer older carried_to) (within : carried_to + many ≤ length older.slots)
    (placed : PlacesAll hash (entries_in carried_to many older.slots) newer.slots newer1.slots) (left : Carries carried_to many older.slots older1.slots) (apart : AreApart eq older1.slots newer1.slots)
    (kept : live_count newer1.slots + live_count older1.slots ≡ live_count newer.slots + live_count older.slots) (removed : removed_count newer1.slots ≤ removed_count newer.slots) (slots : length newer1.slots ≡ length newer.slots)
    (newer_reached : IsReached hash newer1) (older_reached : IsReached hash older1) where
  dead : (p : ℕ) → p < carried_to + many → is_live (slot_at older1.slots p) ≡ false
  dead p lt = elim (cases_lt p carried_to) [
    | inl a ↦ ap is_live (left.outside p (inl a)) ∙ tables.carried_not_live p a
    | inr b ↦ ap is_live (left.inside p b lt) ∙ carried_dead (slot_at older.slots p)
  ]

  pub kept_after : live_count newer1.slots + live_count (drop (carried_to + many) older1.slots) ≡ live_count newer.slots + live_count (drop carried_to older.slots)
  kept_after =
      let same = left.same_length in
      let a = live-drop older.slots carried_to tables.carried_within tables.carried_not_live in
      let b = live-drop older1.slots (carried_to + many) (omega (arith, within, same)) dead in
      omega (arith, a, b, kept)

  pub tables_after : AreTables eq hash newer1 older1 (carried_to + many)
  tables_after = record {
    newer_reached = newer_reached;
    older_reached = older_reached;
    apart = apart;
    unmoved = unmoved_filled _ newer.slots newer1.slots (Fills-PlacesAll hash _ newer.slots newer1.slots placed) tables.unmoved;
    carried_within = let same = left.same_length in omega (arith, within, same);
    carried_not_live = dead;
    fits = let k = kept_after in let f = tables.fits in let l : most_used (length newer1.slots) ≡ most_used (length newer.slots) = ap most_used slots in omega (arith, k, f, l, removed);
  }

  waiting_after : (most : ℕ) → many ≡ min (length older.slots - carried_to) most → drop (carried_to + many) older1.slots ≡ drop most (drop carried_to older.slots)
  waiting_after most least =
      drop-Carries carried_to many older.slots older1.slots left
      ∙ elim (cases_lt (length older.slots - carried_to) most) [
        | inl a ↦
            let e : length older.slots ≤ carried_to + many = omega (arith, least, a) in
            let f : length older.slots ≤ carried_to + most = omega (arith, a) in
            drop_all (carried_to + many) older.slots e ∙ sym (drop_all (carried_to + most) older.slots f) ∙ sym (drop-drop most carried_to older.slots)
        | inr b ↦
            let e : many ≡ most = omega (arith, least, b) in
            ap (λ m. drop (carried_to + m) older.slots) e ∙ sym (drop-drop most carried_to older.slots)
      ]

  pub entries_after : IsPermutation (entries_of newer.slots (drop carried_to older.slots)) (entries_of newer1.slots (drop (carried_to + many) older1.slots))
  entries_after =
      let w = drop carried_to older.slots in
      let es = entries_in carried_to many older.slots in
      let rest = entries (drop (carried_to + many) older.slots) in
      let split : entries w ≡ es ++ rest = ap entries (sym (take-append-drop many w)) ∙ entries-append (take many w) (drop many w) ∙ ap (λ ss. es ++ entries ss) (drop-drop many carried_to older.slots) in
      let moved : IsPermutation (entries newer.slots ++ (es ++ rest)) (entries newer1.slots ++ rest) =
      subst (λ l. IsPermutation l (entries newer1.slots ++ rest)) (append_assoc (entries newer.slots) es rest)
      (IsPermutation-append_left rest _ _ (IsPermutation-trans _ _ _ (IsPermutation-append_comm (entries newer.slots) es) (entries-PlacesAll hash es newer.slots newer1.slots placed))) in
      subst (λ l. IsPermutation (entries newer.slots ++ l) (entries_of newer1.slots (drop (carried_to + many) older1.slots))) (sym split)
      (subst (λ ss. IsPermutation (entries newer.slots ++ (es ++ rest)) (entries newer1.slots ++ entries ss)) (sym (drop-Carries carried_to many older.slots older1.slots left)) moved)

  pub carried_after : (most : ℕ) → many ≡ min (length older.slots - carried_to) most → Carried most newer.slots (drop carried_to older.slots) newer1.slots (drop (carried_to + many) older1.slots)
  carried_after most least = record {
    fills = Fills-carry hash most carried_to many older.slots newer.slots newer1.slots (omega (arith, least)) placed;
    waits = waiting_after most least;
    entries = entries_after;
    live = kept_after;
    removed = removed;
  }

pub carried_freed : {T : Type 0} (most : ℕ) (newer waiting newer1 : List (Slot T)) (older none : Columns T) (k : ℕ) → Carried most newer waiting newer1 (drop k older.slots) → length older.slots ≡ k → none.slots ≡ [] → Carried most newer waiting newer1 (drop 0 none.slots)
carried_freed most newer waiting newer1 older none k carried all empty =
    subst (Carried most newer waiting newer1) (drop_all k older.slots (omega arith) ∙ sym empty) carried

module _ {T : Type 0} (eq : T → T → Bool) (hash : T → ℕ) where
  -- the older table is freed where none of its slots waits
  pub tables_freed : (newer older none : Columns T) (k : ℕ) → AreTables eq hash newer older k → length older.slots ≡ k → none.slots ≡ [] → IsReached hash none → AreTables eq hash newer none 0
  tables_freed newer older none k tables all empty reached =
      let l = ap length empty in
      record {
        newer_reached = tables.newer_reached;
        older_reached = reached;
        apart = λ p v n here q lt. absurd (let w = within_table none.slots p (ap is_live here) in omega arith);
        unmoved = tables.unmoved;
        carried_within = omega arith;
        carried_not_live = λ p lt. absurd (omega arith);
        fits = let f = tables.fits in let c : live_count (drop 0 none.slots) ≡ 0 = ap live_count empty in omega arith;
      }

  pub room_carried : (k : ℕ) (newer waiting newer1 waiting1 : List (Slot T)) → Carried k newer waiting newer1 waiting1 → room_of newer waiting ≤ room_of newer1 waiting1
  room_carried k newer waiting newer1 waiting1 h =
      let l : most_used (length newer1) ≡ most_used (length newer) = ap most_used h.fills.same_length in
      let a = h.live in let b = h.removed in omega (arith, l, a, b)

  -- a carry of `many` waiting slots leaves what holds between two calls
  pub IsTables-after : IsEquivalence eq → (many : ℕ) (newer waiting : List (Slot T)) (newer1 older1 : Columns T) (carried_to1 : ℕ) → IsCounted eq (entries_of newer waiting) → length waiting - many ≤ 16 * room_of newer waiting
      → (length waiting ≤ many) ⊎ (16 + (length waiting - many) ≤ length newer) → AreTables eq hash newer1 older1 carried_to1 → Carried many newer waiting newer1.slots (drop carried_to1 older1.slots)
      → (length older1.slots ≤ carried_to1 → length older1.slots ≡ 0) → IsTables eq hash newer1 older1 carried_to1
  IsTables-after laws many newer waiting newer1 older1 carried_to1 counted few smaller tables h freed =
      let w1 = drop carried_to1 older1.slots in
      let r = room_carried many newer waiting newer1.slots w1 h in
      let len : length w1 ≡ length waiting - many = ap length h.waits ∙ length-drop many waiting in
      record {
        tables = tables;
        counted = counted_rearranged laws _ _ h.entries counted;
        carries = omega (arith, r, len, few);
        smaller = elim smaller [
          | inl all ↦ inl (h.waits ∙ drop_all many waiting all)
          | inr some ↦ inr (let same = h.fills.same_length in omega (arith, len, same, some))
        ];
        freed = freed;
      }

  -- so does one of 16
  pub IsTables-carried : IsEquivalence eq → (newer older newer1 older1 : Columns T) (carried_to carried_to1 : ℕ) → IsTables eq hash newer older carried_to → AreTables eq hash newer1 older1 carried_to1
      → Carried 16 newer.slots (drop carried_to older.slots) newer1.slots (drop carried_to1 older1.slots) → (length older1.slots ≤ carried_to1 → length older1.slots ≡ 0) → IsTables eq hash newer1 older1 carried_to1
  IsTables-carried laws newer older newer1 older1 carried_to carried_to1 before tables h freed =
      let few = before.carries in
      let smaller : (length (drop carried_to older.slots) ≤ 16) ⊎ (16 + (length (drop carried_to older.slots) - 16) ≤ length newer.slots) =
      elim before.smaller [
        | inl none ↦ inl (let l = ap length none in omega (arith, l))
        | inr some ↦ inr (omega (arith, some))
      ] in
      IsTables-after laws 16 newer.slots (drop carried_to older.slots) newer1 older1 carried_to1 before.counted (omega (arith, few)) smaller tables h freed

  -- and so does one of all that waits
  pub IsTables-finished : IsEquivalence eq → (newer older newer1 older1 : Columns T) (carried_to carried_to1 k : ℕ) → IsTables eq hash newer older carried_to → AreTables eq hash newer1 older1 carried_to1
      → Carried k newer.slots (drop carried_to older.slots) newer1.slots (drop carried_to1 older1.slots) → length (drop carried_to older.slots) ≤ k → (length older1.slots ≤ carried_to1 → length older1.slots ≡ 0) → IsTables eq hash newer1 older1 carried_to1
  IsTables-finished laws newer older newer1 older1 carried_to carried_to1 k before tables h all freed =
      IsTables-after laws k newer.slots (drop carried_to older.slots) newer1 older1 carried_to1 before.counted (omega (arith, all)) (inl all) tables h freed

  -- a carry out of the older table leaves what another insertion needs
  pub carries_after : (newer waiting newer1 waiting1 : List (Slot T)) → Carried 16 newer waiting newer1 waiting1 → length waiting ≤ 16 * room_of newer waiting → 0 < room_of newer waiting
      → (0 < room_of newer1 waiting1) × (length waiting1 ≤ 16 * (room_of newer1 waiting1 - 1))
  carries_after newer waiting newer1 waiting1 h c pos =
      let r = room_carried 16 newer waiting newer1 waiting1 h in
      let len : length waiting1 ≡ length waiting - 16 = ap length h.waits ∙ length-drop 16 waiting in
      (omega (arith, r, pos), omega (arith, r, len, c, pos))

pub live_empty : (T : Type 0) (n : ℕ) → live_count {T = T} (replicate n Empty) ≡ 0
live_empty T zero = refl
live_empty T (suc n) = live_empty T n

pub removed_empty : (T : Type 0) (n : ℕ) → removed_count {T = T} (replicate n Empty) ≡ 0
removed_empty T zero = refl
removed_empty T (suc n) = removed_empty T n

entries_empty : (T : Type 0) (n : ℕ) → entries {T = T} (replicate n Empty) ≡ []
entries_empty T zero = refl
entries_empty T (suc n) = entries_empty T n

-- no values in the newer table, and no older one
pub IsTables-blank : {T : Type 0} (eq : T → T → Bool) (hash : T → ℕ) (newer older : Columns T) (n : ℕ) → newer.slots ≡ replicate n Empty → older.slots ≡ [] → IsReached hash newer → IsReached hash older → IsTables eq hash newer older 0
IsTables-blank {T = T} eq hash newer older n e f r s =
    let m : length (drop 0 older.slots) ≡ 0 = ap length f in
    record {
      tables = record {
        newer_reached = r;
        older_reached = s;
        apart = λ p v k here q lt. ap (λ ss. holds (eq v) (slot_at ss q)) e ∙ ap (holds (eq v)) (slot_at-replicate n q);
        unmoved = unmoved_blank newer.slots n e;
        carried_within = omega arith;
        carried_not_live = λ p lt. absurd (omega arith);
        fits = let a = ap live_count e ∙ live_empty T n in let b = ap removed_count e ∙ removed_empty T n in let c = ap live_count f in omega (arith, a, b, c);
      };
      counted = subst (λ es. IsCounted eq (es ++ entries (drop 0 older.slots))) (sym (ap entries e ∙ entries_empty T n)) (subst (λ ss. IsCounted eq (entries ss)) (sym f) (IsCounted-nil T eq));
      carries = omega arith;
      smaller = inl f;
      freed = λ _. ap length f;
    }

pub IsTables-none : {T : Type 0} (eq : T → T → Bool) (hash : T → ℕ) (newer older : Columns T) → newer.slots ≡ [] → older.slots ≡ [] → IsReached hash newer → IsReached hash older → IsTables eq hash newer older 0
IsTables-none eq hash newer older = IsTables-blank eq hash newer older 0

pub entries_blank : {T : Type 0} (newer older : List (Slot T)) (n : ℕ) → newer ≡ replicate n Empty → older ≡ [] → entries_of newer (drop 0 older) ≡ []
entries_blank {T = T} newer older n e f = (λ i. entries (e i) ++ entries (f i)) ∙ ap (λ es. es ++ []) (entries_empty T n)

module _ {T : Type 0} where
  pub live_fresh : (ss : List (Slot T)) → ss ≡ replicate (length ss) Empty → live_count ss ≡ 0
  live_fresh ss e = ap live_count e ∙ live_empty T (length ss)

  pub removed_fresh : (ss : List (Slot T)) → ss ≡ replicate (length ss) Empty → removed_count ss ≡ 0
  removed_fresh ss e = ap removed_count e ∙ removed_empty T (length ss)

  pub entries_fresh : (ss : List (Slot T)) → ss ≡ replicate (length ss) Empty → entries ss ≡ []
  entries_fresh ss e = ap entries e ∙ entries_empty T (length ss)

module _ {T : Type 0} (eq : T → T → Bool) (hash : T → ℕ) (newer fresh : Columns T) (many : ℕ) (reached : IsReached hash newer) (may : MayAdopt eq hash fresh newer.slots many) where
  pub IsTables-adopted : IsEquivalence eq → (newer1 older1 : Columns T) (carried_to1 : ℕ) → AreTables eq hash newer1 older1 carried_to1 → Carried many fresh.slots newer.slots newer1.slots (drop carried_to1 older1.slots)
      → (length older1.slots ≤ carried_to1 → length older1.slots ≡ 0) → IsTables eq hash newer1 older1 carried_to1
  IsTables-adopted laws newer1 older1 carried_to1 tables h freed = IsTables-after eq hash laws many fresh.slots newer.slots newer1 older1 carried_to1 may.counted may.carries may.smaller tables h freed

-- a table of Empty slots with room enough takes the place of one that is full
module _ {T : Type 0} (eq : T → T → Bool) (hash : T → ℕ) (newer fresh : Columns T) (counted : IsCounted eq (entries newer.slots)) (empty : fresh.slots ≡ replicate (length fresh.slots) Empty) (reached : IsReached hash fresh)
    (roomy : Roomy (length newer.slots) (live_count newer.slots) (length fresh.slots)) where
  room_fresh : room_of fresh.slots newer.slots ≡ most_used (length fresh.slots) - live_count newer.slots
  room_fresh = let a = live_fresh fresh.slots empty in let b = removed_fresh fresh.slots empty in omega (arith, a, b)

  pub may_grow : MayAdopt eq hash fresh newer.slots 16
  may_grow =
      let a = live_fresh fresh.slots empty in let b = removed_fresh fresh.slots empty in let r = room_fresh in
      let x = roomy.some in let y = roomy.carries in
      record {
        reached = reached;
        apart = λ p v n here q lt. ap (λ ss. holds (eq v) (slot_at ss q)) empty ∙ ap (holds (eq v)) (slot_at-replicate (length fresh.slots) q);
        unmoved = unmoved_blank fresh.slots (length fresh.slots) empty;
        counted = subst (λ es. IsCounted eq (es ++ entries newer.slots)) (sym (entries_fresh fresh.slots empty)) counted;
        fits = omega (arith, a, b, x);
        carries = omega (arith, r, y);
        smaller = elim (cases_lt 16 (length newer.slots)) [
          | inl more ↦ inr (let m = roomy.smaller in omega (arith, more, m))
          | inr few ↦ inl few
        ];
      }

  pub room_first : (newer1 waiting1 : List (Slot T)) → Carried 16 fresh.slots newer.slots newer1 waiting1 → (0 < room_of newer1 waiting1) × (length waiting1 ≤ 16 * (room_of newer1 waiting1 - 1))
  room_first newer1 waiting1 h =
      let r = room_fresh in let a = roomy.some in let b = roomy.carries in
      carries_after eq hash fresh.slots newer.slots newer1 waiting1 h (omega (arith, r, b)) (omega (arith, r, a))

pub entries_settled : {T : Type 0} (v : T) (n : ℕ) (newer newer1 waiting : List (Slot T)) → Places v n newer newer1 → IsPermutation ((v, n) ∷ entries_of newer waiting) (entries_of newer1 waiting)
entries_settled v n newer newer1 waiting put = IsPermutation-append_left (entries waiting) _ _ (entries-Places v n newer newer1 put)

module _ {T : Type 0} (eq : T → T → Bool) (laws : IsEquivalence eq) (hash : T → ℕ) (newer older newer1 : Columns T) (carried_to : ℕ) (v : T) (n : ℕ)
    (before : IsTables eq hash newer older carried_to) (absent : lookup_entry (eq v) (entries_of newer.slots (drop carried_to older.slots)) ≡ None) (some : 0 < n)
    (room : 0 < room_of newer.slots (drop carried_to older.slots)) (carries : length (drop carried_to older.slots) ≤ 16 * (room_of newer.slots (drop carried_to older.slots) - 1)) where
  module _ (put : Places v n newer.slots newer1.slots) (reached : IsReached hash newer1) where
    abbrev pub w : List (Slot T)
    w = drop carried_to older.slots

    -- what is Live in the older table waits, and is not the new value
    other : (x : T) (m p : ℕ) → slot_at older.slots p ≡ Live x m → eq x v ≡ false
    other x m p here = elim (cases_lt p carried_to) [
      | inl a ↦ absurd (let d = before.tables.carried_not_live p a in let h : is_live (slot_at older.slots p) ≡ true = ap is_live here in cc)
      | inr b ↦
          let e : carried_to + (p - carried_to) ≡ p = omega arith in
          let at : slot_at w (p - carried_to) ≡ Live x m = get_or-drop carried_to older.slots (p - carried_to) Empty ∙ ap (slot_at older.slots) e ∙ here in
          let inside = within_table w (p - carried_to) (ap is_live at) in
          laws.symm x v ∙ sym (ap (holds (eq v)) at) ∙ (absent_both eq v newer.slots w absent).1 (p - carried_to) inside
    ]

    pub IsTables-settled : IsTables eq hash newer1 older carried_to
    IsTables-settled =
        let live = live-Places v n newer.slots newer1.slots put in
        let fewer = removed-Places v n newer.slots newer1.slots put in
        let len = length-Places v n newer.slots newer1.slots put in
        let limits : most_used (length newer1.slots) ≡ most_used (length newer.slots) = ap most_used len in
        record {
          tables = record {
            newer_reached = reached;
            older_reached = before.tables.older_reached;
            apart = λ p x m here. IsAbsent-Places (eq x) v n newer.slots newer1.slots (before.tables.apart p x m here) put (other x m p here);
            unmoved = unmoved_filled 1 newer.slots newer1.slots (Fills-Places v n newer.slots newer1.slots put) before.tables.unmoved;
            carried_within = before.tables.carried_within;
            carried_not_live = before.tables.carried_not_live;
            fits = let f = before.tables.fits in omega (arith, room, live, fewer, limits, f);
          };
          counted = counted_rearranged laws _ _ (entries_settled v n newer.slots newer1.slots w put) (IsCounted-cons eq v n (entries_of newer.slots w) absent some before.counted);
          carries = omega (arith, room, live, fewer, limits, carries);
          smaller = elim before.smaller [
            | inl none ↦ inl none
            | inr more ↦ inr (omega (arith, len, more))
          ];
          freed = before.freed;
        }

module _ {T : Type 0} where
  -- where room is 0 nothing waits
  pub alone_full : (eq : T → T → Bool) (hash : T → ℕ) (newer older : Columns T) (carried_to : ℕ) → IsTables eq hash newer older carried_to → room_of newer.slots (drop carried_to older.slots) ≡ 0 → drop carried_to older.slots ≡ []
  alone_full eq hash newer older carried_to before full = drop_all 0 (drop carried_to older.slots) (let c = before.carries in omega (arith, c, full))

  pub live_alone : (newer waiting : List (Slot T)) → waiting ≡ [] → live_count newer ≡ live_count newer + live_count waiting
  live_alone newer waiting e = let z : live_count waiting ≡ 0 = ap live_count e in omega (arith, z)

-- where nothing waits and there is room, nothing is carried
pub ready_alone : {T : Type 0} (t : Tables T) → t.waiting ≡ [] → 0 < room t → IsReady t t
ready_alone t alone some = record {
  with_room = λ pos. record {
    fills = record { same_length = refl; places = []; at_most = omega arith; each = λ p. inl refl };
    waits = alone ∙ sym (drop_all 16 t.waiting (let l = ap length alone in omega arith));
    entries = IsPermutation-refl _;
    live = refl;
    removed = omega arith;
  };
  grown = λ none. absurd (omega (arith, none, some));
  some = some;
  carries = let l = ap length alone in omega arith;
  built = record { with_room = λ pos. refl; grown = λ none. absurd (omega (arith, none, some)) };
}

module _ {T : Type 0} (old mid new : Tables T) where
  pub ready_grown : room old ≡ 0 → Carried 16 (fresh old) old.newer new.newer new.waiting → old.waiting ≡ [] → 0 < room new → length new.waiting ≤ 16 * (room new - 1) → new.built ≡ old.built + length new.newer → IsReady old new
  ready_grown full carried alone some carries built = record {
    with_room = λ pos. absurd (omega (arith, pos, full));
    grown = λ none. (carried, alone);
    some = some;
    carries = carries;
    built = record { with_room = λ pos. absurd (omega (arith, pos, full)); grown = λ none. built };
  }

  pub arrives_from : (v : T) (n : ℕ) → IsReady old mid → Places v n mid.newer new.newer → new.waiting ≡ mid.waiting → new.built ≡ mid.built → Arrives old new
  arrives_from v n ready put same built =
      let live = live-Places v n mid.newer new.newer put in
      let fewer = removed-Places v n mid.newer new.newer put in
      let len = length-Places v n mid.newer new.newer put in
      let limits : most_used (length new.newer) ≡ most_used (length mid.newer) = ap most_used len in
      let waits : live_count new.waiting ≡ live_count mid.waiting = ap live_count same in
      record {
        with_room = λ pos. let h = ready.with_room pos in record { fills = Fills-then 16 1 old.newer mid.newer new.newer h.fills (Fills-Places v n mid.newer new.newer put); waits = same ∙ h.waits };
        grown = λ none. let h = (ready.grown none).0 in record { fills = Fills-then 16 1 (fresh old) mid.newer new.newer h.fills (Fills-Places v n mid.newer new.newer put); waits = same ∙ h.waits };
        room_kept = λ pos.
            let h = ready.with_room pos in
            let l : most_used (length mid.newer) ≡ most_used (length old.newer) = ap most_used h.fills.same_length in
            let a = h.live in let b = h.removed in omega (arith, l, a, b, live, fewer, limits, waits);
        room_grown = λ none.
            let h = (ready.grown none).0 in
            let e : live_count old.waiting ≡ 0 = ap live_count (ready.grown none).1 in
            let a = h.live in let b = h.removed in
            let x = live_empty T (grown_slots (length old.newer) (values old)) in
            let y = removed_empty T (grown_slots (length old.newer) (values old)) in
            omega (arith, e, a, b, x, y, live, fewer, limits, waits);
        built = record { with_room = λ pos. built ∙ ready.built.with_room pos; grown = λ none. built ∙ ready.built.grown none ∙ ap (λ k. old.built + k) (sym len) };
      }
