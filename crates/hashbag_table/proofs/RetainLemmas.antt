-- What the numbers that a closure returned leave of one table of slots.
use Rattle.std.proofs.Common.{◌≡◌, ℕ, zero, suc, ◌+◌, ◌-◌, ◌<◌, ◌≤◌, min, Bool, true, false, cond, ltb, List, [], ◌∷◌, length, drop, Some, refl, sym, ap, subst, ◌∙◌, inl, inr, arith, slice_set}
use borrow.Author.Tests.{lt-ltb}
use denote.Ref.{Bor}
use denote.Param.Members.{Mut}
use Rattle.std.proofs.lemmas.Bool.{cases_lt}
use Rattle.std.proofs.lemmas.List.{drop_all, drop_more, drop-drop, drop-set-lt, get_or-set_same, get_or-set_other, get_or-drop, length-set, length-drop}
use Rattle.std.proofs.lemmas.List.Sums.{sum_by-cons}
use Rattle.hashbag_slots.specs.declared.slots.Slot.{Slot}
use Rattle.hashbag_slots.specs.declared.slots.Slot.TheVariants.{Empty, Removed, Moved, Live}
use Rattle.hashbag_slots.specs.Slots.{is_live, is_removed, holds, live_count, removed_count, slot_at, slot_entry, count_in, entries, IsAbsent, IsNextLive}
use Rattle.hashbag_table.specs.Returned.{MayCall, MayReturn, MayCallInTurn, ReturnsInTurn, retained_entries}
use Rattle.hashbag_table.specs.Entries.{total}
use Rattle.hashbag_table.specs.Retained.{live_retained, slot_retained, LeavesSlot, LeavesSlots, RetainsFrom, RetainsSlots}
use Rattle.hashbag_table.proofs.ReturnedLemmas.{lesser}
use Rattle.hashbag_table.proofs.SlotLemmas.{length-entries, entries-drop}

module _ {T : Type 0} where
  pub live_entry : (s : Slot T) (v : T) (n : ℕ) → Some (v, n) ≡ slot_entry s → s ≡ Live v n
  live_entry Empty v n h = absurd (cc)
  live_entry Removed v n h = absurd (cc)
  live_entry Moved v n h = absurd (cc)
  live_entry (Live w m) v n h = let e : (w, m) ≡ (v, n) = cc in ap (λ (x : T × ℕ). Live x.0 x.1) e

  pub live_within : (ss : List (Slot T)) (p : ℕ) → is_live (slot_at ss p) ≡ true → p < length ss
  live_within [] p h = absurd (cc)
  live_within (s ∷ ss) zero h = omega arith
  live_within (s ∷ ss) (suc p) h = let lt = live_within ss p h in omega (arith, lt)

  pub written_at : (ss ts : List (Slot T)) (p : ℕ) (s : Slot T) → p < length ss → ts ≡ slice_set ss p s → slot_at ts p ≡ s
  written_at ss ts p s within e = ap (λ us. slot_at us p) e ∙ get_or-set_same ss p s Empty within

  pub left_some : (v : T) (n a : ℕ) → 0 < min a n → live_retained v n a ≡ Live v (min a n)
  left_some v n a pos = ap (λ b. cond b (Live v (min a n)) Removed) (lt-ltb 0 (min a n) pos)

  pub left_none : (v : T) (n a : ℕ) → min a n ≡ 0 → live_retained v n a ≡ Removed
  left_none v n a e = ap (λ m. cond (ltb 0 m) (Live v m) Removed) e

  pub total_slots : (s : Slot T) (ss : List (Slot T)) → total (entries (s ∷ ss)) ≡ count_in s + total (entries ss)
  total_slots Empty ss = omega arith
  total_slots Removed ss = omega arith
  total_slots Moved ss = omega arith
  total_slots (Live v n) ss = sum_by-cons (λ e. e.1) (v, n) (entries ss)

  -- slots that are not Live have no entries
  pub dead_from : (p : ℕ) (ss : List (Slot T)) → ((q : ℕ) → p ≤ q → is_live (slot_at ss q) ≡ false) → (q : ℕ) → is_live (slot_at (drop p ss) q) ≡ false
  dead_from p ss dead q = ap is_live (get_or-drop p ss q Empty) ∙ dead (p + q) (omega arith)

  pub total_none : (ss : List (Slot T)) → ((q : ℕ) → is_live (slot_at ss q) ≡ false) → total (entries ss) ≡ 0
  total_none ss dead = ap total (sym (entries-drop ss (length ss) (omega arith) (λ q lt. dead q)) ∙ ap entries (drop_all (length ss) ss (omega arith)))

  pub entries_ahead : (ss : List (Slot T)) (from p : ℕ) → from ≤ p → p ≤ length ss → ((q : ℕ) → from ≤ q → q < p → is_live (slot_at ss q) ≡ false) → entries (drop p ss) ≡ entries (drop from ss)
  entries_ahead ss from p after within dead =
      let k = p - from in let e : from + k ≡ p = omega (arith, after) in let l = length-drop from ss in
      ap (λ n. entries (drop n ss)) (sym e) ∙ ap entries (sym (drop-drop k from ss))
      ∙ entries-drop (drop from ss) k (omega (arith, l, e, within)) (λ q lt. ap is_live (get_or-drop from ss q Empty) ∙ dead (from + q) (omega arith) (omega (arith, lt, e)))

  left_entry : (b : Bool) (v : T) (m : ℕ) (ts : List (Slot T)) (es : List (T × ℕ)) → entries ts ≡ es → entries (cond b (Live v m) Removed ∷ ts) ≡ cond b ((v, m) ∷ es) es
  left_entry true v m ts es h = ap (λ l. (v, m) ∷ l) h
  left_entry false v m ts es h = h

  left_same : (b : Bool) (v w : T) (m n : ℕ) → cond b (Live v m) Removed ≡ Live w n → v ≡ w
  left_same true v w m n h = cc
  left_same false v w m n h = absurd (cc)

  left_moved : (b : Bool) (v : T) (m : ℕ) → cond b (Live v m) Removed ≡ Moved → ⊥
  left_moved true v m h = cc
  left_moved false v m h = cc

  left_count : (b : Bool) (v : T) (m n : ℕ) → m ≤ n → count_in (cond b (Live v m) Removed) ≤ n
  left_count true v m n h = h
  left_count false v m n h = omega arith

  -- how many slots the two counts have of one
  abbrev one_live : Slot T → ℕ
  one_live s = cond (is_live s) 1 0

  abbrev one_removed : Slot T → ℕ
  one_removed s = cond (is_removed s) 1 0

  pub live_from : (ss : List (Slot T)) (k : ℕ) → live_count (drop k ss) ≤ live_count ss
  live_from ss zero = omega arith
  live_from [] (suc k) = omega arith
  live_from (s ∷ ss) (suc k) = let few = live_from ss k in let more = sum_by-cons one_live s ss in omega (arith, few, more)

  one_if : (s : Slot T) → is_live s ≡ true → one_live s ≡ 1
  one_if Empty h = absurd (cc)
  one_if Removed h = absurd (cc)
  one_if Moved h = absurd (cc)
  one_if (Live v n) h = refl

  -- there is one fewer after a Live one
  pub live_ahead : (ss ts : List (Slot T)) (from p k : ℕ) → IsNextLive ss from p → drop (p + 1) ts ≡ drop (p + 1) ss → live_count (drop from ss) ≤ suc k → live_count (drop (p + 1) ts) ≤ k
  live_ahead ss ts from p k next same few =
      let w = next.within in
      let front = ap length (entries_ahead ss from p next.after (omega (arith, w)) next.between) in
      let a = length-entries (drop p ss) in let b = length-entries (drop from ss) in
      let head = ap live_count (drop_more ss p Empty next.within) ∙ sum_by-cons one_live (slot_at ss p) (drop (p + 1) ss) in
      let one = one_if (slot_at ss p) next.live in let rest = ap live_count same in
      omega (arith, front, a, b, head, one, rest, few)

  left_sum : (b : Bool) (v : T) (m : ℕ) → (let s : Slot T = cond b (Live v m) Removed in one_live s + one_removed s) ≡ 1
  left_sum true v m = refl
  left_sum false v m = refl

  left_few : (b : Bool) (v : T) (m : ℕ) → (let s : Slot T = cond b (Live v m) Removed in one_live s) ≤ 1
  left_few true v m = omega arith
  left_few false v m = omega arith

module _ {F T : Type 0} (g : Mut F (Bor T × (ℕ × Unit {0})) ℕ) where
  -- one slot
  pub leaves_dead : (f : F) (s : Slot T) → is_live s ≡ false → LeavesSlot g f s s f
  leaves_dead f Empty h = (refl, refl)
  leaves_dead f Removed h = (refl, refl)
  leaves_dead f Moved h = (refl, refl)
  leaves_dead f (Live v n) h = absurd (cc)

  pub leaves_live : (f f' : F) (s t : Slot T) (v : T) (n a : ℕ) → s ≡ Live v n → MayReturn g f (v, n) a f' → t ≡ live_retained v n a → LeavesSlot g f s t f'
  leaves_live f f' s t v n a here may is = subst (λ x. LeavesSlot g f x t f') (sym here) (a, may, is)

  slot_live : (f f' : F) (s t : Slot T) (v : T) (n : ℕ) → LeavesSlot g f s t f' → t ≡ Live v n → (m : ℕ) × (s ≡ Live v m)
  slot_live f f' Empty t v n h here = let e = h.0 in absurd (cc)
  slot_live f f' Removed t v n h here = let e = h.0 in absurd (cc)
  slot_live f f' Moved t v n h here = let e = h.0 in absurd (cc)
  slot_live f f' (Live w m) t v n h here = (m, ap (λ x. Live x m) (left_same _ w v _ n (sym h.2 ∙ here)))

  slot_moved : (f f' : F) (s t : Slot T) → LeavesSlot g f s t f' → t ≡ Moved → s ≡ Moved
  slot_moved f f' Empty t h here = let e = h.0 in absurd (cc)
  slot_moved f f' Removed t h here = let e = h.0 in absurd (cc)
  slot_moved f f' Moved t h here = refl
  slot_moved f f' (Live w m) t h here = absurd (left_moved _ w _ (sym h.2 ∙ here))

  slot_sum : (f f' : F) (s t : Slot T) → LeavesSlot g f s t f' → one_live t + one_removed t ≡ one_live s + one_removed s
  slot_sum f f' Empty t h = ap (λ x. one_live x + one_removed x) h.0
  slot_sum f f' Removed t h = ap (λ x. one_live x + one_removed x) h.0
  slot_sum f f' Moved t h = ap (λ x. one_live x + one_removed x) h.0
  slot_sum f f' (Live w m) t h = ap (λ x. one_live x + one_removed x) h.2 ∙ left_sum _ w _

  slot_few : (f f' : F) (s t : Slot T) → LeavesSlot g f s t f' → one_live t ≤ one_live s
  slot_few f f' Empty t h = let e = ap one_live h.0 in omega (arith, e)
  slot_few f f' Removed t h = let e = ap one_live h.0 in omega (arith, e)
  slot_few f f' Moved t h = let e = ap one_live h.0 in omega (arith, e)
  slot_few f f' (Live w m) t h = subst (λ x. one_live x ≤ 1) (sym h.2) (left_few _ w _)

  count_left : (f f' : F) (s t : Slot T) → LeavesSlot g f s t f' → count_in t ≤ count_in s
  count_left f f' Empty t h = let e = ap count_in h.0 in omega (arith, e)
  count_left f f' Removed t h = let e = ap count_in h.0 in omega (arith, e)
  count_left f f' Moved t h = let e = ap count_in h.0 in omega (arith, e)
  count_left f f' (Live w m) t h = subst (λ x. count_in x ≤ m) (sym h.2) (left_count _ w _ m (lesser h.0 m))

  slot_some : (f f' : F) (s t : Slot T) → LeavesSlot g f s t f' → (a : ℕ) × (t ≡ slot_retained a s)
  slot_some f f' Empty t h = (0, h.0)
  slot_some f f' Removed t h = (0, h.0)
  slot_some f f' Moved t h = (0, h.0)
  slot_some f f' (Live v n) t h = (h.0, h.2)

  slots_some : (f f' : F) (ss ts : List (Slot T)) → LeavesSlots g f ss ts f' → (p : ℕ) → (a : ℕ) × (slot_at ts p ≡ slot_retained a (slot_at ss p))
  slots_some f f' [] [] h p = (0, refl)
  slots_some f f' [] (t ∷ ts) h p = absurd h
  slots_some f f' (s ∷ ss) [] h p = absurd h
  slots_some f f' (s ∷ ss) (t ∷ ts) h zero = slot_some f h.0 s t h.1
  slots_some f f' (s ∷ ss) (t ∷ ts) h (suc p) = slots_some h.0 f' ss ts h.2 p

  -- the slots from a place on, each at its own place
  pub slots_kept : (from : ℕ) (f f' : F) (old new : List (Slot T)) → RetainsFrom g from f old new f' → RetainsSlots (drop from old) (drop from new)
  slots_kept from f f' old new h = record {
    same_length = let a = length-drop from old in let b = length-drop from new in let same = h.same_length in omega (arith, a, b, same);
    each = slots_some f f' (drop from old) (drop from new) h.left;
  }

  -- what may be asked
  callable_later : (f f' : F) (e : T × ℕ) (walk : List (T × ℕ)) (a : ℕ) → MayCallInTurn g f (e ∷ walk) → MayReturn g f e a f' → MayCallInTurn g f' walk
  callable_later f f' e walk a callable may = record {
    at = λ before after d returned last split asked. callable.at (e ∷ before) after d (a ∷ returned) last (ap (λ l. e ∷ l) split) (f', may, asked);
  }

  callable_left : (f f' : F) (s t : Slot T) (ss : List (Slot T)) → MayCallInTurn g f (entries (s ∷ ss)) → LeavesSlot g f s t f' → MayCallInTurn g f' (entries ss)
  callable_left f f' Empty t ss callable h = subst (λ x. MayCallInTurn g x (entries ss)) h.1 callable
  callable_left f f' Removed t ss callable h = subst (λ x. MayCallInTurn g x (entries ss)) h.1 callable
  callable_left f f' Moved t ss callable h = subst (λ x. MayCallInTurn g x (entries ss)) h.1 callable
  callable_left f f' (Live v n) t ss callable h = callable_later f f' (v, n) (entries ss) h.0 callable h.1

  callable_slot : (f : F) (s : Slot T) (ss : List (Slot T)) → MayCallInTurn g f (entries (s ∷ ss)) → (e : T × ℕ) → slot_entry s ≡ Some e → MayCall g f e
  callable_slot f Empty ss callable e h = absurd (cc)
  callable_slot f Removed ss callable e h = absurd (cc)
  callable_slot f Moved ss callable e h = absurd (cc)
  callable_slot f (Live v n) ss callable e h = let z : (v, n) ≡ e = cc in subst (MayCall g f) z (callable.at [] (entries ss) (v, n) [] f refl refl)

  -- the value at a place may be asked for
  pub callable_at : (f : F) (ss : List (Slot T)) (p : ℕ) → p < length ss → MayCallInTurn g f (entries (drop p ss)) → (e : T × ℕ) → slot_entry (slot_at ss p) ≡ Some e → MayCall g f e
  callable_at f ss p within callable = callable_slot f (slot_at ss p) (drop (p + 1) ss) (subst (λ l. MayCallInTurn g f (entries l)) (drop_more ss p Empty within) callable)

  -- where no slot is Live nothing is asked
  leaves_all : (f : F) (ss : List (Slot T)) → ((q : ℕ) → is_live (slot_at ss q) ≡ false) → LeavesSlots g f ss ss f
  leaves_all f [] dead = refl
  leaves_all f (s ∷ ss) dead = (f, leaves_dead f s (dead 0), leaves_all f ss (λ q. dead (suc q)))

  -- past the last Live slot nothing is asked
  pub retained_none : (p : ℕ) (f : F) (ss : List (Slot T)) → ((q : ℕ) → is_live (slot_at (drop p ss) q) ≡ false) → RetainsFrom g p f ss ss f
  retained_none p f ss dead = record {
    same_length = refl;
    before = λ q lt. refl;
    left = leaves_all f (drop p ss) dead;
  }

  -- nor is anything asked at the slots before the first Live one
  leaves_after : (k : ℕ) (f f' : F) (ss ts : List (Slot T)) → length ts ≡ length ss → ((q : ℕ) → q < k → is_live (slot_at ss q) ≡ false) → ((q : ℕ) → q < k → slot_at ts q ≡ slot_at ss q)
      → LeavesSlots g f (drop k ss) (drop k ts) f' → LeavesSlots g f ss ts f'
  leaves_after zero f f' ss ts long dead same h = h
  leaves_after (suc k) f f' [] [] long dead same h = h
  leaves_after (suc k) f f' [] (t ∷ ts) long dead same h = absurd (omega arith)
  leaves_after (suc k) f f' (s ∷ ss) [] long dead same h = absurd (omega arith)
  leaves_after (suc k) f f' (s ∷ ss) (t ∷ ts) long dead same h = (
    f,
    subst (λ x. LeavesSlot g f s x f) (sym (same 0 (omega arith))) (leaves_dead f s (dead 0 (omega arith))),
    leaves_after k f f' ss ts (omega arith) (λ q lt. dead (suc q) (omega arith)) (λ q lt. same (suc q) (omega arith)) h,
  )

  -- from one place on as from the next Live one on
  module _ (from p : ℕ) (f : F) (ss : List (Slot T)) (next : IsNextLive ss from p) where
    pub same_ahead : entries (drop p ss) ≡ entries (drop from ss)
    same_ahead = let n = next.within in entries_ahead ss from p next.after (omega (arith, n)) next.between

    pub callable_ahead : MayCallInTurn g f (entries (drop from ss)) → MayCallInTurn g f (entries (drop p ss))
    callable_ahead callable = subst (MayCallInTurn g f) (sym same_ahead) callable

    module _ (last : List (Slot T)) (f' : F) (later : RetainsFrom g p f ss last f') where
      pub retained_ahead : RetainsFrom g from f ss last f'
      retained_ahead = record {
        same_length = later.same_length;
        before = λ q lt. let a = next.after in later.before q (omega (arith, a, lt));
        left =
            let a = next.after in let k = p - from in let e : from + k ≡ p = omega (arith, a) in
            leaves_after k f f' (drop from ss) (drop from last)
            (let x = length-drop from ss in let y = length-drop from last in let same = later.same_length in omega (arith, x, y, same))
            (λ q lt. ap is_live (get_or-drop from ss q Empty) ∙ next.between (from + q) (omega arith) (omega (arith, lt, e)))
            (λ q lt. get_or-drop from last q Empty ∙ later.before (from + q) (omega (arith, lt, e)) ∙ sym (get_or-drop from ss q Empty))
            (subst (λ l. LeavesSlots g f l (drop k (drop from last)) f') (sym (drop-drop k from ss ∙ ap (λ n. drop n ss) e))
            (subst (λ l. LeavesSlots g f (drop p ss) l f') (sym (drop-drop k from last ∙ ap (λ n. drop n last) e)) later.left));
      }

      pub total_ahead : total (entries (drop from last)) ≡ total (entries (drop p last))
      total_ahead =
          let n = next.within in let same = later.same_length in
          ap (λ l. total l) (sym (entries_ahead last from p next.after (omega (arith, n, same)) (λ q a b. ap is_live (later.before q b) ∙ next.between q a b)))

  -- one place, and then those after it
  module _ (p : ℕ) (f f1 : F) (ss ts : List (Slot T)) (within : p < length ss) (leaves : LeavesSlot g f (slot_at ss p) (slot_at ts p) f1) (set : ts ≡ slice_set ss p (slot_at ts p)) where
    pub rest_is : drop (p + 1) ts ≡ drop (p + 1) ss
    rest_is = ap (drop (p + 1)) set ∙ drop-set-lt (p + 1) ss p (slot_at ts p) (omega arith)

    head_is : drop p ss ≡ slot_at ss p ∷ drop (p + 1) ss
    head_is = drop_more ss p Empty within

    pub length_next : length ts ≡ length ss
    length_next = ap length set ∙ length-set ss p (slot_at ts p)

    pub callable_next : MayCallInTurn g f (entries (drop p ss)) → MayCallInTurn g f1 (entries (drop (p + 1) ts))
    callable_next callable =
        subst (λ l. MayCallInTurn g f1 (entries l)) (sym rest_is)
        (callable_left f f1 (slot_at ss p) (slot_at ts p) (drop (p + 1) ss) (subst (λ l. MayCallInTurn g f (entries l)) head_is callable) leaves)

    pub total_next : count_in (slot_at ts p) + total (entries (drop (p + 1) ts)) ≤ total (entries (drop p ss))
    total_next =
        let a = ap (λ l. total (entries l)) head_is ∙ total_slots (slot_at ss p) (drop (p + 1) ss) in
        let b = ap (λ l. total (entries l)) rest_is in
        let c = count_left f f1 (slot_at ss p) (slot_at ts p) leaves in
        omega (arith, a, b, c)

    module _ (last : List (Slot T)) (f' : F) (later : RetainsFrom g (p + 1) f1 ts last f') where
      last_head : drop p last ≡ slot_at ts p ∷ drop (p + 1) last
      last_head =
          let l = later.same_length in let m = length_next in
          drop_more last p Empty (omega (arith, l, m)) ∙ ap (λ s. s ∷ drop (p + 1) last) (later.before p (omega arith))

      pub retained_next : RetainsFrom g p f ss last f'
      retained_next = record {
        same_length = later.same_length ∙ length_next;
        before = λ q lt. later.before q (omega arith) ∙ ap (λ us. slot_at us q) set ∙ get_or-set_other ss p q (slot_at ts p) Empty (λ e. omega arith);
        left = subst (λ l. LeavesSlots g f l (drop p last) f') (sym head_is)
            (subst (λ l. LeavesSlots g f (slot_at ss p ∷ drop (p + 1) ss) l f') (sym last_head)
            (f1, leaves, subst (λ l. LeavesSlots g f1 l (drop (p + 1) last) f') rest_is later.left));
      }

      pub total_last : total (entries (drop p last)) ≡ count_in (slot_at ts p) + total (entries (drop (p + 1) last))
      total_last = ap (λ l. total (entries l)) last_head ∙ total_slots (slot_at ts p) (drop (p + 1) last)

  -- all slots
  pub answers_left : (f f' : F) (ss ts : List (Slot T)) → LeavesSlots g f ss ts f' → (returned : List ℕ) × ReturnsInTurn g f (entries ss) returned f' × (entries ts ≡ retained_entries (entries ss) returned)
  answers_left f f' [] [] h = ([], h, refl)
  answers_left f f' [] (t ∷ ts) h = absurd h
  answers_left f f' (s ∷ ss) [] h = absurd h
  answers_left f f' (Empty ∷ ss) (t ∷ ts) h = let r = answers_left h.0 f' ss ts h.2 in (r.0, subst (λ x. ReturnsInTurn g x (entries ss) r.0 f') (sym h.1.1) r.1, ap (λ x. entries (x ∷ ts)) h.1.0 ∙ r.2)
  answers_left f f' (Removed ∷ ss) (t ∷ ts) h = let r = answers_left h.0 f' ss ts h.2 in (r.0, subst (λ x. ReturnsInTurn g x (entries ss) r.0 f') (sym h.1.1) r.1, ap (λ x. entries (x ∷ ts)) h.1.0 ∙ r.2)
  answers_left f f' (Moved ∷ ss) (t ∷ ts) h = let r = answers_left h.0 f' ss ts h.2 in (r.0, subst (λ x. ReturnsInTurn g x (entries ss) r.0 f') (sym h.1.1) r.1, ap (λ x. entries (x ∷ ts)) h.1.0 ∙ r.2)
  answers_left f f' (Live v n ∷ ss) (t ∷ ts) h =
      let r = answers_left h.0 f' ss ts h.2 in
      (h.1.0 ∷ r.0, (h.0, h.1.1, r.1), ap (λ x. entries (x ∷ ts)) h.1.2 ∙ left_entry (ltb 0 (min h.1.0 n)) v (min h.1.0 n) ts (retained_entries (entries ss) r.0) r.2)

  live_left : (f f' : F) (ss ts : List (Slot T)) → LeavesSlots g f ss ts f' → (p : ℕ) (v : T) (n : ℕ) → slot_at ts p ≡ Live v n → (m : ℕ) × (slot_at ss p ≡ Live v m)
  live_left f f' [] [] h p v n here = absurd (cc)
  live_left f f' [] (t ∷ ts) h p v n here = absurd h
  live_left f f' (s ∷ ss) [] h p v n here = absurd h
  live_left f f' (s ∷ ss) (t ∷ ts) h zero v n here = slot_live f h.0 s t v n h.1 here
  live_left f f' (s ∷ ss) (t ∷ ts) h (suc p) v n here = live_left h.0 f' ss ts h.2 p v n here

  moved_left : (f f' : F) (ss ts : List (Slot T)) → LeavesSlots g f ss ts f' → (p : ℕ) → slot_at ts p ≡ Moved → slot_at ss p ≡ Moved
  moved_left f f' [] [] h p here = absurd (cc)
  moved_left f f' [] (t ∷ ts) h p here = absurd h
  moved_left f f' (s ∷ ss) [] h p here = absurd h
  moved_left f f' (s ∷ ss) (t ∷ ts) h zero here = slot_moved f h.0 s t h.1 here
  moved_left f f' (s ∷ ss) (t ∷ ts) h (suc p) here = moved_left h.0 f' ss ts h.2 p here

  -- a slot that is Live no more is Removed
  pub counts_left : (f f' : F) (ss ts : List (Slot T)) → LeavesSlots g f ss ts f' → (live_count ts + removed_count ts ≡ live_count ss + removed_count ss) × (live_count ts ≤ live_count ss)
  counts_left f f' [] [] h = (refl, omega arith)
  counts_left f f' [] (t ∷ ts) h = absurd h
  counts_left f f' (s ∷ ss) [] h = absurd h
  counts_left f f' (s ∷ ss) (t ∷ ts) h =
      let r = counts_left h.0 f' ss ts h.2 in let sum = r.0 in let few = r.1 in
      let a = sum_by-cons one_live t ts in let b = sum_by-cons one_live s ss in
      let c = sum_by-cons one_removed t ts in let d = sum_by-cons one_removed s ss in
      let x = slot_sum f h.0 s t h.1 in let y = slot_few f h.0 s t h.1 in
      (omega (arith, a, b, c, d, x, sum), omega (arith, a, b, y, few))

  module _ (from : ℕ) (f f' : F) (old new : List (Slot T)) (retains : RetainsFrom g from f old new f') where
    -- a value that is Live was Live there
    pub retained_live : (p : ℕ) (v : T) (n : ℕ) → slot_at new p ≡ Live v n → (m : ℕ) × (slot_at old p ≡ Live v m)
    retained_live p v n here =
        elim (cases_lt p from) [
          | inl a ↦ (n, sym (retains.before p a) ∙ here)
          | inr b ↦
              let e : from + (p - from) ≡ p = omega (arith, b) in
              let there = live_left f f' (drop from old) (drop from new) retains.left (p - from) v n (get_or-drop from new (p - from) Empty ∙ ap (slot_at new) e ∙ here) in
              (there.0, sym (ap (slot_at old) e) ∙ sym (get_or-drop from old (p - from) Empty) ∙ there.1)
        ]

    -- no slot becomes Moved
    pub retained_moved : (p : ℕ) → slot_at new p ≡ Moved → slot_at old p ≡ Moved
    retained_moved p here =
        elim (cases_lt p from) [
          | inl a ↦ sym (retains.before p a) ∙ here
          | inr b ↦
              let e : from + (p - from) ≡ p = omega (arith, b) in
              let there = moved_left f f' (drop from old) (drop from new) retains.left (p - from) (get_or-drop from new (p - from) Empty ∙ ap (slot_at new) e ∙ here) in
              sym (ap (slot_at old) e) ∙ sym (get_or-drop from old (p - from) Empty) ∙ there
        ]

    -- a value that was absent is absent
    pub retained_absent : (test : T → Bool) → IsAbsent test old → IsAbsent test new
    retained_absent test absent p lt = each (slot_at new p) refl where
      each : (s : Slot T) → slot_at new p ≡ s → holds test s ≡ false
      each Empty h = refl
      each Removed h = refl
      each Moved h = refl
      each (Live v n) h = let l = retained_live p v n h in let same = retains.same_length in sym (ap (holds test) l.1) ∙ absent p (omega (arith, lt, same))
