-- Insertions in turn: what they leave of the occurrences, of the slots and of the room, and why one may fail after them.
use Rattle.std.proofs.Common.{◌≡◌, ℕ, ◌+◌, ◌<◌, ◌≤◌, Bool, List, [], ◌∷◌, ◌++◌, length, sum_by, Option, Some, Result, Ok, Err, IsOk, IfErr, refl, sym, ◌∙◌, ap, subst, append_assoc, inl, inr, arith}
use Rattle.std.specs.Cmp.{IsEquivalence}
use Rattle.std.specs.Iterator.{Drains, YieldsThen}
use Rattle.std.specs.List.{AllZip}
use Rattle.std.proofs.lemmas.Bool.{cases_lt}
use Rattle.std.proofs.lemmas.Iterator.{YieldsList}
use Rattle.std.proofs.lemmas.Iterator.Consumers.{YieldsList-turn}
use Rattle.std.proofs.lemmas.List.{append-nil}
use Rattle.std.proofs.lemmas.List.Elements.{All-nil}
use Rattle.std.proofs.lemmas.List.Sums.{sum_by-cons}
use Rattle.std.proofs.lemmas.List.Sorted.{IsPermutation-refl, IsPermutation-sym, IsPermutation-trans}
use Rattle.std.proofs.lemmas.Slice.Zip.{AllZip-long}
use Rattle.hashbag_table.specs.Tables.{room}
use Rattle.hashbag_table.proofs.CloneLemmas.{zip_more}
use Rattle.hashbag_table.proofs.RoomKeptLemmas.{keeps_same}
use Rattle.hashbag_core.specs.declared.bag.BagError.{BagError}
use Rattle.hashbag_core.specs.declared.bag.BagError.TheVariants.{Memory, TooMany, BelowTotal}
use Rattle.hashbag_core.specs.Bag.{Bag, Means, IsBagOf, limited}
use Rattle.hashbag_core.specs.Occurrences.{greatest_total, count, add, distinct_count, IsBag}
use Rattle.hashbag_core.specs.Extends.{Once, add_all, MayFailWith}
use Rattle.hashbag_core.specs.Held.{no_slots_after_building}
use Rattle.hashbag_core.specs.Inserts.{empty_bag, Inserts, MayFail, InTurn, IsMadeOf, InsertsAll, InsertsUpTo, MayFailOne, MayFailCloning}
use Rattle.hashbag_core.proofs.ExtendLemmas.{add_all_last, may_fail_cloning, sum_went, sum_went_once}
use Rattle.hashbag_core.proofs.OccurrenceLemmas.{add_rearranged, bag_rearranged}

module _ {T S : Type 0} (eq : T → T → Bool) where
  pub turn_last : (pairs : List (T × ℕ)) (p : T × ℕ) (before now after : Bag T S) → InTurn eq pairs before now → Inserts eq p.0 p.1 now after → InTurn eq (pairs ++ p ∷ []) before after
  turn_last [] p before now after same went = (after, subst (λ (b : Bag T S). Inserts eq p.0 p.1 b after) same went, refl)
  turn_last (q ∷ pairs) p before now after h went = (h.0, h.1, turn_last pairs p h.0 now after h.2 went)

  -- more occurrences, as many as the numbers beside them
  pub length_in_turn : (pairs : List (T × ℕ)) (before after : Bag T S) → InTurn eq pairs before after → length after.items ≡ length before.items + sum_by (λ p. p.1) pairs
  length_in_turn [] before after same = let as_long = ap (λ (b : Bag T S). length b.items) same in omega (arith, as_long)
  length_in_turn (p ∷ pairs) before after h =
      let one = h.1.len in
      let others = length_in_turn pairs h.0 after h.2 in
      let sum = sum_by-cons (λ (p : T × ℕ). p.1) p pairs in
      omega (arith, one, others, sum)

  -- ---- what they take of the room

  -- as many slots as before, no table built, and no more of the room taken than distinct values came
  pub record StaysWithin (before after : Bag T S) : Type 0 where
    pub slots : length after.tables.newer ≡ length before.tables.newer
    pub built : after.tables.built ≡ before.tables.built
    pub left : room before.tables + distinct_count eq before.items ≤ room after.tables + distinct_count eq after.items

  -- values only came, and while no more of them came than there was room for, no slot did
  pub record Spends (before after : Bag T S) : Type 0 where
    pub more : distinct_count eq before.items ≤ distinct_count eq after.items
    pub within : distinct_count eq after.items ≤ distinct_count eq before.items + room before.tables → StaysWithin before after

  spends_none : (a : Bag T S) → Spends a a
  spends_none a = record { more = omega arith; within = λ p. record { slots = refl; built = refl; left = omega arith } }

  spends_trans : (a b c : Bag T S) → Spends a b → Spends b c → Spends a c
  spends_trans a b c x y = record {
    more = let m = x.more in let n = y.more in omega arith;
    within = λ p.
        let n = y.more in
        let first = x.within (omega (arith, n, p)) in
        let r = first.left in
        let second = y.within (omega (arith, n, p, r)) in
        let q = second.left in
        record { slots = second.slots ∙ first.slots; built = second.built ∙ first.built; left = omega (arith, r, q) };
  }

  spends_inserted : (v : T) (n : ℕ) (old new : Bag T S) → Inserts eq v n old new → Spends old new
  spends_inserted v n old new went = elim (cases_lt 0 n) [
    | inr fewer ↦ subst (λ (b : Bag T S). Spends old b) (sym (went.none (omega (arith, fewer)))) (spends_none old)
    | inl some ↦ elim (cases_lt 0 (count eq v old.items)) [
      | inl there ↦
          let d = went.same_set there in
          let kept = went.same_room there in
          let r = kept.room in
          record {
            more = omega (arith, d);
            within = λ p. record { slots = kept.slots; built = kept.built; left = omega (arith, d, r) };
          }
      | inr absent ↦
          let none : count eq v old.items ≡ 0 = omega (arith, absent) in
          let d = went.new_set some none in
          record {
            more = omega (arith, d);
            within = λ p.
                let left : 0 < room old.tables = omega (arith, d, p) in
                let kept = went.less_room left in
                let r = kept.room in
                record { slots = kept.slots; built = kept.built; left = omega (arith, d, r) };
          }
    ]
  ]

  -- of pairs that were inserted one after the other: within the room there are as many slots, no table is built, and room is lower by no
  -- more than the new values
  pub spends_in_turn : (pairs : List (T × ℕ)) (before after : Bag T S) → InTurn eq pairs before after → Spends before after
  spends_in_turn [] before after same = subst (λ (b : Bag T S). Spends before b) (sym same) (spends_none before)
  spends_in_turn (p ∷ pairs) before after h = spends_trans before h.0 after (spends_inserted p.0 p.1 before h.0 h.1) (spends_in_turn pairs h.0 after h.2)

  -- each of them is at most one distinct value more
  pub few_in_turn : (pairs : List (T × ℕ)) (before after : Bag T S) → InTurn eq pairs before after → distinct_count eq after.items ≤ distinct_count eq before.items + length pairs
  few_in_turn [] before after same = let as_many = ap (λ (b : Bag T S). distinct_count eq b.items) same in omega (arith, as_many)
  few_in_turn (p ∷ pairs) before after h =
      let one = h.1.set_len in
      let others = few_in_turn pairs h.0 after h.2 in
      omega (arith, one, others)

  -- so where there is room for all of them the number of slots stays, and nothing is built
  pub stays_in_turn : (pairs : List (T × ℕ)) (before after : Bag T S) → InTurn eq pairs before after → length pairs ≤ room before.tables → StaysWithin before after
  stays_in_turn pairs before after h enough =
      let few = few_in_turn pairs before after h in
      (spends_in_turn pairs before after h).within (omega (arith, few, enough))

  -- ---- insertions that fail

  -- if an item failed with `Memory` (`MayFail`), as many new values had arrived as there was room for. Over references a clone may have
  -- failed instead
  pub fails_past_room : (pairs : List (T × ℕ)) (before after : Bag T S) (v : T) (n : ℕ) → InTurn eq pairs before after → MayFail eq after v n Memory
      → distinct_count eq before.items + room before.tables ≤ distinct_count eq after.items
  fails_past_room pairs before after v n h declined =
      let full = declined.full refl in
      let spent = spends_in_turn pairs before after h in
      elim (cases_lt (distinct_count eq after.items) (distinct_count eq before.items + room before.tables)) [
        | inr enough ↦ enough
        | inl fewer ↦
            let left = (spent.within (omega (arith, fewer))).left in
            absurd (omega (arith, left, full, fewer))
      ]

  -- so there were at least as many items before it
  pub fails_after_room : (pairs : List (T × ℕ)) (before after : Bag T S) (v : T) (n : ℕ) → InTurn eq pairs before after → MayFail eq after v n Memory → room before.tables ≤ length pairs
  fails_after_room pairs before after v n h declined =
      omega (arith, few_in_turn pairs before after h, fails_past_room pairs before after v n h declined)

module _ {T S : Type 0} {eq : T → T → Bool} (laws : IsEquivalence eq) where
  -- 0 of a value
  pub inserts_none : (v : T) (n : ℕ) (bag : Bag T S) → n ≡ 0 → IsBag eq bag.most bag.items → Inserts eq v n bag bag
  inserts_none v n bag none is = subst (λ (k : ℕ). Inserts eq v k bag bag) (sym none) (record {
    added = record { means = rw (append-nil bag.items) (IsPermutation-refl bag.items); hasher = refl; limit = refl; bag = is };
    none = λ _. refl;
    len = omega arith;
    set_len = omega arith;
    same_set = λ _. refl;
    new_set = λ some _. absurd (omega (arith, some));
    arrives = λ some _. absurd (omega (arith, some));
    slot = λ some _. absurd (omega (arith, some));
    less_room = λ _. keeps_same 1 bag.tables;
    same_room = λ _. keeps_same 0 bag.tables;
    held = λ some. absurd (omega (arith, some));
  })

  -- ---- what they make of the occurrences

  left_last : (before now after : Bag T S) (first : List (T × ℕ)) (p : T × ℕ) → IsBagOf eq before (add_all eq before.items first) now → IsBagOf eq now (add eq p.0 p.1 now.items) after
      → IsBagOf eq before (add_all eq before.items (first ++ p ∷ [])) after
  left_last before now after first p left added = record {
    means =
        let bag = bag_rearranged laws _ _ (IsPermutation-sym _ _ left.means) left.bag in
        rw (add_all_last laws before.items first p) (IsPermutation-trans _ _ _ (add_rearranged laws p.0 p.1 (add_all eq before.items first) now.items bag left.means) added.means);
    hasher = added.hasher ∙ left.hasher;
    limit = added.limit ∙ left.limit;
    bag = added.bag;
  }

  left_later : (first later : List (T × ℕ)) (before now after : Bag T S) → IsBagOf eq before (add_all eq before.items first) now → InTurn eq later now after
      → IsBagOf eq before (add_all eq before.items (first ++ later)) after
  left_later first [] before now after left same =
      rw (append-nil first) (subst (λ (b : Bag T S). IsBagOf eq before (add_all eq before.items first) b) (sym same) left)
  left_later first (p ∷ later) before now after left h =
      subst (λ (l : List (T × ℕ)). IsBagOf eq before (add_all eq before.items l) after) (append_assoc first (p ∷ []) later)
      (left_later (first ++ p ∷ []) later before h.0 after (left_last before now h.0 first p left h.1.added) h.2)

  -- all of them were added
  pub left_in_turn : (pairs : List (T × ℕ)) (before after : Bag T S) → IsBag eq before.most before.items → InTurn eq pairs before after → IsBagOf eq before (add_all eq before.items pairs) after
  left_in_turn pairs before after is h = left_later [] pairs before before after (record { means = IsPermutation-refl _; hasher = refl; limit = refl; bag = is }) h

  -- ---- for callers, of the clauses of extends and collections

  -- of `all` of extends and collections: the bag means what it had, and the pairs
  pub all_added : {I A : Type 0} {steps : I → Option A → I → Type 0} {Goes : A → T × ℕ → Type 0} {it : I} {before after : Bag T S} → (h : InsertsAll eq steps Goes it before after)
      → IsBagOf eq before (add_all eq before.items h.pairs) after
  all_added {before = before} {after = after} h = left_in_turn h.pairs before after h.bag h.turn

  -- of `fails` of extends and collections: the bag means what it had, and the pairs before the item that failed
  pub some_added : {I A : Type 0} {steps : I → Option A → I → Type 0} {Goes : A → T × ℕ → Type 0} {X : Type 0} {Why : Bag T S → A → X → Type 0} {it : I} {before after : Bag T S} {e : X}
      → (h : InsertsUpTo eq steps Goes Why it before after e) → IsBagOf eq before (add_all eq before.items h.pairs) after
  some_added {before = before} {after = after} h = left_in_turn h.pairs before after h.bag h.turn

  -- a collection: the bag that was made is empty, under the state that is left
  empty_before : (made after : Bag T S) → made.items ≡ [] → made.tables ≡ no_slots_after_building 0 → made.most ≡ greatest_total → after.hasher ≡ made.hasher → made ≡ empty_bag after.hasher
  empty_before made after none slots limit same = λ i. record { items = none i; hasher = sym same i; tables = slots i; most = limit i }

  pub all_made : {I A : Type 0} {steps : I → Option A → I → Type 0} {Goes : A → T × ℕ → Type 0} {it : I} {made after : Bag T S} → made.items ≡ [] → made.tables ≡ no_slots_after_building 0 → made.most ≡ greatest_total
      → InsertsAll eq steps Goes it made after → InsertsAll eq steps Goes it (empty_bag after.hasher) after
  all_made {steps = steps} {Goes = Goes} {it = it} {made = made} {after = after} none slots limit h =
      subst (λ (b : Bag T S). InsertsAll eq steps Goes it b after) (empty_before made after none slots limit (all_added h).hasher) h

  pub some_made : {I A : Type 0} {steps : I → Option A → I → Type 0} {Goes : A → T × ℕ → Type 0} {X : Type 0} {Why : Bag T S → A → X → Type 0} {it : I} {made after : Bag T S} {e : X}
      → made.items ≡ [] → made.tables ≡ no_slots_after_building 0 → made.most ≡ greatest_total → InsertsUpTo eq steps Goes Why it made after e → InsertsUpTo eq steps Goes Why it (empty_bag after.hasher) after e
  some_made {steps = steps} {Goes = Goes} {Why = Why} {it = it} {made = made} {after = after} {e = e} none slots limit h =
      subst (λ (b : Bag T S). InsertsUpTo eq steps Goes Why it b after e) (empty_before made after none slots limit (some_added h).hasher) h

  -- a bag that was read
  pub made_of : (start bag : Bag T S) (pairs : List (T × ℕ)) → start.items ≡ [] → start.tables ≡ no_slots_after_building 0 → bag.most ≡ start.most → bag.hasher ≡ start.hasher → InTurn eq pairs start bag → IsMadeOf eq pairs bag
  made_of start bag pairs none slots limit same h =
      let empty : start ≡ limited bag.most (empty_bag bag.hasher) = λ i. record { items = none i; hasher = sym same i; tables = slots i; most = sym limit i } in
      subst (λ (b : Bag T S). InTurn eq pairs b bag) empty h

  -- of `read` of `from_value` and its variants: the bag means what its pairs add up to
  pub made_means : (pairs : List (T × ℕ)) (bag : Bag T S) → IsMadeOf eq pairs bag → Means bag (add_all eq [] pairs)
  made_means pairs bag h = (left_in_turn pairs (limited bag.most (empty_bag bag.hasher)) bag (record { one_instance = All-nil _; fits = omega arith }) h).means

  -- ---- clones

  -- inserting a clone that there is failed
  pub clone_fails : (is_clone : T → T → Type 0) (is_infallible : T → Type 0) (bag : Bag T S) (v x : T) (n : ℕ) (e : BagError) → is_clone v x → MayFail eq bag x n e → MayFailCloning eq is_clone is_infallible bag v n e
  clone_fails is_clone is_infallible bag v x n e clone declined = record { why = may_fail_cloning laws bag.most bag.items x n e declined.why; memory = λ _. inr (x, clone, declined) }

  -- ---- an `extend` by a known list

  -- an insertion of one fails only where the limit is reached, or for memory
  declined_once : (bag : Bag T S) (v : T) (e : BagError) → MayFailWith eq bag.most bag.items v 1 e → length bag.items + 1 ≤ bag.most → e ≡ Memory
  declined_once bag v TooMany over fits = absurd (omega (arith, over, fits))
  declined_once bag v Memory asks fits = refl
  declined_once bag v BelowTotal never fits = absurd never

  -- an `extend` by a known list doesn't fail, with room for its length and within the limit
  pub none_fails : {I B : Type 0} {steps : I → Option T → I → Type 0} {view : T → B} {it : I} {all : List B} {before after : Bag T S} {e : BagError}
      → InsertsUpTo eq steps Once (MayFailOne eq) it before after e → YieldsList steps view it all → length all ≤ room before.tables → length before.items + length all ≤ before.most → ⊥
  none_fails {all = all} {before = before} {after = after} {e = e} h yields enough fits =
      let fewer : length h.items < length all = (YieldsList-turn yields h.items h.yielded.0 h.yielded.1 (Some h.failed) h.rest h.failed refl h.yielded.2).0 in
      let as_many = AllZip-long Once h.items h.pairs h.as_pairs in
      let long = length_in_turn eq h.pairs before after h.turn in
      let numbers = sum_went_once Once (λ x p is. ap (λ (q : T × ℕ). q.1) is) h.items h.pairs h.as_pairs in
      let limit = (some_added h).limit in
      let memory = declined_once after h.failed e h.why.why (omega (arith, long, numbers, fewer, fits, limit)) in
      let late = fails_after_room eq h.pairs before after h.failed 1 h.turn (subst (λ (x : BagError). MayFail eq after h.failed 1 x) memory h.why) in
      omega (arith, late, as_many, fewer, enough)

  -- so such an `extend` succeeds
  pub takes_all : {I A B : Type 0} {steps : I → Option T → I → Type 0} {view : T → B} {it : I} {all : List B} → (before after : Bag T S) (r : Result A BagError)
      → IfErr r (InsertsUpTo eq steps Once (MayFailOne eq) it before after) → YieldsList steps view it all → length all ≤ room before.tables → length before.items + length all ≤ before.most → IsOk r
  takes_all before after (Ok a) h yields enough fits = refl
  takes_all before after (Err e) h yields enough fits = absurd (none_fails h yields enough fits)

-- ---- while a loop runs

module _ {T S A : Type 0} (eq : T → T → Bool) (Goes : A → T × ℕ → Type 0) where
  -- the items so far went in in turn as these pairs
  pub record SoFar (before now : Bag T S) (items : List A) : Type 0 where
    pub bag : IsBag eq before.most before.items
    pub pairs : List (T × ℕ)
    pub as_pairs : AllZip Goes items pairs
    pub turn : InTurn eq pairs before now

  pub none_yet : (bag : Bag T S) → IsBag eq bag.most bag.items → SoFar bag bag []
  none_yet bag is = record { bag = is; pairs = []; as_pairs = tt; turn = refl }

  pub one_more : (before now after : Bag T S) (items : List A) (x : A) (p : T × ℕ) → SoFar before now items → Goes x p → Inserts eq p.0 p.1 now after → SoFar before after (items ++ x ∷ [])
  one_more before now after items x p so_far goes went = record {
    bag = so_far.bag;
    pairs = so_far.pairs ++ p ∷ [];
    as_pairs = zip_more Goes items so_far.pairs x p so_far.as_pairs goes;
    turn = turn_last eq so_far.pairs p before now after so_far.turn went;
  }

  -- the end came
  pub all_went : {I : Type 0} {steps : I → Option A → I → Type 0} {it : I} {before after : Bag T S} → (items : List A) → SoFar before after items → Drains steps it items → InsertsAll eq steps Goes it before after
  all_went items so_far came = record { bag = so_far.bag; items = items; yielded = came; pairs = so_far.pairs; as_pairs = so_far.as_pairs; turn = so_far.turn }

  -- the next item failed, and left the bag as it was
  pub some_went : {I X : Type 0} {steps : I → Option A → I → Type 0} {Why : Bag T S → A → X → Type 0} {it : I} {before after : Bag T S} {e : X} → (now : Bag T S) (items : List A) (x : A) (rest : I)
      → SoFar before now items → YieldsThen steps it items (Some x) rest → after ≡ now → Why now x e → InsertsUpTo eq steps Goes Why it before after e
  some_went {steps = steps} {Why = Why} {it = it} {before = before} {e = e} now items x rest so_far came same why =
      subst (λ (b : Bag T S). InsertsUpTo eq steps Goes Why it before b e) (sym same) (record {
        bag = so_far.bag;
        items = items;
        failed = x;
        rest = rest;
        yielded = came;
        pairs = so_far.pairs;
        as_pairs = so_far.as_pairs;
        turn = so_far.turn;
        why = why;
      })

-- ---- for callers of the extends

module _ {T S I A : Type 0} {eq : T → T → Bool} {steps : I → Option A → I → Type 0} {Goes : A → T × ℕ → Type 0} {it : I} {before after : Bag T S} (h : InsertsAll eq steps Goes it before after) where
  longer : (n : ℕ) → sum_by (λ p. p.1) h.pairs ≡ n → length after.items ≡ length before.items + n
  longer n numbers = length_in_turn eq h.pairs before after h.turn ∙ ap (λ (k : ℕ). length before.items + k) numbers

  -- of `all`, if each item is inserted once: the bag is longer by their number
  pub longer_by_items : ((x : A) (p : T × ℕ) → Goes x p → p.1 ≡ 1) → length after.items ≡ length before.items + length h.items
  longer_by_items says = longer _ (sum_went_once Goes says h.items h.pairs h.as_pairs)

  -- of `all`: the bag is longer by the sum of the numbers
  pub longer_by_numbers : (number : A → ℕ) → ((x : A) (p : T × ℕ) → Goes x p → p.1 ≡ number x) → length after.items ≡ length before.items + sum_by number h.items
  longer_by_numbers number says = longer _ (sum_went Goes number says h.items h.pairs h.as_pairs)

  -- of `all`, with room for as many values as items: there are as many slots, and no table is built
  pub stays_within : length h.items ≤ room before.tables → StaysWithin eq before after
  stays_within enough =
      let as_many = AllZip-long Goes h.items h.pairs h.as_pairs in
      stays_in_turn eq h.pairs before after h.turn (omega (arith, as_many, enough))
