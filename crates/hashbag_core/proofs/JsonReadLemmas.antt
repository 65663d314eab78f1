-- Arrays of values as lists of trees, and how far a tree was read.
use Rattle.std.proofs.Common.{◌≡◌, ℕ, suc, zero, ◌<◌, ◌≤◌, ◌+◌, Bool, true, false, cond, ltb, List, [], ◌∷◌, ◌++◌, length, get_or, drop, map, Option, Some, None, option_map, option_and_then, unwrap_or, refl, sym, ◌∙◌, ap, subst, append_assoc, arith, add-one}
use Rattle.std.specs.Option.{option_or}
use Rattle.std.specs.List.{AllZip}
use Rattle.std.specs.List.Sorted.{IsPermutation}
use Rattle.std.specs.Cmp.{IsEquivalence}
use Rattle.std.proofs.lemmas.Bool.{le-ltb}
use Rattle.std.proofs.lemmas.List.{append-nil}
use Rattle.std.proofs.lemmas.List.Elements.{All-nil}
use Rattle.serde_json.specs.Data.{Data}
use Rattle.serde_json.specs.Find.{as_array}
use Rattle.serde_json.specs.View.{view, items_of, items_view}
use Rattle.serde_json.specs.declared.value.Value.{Value}
use Rattle.hashbag_table.proofs.CloneLemmas.{zip_more}
use Rattle.hashbag_core.specs.declared.json.JsonError.{JsonError}
use Rattle.hashbag_core.specs.declared.json.JsonError.TheVariants.{BadItem, TooMany}
use Rattle.hashbag_core.specs.Bag.{Bag}
use Rattle.hashbag_core.specs.Inserts.{Inserts, InTurn}
use Rattle.hashbag_core.specs.JsonFaults.{list_of, array_of, two_of, pair_of, pair_count, part_fault, pair_fault, first_fault, IsCountedItem, MayRunOutAmong}
use Rattle.hashbag_core.specs.JsonItems.{u64_of}
use Rattle.hashbag_core.specs.JsonTrees.{IsPair}
use Rattle.hashbag_core.specs.Occurrences.{add, IsBag}
use Rattle.hashbag_core.proofs.InsertLemmas.{turn_last}
use Rattle.hashbag_core.proofs.OccurrenceLemmas.{length_added}

pub list_of-items_of : (ds : List Data) → list_of (items_of ds) ≡ ds
list_of-items_of [] = refl
list_of-items_of (d ∷ ds) = ap (λ l. d ∷ l) (list_of-items_of ds)

-- what `as_array` found
pub array_of_found : (d : Data) (vs : List Value) → Some (items_view vs) ≡ as_array d → array_of d ≡ Some (map view vs)
array_of_found d vs e = ap (option_map list_of) (sym e) ∙ ap (λ l. Some l) (list_of-items_of (map view vs))

not_two : (ds : List Value) → (length ds ≡ 2 → ⊥) → two_of (map view ds) ≡ None
not_two [] h = refl
not_two (d ∷ []) h = refl
not_two (d ∷ e ∷ []) h = absurd (h refl)
not_two (d ∷ e ∷ f ∷ ds) h = refl

pub no_pair : (d : Data) (vs : List Value) → Some (items_view vs) ≡ as_array d → (length vs ≡ 2 → ⊥) → None ≡ pair_of d
no_pair d vs e h = sym (ap (option_and_then two_of) (array_of_found d vs e) ∙ not_two vs h)

drop_map : (vs : List Value) (i : ℕ) (d : Value) → i < length vs → map view (drop i vs) ≡ view (get_or vs i d) ∷ map view (drop (suc i) vs)
drop_map [] i d h = absurd (omega arith)
drop_map (v ∷ vs) zero d h = refl
drop_map (v ∷ vs) (suc i) d h = drop_map vs i d (omega arith)

-- the tree at i is the first of those that are left
pub left_at : (vs : List Value) (i : ℕ) (d : Value) → d ≡ get_or vs i d → i < length vs → map view (drop i vs) ≡ view d ∷ map view (drop (i + 1) vs)
left_at vs i d is h = rw add-one (drop_map vs i d h ∙ ap (λ (e : Value). view e ∷ map view (drop (suc i) vs)) (sym is))

module _ {T : Type 0} {eq : T → T → Bool} (laws : IsEquivalence eq) (end : ℕ) (has_item : Data → Bool) (reads : Data → T → Type 0) where
  pair_counted : (d : Data) (p : T × ℕ) → IsPair reads d p → pair_count d ≡ Some p.1
  pair_counted d p is = ap (option_and_then (λ (q : Data × Data). u64_of q.1)) is.parts ∙ is.count

  -- a pair that was added has no fault
  pub good_pair : (d tree counted_by : Data) (i : ℕ) (X Y : List T) (x : T) (n : ℕ) → pair_of d ≡ Some (tree, counted_by) → u64_of counted_by ≡ Some n → has_item tree ≡ true → IsPermutation (add eq x n X) Y → length Y ≤ end
      → pair_fault end has_item i (length X) (pair_of d) ≡ None
  good_pair d tree counted_by i X Y x n parts counted item added fits =
      let long = length_added laws x n X Y added in
      let low : ltb end (length X + n) ≡ false = le-ltb _ _ (omega arith) in
      ap (pair_fault end has_item i (length X)) parts
      ∙ ap (part_fault end has_item i (length X) tree) counted
      ∙ ap (λ (b : Bool). cond b (cond (ltb end (length X + n)) (Some (TooMany i)) None) (Some (BadItem i))) item
      ∙ ap (λ (b : Bool). cond b (Some (TooMany i)) None) low

  past_pair : (d : Data) (rest : List Data) (i total n : ℕ) → pair_fault end has_item i total (pair_of d) ≡ None → pair_count d ≡ Some n → first_fault end has_item i total (d ∷ rest) ≡ first_fault end has_item (i + 1) (total + n) rest
  unfolding first_fault
  past_pair d rest i total n good count =
      ap (λ (o : Option JsonError). option_or o (first_fault end has_item (i + 1) (total + unwrap_or (pair_count d) 0) rest)) good
      ∙ ap (λ (o : Option ℕ). first_fault end has_item (i + 1) (total + unwrap_or o 0) rest) count

  at_pair : (d : Data) (rest : List Data) (i total : ℕ) (e : JsonError) → pair_fault end has_item i total (pair_of d) ≡ Some e → first_fault end has_item i total (d ∷ rest) ≡ Some e
  unfolding first_fault
  at_pair d rest i total e bad = ap (λ (o : Option JsonError). option_or o (first_fault end has_item (i + 1) (total + unwrap_or (pair_count d) 0) rest)) bad

  none_left : (i total : ℕ) → first_fault end has_item i total [] ≡ None
  unfolding first_fault
  none_left i total = refl

module _ {T S : Type 0} {eq : T → T → Bool} (laws : IsEquivalence eq) (end : ℕ) (has_item : Data → Bool) (reads : Data → T → Type 0) (start : Bag T S) where
  -- `rest` is left of the pairs `ds`, and the first i went into `start` in turn, which left `now`
  pub record IsReadTo (ds rest : List Data) (i : ℕ) (now : Bag T S) : Type 0 where
    pub done : List Data
    pub pairs : List (T × ℕ)
    pub parts : ds ≡ done ++ rest
    pub each : AllZip (IsPair reads) done pairs
    pub turn : InTurn eq pairs start now
    pub bag : IsBag eq end now.items
    pub fault : (others : List Data) → first_fault end has_item 0 0 (done ++ others) ≡ first_fault end has_item i (length now.items) others

  pub read_to_start : (ds : List Data) → start.items ≡ [] → IsReadTo ds ds 0 start
  read_to_start ds none = record {
    done = [];
    pairs = [];
    parts = refl;
    each = tt;
    turn = refl;
    bag = subst (λ (X : List T). IsBag eq end X) (sym none) (record { one_instance = All-nil _; fits = omega arith });
    fault = λ others. ap (λ (X : List T). first_fault end has_item 0 (length X) others) (sym none);
  }

  pub read_to_next : (ds rest : List Data) (d : Data) (i : ℕ) (now after : Bag T S) (p : T × ℕ) → IsReadTo ds (d ∷ rest) i now
      → pair_fault end has_item i (length now.items) (pair_of d) ≡ None → IsPair reads d p → Inserts eq p.0 p.1 now after → IsBag eq end after.items → IsReadTo ds rest (i + 1) after
  read_to_next ds rest d i now after p so good is went bag = record {
    done = so.done ++ d ∷ [];
    pairs = so.pairs ++ p ∷ [];
    parts = so.parts ∙ sym (append_assoc so.done (d ∷ []) rest);
    each = zip_more (IsPair reads) so.done so.pairs d p so.each is;
    turn = turn_last eq so.pairs p start now after so.turn went;
    bag = bag;
    fault = λ others. ap (λ (l : List Data). first_fault end has_item 0 0 l) (append_assoc so.done (d ∷ []) others) ∙ so.fault (d ∷ others)
        ∙ past_pair laws end has_item reads d others i (length now.items) p.1 good (pair_counted laws end has_item reads d p is) ∙ ap (λ (n : ℕ). first_fault end has_item (i + 1) n others) (sym went.len);
  }

  whole_fault : (ds rest : List Data) (i : ℕ) (now : Bag T S) → (so : IsReadTo ds rest i now) → first_fault end has_item 0 0 ds ≡ first_fault end has_item i (length now.items) rest
  whole_fault ds rest i now so = ap (λ (l : List Data). first_fault end has_item 0 0 l) so.parts ∙ so.fault rest

  -- the fault of the pairs is that of the one at which the reading stopped
  pub fault_at : (ds rest : List Data) (d : Data) (i : ℕ) (now : Bag T S) (e : JsonError) → IsReadTo ds (d ∷ rest) i now
      → pair_fault end has_item i (length now.items) (pair_of d) ≡ Some e → first_fault end has_item 0 0 ds ≡ Some e
  fault_at ds rest d i now e so bad = whole_fault ds (d ∷ rest) i now so ∙ at_pair laws end has_item reads d rest i (length now.items) e bad

  -- memory may have ended it there
  pub may_run_out_at : (ds rest : List Data) (d : Data) (i : ℕ) (now : Bag T S) → IsReadTo ds (d ∷ rest) i now → IsCountedItem has_item d → MayRunOutAmong end has_item ds
  may_run_out_at ds rest d i now so allocates = record {
    before = so.done;
    pair = d;
    after = rest;
    parts = so.parts;
    good = ap (λ (l : List Data). first_fault end has_item 0 0 l) (sym (append-nil so.done)) ∙ so.fault [] ∙ none_left laws end has_item reads i (length now.items);
    allocates = allocates;
  }

  pub no_fault_at_end : (ds : List Data) (i : ℕ) (now : Bag T S) → IsReadTo ds [] i now → first_fault end has_item 0 0 ds ≡ None
  no_fault_at_end ds i now so = whole_fault ds [] i now so ∙ none_left laws end has_item reads i (length now.items)

  pub pairs_at_end : (ds : List Data) (i : ℕ) (now : Bag T S) → (so : IsReadTo ds [] i now) → AllZip (IsPair reads) ds so.pairs
  pairs_at_end ds i now so = subst (λ (l : List Data). AllZip (IsPair reads) l so.pairs) (sym (so.parts ∙ append-nil so.done)) so.each
