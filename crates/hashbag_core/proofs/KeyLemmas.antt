-- What a key names in a bag is what it names in the map of its table; and what an insertion by a key leaves.
use Rattle.std.proofs.Common.{◌≡◌, ℕ, ◌+◌, ◌-◌, ◌<◌, ◌≤◌, min, Bool, true, false, cond, not, List, [], ◌∷◌, ◌++◌, length, replicate, drop, filter, slice_get, Option, Some, None, option_map, refl, sym, ap, subst, ◌∙◌, arith}
use Rattle.std.specs.Cmp.{IsEquivalence}
use Rattle.std.specs.List.{IsDistinct}
use Rattle.std.specs.List.Sorted.{IsPermutation}
use Rattle.std.specs.Map.{keys_of, lookup_entry}
use Rattle.std.proofs.lemmas.List.{append-nil, drop_all}
use Rattle.std.proofs.lemmas.List.Elements.{filter-append}
use Rattle.std.proofs.lemmas.List.Sums.{length-filter}
use Rattle.std.proofs.lemmas.Map.Made.{lookup_key_passes}
use Rattle.hashbag_table.specs.Entries.{count_of, without, IsCounted}
use Rattle.hashbag_table.specs.Additions.{Adds, Stores}
use Rattle.hashbag_table.specs.Named.{named_entry, named_count}
use Rattle.hashbag_table.specs.Table.{Table, IsMapOf, LosesNamed}
use Rattle.hashbag_table.specs.Tables.{KeepsRoom, Rewrites}
use Rattle.hashbag_table.proofs.EntryLemmas.{lookup_key-entry}
use Rattle.hashbag_table.proofs.KeyLemmas.{named_is, named_absent, named_positive, named_present}
use Rattle.hashbag_table.proofs.ListLemmas.{IsPermutation-same, filter-replicate, find-filter}
use Rattle.hashbag_core.specs.Bag.{occurrences, IsTallied}
use Rattle.hashbag_core.specs.Held.{left_in, AreHeld, HasFewer}
use Rattle.hashbag_core.specs.Inserts.{Inserts}
use Rattle.hashbag_core.specs.Occurrences.{count_named, stored_named, less_named, count, less}
use Rattle.hashbag_core.proofs.DistinctLemmas.{distinct_added, distinct_same, distinct_one_more, distinct_put}
use Rattle.hashbag_core.proofs.HeldLemmas.{shown, absent_in_table, present_in_table, recounts_some}
use Rattle.hashbag_core.proofs.OccurrenceLemmas.{add_occurrences, new_occurrences, bag_from_tally, count_occurrences, count_in_tally, fewer_occurrences, less_all_occurrences, tally_less}
use Rattle.hashbag_core.proofs.TakeLemmas.{stored_occurrences}

module _ {T : Type 0} (names : T → Bool) where
  none_step : (b : Bool) (e : T × ℕ) (found : Option (T × ℕ)) (copies rest : List T) → (found ≡ None → rest ≡ []) → cond b (Some e) found ≡ None → cond b copies [] ++ rest ≡ []
  none_step true e found copies rest f h = absurd (cc)
  none_step false e found copies rest f h = f h

  -- what is nowhere in a map is not among its occurrences
  none_named : (es : List (T × ℕ)) → named_entry names es ≡ None → filter names (occurrences es) ≡ []
  none_named [] h = refl
  none_named (e ∷ es) h =
      filter-append names (replicate e.1 e.0) (occurrences es) ∙ ap (λ (l : List T). l ++ filter names (occurrences es)) (filter-replicate names e.1 e.0)
      ∙ none_step (names e.0) e _ (replicate e.1 e.0) _ (none_named es) h

  others_step : (b : Bool) (x : T) (passed rest xs : List T) → (passed ≡ [] → rest ≡ xs) → cond b (x ∷ passed) passed ≡ [] → cond (not b) (x ∷ rest) rest ≡ x ∷ xs
  others_step true x passed rest xs f h = absurd (cc)
  others_step false x passed rest xs f h = ap (λ (l : List T). x ∷ l) (f h)

  -- where none passes, all are left
  others_all : (xs : List T) → filter names xs ≡ [] → filter (λ x. not (names x)) xs ≡ xs
  others_all [] h = refl
  others_all (x ∷ xs) h = others_step (names x) x (filter names xs) (filter (λ y. not (names y)) xs) xs (others_all xs) h

  less_none : (n : ℕ) (X : List T) → filter names X ≡ [] → less_named names n X ≡ X
  less_none n X none =
      let rest = filter (λ x. not (names x)) X in
      ap (λ (l : List T). rest ++ drop n l) none ∙ ap (λ (l : List T). rest ++ l) (drop_all n [] (omega arith)) ∙ append-nil rest ∙ others_all X none

  -- the entry that it names
  entry_named : (es : List (T × ℕ)) (e : T × ℕ) → named_entry names es ≡ Some e → names e.0 ≡ true
  entry_named es e h = lookup_key_passes names es e.0 (lookup_key-entry names es ∙ ap (option_map (λ (x : T × ℕ). x.0)) h)

module _ {T : Type 0} {eq : T → T → Bool} (laws : IsEquivalence eq) (names : T → Bool) (one : (v w : T) → names v ≡ true → names w ≡ eq w v) where
  -- what holds where the key names nothing that is there, and of the test of being equal to a value, holds of the key
  by_value : (es : List (T × ℕ)) (P : (T → Bool) → Type 0) → (named_entry names es ≡ None → P names) → ((v : T) → P (eq v)) → P names
  by_value es P none some = cases (lookup_entry names es) refl where
    cases : (o : Option (T × ℕ)) → lookup_entry names es ≡ o → P names
    cases None h = none h
    cases (Some e) h = subst P (sym (named_is eq laws names one e.0 (entry_named names es e h))) (some e.0)

  -- the count in the list is the count in the map
  pub named_occurrences : (es : List (T × ℕ)) → IsDistinct eq (keys_of es) → count_named names (occurrences es) ≡ named_count names es
  named_occurrences es distinct =
      by_value es (λ (test : T → Bool). count_named test (occurrences es) ≡ named_count test es)
      (λ none. sym (length-filter names (occurrences es)) ∙ ap (λ (l : List T). length l) (none_named names es none) ∙ sym (named_absent names es none))
      (λ v. count_occurrences laws v es distinct)

  -- and the entry of the map is what its occurrences store
  pub stored_named_occurrences : (es : List (T × ℕ)) → IsCounted eq es → stored_named names (occurrences es) ≡ named_entry names es
  stored_named_occurrences es counted =
      by_value es (λ (test : T → Bool). stored_named test (occurrences es) ≡ named_entry test es)
      (λ none. ap (λ (o : Option T). option_map (λ i. (i, count_named names (occurrences es))) o) (find-filter names (occurrences es) ∙ ap (λ (l : List T). slice_get l 0) (none_named names es none)) ∙ sym none)
      (λ v. stored_occurrences laws v es counted)

  -- what a map doesn't have the list doesn't
  pub none_named_there : (es : List (T × ℕ)) → IsDistinct eq (keys_of es) → named_entry names es ≡ None → count_named names (occurrences es) ≡ 0
  none_named_there es distinct none = named_occurrences es distinct ∙ named_absent names es none

  -- a count is at most the total
  pub named_in_tally : {most : ℕ} → (es : List (T × ℕ)) (total : ℕ) → IsTallied eq es total most → named_count names es ≤ total
  named_in_tally es total tally =
      by_value es (λ (test : T → Bool). named_count test es ≤ total)
      (λ none. let zero = named_absent names es none in omega arith)
      (λ v. count_in_tally laws v es total tally)

  -- if a key names v, n of v are gone from a table's entries, and from their occurrences
  abbrev pub IsGone : {S : Type 0} → ℕ → Table T S → Table T S → Type 0
  IsGone n old new = (v : T) → names v ≡ true → IsCounted eq new.entries × IsPermutation (less eq v n (occurrences old.entries)) (occurrences new.entries) × (new.hasher ≡ old.hasher)

  -- n fewer in the map and in the total, or as many as there are
  pub tally_named_less : {S : Type 0} {most : ℕ} → (n taken total : ℕ) (old new : Table T S) → IsTallied eq old.entries total most → taken ≡ min n (named_count names old.entries) → (named_count names old.entries ≡ 0 → new.entries ≡ old.entries)
      → IsGone n old new → IsTallied eq new.entries (total - taken) most
  tally_named_less {most = most} n taken total old new tally number same left = cases (lookup_entry names old.entries) refl where
    cases : (o : Option (T × ℕ)) → lookup_entry names old.entries ≡ o → IsTallied eq new.entries (total - taken) most
    cases None h =
        let zero = named_absent names old.entries h in
        let none : total ≡ total - taken = omega (arith, zero, number) in
        subst (λ (k : ℕ). IsTallied eq new.entries k most) none (subst (λ (l : List (T × ℕ)). IsTallied eq l total most) (sym (same zero)) tally)
    cases (Some e) h =
        let does = entry_named names old.entries e h in
        let now = left e.0 does in
        tally_less laws e.0 n taken old.entries new.entries total tally (number ∙ ap (λ (test : T → Bool). min n (named_count test old.entries)) (named_is eq laws names one e.0 does)) now.0 now.1

  -- and all that it names are the count of any value that it names
  pub counts_all : (v : T) → names v ≡ true → (es : List (T × ℕ)) → IsDistinct eq (keys_of es) → count_of eq v es ≡ count_named names (occurrences es)
  counts_all v does es distinct = sym (named_occurrences es distinct ∙ ap (λ (test : T → Bool). named_count test es) (named_is eq laws names one v does))

  -- an entry's count is at most the total
  pub entry_in_tally : {most : ℕ} → (es : List (T × ℕ)) (total : ℕ) (e : T × ℕ) → IsTallied eq es total most → named_entry names es ≡ Some e → e.1 ≤ total
  entry_in_tally es total e tally h = let is = named_present names es e h in let few = named_in_tally es total tally in omega (arith, is, few)

  -- a removal of what was there leaves as many fewer
  pub shorter_named : {most : ℕ} → (taken total : ℕ) (es fs : List (T × ℕ)) → IsTallied eq es total most → IsTallied eq fs (total - taken) most → taken ≤ named_count names es → length (occurrences fs) + taken ≡ length (occurrences es)
  shorter_named taken total es fs was now some =
      let few = named_in_tally es total was in
      let before = was.sum in
      let after = now.sum in
      omega (arith, few, before, after)

  -- the entry that it names is of a count that isn't 0, of the map and of the list
  pub all_named : (es : List (T × ℕ)) (e : T × ℕ) → IsCounted eq es → named_entry names es ≡ Some e → (0 < e.1) × (named_count names es ≡ e.1) × (count_named names (occurrences es) ≡ e.1)
  all_named es e counted h =
      let n = named_present names es e h in
      (named_positive eq laws names one es e counted h, n, named_occurrences es counted.distinct ∙ n)

  -- if a key names v, n of v are gone from the map and from the list
  pub some_gone : {S : Type 0} (n : ℕ) (old new : Table T S) → IsCounted eq old.entries → LosesNamed eq names n old new → IsGone n old new
  some_gone n old new counted left v does = let after = left v does in (after.counted, fewer_occurrences laws v n _ _ counted after.means, after.hasher)

  pub all_gone : {S : Type 0} (old new : Table T S) → IsCounted eq old.entries → ((v : T) → names v ≡ true → IsMapOf eq old (without eq v old.entries) new) → IsGone (count_named names (occurrences old.entries)) old new
  all_gone old new counted left v does =
      let after = left v does in
      let all = counts_all v does old.entries counted.distinct in
      (after.counted, less_all_occurrences laws v _ _ _ counted (omega (arith, all)) after.means, after.hasher)

  -- what a removal from the table of a bag leaves of the bag
  pub fewer_named : {S : Type 0} {most : ℕ} (n total now before : ℕ) (old new : Table T S) → IsTallied eq old.entries total most → IsTallied eq new.entries now most → before ≡ named_count names old.entries
      → IsGone n old new → (0 < before → Rewrites names (left_in (before - n)) old.tables new.tables) → (before ≡ 0 → new ≡ old) → KeepsRoom 0 old.tables new.tables
      → HasFewer eq names n (shown most old) (shown most new)
  fewer_named {most = most} n total now before old new was is number left slot none room =
      let same : before ≡ count_named names (occurrences old.entries) = number ∙ sym (named_occurrences old.entries was.counted.distinct) in
      record {
        left = (let after = cases (lookup_entry names old.entries) refl in record { means = after.0; hasher = after.1; limit = refl; bag = bag_from_tally laws new.entries now is });
        slot = λ there. subst (λ (k : ℕ). Rewrites names (left_in (k - n)) old.tables new.tables) same (slot (omega (arith, same, there)));
        none = λ zero. ap (shown most) (none (same ∙ zero));
        room = room;
      }
    where
      cases : (o : Option (T × ℕ)) → lookup_entry names old.entries ≡ o → IsPermutation (less_named names n (occurrences old.entries)) (occurrences new.entries) × (new.hasher ≡ old.hasher)
      cases None h =
          let stays = none (number ∙ named_absent names old.entries h) in
          (IsPermutation-same _ _ (less_none names n (occurrences old.entries) (none_named names old.entries h) ∙ sym (ap (λ t. occurrences t.entries) stays)), ap (λ t. t.hasher) stays)
      cases (Some e) h =
          let does = entry_named names old.entries e h in
          let after = left e.0 does in
          (subst (λ (test : T → Bool). IsPermutation (less_named test n (occurrences old.entries)) (occurrences new.entries)) (sym (named_is eq laws names one e.0 does)) after.1, after.2)

none_of_some : {A : Type 0} (n : ℕ) → 0 < n → n ≡ 0 → A
none_of_some n some is = absurd (omega (arith, some, is))

longer : {T : Type 0} {eq : T → T → Bool} {most : ℕ} (n total : ℕ) (es fs : List (T × ℕ)) → IsTallied eq es total most → IsTallied eq fs (total + n) most → length (occurrences fs) ≡ length (occurrences es) + n
longer n total es fs was now = let before = was.sum in let after = now.sum in omega (arith, before, after)

-- what an addition to the table of a bag leaves of the bag
pub inserts_added : {T S : Type 0} {eq : T → T → Bool} (laws : IsEquivalence eq) {most : ℕ} (v : T) (n total : ℕ) (before after : Table T S)
    → 0 < n → IsTallied eq before.entries total most → IsTallied eq after.entries (total + n) most → Adds eq v n before after → AreHeld eq (occurrences after.entries) after.tables → Inserts eq v n (shown most before) (shown most after)
inserts_added {eq = eq} laws v n total before after some was now adds holds =
    let same = count_occurrences laws v before.entries was.counted.distinct in
    record {
      added = record { means = add_occurrences laws v n _ _ was.counted adds.map.means; hasher = adds.map.hasher; limit = refl; bag = bag_from_tally laws _ _ now };
      none = none_of_some n some;
      len = longer n total _ _ was now;
      set_len = distinct_added laws v _ _ _ was.counted now.counted adds.map.means;
      same_set = distinct_same laws v _ _ _ was.counted now.counted adds.map.means;
      new_set = λ _ none. distinct_one_more laws v _ _ _ was.counted now.counted adds.map.means none;
      arrives = λ _ none. adds.arrives (absent_in_table laws v _ was.counted none);
      slot = λ _ there. rw same (recounts_some (eq v) _ _ _ (omega (arith, some)) (adds.slot (present_in_table laws v _ was.counted there)));
      less_room = adds.room;
      same_room = λ there. adds.same_room (omega (arith, same, there));
      held = λ _. holds;
    }

-- the same of a value that was absent
pub inserts_stored : {T S : Type 0} {eq : T → T → Bool} (laws : IsEquivalence eq) {most : ℕ} (v : T) (n total : ℕ) (before after : Table T S)
    → 0 < n → count eq v (occurrences before.entries) ≡ 0 → IsTallied eq before.entries total most → IsTallied eq after.entries (total + n) most → Stores eq v n before after → AreHeld eq (occurrences after.entries) after.tables
    → Inserts eq v n (shown most before) (shown most after)
inserts_stored laws v n total before after some absent was now stores holds =
    let more = distinct_put laws v n _ _ was.counted now.counted absent stores.map.means in
    record {
      added = record { means = new_occurrences laws v n _ _ was.counted absent stores.map.means; hasher = stores.map.hasher; limit = refl; bag = bag_from_tally laws _ _ now };
      none = none_of_some n some;
      len = longer n total _ _ was now;
      set_len = omega (arith, more);
      same_set = λ there. absurd (omega (arith, absent, there));
      new_set = λ _ _. more;
      arrives = λ _ _. stores.arrives (absent_in_table laws v _ was.counted absent);
      slot = λ _ there. absurd (omega (arith, absent, there));
      less_room = stores.room;
      same_room = λ there. absurd (omega (arith, absent, there));
      held = λ _. holds;
    }
