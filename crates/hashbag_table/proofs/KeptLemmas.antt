-- What the numbers that a closure returned leave of a map, and of two tables of slots.
use Rattle.std.proofs.Common.{◌≡◌, ℕ, ◌+◌, ◌<◌, ◌≤◌, ◌^◌, min, Bool, true, false, cond, ltb, List, [], ◌∷◌, ◌++◌, length, drop, refl, sym, ap, subst, ◌∙◌, inl, inr, arith, append_assoc}
use denote.Ref.{Bor}
use denote.Param.Members.{Mut}
use Rattle.std.specs.List.{IsDistinct, AllByRecursion}
use Rattle.std.specs.Map.{keys_of}
use Rattle.std.proofs.lemmas.List.{length-drop}
use Rattle.std.proofs.lemmas.List.Sums.{sum_by-append}
use Rattle.std.proofs.lemmas.List.Sorted.{IsPermutation-refl}
use Rattle.std.proofs.lemmas.Map.Keys.{IsDistinct-cons, IsDistinct-head, IsDistinct-tail}
use Rattle.hashbag_slots.specs.Slots.{is_live, live_count, removed_count, entries}
use Rattle.hashbag_slots.specs.Columns.{Columns, IsReached}
use Rattle.hashbag_table.specs.Returned.{MayCallInTurn, ReturnsInTurn, Retains, retained_entries}
use Rattle.hashbag_table.specs.Entries.{IsCounted, total}
use Rattle.hashbag_table.specs.Retained.{RetainsFrom}
use Rattle.hashbag_table.specs.Tables.{most_used, room_of, entries_of, AreTables, IsTables}
use Rattle.hashbag_table.proofs.ReturnedLemmas.{total_kept, positive_kept}
use Rattle.hashbag_table.proofs.ListLemmas.{IsPermutation-same}
use Rattle.hashbag_table.proofs.RetainLemmas.{answers_left, counts_left, retained_live, retained_moved, retained_absent}

distinct_nil : (T : Type 0) (eq : T → T → Bool) → IsDistinct eq []
unfolding IsDistinct
distinct_nil T eq = tt

-- what is kept of a map has its values apart
module _ {T : Type 0} where
  keys_step : (P : T → Type 0) (b : Bool) (v : T) (m : ℕ) (es : List (T × ℕ)) → P v → AllByRecursion P (keys_of es) → AllByRecursion P (keys_of (cond b ((v, m) ∷ es) es))
  keys_step P true v m es p h = (p, h)
  keys_step P false v m es p h = h

  keys_kept : (P : T → Type 0) (es : List (T × ℕ)) (returned : List ℕ) → AllByRecursion P (keys_of es) → AllByRecursion P (keys_of (retained_entries es returned))
  keys_kept P [] returned h = tt
  keys_kept P (e ∷ es) [] h = tt
  keys_kept P (e ∷ es) (a ∷ returned) h = keys_step P (ltb 0 (min a e.1)) e.0 (min a e.1) (retained_entries es returned) h.0 (keys_kept P es returned h.1)

  distinct_step : (eq : T → T → Bool) (b : Bool) (v : T) (m : ℕ) (es : List (T × ℕ)) → AllByRecursion (λ y. eq v y ≡ false) (keys_of es) → IsDistinct eq (keys_of es) → IsDistinct eq (keys_of (cond b ((v, m) ∷ es) es))
  distinct_step eq true v m es p h = IsDistinct-cons eq v (keys_of es) p h
  distinct_step eq false v m es p h = h

  distinct_kept : (eq : T → T → Bool) (es : List (T × ℕ)) (returned : List ℕ) → IsDistinct eq (keys_of es) → IsDistinct eq (keys_of (retained_entries es returned))
  distinct_kept eq [] returned h = distinct_nil T eq
  distinct_kept eq (e ∷ es) [] h = distinct_nil T eq
  distinct_kept eq (e ∷ es) (a ∷ returned) h =
      distinct_step eq (ltb 0 (min a e.1)) e.0 (min a e.1) (retained_entries es returned) (keys_kept (λ y. eq e.0 y ≡ false) es returned (IsDistinct-head eq e.0 (keys_of es) h))
      (distinct_kept eq es returned (IsDistinct-tail eq e.0 (keys_of es) h))

  pub counted_kept : (eq : T → T → Bool) (es : List (T × ℕ)) (returned : List ℕ) → IsCounted eq es → IsCounted eq (retained_entries es returned)
  counted_kept eq es returned h = record { distinct = distinct_kept eq es returned h.distinct; positive = positive_kept es returned }

  append_step : (b : Bool) (v : T) (m : ℕ) (all front back : List (T × ℕ)) → all ≡ front ++ back → cond b ((v, m) ∷ all) all ≡ cond b ((v, m) ∷ front) front ++ back
  append_step true v m all front back h = ap (λ l. (v, m) ∷ l) h
  append_step false v m all front back h = h

module _ {F T : Type 0} (g : Mut F (Bor T × (ℕ × Unit {0})) ℕ) where
  -- one walk, and then another one
  kept_both : (f f' : F) (es fs : List (T × ℕ)) (ms ns : List ℕ) → ReturnsInTurn g f es ms f' → retained_entries (es ++ fs) (ms ++ ns) ≡ retained_entries es ms ++ retained_entries fs ns
  kept_both f f' [] fs [] ns h = refl
  kept_both f f' [] fs (a ∷ ms) ns h = absurd h
  kept_both f f' (e ∷ es) fs [] ns h = absurd h
  kept_both f f' (e ∷ es) fs (a ∷ ms) ns h = append_step (ltb 0 (min a e.1)) e.0 (min a e.1) (retained_entries (es ++ fs) (ms ++ ns)) (retained_entries es ms) (retained_entries fs ns) (kept_both h.0 f' es fs ms ns h.2)

  answers_both : (f f1 f2 : F) (es fs : List (T × ℕ)) (ms ns : List ℕ) → ReturnsInTurn g f es ms f1 → ReturnsInTurn g f1 fs ns f2 → ReturnsInTurn g f (es ++ fs) (ms ++ ns) f2
  answers_both f f1 f2 [] fs [] ns h k = subst (λ x. ReturnsInTurn g x fs ns f2) (sym h) k
  answers_both f f1 f2 [] fs (a ∷ ms) ns h k = absurd h
  answers_both f f1 f2 (e ∷ es) fs [] ns h k = absurd h
  answers_both f f1 f2 (e ∷ es) fs (a ∷ ms) ns h k = (h.0, h.1, answers_both h.0 f1 f2 es fs ms ns h.2 k)

  pub callable_first : (f : F) (es fs all : List (T × ℕ)) → es ++ fs ≡ all → MayCallInTurn g f all → MayCallInTurn g f es
  callable_first f es fs all is callable = record {
    at = λ before after e returned last split asked. callable.at before (after ++ fs) e returned last (sym is ∙ ap (λ l. l ++ fs) split ∙ append_assoc before (e ∷ after) fs) asked;
  }

  callable_then : (f f1 : F) (es fs : List (T × ℕ)) (ms : List ℕ) → MayCallInTurn g f (es ++ fs) → ReturnsInTurn g f es ms f1 → MayCallInTurn g f1 fs
  callable_then f f1 es fs ms callable first = record {
    at = λ before after e returned last split asked.
        callable.at (es ++ before) after e (ms ++ returned) last (ap (λ l. es ++ l) split ∙ sym (append_assoc es before (e ∷ after))) (answers_both f f1 last es before ms returned first asked);
  }

  pub total_both : (es fs : List (T × ℕ)) → total (es ++ fs) ≡ total es + total fs
  total_both es fs = sum_by-append (λ e. e.1) es fs

  -- what fits of all fits of each part
  pub total_fits : (es fs : List (T × ℕ)) (all : ℕ) → total (es ++ fs) ≡ all → all < 2 ^ 64 → (total es < 2 ^ 64) × (total fs < 2 ^ 64)
  total_fits es fs all is fits = let both = total_both es fs in (omega (arith, both, is, fits), omega (arith, both, is, fits))

  -- the newer table, and then the slots that wait
  pub callable_waiting : (newer waiting newer1 : Columns T) (carried_to : ℕ) (f f1 : F) → RetainsFrom g 0 f newer.slots newer1.slots f1 → (all : List (T × ℕ)) → entries_of newer.slots (drop carried_to waiting.slots) ≡ all → MayCallInTurn g f all
      → MayCallInTurn g f1 (entries (drop carried_to waiting.slots))
  callable_waiting newer waiting newer1 carried_to f f1 first all is callable =
      let a = answers_left g f f1 newer.slots newer1.slots first.left in
      callable_then f f1 (entries newer.slots) (entries (drop carried_to waiting.slots)) a.0 (subst (MayCallInTurn g f) (sym is) callable) a.1

  pub record WalksBoth (newer older newer1 older1 : Columns T) (carried_to : ℕ) (f f1 f2 : F) : Type 0 where
    pub first : RetainsFrom g 0 f newer.slots newer1.slots f1
    pub second : RetainsFrom g carried_to f1 older.slots older1.slots f2

  module _ {newer older newer1 older1 : Columns T} {carried_to : ℕ} {f f1 f2 : F} (walked : WalksBoth newer older newer1 older1 carried_to f f1 f2) where
    pub length_waiting : length (drop carried_to older1.slots) ≡ length (drop carried_to older.slots)
    length_waiting = let a = length-drop carried_to older1.slots in let b = length-drop carried_to older.slots in let same = walked.second.same_length in omega (arith, a, b, same)

    both_left : (returned : List ℕ) × ReturnsInTurn g f (entries_of newer.slots (drop carried_to older.slots)) returned f2
        × (entries_of newer1.slots (drop carried_to older1.slots) ≡ retained_entries (entries_of newer.slots (drop carried_to older.slots)) returned)
    both_left =
        let w = drop carried_to older.slots in let w1 = drop carried_to older1.slots in
        let a = answers_left g f f1 newer.slots newer1.slots walked.first.left in
        let b = answers_left g f1 f2 w w1 walked.second.left in (
          a.0 ++ b.0,
          answers_both f f1 f2 (entries newer.slots) (entries w) a.0 b.0 a.1 b.1,
          (λ i. a.2 i ++ b.2 i) ∙ sym (kept_both f f1 (entries newer.slots) (entries w) a.0 b.0 a.1),
        )

    pub retains_both : Retains g f (entries_of newer.slots (drop carried_to older.slots)) (entries_of newer1.slots (drop carried_to older1.slots))
    retains_both =
        let all = both_left in
        record {
          walk = entries_of newer.slots (drop carried_to older.slots);
          order = IsPermutation-refl _;
          returned = all.0;
          last = f2;
          calls = all.1;
          retained = IsPermutation-same _ _ (sym all.2);
        }

    pub total_left : total (entries newer1.slots) + total (entries (drop carried_to older1.slots)) ≤ total (entries_of newer.slots (drop carried_to older.slots))
    total_left =
        let all = both_left in
        let a = total_kept (entries_of newer.slots (drop carried_to older.slots)) all.0 in let e = ap (λ l. total l) all.2 in
        let s = total_both (entries newer1.slots) (entries (drop carried_to older1.slots)) in omega (arith, a, e, s)

    used_left : live_count newer1.slots + removed_count newer1.slots + live_count (drop carried_to older1.slots) ≤ live_count newer.slots + removed_count newer.slots + live_count (drop carried_to older.slots)
    used_left =
        let a = counts_left g f f1 newer.slots newer1.slots walked.first.left in let x = a.0 in
        let b = counts_left g f1 f2 (drop carried_to older.slots) (drop carried_to older1.slots) walked.second.left in let y = b.1 in omega (arith, x, y)

    limit_left : most_used (length newer1.slots) ≡ most_used (length newer.slots)
    limit_left = ap most_used walked.first.same_length

    pub room_left : room_of newer.slots (drop carried_to older.slots) ≤ room_of newer1.slots (drop carried_to older1.slots)
    room_left = let used = used_left in let l = limit_left in omega (arith, used, l)

    -- two tables stay two tables
    module _ (eq : T → T → Bool) (hash : T → ℕ) (before : IsTables eq hash newer older carried_to) (newer_reached : IsReached hash newer1) (older_reached : IsReached hash older1) where
      tables_left : AreTables eq hash newer1 older1 carried_to
      tables_left = record {
        newer_reached = newer_reached;
        older_reached = older_reached;
        apart = λ p v n here.
            let was = retained_live g carried_to f1 f2 older.slots older1.slots walked.second p v n here in
            retained_absent g 0 f f1 newer.slots newer1.slots walked.first (eq v) (before.tables.apart p v was.0 was.1);
        unmoved = λ p here. before.tables.unmoved p (retained_moved g 0 f f1 newer.slots newer1.slots walked.first p here);
        carried_within = let l = before.tables.carried_within in let same = walked.second.same_length in omega (arith, l, same);
        carried_not_live = λ p lt. ap is_live (walked.second.before p lt) ∙ before.tables.carried_not_live p lt;
        fits = let used = used_left in let l = limit_left in let t = before.tables.fits in omega (arith, used, l, t);
      }

      pub IsTables-left : IsTables eq hash newer1 older1 carried_to
      IsTables-left =
          let all = both_left in let len = length_waiting in
          record {
            tables = tables_left;
            counted = subst (IsCounted eq) (sym all.2) (counted_kept eq (entries_of newer.slots (drop carried_to older.slots)) all.0 before.counted);
            carries = let c = before.carries in let r = room_left in omega (arith, c, r, len);
            smaller = elim before.smaller [
              | inl none ↦ inl (let z : length (drop carried_to older1.slots) ≡ 0 = len ∙ ap length none in nil_is (drop carried_to older1.slots) z)
              | inr some ↦ inr (let same = walked.first.same_length in omega (arith, len, same, some))
            ];
            freed = λ all. let same = walked.second.same_length in same ∙ before.freed (omega (arith, same, all));
          }
        where
          nil_is : {X : Type 0} (xs : List X) → length xs ≡ 0 → xs ≡ []
          nil_is [] h = refl
          nil_is (x ∷ xs) h = absurd (omega arith)
