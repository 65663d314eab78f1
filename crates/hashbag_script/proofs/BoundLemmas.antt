-- How many slots a run from none leaves, and how many all its tables had.
use Rattle.std.proofs.Common.{◌≡◌, ℕ, zero, suc, ◌+◌, ◌-◌, ◌*◌, ◌^◌, ◌<◌, ◌≤◌, max, Bool, true, false, ◌||◌, List, [], ◌∷◌, ◌++◌, length, take, refl, sym, ap, subst, ◌∙◌, inl, inr, arith, pow-suc}
use Rattle.std.specs.Cmp.{IsEquivalence}
use Rattle.std.specs.List.{list_any}
use Rattle.std.specs.List.Sorted.{IsPermutation}
use Rattle.std.proofs.lemmas.Bool.{cases_lt}
use Rattle.std.proofs.lemmas.List.Folds.{list_any-append}
use Rattle.hashbag_table.specs.Slots.{IsSlotCount, live_count, removed_count}
use Rattle.hashbag_table.specs.Tables.{Tables, most_used, room, values, grown_slots}
use Rattle.hashbag_table.proofs.RoomLemmas.{slot_count_least, grown_none, grown_same, grown_double}
use Rattle.std.proofs.lemmas.List.{length-append, append-nil}
use Rattle.std.proofs.lemmas.List.Sorted.{IsPermutation-refl}
use Rattle.hashbag_script.specs.declared.script.Reply.{Reply}
use Rattle.hashbag_core.specs.Occurrences.{distinct_count}
use Rattle.hashbag_core.specs.Bag.{Bag, Means}
use Rattle.hashbag_script.specs.declared.script.Step.{Step}
use Rattle.hashbag_script.specs.Script.{step, limit_after, limit_left, run, peak, arrivals, newcomers, reserves_or_shrinks, is_reserve, IsBounded}
use Rattle.hashbag_script.proofs.DistinctOrder.{distinct_rearranged}
use Rattle.hashbag_script.proofs.MoveLemmas.{Moves}
use Rattle.hashbag_script.proofs.RoomLemmas.{newcomers_rearranged}

or_false : (a b : Bool) → (a || b) ≡ false → (a ≡ false) × (b ≡ false)
or_false true b h = absurd (cc)
or_false false b h = (refl, h)

any_false : {X : Type 0} (test : X → Bool) (done : List X) (s : X) → list_any test (done ++ s ∷ []) ≡ false → (list_any test done ≡ false) × (test s ≡ false)
any_false test done s h =
    let both = or_false (list_any test done) (list_any test (s ∷ [])) (sym (list_any-append test done (s ∷ [])) ∙ h) in
    (both.0, (or_false (test s) false both.1).0)

-- ---- numbers

grown_bound : (N s m p q : ℕ) → IsSlotCount N → 3 * N ≤ max 48 (16 * p) → p ≤ q → s ≤ q → m ≡ grown_slots N s → 3 * m ≤ max 48 (16 * q)
grown_bound N s m p q count before rises within is = elim (slot_count_least N count) [
  | inl none ↦ let g = grown_none N s none in omega (arith, g, is)
  | inr some ↦ elim (cases_lt (3 * N) (8 * s)) [
    | inl many ↦ let g = grown_double N s (omega (arith, some)) many in omega (arith, g, is, many, within)
    | inr few ↦ let g = grown_same N s (omega (arith, some)) few in omega (arith, g, is, before, rises)
  ]
]

more_bound : (m N p q : ℕ) → m ≤ N → 3 * N ≤ max 48 (16 * p) → p ≤ q → 3 * m ≤ max 48 (16 * q)
more_bound m N p q fewer before rises = omega (arith, fewer, before, rises)

fourth : (n k : ℕ) → 4 ≤ k → n ≡ 2 ^ k → (q : ℕ) × (n ≡ 4 * q)
fourth n zero le e = absurd (omega (arith, le))
fourth n (suc zero) le e = absurd (omega (arith, le))
fourth n (suc (suc k)) le e = (2 ^ k, e ∙ (let a = pow-suc 2 (suc k) in let b = pow-suc 2 k in omega (arith, a, b)))

in_fours : (n : ℕ) → IsSlotCount n → (q : ℕ) × (n ≡ 4 * q)
in_fours n c = elim c [
  | inl z ↦ (0, z)
  | inr w ↦ fourth n w.0 w.1 w.3
]

-- b slots were built by a arrivals, which left N slots with so much room
pub record Pays (a b N r : ℕ) : Type 0 where
  pub few : 3 * b ≤ 48 + 16 * a
  pub spare : 3 * b + 6 * N ≤ 48 + 16 * (a + r)
  pub start : N ≡ 0 → b ≡ 0

pays_grown : (a b N s m r : ℕ) → IsSlotCount N → s ≤ most_used N → Pays a b N 0 → m ≡ grown_slots N s → r ≡ most_used m - s - 1 → Pays (a + 1) (b + m) m r
pays_grown a b N s m r count fits h is left =
    let x = h.few in let y = h.spare in
    elim (slot_count_least N count) [
      | inl none ↦
          let g = is ∙ grown_none N s none in
          let z = h.start none in
          let l : most_used m ≡ 12 = ap most_used g in
          let k : most_used N ≡ 0 = ap most_used none in
          record { few = omega (arith, g, z); spare = omega (arith, g, z, l, k, fits, left); start = λ no. absurd (omega (arith, g, no)) }
      | inr some ↦ elim (cases_lt (3 * N) (8 * s)) [
        | inl many ↦
            let g = is ∙ grown_double N s (omega (arith, some)) many in
            let four = in_fours N count in
            let l : most_used m ≡ 6 * four.0 = let e = four.1 in let q : m ≡ 8 * four.0 = omega (arith, g, e) in omega (arith, q) in
            let k : most_used N ≡ 3 * four.0 = let e = four.1 in omega (arith, e) in
            let e = four.1 in
            record { few = omega (arith, g, y); spare = omega (arith, g, y, l, k, e, fits, left); start = λ no. absurd (omega (arith, g, some, no)) }
        | inr few ↦
            let g = is ∙ grown_same N s (omega (arith, some)) few in
            let four = in_fours N count in
            let l : most_used m ≡ 3 * four.0 = let e = four.1 in let q : m ≡ 4 * four.0 = omega (arith, g, e) in omega (arith, q) in
            let e = four.1 in
            record { few = omega (arith, g, y); spare = omega (arith, g, y, l, e, few, some, left); start = λ no. absurd (omega (arith, g, some, no)) }
      ]
    ]

pays_kept : (a b k N m r s : ℕ) → Pays a b N r → m ≡ N → r ≤ s + k → Pays (a + k) b m s
pays_kept a b k N m r s h same room =
    let x = h.few in let y = h.spare in
    record { few = omega (arith, x); spare = omega (arith, y, same, room); start = λ no. h.start (sym same ∙ no) }

-- ---- runs

-- from what `waiting` answers, w
pub smaller_by : {T : Type 0} (w : ℕ) (t : Tables T) → w ≡ length t.waiting → (0 < w → w + 16 ≤ length t.newer) → 0 < length t.waiting → length t.waiting + 16 ≤ length t.newer
smaller_by w t waiting smaller = subst (λ n. 0 < n → n + 16 ≤ length t.newer) waiting smaller

module _ {T : Type 0} (eq : T → T → Bool) where
  -- b slots were built by a run from none
  pub record IsCovered (a : ℕ) (before now : Tables T) : Type 0 where
    pub b : ℕ
    pub added : now.built ≡ before.built + b
    pub pays : Pays a b (length now.newer) (room now)

  -- what a run from no slots leaves
  pub record IsPaid (most : ℕ) (done : List (Step T)) (before now : Tables T) : Type 0 where
    pub slots : list_any is_reserve done ≡ false → 3 * length now.newer ≤ max 48 (16 * peak eq most [] done)
    pub built : list_any reserves_or_shrinks done ≡ false → IsCovered (arrivals eq most [] done) before now

  -- what every bag keeps of its tables
  pub record IsShaped (items : List T) (t : Tables T) : Type 0 where
    pub count : IsSlotCount (length t.newer)
    pub known : values t ≡ distinct_count eq items
    pub fits : values t ≤ most_used (length t.newer)
    pub smaller : 0 < length t.waiting → length t.waiting + 16 ≤ length t.newer

  -- from what `slots` answers, n, and `waiting`, w
  pub shaped_by : (n w : ℕ) (items : List T) (t : Tables T) → n ≡ length t.newer → IsSlotCount n → values t ≡ distinct_count eq items → live_count t.newer + removed_count t.newer + live_count t.waiting ≤ most_used (length t.newer)
      → w ≡ length t.waiting → (0 < w → w + 16 ≤ length t.newer) → IsShaped items t
  shaped_by n w items t slots count known fits waiting smaller = record { count = subst (λ m. IsSlotCount m) slots count; known = known; fits = omega (arith, fits); smaller = smaller_by w t waiting smaller }

  peak_more : (most : ℕ) (X : List T) (done : List (Step T)) (s : Step T) → peak eq most X done ≤ peak eq most X (done ++ s ∷ [])
  unfolding peak
  peak_more most X [] s = omega arith
  peak_more most X (t ∷ done) s = let h = peak_more (limit_after eq most X t) (step eq most X t).0 done s in omega (arith, h)

  peak_last : (most : ℕ) (X : List T) (done : List (Step T)) → distinct_count eq (run eq most X done).0 ≤ peak eq most X done
  unfolding peak run
  peak_last most X [] = omega arith
  peak_last most X (t ∷ done) = let h = peak_last (limit_after eq most X t) (step eq most X t).0 done in omega (arith, h)

  arrivals_last : (most : ℕ) (X : List T) (done : List (Step T)) (s : Step T) → arrivals eq most X (done ++ s ∷ []) ≡ arrivals eq most X done + newcomers eq (run eq most X done).0 (step eq (limit_left eq most X done) (run eq most X done).0 s).0
  unfolding arrivals run limit_left
  arrivals_last most X [] s = omega arith
  arrivals_last most X (t ∷ done) s = let h = arrivals_last (limit_after eq most X t) (step eq most X t).0 done s in omega (arith, h)

  pub no_slots_paid : (most : ℕ) (t : Tables T) → t.newer ≡ [] → IsPaid most [] t t
  unfolding peak arrivals
  no_slots_paid most t none =
      let z : length t.newer ≡ 0 = ap (λ (l : List _). length l) none in
      record {
        slots = λ _. omega (arith, z);
        built = λ _. record { b = 0; added = omega arith; pays = record { few = omega arith; spare = omega (arith, z); start = λ _. refl } };
      }

module _ {T : Type 0} {eq : T → T → Bool} (laws : IsEquivalence eq) where
  -- one more step
  pub paid_next : (most m : ℕ) (B : List T) (done : List (Step T)) (s : Step T) (before now after : Tables T)
      → IsPermutation (run eq most [] done).0 B → IsPermutation (step eq (limit_left eq most [] done) (run eq most [] done).0 s).0 (step eq m B s).0 → IsShaped eq B now
      → (reserves_or_shrinks s ≡ false → Moves (newcomers eq B (step eq m B s).0) now after)
      → (reserves_or_shrinks s ≡ true → is_reserve s ≡ false → length after.newer ≤ length now.newer)
      → IsPaid eq most done before now → IsPaid eq most (done ++ s ∷ []) before after
  paid_next most m B done s before now after means left shape moves fewer h = record {
    slots = λ none. let both = any_false is_reserve done s none in at_slots both (reserves_or_shrinks s) refl;
    built = λ none. let both = any_false reserves_or_shrinks done s none in at_built both (moves both.1);
  } where
    rises : peak eq most [] done ≤ peak eq most [] (done ++ s ∷ [])
    rises = peak_more eq most [] done s

    within : values now ≤ peak eq most [] (done ++ s ∷ [])
    within =
        let d = distinct_rearranged laws (run eq most [] done).0 B means in
        let l = peak_last eq most [] done in
        let v = shape.known in
        let r = rises in
        omega (arith, d, l, v, r)

    at_slots : (list_any is_reserve done ≡ false) × (is_reserve s ≡ false) → (b : Bool) → reserves_or_shrinks s ≡ b → 3 * length after.newer ≤ max 48 (16 * peak eq most [] (done ++ s ∷ []))
    at_slots both true about = more_bound _ _ _ _ (fewer about both.1) (h.slots both.0) rises
    at_slots both false about = elim (moves about) [
      | inl kept ↦ more_bound _ _ _ _ (let e = kept.slots in omega (arith, e)) (h.slots both.0) rises
      | inr grown ↦ grown_bound _ _ _ _ _ shape.count (h.slots both.0) rises within grown.2.slots
    ]

    came : newcomers eq (run eq most [] done).0 (step eq (limit_left eq most [] done) (run eq most [] done).0 s).0 ≡ newcomers eq B (step eq m B s).0
    came = newcomers_rearranged laws _ _ _ _ means left

    at_built : (list_any reserves_or_shrinks done ≡ false) × (reserves_or_shrinks s ≡ false) → Moves (newcomers eq B (step eq m B s).0) now after → IsCovered eq (arrivals eq most [] (done ++ s ∷ [])) before after
    at_built both moved =
        let was = h.built both.0 in
        let k = newcomers eq B (step eq m B s).0 in
        let a : arrivals eq most [] (done ++ s ∷ []) ≡ arrivals eq most [] done + k = arrivals_last eq most [] done s ∙ ap (λ n. arrivals eq most [] done + n) came in
        subst (λ n. IsCovered eq n before after) (sym a) (elim moved [
          | inl kept ↦ record { b = was.b; added = kept.built ∙ was.added; pays = pays_kept _ was.b k _ _ _ _ was.pays kept.slots kept.room }
          | inr grown ↦ record {
            b = was.b + length after.newer;
            added = let x = grown.2.built in let y = was.added in omega (arith, x, y);
            pays =
                subst (λ n. Pays (arrivals eq most [] done + n) (was.b + length after.newer) (length after.newer) (room after)) (sym grown.0)
                (pays_grown _ was.b (length now.newer) (values now) _ _ shape.count shape.fits (subst (λ r. Pays (arrivals eq most [] done) was.b (length now.newer) r) grown.1 was.pays) grown.2.slots grown.2.room);
          }
        ])

-- ---- the steps that have replies

module _ {T : Type 0} (eq : T → T → Bool) where
  pub means_none : {S : Type 0} (bag : Bag T S) → bag.items ≡ [] → Means bag []
  means_none bag empty = subst (λ (l : List T). IsPermutation [] l) (sym empty) (IsPermutation-refl [])

  run_replies : (most : ℕ) (X : List T) (done : List (Step T)) → length (run eq most X done).1 ≡ length done
  unfolding run
  run_replies most X [] = refl
  run_replies most X (s ∷ done) = ap suc (run_replies (limit_after eq most X s) (step eq most X s).0 done)

  take_done : {X : Type 0} (done rest : List X) → take (length done) (done ++ rest) ≡ done
  take_done [] rest = refl
  take_done (s ∷ done) rest = ap (λ (l : List _). s ∷ l) (take_done done rest)

  pub unanswered : (most : ℕ) (X : List T) (before after : List (Reply T)) → after ≡ before → after ≡ before ++ (run eq most X []).1
  unfolding run
  unanswered most X before after e = e ∙ sym (append-nil before)

  pub are_answered : (most : ℕ) (X : List T) (done rest steps : List (Step T)) (before after : List (Reply T)) → done ++ rest ≡ steps → after ≡ before ++ (run eq most X done).1 → take (length after - length before) steps ≡ done
  are_answered most X done rest steps before after parts replied =
      let long : length after ≡ length before + length (run eq most X done).1 = ap (λ (l : List (Reply T)). length l) replied ∙ length-append before (run eq most X done).1 in
      let each = run_replies most X done in
      let count : length after - length before ≡ length done = omega (arith, long, each) in
      ap (λ k. take k steps) count ∙ ap (λ (l : List (Step T)). take (length done) l) (sym parts) ∙ take_done done rest

  pub bounded_from : (most : ℕ) (done rest steps : List (Step T)) (before after : List (Reply T)) (old new : Tables T) → done ++ rest ≡ steps → after ≡ before ++ (run eq most [] done).1 → IsPaid eq most done old new
      → (0 < length new.waiting → length new.waiting + 16 ≤ length new.newer) → IsBounded eq most (take (length after - length before) steps) old new
  bounded_from most done rest steps before after old new parts replied paid smaller =
      let are : take (length after - length before) steps ≡ done = are_answered most [] done rest steps before after parts replied in
      subst (λ (l : List (Step T)). IsBounded eq most l old new) (sym are) (record {
        slots = paid.slots;
        smaller = smaller;
        built = λ none. let covered = paid.built none in (covered.b, covered.added, covered.pays.few);
      })
