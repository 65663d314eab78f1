-- A walk of two tables gives the entries of both, each once.
use Rattle.std.proofs.Common.{◌≡◌, ◌≢◌, ℕ, suc, ◌+◌, ◌-◌, ◌*◌, ◌/◌, ◌%◌, ◌^◌, ◌<◌, ◌≤◌, Bool, cond, nat_eq, List, [], ◌∷◌, ◌++◌, length, map, get_or, Option, Some, None, refl, sym, ap, subst, ◌∙◌, inl, inr, arith, pow-add}
use Rattle.std.specs.List.{cons_option, filter_map}
use Rattle.std.specs.List.Sorted.{IsPermutation}
use Rattle.std.proofs.lemmas.Bool.{cases_lt, cases_eq, le-leb, lt-leb, le-ltb}
use Rattle.std.proofs.lemmas.Bool.Decides.{eqb_tells}
use Rattle.std.proofs.lemmas.List.{append_assoc, append-nil, length-append}
use Rattle.std.proofs.lemmas.List.Elements.{filter_map-append}
use Rattle.std.proofs.lemmas.List.Sorted.{IsPermutation-refl, IsPermutation-sym, IsPermutation-trans, IsPermutation-middle, IsPermutation-append, IsPermutation-append_left, IsPermutation-append_right, IsPermutation-append_comm, length_permutation}
use Rattle.std.proofs.lemmas.List.Sums.{count_by-le-length}
use Rattle.std.proofs.lemmas.Nat.Bits.{bit_at-zero}
use Rattle.hashbag_slots.specs.Group.{from_place_on}
use Rattle.hashbag_slots.specs.Columns.{Agree, IsColumns, slot_of, slots_of}
use Rattle.hashbag_slots.proofs.Paths.{count_bound}
use Rattle.hashbag_slots.specs.declared.slots.Slot.{Slot}
use Rattle.hashbag_slots.specs.Slots.{IsSlotCount, is_live, slot_entry, entries, live_count}
use Rattle.hashbag_slots.specs.Cells.{cell_at}
use Rattle.hashbag_slots.specs.Walks.{pass_of, of_turn, live_places, live_places_from, in_pass, turns, turn_places, entry_at_turn, entries_left, first_course, IsCourse, IsWalk}
use Rattle.hashbag_slots.proofs.Maps.{no_entry}
use Rattle.hashbag_slots.proofs.Reading.{dead_slot, no_cell, length-slots_of}
use Rattle.hashbag_slots.proofs.Walking.{is_fingerprint, filter_in, filter_out, length-entries_live}

-- a number of slots is a multiple of 16
pub sixteens : (n : ℕ) → IsSlotCount n → n % 16 ≡ 0
sixteens n count = elim count [
  | inl none ↦ omega arith
  | inr power ↦
      let k = power.0 in let low = power.1 in let is : n ≡ 2 ^ k = power.3 in
      let parts : k ≡ (k - 4) + 4 = omega arith in
      let sum : 2 ^ k ≡ 2 ^ (k - 4) * 2 ^ 4 = ap (λ j. 2 ^ j) parts ∙ pow-add 2 (k - 4) 4 in
      omega (arith, sum, is)
]

module _ {X : Type 0} where
  -- one more at the front of the first, or of a later list
  cons_first : (o : Option X) (xs ys : List X) → cons_option o (xs ++ ys) ≡ cons_option o xs ++ ys
  cons_first None xs ys = refl
  cons_first (Some x) xs ys = refl

  cons_later : (o : Option X) (xs ys : List X) → IsPermutation (cons_option o (xs ++ ys)) (xs ++ cons_option o ys)
  cons_later None xs ys = IsPermutation-refl (xs ++ ys)
  cons_later (Some x) xs ys = IsPermutation-sym (xs ++ x ∷ ys) (x ∷ (xs ++ ys)) (IsPermutation-middle xs x ys)

  cons_both : (o : Option X) (xs ys : List X) → IsPermutation xs ys → IsPermutation (cons_option o xs) (cons_option o ys)
  cons_both None xs ys h = h
  cons_both (Some x) xs ys h = IsPermutation-append_right (x ∷ []) xs ys h

  -- two rows of lists, taken by turns
  weave : (x xs y ys zs : List X) → IsPermutation (xs ++ ys) zs → IsPermutation ((x ++ xs) ++ (y ++ ys)) (x ++ (y ++ zs))
  weave x xs y ys zs h =
      let out : x ++ (xs ++ (y ++ ys)) ≡ (x ++ xs) ++ (y ++ ys) = sym (append_assoc x xs (y ++ ys)) in
      let mid : IsPermutation (xs ++ (y ++ ys)) (y ++ (xs ++ ys)) = subst (λ l. IsPermutation l (y ++ (xs ++ ys))) (append_assoc xs y ys)
      (subst (IsPermutation ((xs ++ y) ++ ys)) (append_assoc y xs ys) (IsPermutation-append_left ys (xs ++ y) (y ++ xs) (IsPermutation-append_comm xs y))) in
      subst (λ l. IsPermutation l (x ++ (y ++ zs))) out
      (IsPermutation-append_right x (xs ++ (y ++ ys)) (y ++ zs) (IsPermutation-trans _ _ _ mid (IsPermutation-append_right y (xs ++ ys) zs h)))

  module _ (f : ℕ → Option X) where
    -- what the places of a pass give
    abbrev of_pass : ℕ → List ℕ → List X
    of_pass pass ps = filter_map f (in_pass pass ps)

    one_more : (pass p : ℕ) (ps : List ℕ) → pass_of p ≡ pass → of_pass pass (p ∷ ps) ≡ cons_option (f p) (of_pass pass ps)
    one_more pass p ps is = elim (eqb_tells (pass_of p) pass) [
      | inl same ↦ ap (filter_map f) (filter_in (λ q. nat_eq (pass_of q) pass) p ps same.0)
      | inr other ↦ absurd (other.1 is)
    ]

    no_more : (pass p : ℕ) (ps : List ℕ) → pass_of p ≢ pass → of_pass pass (p ∷ ps) ≡ of_pass pass ps
    no_more pass p ps not = elim (eqb_tells (pass_of p) pass) [
      | inl same ↦ absurd (not same.1)
      | inr other ↦ ap (filter_map f) (filter_out (λ q. nat_eq (pass_of q) pass) p ps other.0)
    ]

    abbrev three : List ℕ → List X
    three ps = of_pass 2 ps ++ (of_pass 1 ps ++ of_pass 0 ps)

    -- three passes give all
    all_passes : (ps : List ℕ) → IsPermutation (filter_map f ps) (three ps)
    all_passes [] = IsPermutation-refl []
    all_passes (p ∷ ps) =
        let o = f p in let a = of_pass 2 ps in let b = of_pass 1 ps in let c = of_pass 0 ps in
        let front : IsPermutation (cons_option o (filter_map f ps)) (cons_option o (three ps)) = cons_both o (filter_map f ps) (three ps) (all_passes ps) in
        elim (cases_eq (pass_of p) 2) [
          | inl two ↦
              let to : cons_option o (three ps) ≡ three (p ∷ ps) =
              cons_first o a (b ++ c) ∙ sym (λ i. one_more 2 p ps two i ++ (no_more 1 p ps (λ e. let g : pass_of p ≡ 2 = two in omega arith) i ++ no_more 0 p ps (λ e. let g : pass_of p ≡ 2 = two in omega arith) i)) in
              subst (IsPermutation (filter_map f (p ∷ ps))) to front
          | inr not_two ↦
              elim (cases_eq (pass_of p) 1) [
                | inl one ↦
                    let to : a ++ cons_option o (b ++ c) ≡ three (p ∷ ps) =
                    ap (λ l. a ++ l) (cons_first o b c) ∙ sym (λ i. no_more 2 p ps not_two i ++ (one_more 1 p ps one i ++ no_more 0 p ps (λ e. let g : pass_of p ≡ 1 = one in omega arith) i)) in
                    subst (IsPermutation (filter_map f (p ∷ ps))) to (IsPermutation-trans _ _ _ front (cons_later o a (b ++ c)))
                | inr not_one ↦
                    let none : pass_of p ≡ 0 = let l : p / 256 % 3 < 3 = omega arith in omega arith in
                    let to : a ++ (b ++ cons_option o c) ≡ three (p ∷ ps) =
                    sym (λ i. no_more 2 p ps not_two i ++ (no_more 1 p ps not_one i ++ one_more 0 p ps none i)) in
                    subst (IsPermutation (filter_map f (p ∷ ps))) to
                    (IsPermutation-trans _ _ _ front (IsPermutation-trans _ _ _ (cons_later o a (b ++ c)) (IsPermutation-append_right a (cons_option o (b ++ c)) (b ++ cons_option o c) (cons_later o b c))))
              ]
        ]

module _ {T : Type 0} where
  live_few : (ss : List (Slot T)) → live_count ss ≤ length ss
  live_few ss = count_by-le-length is_live ss

  entry_of : (t : ℕ) (c : Option (T × ℕ)) → slot_entry (slot_of t c) ≡ c
  entry_of t None = no_entry (slot_of t None) (dead_slot T t)
  entry_of t (Some e) = refl

  -- the cells of the Live places are the entries: of a table's last slots, from the place m on
  entries_at : (all : List (Option (T × ℕ))) (m : ℕ) (ts : List ℕ) (cs : List (Option (T × ℕ))) → length ts ≡ length cs → ((i : ℕ) → get_or all (m + i) None ≡ get_or cs i None)
      → ((i : ℕ) → get_or ts i 0 < 128 → get_or cs i None ≡ None) → filter_map (cell_at all) (live_places m ts) ≡ entries (slots_of ts cs)
  entries_at all m [] cs long at low = refl
  entries_at all m (t ∷ ts) [] long at low = absurd (omega arith)
  entries_at all m (t ∷ ts) (c ∷ cs) long at low =
      let rest : filter_map (cell_at all) (live_places (suc m) ts) ≡ entries (slots_of ts cs) = entries_at all (suc m) ts cs (omega arith) (λ i. let e : suc m + i ≡ m + suc i = omega arith in ap (λ k. get_or all k None) e ∙ at (suc i)) (λ i. low (suc i)) in
      let here : get_or all m None ≡ c = let e : m ≡ m + 0 = omega arith in ap (λ k. get_or all k None) e ∙ at 0 in
      let l = live_places (suc m) ts in
      elim (cases_lt t 128) [
        | inl lt ↦
            let none : c ≡ None = low 0 lt in
            ap (λ b. filter_map (cell_at all) (cond b (m ∷ l) l)) (lt-leb 128 t lt) ∙ rest ∙ sym (ap (λ o. cons_option o (entries (slots_of ts cs))) (entry_of t c ∙ none))
        | inr ge ↦
            ap (λ b. filter_map (cell_at all) (cond b (m ∷ l) l)) (le-leb 128 t ge) ∙ (λ i. cons_option (here i) (rest i)) ∙ sym (ap (λ o. cons_option o (entries (slots_of ts cs))) (entry_of t c))
      ]

  entries_of_cells : (ts : List ℕ) (cs : List (Option (T × ℕ))) → Agree ts cs → filter_map (cell_at cs) (live_places_from 0 ts) ≡ entries (slots_of ts cs)
  entries_of_cells ts cs agree = entries_at cs 0 ts cs agree.same_length (λ i. let e : 0 + i ≡ i = omega arith in ap (λ k. get_or cs k None) e) (λ i low. no_cell ts cs agree i low)

  module _ (ts us : List ℕ) (cs ds : List (Option (T × ℕ))) where
    of_places : (turn : ℕ) (ps : List ℕ) → filter_map (entry_at_turn cs ds) (map (λ p. (turn, p)) ps) ≡ filter_map (cell_at (of_turn turn cs ds)) ps
    of_places turn [] = refl
    of_places turn (p ∷ ps) = ap (cons_option (cell_at (of_turn turn cs ds) p)) (of_places turn ps)

    abbrev pass : ℕ → List ℕ → List (Option (T × ℕ)) → List (T × ℕ)
    pass r vs es = of_pass (cell_at es) r (live_places_from 0 vs)

    turn_first : (turn : ℕ) → filter_map (entry_at_turn cs ds) (turns (suc turn) ts us) ≡ pass (turn / 2) (of_turn turn ts us) (of_turn turn cs ds) ++ filter_map (entry_at_turn cs ds) (turns turn ts us)
    turn_first turn =
        filter_map-append (entry_at_turn cs ds) (turn_places turn 0 ts us) (turns turn ts us) ∙ ap (λ l. l ++ filter_map (entry_at_turn cs ds) (turns turn ts us)) (of_places turn (in_pass (turn / 2) (live_places_from 0 (of_turn turn ts us))))

    by_turns : entries_left 5 0 ts us cs ds ≡ pass 2 ts cs ++ (pass 2 us ds ++ (pass 1 ts cs ++ (pass 1 us ds ++ (pass 0 ts cs ++ (pass 0 us ds ++ [])))))
    by_turns =
        turn_first 5 ∙ ap (λ l. pass 2 ts cs ++ l) (turn_first 4 ∙ ap (λ l. pass 2 us ds ++ l) (turn_first 3 ∙ ap (λ l. pass 1 ts cs ++ l) (turn_first 2 ∙ ap (λ l. pass 1 us ds ++ l) (turn_first 1 ∙ ap (λ l. pass 0 ts cs ++ l) (turn_first 0)))))

    pub walk_all : Agree ts cs → Agree us ds → IsPermutation (entries (slots_of ts cs) ++ entries (slots_of us ds)) (entries_left 5 0 ts us cs ds)
    walk_all agree older_agree =
        let ms = live_places_from 0 ts in let ns = live_places_from 0 us in
        let first : IsPermutation (entries (slots_of ts cs)) (three (cell_at cs) ms) = subst (λ l. IsPermutation l (three (cell_at cs) ms)) (entries_of_cells ts cs agree) (all_passes (cell_at cs) ms) in
        let second : IsPermutation (entries (slots_of us ds)) (three (cell_at ds) ns) = subst (λ l. IsPermutation l (three (cell_at ds) ns)) (entries_of_cells us ds older_agree) (all_passes (cell_at ds) ns) in
        let last : IsPermutation (pass 0 ts cs ++ pass 0 us ds) (pass 0 ts cs ++ (pass 0 us ds ++ [])) = subst (λ l. IsPermutation (pass 0 ts cs ++ pass 0 us ds) (pass 0 ts cs ++ l)) (sym (append-nil (pass 0 us ds))) (IsPermutation-refl (pass 0 ts cs ++ pass 0 us ds)) in
        IsPermutation-trans _ _ _ (IsPermutation-append (entries (slots_of ts cs)) (three (cell_at cs) ms) (entries (slots_of us ds)) (three (cell_at ds) ns) first second)
        (subst (IsPermutation (three (cell_at cs) ms ++ three (cell_at ds) ns)) (sym by_turns)
        (weave (pass 2 ts cs) (pass 1 ts cs ++ pass 0 ts cs) (pass 2 us ds) (pass 1 us ds ++ pass 0 us ds) _
        (weave (pass 1 ts cs) (pass 0 ts cs) (pass 1 us ds) (pass 0 us ds) _ last)))

    -- how many that is
    pub length-walk_all : Agree ts cs → Agree us ds → length (entries_left 5 0 ts us cs ds) ≡ live_count (slots_of ts cs) + live_count (slots_of us ds)
    length-walk_all agree older_agree =
        let n = length_permutation _ _ (walk_all agree older_agree) in let l = length-append (entries (slots_of ts cs)) (entries (slots_of us ds)) in
        let a = length-entries_live (slots_of ts cs) in let b = length-entries_live (slots_of us ds) in omega (arith, n, l, a, b)

    pub first_on_course : IsCourse ts us first_course
    first_on_course = record {
      mask = λ i. bit_at-zero i ∙ sym (ap (λ b. cond b (cond (from_place_on (is_fingerprint (of_turn 5 ts us)) 0 (0 - 16 + i)) 1 0) 0) (le-ltb (0 - 16 + i) 0 (omega arith)));
      whole = λ some. absurd (omega arith);
      from = omega arith;
      near = omega arith;
      within = omega arith;
      sixteen = refl;
      on_pass = λ p a b. absurd (omega arith);
      goes_on = λ inside. absurd (inside refl);
    }

    module _ (eq : T → T → Bool) (live removed older_live older_removed : ℕ) (first : IsColumns eq ts cs live removed) (second : IsColumns eq us ds older_live older_removed) where
      -- what a walk of two tables begins with
      pub few : live + older_live < 2 ^ 63
      few =
          let a = live_few (slots_of ts cs) in let b = count_bound (length (slots_of ts cs)) first.table.count in let is = first.table.live_is in
          let d = live_few (slots_of us ds) in let e = count_bound (length (slots_of us ds)) second.table.count in let older_is = second.table.live_is in
          omega (arith, a, b, is, d, e, older_is)

      pub begins : IsWalk ts us cs ds 5 0 (live + older_live)
      begins = record {
        agree = first.agree;
        older_agree = second.agree;
        sixteens = subst (λ n. n % 16 ≡ 0) (length-slots_of ts cs first.agree.same_length) (sixteens (length (slots_of ts cs)) first.table.count);
        older_sixteens = subst (λ n. n % 16 ≡ 0) (length-slots_of us ds second.agree.same_length) (sixteens (length (slots_of us ds)) second.table.count);
        count = let l = length-walk_all first.agree second.agree in let is = first.table.live_is in let older_is = second.table.live_is in omega (arith, l, is, older_is);
      }

      pub length_few : length (entries_left 5 0 ts us cs ds) < 2 ^ 63
      length_few = let l = begins.count in let f = few in omega (arith, l, f)
