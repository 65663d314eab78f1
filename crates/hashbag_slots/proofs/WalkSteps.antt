-- A walk's steps: what it gives, and what is left to it then.
use Rattle.std.proofs.Common.{◌≡◌, ◌≢◌, ◌⊎◌, ℕ, zero, suc, ◌+◌, ◌-◌, ◌/◌, ◌%◌, ◌<◌, ◌≤◌, Bool, true, false, cond, leb, nat_eq, List, [], ◌∷◌, ◌++◌, length, drop, map, get_or, Option, Some, None, refl, sym, ap, subst, ◌∙◌, inl, inr, arith, slice_set}
use Rattle.std.specs.List.{All, cons_option, filter, filter_map}
use Rattle.std.proofs.lemmas.Bool.{cases_lt, eqb-true}
use Rattle.std.proofs.lemmas.Bool.Decides.{eqb_tells}
use Rattle.std.proofs.lemmas.List.{drop-set-lt, get_or-set_other, length-set}
use Rattle.std.proofs.lemmas.List.Elements.{All-append, All-cons, All-filter, All-map, All-tail, filter_passes}
use Rattle.hashbag_slots.specs.declared.live.Course.{Course}
use Rattle.hashbag_slots.specs.Cells.{cell_at}
use Rattle.hashbag_slots.specs.Columns.{Agree, tag_at}
use Rattle.hashbag_slots.specs.Group.{from_place_on}
use Rattle.hashbag_slots.specs.Walks.{pass_of, of_turn, live_places, live_places_from, in_pass, turns, turn_places, places_left, entry_at_turn, entries_left, IsCourse, IsNextOn, IsWalk}
use Rattle.hashbag_slots.proofs.GroupLemmas.{from_place_on-behind, from_place_on-before, tells_same}
use Rattle.hashbag_slots.proofs.Walking.{is_fingerprint, filter_out, of_turn-odd, of_turn-even}
use Rattle.hashbag_slots.proofs.Writing.{Agree-empty}

-- no entries are left where their number is 0
pub none_left : {X : Type 0} (xs : List X) (left : ℕ) → left ≡ length xs → left ≡ 0 → xs ≡ []
none_left [] left is none = refl
none_left (x ∷ xs) left is none = absurd (omega arith)

module _ {T : Type 0} where
  agree_of : (b : Bool) (ts us : List ℕ) (cs ds : List (Option (T × ℕ))) → Agree ts cs → Agree us ds → Agree (cond b ts us) (cond b cs ds)
  agree_of true ts us cs ds a o = a
  agree_of false ts us cs ds a o = o

module _ {T : Type 0} (ts us : List ℕ) (cs ds : List (Option (T × ℕ))) (turn next left : ℕ) (walk : IsWalk ts us cs ds turn next left) where
  -- the tags and the cells of a turn's table
  pub agree_in : (t : ℕ) → Agree (of_turn t ts us) (of_turn t cs ds)
  agree_in t = agree_of (nat_eq (t % 2) 1) ts us cs ds walk.agree walk.older_agree

  pub walk_ends : places_left turn next ts us ≡ [] → entries_left turn next ts us cs ds ≡ []
  walk_ends none = ap (filter_map (entry_at_turn cs ds)) none

  module _ (p : ℕ) (c : Course) (on : IsNextOn ts us turn next p c) (e : T × ℕ) (cell : cell_at (of_turn c.turn cs ds) p ≡ Some e) where
    -- the entry at the next place is the first to come
    pub walk_gives : entries_left turn next ts us cs ds ≡ e ∷ entries_left c.turn c.next ts us cs ds
    walk_gives = ap (filter_map (entry_at_turn cs ds)) on.first ∙ ap (λ o. cons_option o (entries_left c.turn c.next ts us cs ds)) cell

    pub some_left : 1 ≤ left
    some_left = let l = ap length walk_gives in let i = walk.count in omega arith

    pub walk_goes_on : IsWalk ts us cs ds c.turn c.next (left - 1)
    walk_goes_on = record { agree = walk.agree; older_agree = walk.older_agree; sixteens = walk.sixteens; older_sixteens = walk.older_sixteens; count = let l = ap length walk_gives in let i = walk.count in omega arith }

-- ---- a Live slot that becomes Removed

fails : (a b : ℕ) → a ≢ b → nat_eq a b ≡ false
fails a b not = elim (eqb_tells a b) [ inl same ↦ absurd (not same.1) | inr other ↦ other.0 ]

head_same : (pass m : ℕ) (l : List ℕ) → pass_of m ≢ pass → (b : Bool) → in_pass pass l ≡ in_pass pass (cond b (m ∷ l) l)
head_same pass m l not true = sym (filter_out (λ q. nat_eq (pass_of q) pass) m l (fails (pass_of m) pass not))
head_same pass m l not false = refl

tail_same : (pass m : ℕ) (xs ys : List ℕ) → in_pass pass xs ≡ in_pass pass ys → (b : Bool) → in_pass pass (cond b (m ∷ xs) xs) ≡ in_pass pass (cond b (m ∷ ys) ys)
tail_same pass m xs ys h true = ap (λ l. cond (nat_eq (pass_of m) pass) (m ∷ l) l) h
tail_same pass m xs ys h false = h

-- a pass that is not the slot's
set_elsewhere : (ts : List ℕ) (m i pass : ℕ) → pass_of (m + i) ≢ pass → in_pass pass (live_places m (slice_set ts i 1)) ≡ in_pass pass (live_places m ts)
set_elsewhere [] m i pass not = refl
set_elsewhere (t ∷ ts) m zero pass not = let e : m ≡ m + 0 = omega arith in head_same pass m (live_places (suc m) ts) (λ is. not (sym (ap pass_of e) ∙ is)) (leb 128 t)
set_elsewhere (t ∷ ts) m (suc i) pass not =
    let e : suc m + i ≡ m + suc i = omega arith in
    tail_same pass m (live_places (suc m) (slice_set ts i 1)) (live_places (suc m) ts) (set_elsewhere ts (suc m) i pass (λ is. not (sym (ap pass_of e) ∙ is))) (leb 128 t)

weaken : {X : Type 0} (P Q : X → Type 0) → ((x : X) → P x → Q x) → (xs : List X) → All P xs → All Q xs
weaken P Q f xs h = λ k d lt. f (get_or xs k d) (h k d lt)

above_both : (l : List ℕ) (m : ℕ) → All (λ q. m ≤ q) l → (b : Bool) → All (λ q. m ≤ q) (cond b (m ∷ l) l)
above_both l m rest true = All-cons (λ q. m ≤ q) m l (omega arith) rest
above_both l m rest false = rest

fingerprints_above : (ts : List ℕ) (m : ℕ) → All (λ q. m ≤ q) (live_places m ts)
fingerprints_above [] m = λ k d lt. absurd (omega arith)
fingerprints_above (t ∷ ts) m = above_both (live_places (suc m) ts) m (weaken (λ q. suc m ≤ q) (λ q. m ≤ q) (λ q le. omega arith) (live_places (suc m) ts) (fingerprints_above ts (suc m))) (leb 128 t)

filter_map_same : {X Y : Type 0} (f g : X → Option Y) (xs : List X) → All (λ x. f x ≡ g x) xs → filter_map f xs ≡ filter_map g xs
filter_map_same f g [] h = refl
filter_map_same f g (x ∷ xs) h = λ i. cons_option (h 0 x (omega arith) i) (filter_map_same f g xs (All-tail (λ y. f y ≡ g y) x xs h) i)

-- what a turn's table became, where that of this turn was changed so
abbrev pub IsEdit : {X : Type 0} → ℕ → (X → X) → X → X → X → X → Type 0
IsEdit turn change x y x' y' = (s : ℕ) → (of_turn s x' y' ≡ of_turn s x y) ⊎ ((s % 2 ≡ turn % 2) × (of_turn s x' y' ≡ change (of_turn s x y)))

pub edit_odd : {X : Type 0} (turn : ℕ) (change : X → X) (x y : X) → turn % 2 ≡ 1 → IsEdit turn change x y (change x) y
edit_odd turn change x y odd s = elim (eqb_tells (s % 2) 1) [
  | inl same ↦ inr (same.1 ∙ sym odd, of_turn-odd s (change x) y same.1 ∙ ap change (sym (of_turn-odd s x y same.1)))
  | inr other ↦ inl (of_turn-even s (change x) y other.1 ∙ sym (of_turn-even s x y other.1))
]

pub edit_even : {X : Type 0} (turn : ℕ) (change : X → X) (x y : X) → turn % 2 ≢ 1 → IsEdit turn change x y x (change y)
edit_even turn change x y even s = elim (eqb_tells (s % 2) 1) [
  | inl same ↦ inl (of_turn-odd s x (change y) same.1 ∙ sym (of_turn-odd s x y same.1))
  | inr other ↦ inr (let not : s % 2 ≢ 1 = other.1 in omega arith, of_turn-even s x (change y) other.1 ∙ ap change (sym (of_turn-even s x y other.1)))
]

module _ (turn p : ℕ) (on_pass : pass_of p ≡ turn / 2) (ts us vs ws : List ℕ) (tags : IsEdit turn (λ l. slice_set l p 1) ts us vs ws) where
  turn_same : (s : ℕ) → s < turn → turn_places s 0 vs ws ≡ turn_places s 0 ts us
  turn_same s less = elim (tags s) [
    | inl e ↦ ap (λ l. map (λ q. (s, q)) (in_pass (s / 2) (live_places_from 0 l))) e
    | inr e ↦
        let even : s % 2 ≡ turn % 2 = e.0 in let z : 0 + p ≡ p = omega arith in
        ap (λ l. map (λ q. (s, q)) (in_pass (s / 2) (live_places_from 0 l))) e.1
        ∙ ap (map (λ q. (s, q))) (set_elsewhere (of_turn s ts us) 0 p (s / 2) (λ is. let same : turn / 2 ≡ s / 2 = sym on_pass ∙ sym (ap pass_of z) ∙ is in omega arith))
  ]

  turns_same : (s : ℕ) → s ≤ turn → turns s vs ws ≡ turns s ts us
  turns_same zero le = refl
  turns_same (suc s) le = λ i. turn_same s (omega arith) i ++ turns_same s (omega arith) i

  places_same : places_left turn (p + 1) vs ws ≡ places_left turn (p + 1) ts us
  places_same = λ i. here i ++ turns_same turn (omega arith) i where
    here : turn_places turn (p + 1) vs ws ≡ turn_places turn (p + 1) ts us
    here = elim (tags turn) [
      | inl e ↦ ap (λ l. map (λ q. (turn, q)) (in_pass (turn / 2) (live_places_from (p + 1) l))) e
      | inr e ↦
          ap (λ l. map (λ q. (turn, q)) (in_pass (turn / 2) (live_places_from (p + 1) l))) e.1
          ∙ ap (λ l. map (λ q. (turn, q)) (in_pass (turn / 2) (live_places (p + 1) l))) (drop-set-lt (p + 1) (of_turn turn ts us) p 1 (omega arith))
    ]

  -- the place does not come again
  abbrev IsOther : ℕ × ℕ → Type 0
  IsOther x = (x.0 % 2 ≢ turn % 2) ⊎ (x.1 ≢ p)

  turn_others : (s : ℕ) → s < turn → All IsOther (turn_places s 0 ts us)
  turn_others s less =
      let f : ℕ → Bool = λ q. nat_eq (pass_of q) (s / 2) in let ms = live_places_from 0 (of_turn s ts us) in
      All-map IsOther (λ q. (s, q)) (filter f ms) (weaken (λ q. f q ≡ true) (λ q. IsOther (s, q)) (λ q h. elim (eqb_tells (s % 2) (turn % 2)) [
        | inl same ↦ inr (λ e. let a : pass_of q ≡ s / 2 = eqb-true (pass_of q) (s / 2) h in let b : turn / 2 ≡ s / 2 = sym on_pass ∙ sym (ap pass_of e) ∙ a in let even : s % 2 ≡ turn % 2 = same.1 in omega arith)
        | inr other ↦ inl other.1
      ]) (filter f ms) (filter_passes f ms))

  turns_others : (s : ℕ) → s ≤ turn → All IsOther (turns s ts us)
  turns_others zero le = λ k d lt. absurd (omega arith)
  turns_others (suc s) le = All-append IsOther (turn_places s 0 ts us) (turns s ts us) (turn_others s (omega arith)) (turns_others s (omega arith))

  others : All IsOther (places_left turn (p + 1) ts us)
  others =
      let f : ℕ → Bool = λ q. nat_eq (pass_of q) (turn / 2) in let l = drop (p + 1) (of_turn turn ts us) in let ms = live_places (p + 1) l in
      All-append IsOther (turn_places turn (p + 1) ts us) (turns turn ts us)
      (All-map IsOther (λ q. (turn, q)) (filter f ms) (weaken (λ q. p + 1 ≤ q) (λ q. IsOther (turn, q)) (λ q le. inr (λ e. omega arith)) (filter f ms) (All-filter f (λ q. p + 1 ≤ q) ms (fingerprints_above l (p + 1)))))
      (turns_others turn (omega arith))

  tag_same : (q : ℕ) → p < q → tag_at (of_turn turn vs ws) q ≡ tag_at (of_turn turn ts us) q
  tag_same q less = elim (tags turn) [
    | inl e ↦ ap (λ l. tag_at l q) e
    | inr e ↦ ap (λ l. tag_at l q) e.1 ∙ get_or-set_other (of_turn turn ts us) p q 1 0 (λ is. omega arith)
  ]

  length_same : length (of_turn turn vs ws) ≡ length (of_turn turn ts us)
  length_same = elim (tags turn) [
    | inl e ↦ ap length e
    | inr e ↦ ap length e.1 ∙ length-set (of_turn turn ts us) p 1
  ]

  pub course_goes_on : (next ahead until : ℕ) → next ≡ p + 1 → (let c : Course = record { turn = turn; next = next; ahead = ahead; until = until } in IsCourse ts us c → IsCourse vs ws c)
  course_goes_on next ahead until behind on = record {
    mask = tells_same (from_place_on (is_fingerprint (of_turn turn ts us)) next) (from_place_on (is_fingerprint (of_turn turn vs ws)) next) (until - 16) until ahead (λ q le. elim (cases_lt q next) [
      | inl before ↦ from_place_on-before (is_fingerprint (of_turn turn ts us)) next q before ∙ sym (from_place_on-before (is_fingerprint (of_turn turn vs ws)) next q before)
      | inr beyond ↦ from_place_on-behind (is_fingerprint (of_turn turn ts us)) next q beyond ∙ ap (leb 128) (sym (tag_same q (omega arith))) ∙ sym (from_place_on-behind (is_fingerprint (of_turn turn vs ws)) next q beyond)
    ]) on.mask;
    whole = on.whole;
    from = on.from;
    near = on.near;
    within = let w = on.within in let l = length_same in omega (arith, w, l);
    sixteen = on.sixteen;
    on_pass = on.on_pass;
    goes_on = on.goes_on;
  }

  module _ {T : Type 0} (cs ds es fs : List (Option (T × ℕ))) (cells : IsEdit turn (λ l. slice_set l p None) cs ds es fs) where
    entry_same : (x : ℕ × ℕ) → IsOther x → entry_at_turn es fs x ≡ entry_at_turn cs ds x
    entry_same x other = elim (cells x.0) [
      | inl e ↦ ap (λ l. cell_at l x.1) e
      | inr e ↦ ap (λ l. cell_at l x.1) e.1 ∙ elim other [
        | inl not ↦ absurd (not e.0)
        | inr not ↦ get_or-set_other (of_turn x.0 cs ds) p x.1 None None not
      ]
    ]

    -- what is left stays
    pub left_same : (next : ℕ) → next ≡ p + 1 → entries_left turn next vs ws es fs ≡ entries_left turn next ts us cs ds
    left_same next behind =
        ap (λ n. entries_left turn n vs ws es fs) behind ∙ ap (filter_map (entry_at_turn es fs)) places_same
        ∙ filter_map_same (entry_at_turn es fs) (entry_at_turn cs ds) (places_left turn (p + 1) ts us) (weaken IsOther (λ x. entry_at_turn es fs x ≡ entry_at_turn cs ds x) entry_same (places_left turn (p + 1) ts us) others)
        ∙ sym (ap (λ n. entries_left turn n ts us cs ds) behind)

-- the next slot of a walk became Removed, and its entry was the first of those that were left
pub record IsTaken {T : Type 0} (ts us : List ℕ) (cs ds : List (Option (T × ℕ))) (c : Course) (left : ℕ) (e : T × ℕ) (before : List (T × ℕ)) : Type 0 where
  pub walk : IsWalk ts us cs ds c.turn c.next left
  pub course : IsCourse ts us c
  pub gives : before ≡ e ∷ entries_left c.turn c.next ts us cs ds

module _ {T : Type 0} (ts us : List ℕ) (cs ds : List (Option (T × ℕ))) (turn next left : ℕ) (walk : IsWalk ts us cs ds turn next left) (p : ℕ) (c : Course) (on : IsNextOn ts us turn next p c) where
  pub next_cell : (e : T × ℕ) × (cell_at (of_turn c.turn cs ds) p ≡ Some e)
  next_cell = (agree_in ts us cs ds turn next left walk c.turn).filled p on.live

  module _ (vs ws : List ℕ) (es fs : List (Option (T × ℕ))) (tags : IsEdit c.turn (λ l. slice_set l p 1) ts us vs ws) (cells : IsEdit c.turn (λ l. slice_set l p None) cs ds es fs) where
    taken : (e : T × ℕ) → cell_at (of_turn c.turn cs ds) p ≡ Some e → Agree vs es → Agree ws fs → length vs % 16 ≡ 0 → length ws % 16 ≡ 0 → IsTaken vs ws es fs c (left - 1) e (entries_left turn next ts us cs ds)
    taken e cell agree older_agree sixteens older_sixteens =
        let same = left_same c.turn p on.on_pass ts us vs ws tags cs ds es fs cells c.next on.after in
        let count = (walk_goes_on ts us cs ds turn next left walk p c on e cell).count ∙ sym (ap length same) in
        record {
          walk = record { agree = agree; older_agree = older_agree; sixteens = sixteens; older_sixteens = older_sixteens; count = count };
          course = course_goes_on c.turn p on.on_pass ts us vs ws tags c.next c.ahead c.until on.after on.course;
          gives = walk_gives ts us cs ds turn next left walk p c on e cell ∙ ap (λ l. e ∷ l) (sym same);
        }

  pub taken_newer : c.turn % 2 ≡ 1 → (e : T × ℕ) → cell_at cs p ≡ Some e → (es : List (Option (T × ℕ))) → es ≡ slice_set cs p None → IsTaken (slice_set ts p 1) us es ds c (left - 1) e (entries_left turn next ts us cs ds)
  taken_newer odd e cell es is =
      let within : p < length ts = subst (λ l. p < length l) (of_turn-odd c.turn ts us odd) on.within in
      subst (λ l. IsTaken (slice_set ts p 1) us l ds c (left - 1) e (entries_left turn next ts us cs ds)) (sym is)
      (taken (slice_set ts p 1) us (slice_set cs p None) ds (edit_odd c.turn (λ l. slice_set l p 1) ts us odd) (edit_odd c.turn (λ l. slice_set l p None) cs ds odd) e (ap (λ l. cell_at l p) (of_turn-odd c.turn cs ds odd) ∙ cell)
      (Agree-empty ts cs walk.agree p within 1 (omega arith)) walk.older_agree (ap (λ n. n % 16) (length-set ts p 1) ∙ walk.sixteens) walk.older_sixteens)

  pub taken_older : c.turn % 2 ≢ 1 → (e : T × ℕ) → cell_at ds p ≡ Some e → (fs : List (Option (T × ℕ))) → fs ≡ slice_set ds p None → IsTaken ts (slice_set us p 1) cs fs c (left - 1) e (entries_left turn next ts us cs ds)
  taken_older even e cell fs is =
      let within : p < length us = subst (λ l. p < length l) (of_turn-even c.turn ts us even) on.within in
      subst (λ l. IsTaken ts (slice_set us p 1) cs l c (left - 1) e (entries_left turn next ts us cs ds)) (sym is)
      (taken ts (slice_set us p 1) cs (slice_set ds p None) (edit_even c.turn (λ l. slice_set l p 1) ts us even) (edit_even c.turn (λ l. slice_set l p None) cs ds even) e (ap (λ l. cell_at l p) (of_turn-even c.turn cs ds even) ∙ cell)
      walk.agree (Agree-empty us ds walk.older_agree p within 1 (omega arith)) walk.sixteens (ap (λ n. n % 16) (length-set us p 1) ∙ walk.older_sixteens))
