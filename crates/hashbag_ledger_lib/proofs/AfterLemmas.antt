-- Movements that come one by one.
use Rattle.std.proofs.Common.{◌≡◌, ◌⊎◌, ℕ, ◌+◌, ◌<◌, ◌≤◌, Bool, true, false, cond, List, [], ◌∷◌, ◌++◌, length, sum_by, inl, inr, refl, sym, ◌∙◌, ap, subst, arith}
use Rattle.std.proofs.lemmas.List.{append_assoc, append-nil, length-append}
use Rattle.std.proofs.Math.Seq.{take-nil}
use Rattle.hashbag_ledger_lib.specs.declared.movements.Movement.{Movement}
use Rattle.hashbag_ledger_lib.specs.declared.movements.Place.{Place}
use Rattle.hashbag_ledger_lib.specs.declared.movements.Refusal.{Refusal}
use Rattle.hashbag_csv.specs.Quantities.{number_sum, quantity}
use Rattle.hashbag_ledger_lib.specs.Ledger.{coming, going, total_after, stock_of, came, went, asks_too_much, entered_after, refused_after, refusal, entered_of, ChangesStock, RefusesMovement}
use Rattle.hashbag_ledger_lib.specs.Settled.{listed, IsPastWithin, IsAfter}
use Rattle.hashbag_ledger_lib.proofs.LedgerLemmas.{SoFar, entered_more, one_entered, one_refused, leaves}

-- a list with one more at its end, in two parts
split_last : {A : Type 0} (before later all : List A) (x last : A) → before ++ x ∷ later ≡ all ++ last ∷ [] → ((rest : List A) × (before ++ x ∷ rest ≡ all)) ⊎ ((before ≡ all) × (x ≡ last))
split_last [] later [] x last is = inr (refl, cc)
split_last [] later (y ∷ all) x last is = inl (all, cc)
split_last {A} (b ∷ before) later [] x last is =
    let long : length (b ∷ before ++ x ∷ later) ≡ 1 = ap (λ (l : List A). length l) is in
    let parts = length-append before (x ∷ later) in
    absurd (omega arith)
split_last {A} (b ∷ before) later (y ∷ all) x last is =
    let tails : before ++ x ∷ later ≡ all ++ last ∷ [] = cc in
    let heads : b ≡ y = cc in
    elim (split_last before later all x last tails) [
      | inl more ↦ inl (more.0, (λ i. heads i ∷ more.1 i))
      | inr same ↦ inr ((λ i. heads i ∷ same.0 i), same.1)
    ]

module _ {T : Type 0} (eq : T → T → Bool) where
  -- one more comes after these
  refused_more : (start : T → ℕ) (E gone : List (Movement T)) (m : Movement T) → refused_after eq start E (gone ++ m ∷ []) ≡ refused_after eq start E gone ++ refused_after eq start (entered_after eq start E gone) (m ∷ [])
  refused_more start E [] m = refl
  refused_more start E (x ∷ gone) m = by_case (asks_too_much eq start E x) (refused_more start E gone m) (refused_more start (E ++ x ∷ []) gone m)
    where
      by_case : (b : Bool) → refused_after eq start E (gone ++ m ∷ []) ≡ refused_after eq start E gone ++ refused_after eq start (entered_after eq start E gone) (m ∷ [])
          → refused_after eq start (E ++ x ∷ []) (gone ++ m ∷ []) ≡ refused_after eq start (E ++ x ∷ []) gone ++ refused_after eq start (entered_after eq start (E ++ x ∷ []) gone) (m ∷ [])
          → cond b (refusal eq start E x ∷ refused_after eq start E (gone ++ m ∷ [])) (refused_after eq start (E ++ x ∷ []) (gone ++ m ∷ []))
          ≡ cond b (refusal eq start E x ∷ refused_after eq start E gone) (refused_after eq start (E ++ x ∷ []) gone) ++ refused_after eq start (entered_after eq start (cond b E (E ++ x ∷ [])) gone) (m ∷ [])
      by_case true refuses enters = ap (λ (l : List (Refusal T)). refusal eq start E x ∷ l) refuses
      by_case false refuses enters = enters

  module _ {L : List (T × ℕ)} {ms : List (Movement T)} {refused : List (Refusal T)} {items : List T} {most : ℕ} (m : Movement T) (h : IsAfter eq L ms refused items most) where
    -- these have come, and one is to come
    comes : SoFar eq (listed eq L) (number_sum L) (ms ++ m ∷ []) (m ∷ []) refused (length items) (stock_of eq items)
    comes = record {
      gone = ms;
      in_turn = refl;
      entered = entered_of eq (listed eq L) ms;
      entered_is = refl;
      entered_in_all = sym (entered_more eq (listed eq L) [] ms m);
      refused_in_all = (λ i. h.refusals i ++ refused_after eq (listed eq L) (entered_of eq (listed eq L) ms) (m ∷ [])) ∙ sym (refused_more (listed eq L) [] ms m);
      counts = h.leaves.counts;
      never_below_zero = h.leaves.never_below_zero;
      total_is = h.total;
    }

    fits_too : length items + coming m.change ≤ most → (p : Place) → ¬ (IsPastWithin eq most L (ms ++ m ∷ []) p)
    fits_too within p past = elim (split_last past.before past.later ms past.movement m past.in_turn) [
      | inl more ↦ h.fit p (record {
        before = past.before;
        movement = past.movement;
        later = more.0;
        in_turn = more.1;
        at_place = past.at_place;
        over = past.over;
      })
      | inr same ↦
          let total = h.total in
          let over : most < total_after (number_sum L) (entered_of eq (listed eq L) ms) + coming m.change = subst (λ (x : Movement T). most < total_after (number_sum L) (entered_of eq (listed eq L) ms) + coming x.change) same.1
          (subst (λ (b : List (Movement T)). most < total_after (number_sum L) (entered_of eq (listed eq L) b) + coming past.movement.change) same.0 past.over) in
          omega arith
    ]

  -- what SoFar says of movements that have all come
  is_after : {L : List (T × ℕ)} {ms : List (Movement T)} {refused : List (Refusal T)} {items : List T} {most : ℕ} → SoFar eq (listed eq L) (number_sum L) ms [] refused (length items) (stock_of eq items)
      → ((p : Place) → ¬ (IsPastWithin eq most L ms p)) → IsAfter eq L ms refused items most
  is_after {L = L} {ms = ms} {refused = refused} {items = items} h fit = record {
    leaves = leaves eq (listed eq L) h;
    refusals = sym (append-nil refused) ∙ h.refused_in_all;
    total = subst (λ (E : List (Movement T)). length items + sum_by (λ (m : Movement T). going m.change) E ≡ number_sum L + sum_by (λ (m : Movement T). coming m.change) E) h.entered_in_all h.total_is;
    fit = fit;
  }

  module _ {L : List (T × ℕ)} {ms : List (Movement T)} {refused : List (Refusal T)} {before : List T} {most : ℕ} (m : Movement T) (h : IsAfter eq L ms refused before most) (within : length before + coming m.change ≤ most) where
    -- it is entered
    pub after_entered : {after : List T} → ChangesStock eq m (stock_of eq before) (stock_of eq after) → length after + going m.change ≡ length before + coming m.change → IsAfter eq L (ms ++ m ∷ []) refused after most
    after_entered changes long = is_after (one_entered eq (listed eq L) (comes m h) changes long) (fits_too m h within)

    -- it is refused
    pub after_refused : (r : Refusal T) → RefusesMovement eq m (stock_of eq before) r → IsAfter eq L (ms ++ m ∷ []) (refused ++ r ∷ []) before most
    after_refused r refuses = is_after (one_refused eq (listed eq L) r (comes m h) refuses) (fits_too m h within)

  -- it would pass the most
  pub after_past : {L : List (T × ℕ)} {ms : List (Movement T)} {refused : List (Refusal T)} {items : List T} {most : ℕ} (m : Movement T) (p : Place) → IsAfter eq L ms refused items most → p ≡ m.place → most < length items + coming m.change → IsPastWithin eq most L (ms ++ m ∷ []) p
  after_past {ms = ms} m p h at over =
      let total = h.total in
      record {
        before = ms;
        movement = m;
        later = [];
        in_turn = refl;
        at_place = at;
        over = omega arith;
      }

  -- none has come: the stock is that of the list
  pub after_none : (L : List (T × ℕ)) (items : List T) (most : ℕ) → ((v : T) → stock_of eq items v ≡ quantity eq v L) → length items ≡ number_sum L → IsAfter eq L [] [] items most
  after_none L items most same long = is_after (record {
    gone = [];
    in_turn = refl;
    entered = [];
    entered_is = refl;
    entered_in_all = refl;
    refused_in_all = refl;
    counts = λ v. let now = same v in omega arith;
    never_below_zero = λ k v. subst (λ (l : List (Movement T)). went eq v l ≤ listed eq L v + came eq v l) (sym (take-nil k)) (omega arith);
    total_is = omega arith;
  })
      (λ p past.
      let none : length (past.before ++ past.movement ∷ past.later) ≡ 0 = ap (λ (l : List (Movement T)). length l) past.in_turn in
      let parts = length-append past.before (past.movement ∷ past.later) in
      absurd (omega arith))

  -- what is past the most is so whatever comes later
  pub past_later : (L : List (T × ℕ)) {most : ℕ} (ms rest : List (Movement T)) (m : Movement T) (p : Place) → IsPastWithin eq most L (ms ++ m ∷ []) p → IsPastWithin eq most L (ms ++ m ∷ rest) p
  past_later L ms rest m p past = record {
    before = past.before;
    movement = past.movement;
    later = past.later ++ rest;
    in_turn = sym (append_assoc past.before (past.movement ∷ past.later) rest) ∙ (λ i. past.in_turn i ++ rest) ∙ append_assoc ms (m ∷ []) rest;
    at_place = past.at_place;
    over = past.over;
  }
