-- A ledger after one more movement, and after all of a list.
use Rattle.std.proofs.Common.{◌≡◌, ◌≢◌, ◌⊎◌, ℕ, ◌+◌, ◌<◌, ◌≤◌, Bool, List, [], ◌∷◌, ◌++◌, length, inl, inr, refl, sym, ◌∙◌, ap, subst}
use Rattle.std.proofs.lemmas.List.{append_assoc, append-nil}
use Rattle.hashbag_core.specs.Bag.{Bag}
use Rattle.hashbag_ledger_lib.specs.declared.entering.LedgerError.{LedgerError}
use Rattle.hashbag_ledger_lib.specs.declared.entering.LedgerError.TheVariants.{Memory, TooMany}
use Rattle.hashbag_ledger_lib.specs.declared.movements.Movement.{Movement}
use Rattle.hashbag_ledger_lib.specs.declared.movements.Place.{Place}
use Rattle.hashbag_ledger_lib.specs.declared.movements.Refusal.{Refusal}
use Rattle.hashbag_ledger_lib.specs.Ledger.{coming, going, stock_of, ChangesStock, RefusesMovement}
use Rattle.hashbag_ledger_lib.specs.Settled.{IsAfter, IsLedgerOf, IsPastWithin}
use Rattle.hashbag_ledger_lib.proofs.AfterLemmas.{after_entered, after_refused, after_past, past_later}

-- which movement is too many
place_of : (e : LedgerError) (p q : Place) → e ≡ TooMany p → (e ≡ Memory) ⊎ (e ≡ TooMany q) → p ≡ q
place_of e p q is (inl memory) = cc
place_of e p q is (inr too_many) = cc

not_memory : (e : LedgerError) (p : Place) → e ≡ TooMany p → e ≢ Memory
not_memory e p is memory = cc

module _ {T S : Type 0} (eq : T → T → Bool) where
  module _ {L : List (T × ℕ)} {ms : List (Movement T)} {refused : List (Refusal T)} (m : Movement T) (before after : Bag T S) (h : IsLedgerOf eq L ms refused before) where
    -- the movement is entered
    pub ledger_entered : ChangesStock eq m (stock_of eq before.items) (stock_of eq after.items) → length after.items + going m.change ≡ length before.items + coming m.change → after.most ≡ before.most
        → length before.items + coming m.change ≤ before.most → IsLedgerOf eq L (ms ++ m ∷ []) refused after
    ledger_entered changes long same within = subst (λ (most : ℕ). IsAfter eq L (ms ++ m ∷ []) refused after.items most) (sym same) (after_entered eq m h within changes long)

    -- it is refused, and noted
    pub ledger_refused : (r : Refusal T) (noted : List (Refusal T)) → after ≡ before → noted ≡ refused ++ r ∷ [] → RefusesMovement eq m (stock_of eq before.items) r
        → length before.items + coming m.change ≤ before.most → IsLedgerOf eq L (ms ++ m ∷ []) noted after
    ledger_refused r noted same is refuses within = subst (λ (R : List (Refusal T)). IsLedgerOf eq L (ms ++ m ∷ []) R after) (sym is)
        (subst (λ (b : Bag T S). IsLedgerOf eq L (ms ++ m ∷ []) (refused ++ r ∷ []) b) (sym same) (after_refused eq m h within r refuses))

  -- it would pass the limit
  pub ledger_past : {L : List (T × ℕ)} {ms : List (Movement T)} {refused : List (Refusal T)} (m : Movement T) (stock : Bag T S) (e : LedgerError) (p : Place) → IsLedgerOf eq L ms refused stock → e ≡ TooMany p
      → (e ≡ Memory) ⊎ (e ≡ TooMany m.place) → (e ≡ TooMany m.place → stock.most < length stock.items + coming m.change) → IsPastWithin eq stock.most L (ms ++ m ∷ []) p
  ledger_past m stock e p h is why over = after_past eq m p h (place_of e p m.place is why) (over (elim why [ inl memory ↦ absurd (not_memory e p is memory) | inr place ↦ place ]))

  -- a ledger takes a movement, whatever came before
  abbrev pub Takes : Movement T → List (Refusal T) → Bag T S → List (Refusal T) → Bag T S → Type 0
  Takes m R stock R' stock' = (L : List (T × ℕ)) (ms : List (Movement T)) → IsLedgerOf eq L ms R stock → IsLedgerOf eq L (ms ++ m ∷ []) R' stock'

  -- of all movements it has taken these, and those are left
  pub record Took (all left : List (Movement T)) (R : List (Refusal T)) (stock : Bag T S) (R' : List (Refusal T)) (stock' : Bag T S) : Type 0 where
    pub done : List (Movement T)
    pub in_turn : done ++ left ≡ all
    pub entered : (L : List (T × ℕ)) (ms : List (Movement T)) → IsLedgerOf eq L ms R stock → IsLedgerOf eq L (ms ++ done) R' stock'

  pub none_more : (R : List (Refusal T)) (stock : Bag T S) (L : List (T × ℕ)) (ms : List (Movement T)) → IsLedgerOf eq L ms R stock → IsLedgerOf eq L (ms ++ []) R stock
  none_more R stock L ms h = subst (λ (l : List (Movement T)). IsLedgerOf eq L l R stock) (sym (append-nil ms)) h

  pub one_more : (done : List (Movement T)) (m : Movement T) (R R' R'' : List (Refusal T)) (stock stock' stock'' : Bag T S) → ((L : List (T × ℕ)) (ms : List (Movement T)) → IsLedgerOf eq L ms R stock → IsLedgerOf eq L (ms ++ done) R' stock')
      → Takes m R' stock' R'' stock'' → (L : List (T × ℕ)) (ms : List (Movement T)) → IsLedgerOf eq L ms R stock → IsLedgerOf eq L (ms ++ (done ++ m ∷ [])) R'' stock''
  one_more done m R R' R'' stock stock' stock'' entered takes L ms h = subst (λ (l : List (Movement T)). IsLedgerOf eq L l R'' stock'') (append_assoc ms done (m ∷ [])) (takes L (ms ++ done) (entered L ms h))

  pub took_none : (all : List (Movement T)) (R : List (Refusal T)) (stock : Bag T S) → Took all all R stock R stock
  took_none all R stock = record { done = []; in_turn = refl; entered = none_more R stock }

  module _ {all left rest : List (Movement T)} {R R' : List (Refusal T)} {stock stock' : Bag T S} (m : Movement T) (next : left ≡ m ∷ rest) (h : Took all left R stock R' stock') where
    pub took_one : (R'' : List (Refusal T)) (stock'' : Bag T S) → Takes m R' stock' R'' stock'' → Took all rest R stock R'' stock''
    took_one R'' stock'' takes = record {
      done = h.done ++ m ∷ [];
      in_turn = append_assoc h.done (m ∷ []) rest ∙ (λ i. h.done ++ sym next i) ∙ h.in_turn;
      entered = one_more h.done m R R' R'' stock stock' stock'' h.entered takes;
    }

    pub took_past : (most : ℕ) (p : Place) → stock'.most ≡ most → (L : List (T × ℕ)) (ms : List (Movement T)) → IsLedgerOf eq L ms R stock
        → ((L : List (T × ℕ)) (ms : List (Movement T)) → IsLedgerOf eq L ms R' stock' → IsPastWithin eq stock'.most L (ms ++ m ∷ []) p) → IsPastWithin eq most L (ms ++ all) p
    took_past most p same L ms was past =
        let after : ms ++ (h.done ++ m ∷ rest) ≡ ms ++ all = (λ i. ms ++ (h.done ++ sym next i)) ∙ ap (λ (l : List (Movement T)). ms ++ l) h.in_turn in
        subst (λ (n : ℕ). IsPastWithin eq n L (ms ++ all) p) same
        (subst (λ (l : List (Movement T)). IsPastWithin eq stock'.most L l p) (append_assoc ms h.done (m ∷ rest) ∙ after)
        (past_later eq L (ms ++ h.done) rest m p (past L (ms ++ h.done) (h.entered L ms was))))

  pub took_all : {all left : List (Movement T)} {R R' : List (Refusal T)} {stock stock' : Bag T S} → left ≡ [] → Took all left R stock R' stock' → (L : List (T × ℕ)) (ms : List (Movement T)) → IsLedgerOf eq L ms R stock → IsLedgerOf eq L (ms ++ all) R' stock'
  took_all {R' = R'} {stock' = stock'} none h L ms was =
      let done = sym (append-nil h.done) ∙ (λ i. h.done ++ sym none i) ∙ h.in_turn in
      subst (λ (l : List (Movement T)). IsLedgerOf eq L (ms ++ l) R' stock') done (h.entered L ms was)
