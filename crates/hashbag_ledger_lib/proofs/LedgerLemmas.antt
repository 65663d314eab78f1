-- Movements that are entered in turn: what they leave, and that nothing is lost.
use Rattle.std.proofs.Common.{◌≡◌, ℕ, ◌+◌, ◌≤◌, nat_lt, Bool, true, false, cond, List, [], ◌∷◌, ◌++◌, length, sum_by, refl, sym, ◌∙◌, ap, subst, inl, inr, arith}
use Rattle.std.proofs.lemmas.Bool.{cases_lt, ltb-true, lt-ltb}
use Rattle.std.proofs.lemmas.List.{append_assoc, length-append, take_all, take-append-le}
use Rattle.std.proofs.lemmas.List.Sums.{sum_by_push}
use Rattle.std.proofs.Math.Seq.{take-length}
use Rattle.hashbag_ledger_lib.specs.declared.movements.Movement.{Movement}
use Rattle.hashbag_ledger_lib.specs.declared.movements.Refusal.{Refusal}
use Rattle.hashbag_ledger_lib.specs.Ledger.{coming, going, came, went, there, asks_too_much, entered_after, refused_after, refusal, entered_of, refused_of, ChangesStock, RefusesMovement, IsNeverBelowZero, Leaves}

pub not_below : (m n : ℕ) → n ≤ m → nat_lt m n ≡ false
not_below m n enough = by_case (nat_lt m n) refl
  where
    by_case : (b : Bool) → nat_lt m n ≡ b → nat_lt m n ≡ false
    by_case true is = let less = ltb-true m n is in absurd (omega arith)
    by_case false is = is

module _ {T : Type 0} (eq : T → T → Bool) (start : T → ℕ) where
  -- one more movement is entered after these
  came_more : (v : T) (E : List (Movement T)) (m : Movement T) → came eq v (E ++ m ∷ []) ≡ came eq v E + cond (eq v m.article) (coming m.change) 0
  came_more v E m = sum_by_push (λ (m : Movement T). cond (eq v m.article) (coming m.change) 0) E m

  went_more : (v : T) (E : List (Movement T)) (m : Movement T) → went eq v (E ++ m ∷ []) ≡ went eq v E + cond (eq v m.article) (going m.change) 0
  went_more v E m = sum_by_push (λ (m : Movement T). cond (eq v m.article) (going m.change) 0) E m

  -- and one more comes after these have come
  pub entered_more : (E gone : List (Movement T)) (m : Movement T) → entered_after eq start E (gone ++ m ∷ []) ≡ entered_after eq start (entered_after eq start E gone) (m ∷ [])
  entered_more E [] m = refl
  entered_more E (x ∷ gone) m = entered_more (cond (asks_too_much eq start E x) E (E ++ x ∷ [])) gone m

  -- what went is at most what was there and what came, where no stock was ever below zero
  at_end : (E : List (Movement T)) → IsNeverBelowZero eq start E → (v : T) → went eq v E ≤ start v + came eq v E
  at_end E never v =
      let now = never (length E) v in
      let all = take-length E in
      subst (λ (l : List (Movement T)). went eq v l ≤ start v + came eq v l) all now

  module _ (E : List (Movement T)) (m : Movement T) (never : IsNeverBelowZero eq start E) (before after : T → ℕ) (is : (v : T) → before v ≡ there eq start E v) (changes : ChangesStock eq m before after) where
    there_more : (v : T) → after v ≡ there eq start (E ++ m ∷ []) v
    there_more v =
        let one = changes.counts v in
        let was = is v in
        let within = at_end E never v in
        let more_came = came_more v E m in
        let more_went = went_more v E m in
        omega arith

    never_more : IsNeverBelowZero eq start (E ++ m ∷ [])
    never_more k v = elim (cases_lt k (length E + 1)) [
      | inl few ↦ subst (λ (l : List (Movement T)). went eq v l ≤ start v + came eq v l) (sym (take-append-le k E (m ∷ []) (omega arith))) (never k v)
      | inr many ↦
          let one = changes.counts v in
          let was = is v in
          let within = at_end E never v in
          let more_came = came_more v E m in
          let more_went = went_more v E m in
          subst (λ (l : List (Movement T)). went eq v l ≤ start v + came eq v l) (sym (take_all k (E ++ m ∷ []) (omega (arith, many, length-append E (m ∷ []))))) (omega arith)
    ]

  -- of all movements these have come and those are to come; what the first left of the stock, and which of them were refused
  pub record SoFar (total : ℕ) (all to_come : List (Movement T)) (refusals : List (Refusal T)) (total_now : ℕ) (stock : T → ℕ) : Type 0 where
    pub gone : List (Movement T)
    pub in_turn : gone ++ to_come ≡ all
    pub entered : List (Movement T)
    pub entered_is : entered_of eq start gone ≡ entered
    pub entered_in_all : entered_after eq start entered to_come ≡ entered_of eq start all
    pub refused_in_all : refusals ++ refused_after eq start entered to_come ≡ refused_of eq start all
    pub counts : (v : T) → stock v ≡ there eq start entered v
    pub never_below_zero : IsNeverBelowZero eq start entered
    pub total_is : total_now + sum_by (λ (m : Movement T). going m.change) entered ≡ total + sum_by (λ (m : Movement T). coming m.change) entered

  pub one_entered : {total now then : ℕ} {all to_come : List (Movement T)} {m : Movement T} {refusals : List (Refusal T)} {before after : T → ℕ} → SoFar total all (m ∷ to_come) refusals now before
      → ChangesStock eq m before after → then + going m.change ≡ now + coming m.change → SoFar total all to_come refusals then after
  one_entered {to_come = to_come} {m = m} {refusals = refusals} {before = before} {after = after} h changes more =
      let E = h.entered in
      let enough = changes.enough in
      let is = h.counts m.article in
      let fits : asks_too_much eq start E m ≡ false = not_below (there eq start E m.article) (going m.change) (omega arith) in
      let came = sum_by_push (λ (m : Movement T). coming m.change) E m in
      let went = sum_by_push (λ (m : Movement T). going m.change) E m in
      let was = h.total_is in
      record {
        gone = h.gone ++ m ∷ [];
        in_turn = append_assoc h.gone (m ∷ []) to_come ∙ h.in_turn;
        entered = E ++ m ∷ [];
        entered_is = entered_more [] h.gone m ∙ ap (λ (l : List (Movement T)). entered_after eq start l (m ∷ [])) h.entered_is ∙ ap (λ (b : Bool). cond b E (E ++ m ∷ [])) fits;
        entered_in_all = ap (λ (b : Bool). entered_after eq start (cond b E (E ++ m ∷ [])) to_come) (sym fits) ∙ h.entered_in_all;
        refused_in_all = ap (λ (b : Bool). refusals ++ cond b (refusal eq start E m ∷ refused_after eq start E to_come) (refused_after eq start (E ++ m ∷ []) to_come)) (sym fits) ∙ h.refused_in_all;
        counts = there_more E m h.never_below_zero before after h.counts changes;
        never_below_zero = never_more E m h.never_below_zero before after h.counts changes;
        total_is = omega arith;
      }

  pub one_refused : {total now : ℕ} {all to_come : List (Movement T)} {m : Movement T} {refusals : List (Refusal T)} {stock : T → ℕ} (r : Refusal T) → SoFar total all (m ∷ to_come) refusals now stock
      → RefusesMovement eq m stock r → SoFar total all to_come (refusals ++ r ∷ []) now stock
  one_refused {to_come = to_come} {m = m} {refusals = refusals} {stock = stock} r h asked =
      let E = h.entered in
      let is = h.counts m.article in
      let more = asked.too_much in
      let too_much : asks_too_much eq start E m ≡ true = lt-ltb (there eq start E m.article) (going m.change) (omega arith) in
      let refused : r ≡ refusal eq start E m = asked.is ∙ ap (λ (n : ℕ). record { place = m.place; article = m.article; asked = going m.change; there = n }) is in
      record {
        gone = h.gone ++ m ∷ [];
        in_turn = append_assoc h.gone (m ∷ []) to_come ∙ h.in_turn;
        entered = E;
        entered_is = entered_more [] h.gone m ∙ ap (λ (l : List (Movement T)). entered_after eq start l (m ∷ [])) h.entered_is ∙ ap (λ (b : Bool). cond b E (E ++ m ∷ [])) too_much;
        entered_in_all = ap (λ (b : Bool). entered_after eq start (cond b E (E ++ m ∷ [])) to_come) (sym too_much) ∙ h.entered_in_all;
        refused_in_all = append_assoc refusals (r ∷ []) (refused_after eq start E to_come) ∙ (λ i. refusals ++ refused i ∷ refused_after eq start E to_come)
            ∙ ap (λ (b : Bool). refusals ++ cond b (refusal eq start E m ∷ refused_after eq start E to_come) (refused_after eq start (E ++ m ∷ []) to_come)) (sym too_much) ∙ h.refused_in_all;
        counts = h.counts;
        never_below_zero = h.never_below_zero;
        total_is = h.total_is;
      }

  -- once all have come
  module _ {total now : ℕ} {all : List (Movement T)} {refusals : List (Refusal T)} {stock : T → ℕ} (h : SoFar total all [] refusals now stock) where
    pub leaves : Leaves eq start all stock
    leaves =
        let never : IsNeverBelowZero eq start (entered_of eq start all) = subst (λ (E : List (Movement T)). IsNeverBelowZero eq start E) h.entered_in_all h.never_below_zero in
        let counts : (v : T) → stock v ≡ there eq start (entered_of eq start all) v = λ v. h.counts v ∙ ap (λ (E : List (Movement T)). there eq start E v) h.entered_in_all in
        record {
          counts = counts;
          conserved = λ v.
              let now = counts v in
              let within = at_end (entered_of eq start all) never v in
              omega arith;
          never_below_zero = never;
        }
