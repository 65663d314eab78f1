-- A stock that is counted: the differences turn what is there into what was counted, and none of them is refused.
use Rattle.std.proofs.Common.{◌≡◌, ℕ, ◌+◌, ◌-◌, ◌<◌, ◌≤◌, nat_lt, Bool, true, false, cond, List, [], ◌∷◌, ◌++◌, sum_by, refl, sym, ◌∙◌, ap, subst, arith}
use Rattle.std.specs.Cmp.{IsEquivalence}
use Rattle.std.proofs.lemmas.Bool.{ltb-true, ltb-false, lt-ltb}
use Rattle.std.proofs.lemmas.List.{append_assoc, append-nil}
use Rattle.std.proofs.lemmas.List.Sums.{sum_by-cons, sum_by_push}
use Rattle.hashbag_ledger_lib.specs.declared.movements.Change.{Change}
use Rattle.hashbag_ledger_lib.specs.declared.movements.Change.TheVariants.{In, Out}
use Rattle.hashbag_ledger_lib.specs.declared.movements.Movement.{Movement}
use Rattle.hashbag_ledger_lib.specs.Counts.{change_to, times_named, is_named, difference, differences_after}
use Rattle.hashbag_ledger_lib.specs.Ledger.{coming, going, came, went, there, asks_too_much, entered_after, refused_after, refusal, entered_of, refused_of, in_the_end}
use Rattle.hashbag_ledger_lib.proofs.LedgerLemmas.{not_below}

-- a difference turns the number that is there into the counted one, and takes out no more than is there
module _ (s c : ℕ) where
  abbrev Turns : Change → Type 0
  Turns x = (going x ≤ s) × (s + coming x ≡ c + going x)

  turns : Turns (change_to s c)
  turns = by_case (nat_lt c s) refl
    where
      by_case : (b : Bool) → nat_lt c s ≡ b → Turns (cond b (Out (s - c)) (In (c - s)))
      by_case true is = let less : c < s = ltb-true c s is in (omega arith, omega arith)
      by_case false is = let enough : s ≤ c = ltb-false c s is in (omega arith, omega arith)

module _ {T : Type 0} (eq : T → T → Bool) (laws : IsEquivalence eq) where
  -- what is summed of an article is the same for each instance of it
  pub sum_alike : {X : Type 0} (article : X → T) (n : X → ℕ) (v w : T) → eq v w ≡ true → (xs : List X) → sum_by (λ (x : X). cond (eq v (article x)) (n x) 0) xs ≡ sum_by (λ (x : X). cond (eq w (article x)) (n x) 0) xs
  sum_alike article n v w same [] = refl
  sum_alike {X} article n v w same (x ∷ xs) =
      let first : cond (eq v (article x)) (n x) 0 ≡ cond (eq w (article x)) (n x) 0 = ap (λ (b : Bool). cond b (n x) 0) (laws.congr v w (article x) same) in
      let rest = sum_alike article n v w same xs in
      let one = sum_by-cons (λ (x : X). cond (eq v (article x)) (n x) 0) x xs in
      let two = sum_by-cons (λ (x : X). cond (eq w (article x)) (n x) 0) x xs in
      omega arith

  -- one record more names v
  times_more : (v : T) (named : List (Movement T)) (m : Movement T) → times_named eq v (named ++ m ∷ []) ≡ times_named eq v named + cond (eq v m.article) 1 0
  times_more v named m = sum_by_push (λ (m : Movement T). cond (eq v m.article) 1 0) named m

  named_alike : (v w : T) → eq v w ≡ true → (named : List (Movement T)) → is_named eq v named ≡ is_named eq w named
  named_alike v w same named = ap (nat_lt 0) (sum_alike (λ (m : Movement T). m.article) (λ m. 1) v w same named)

  pub there_alike : (start : T → ℕ) (v w : T) → eq v w ≡ true → start v ≡ start w → (E : List (Movement T)) → there eq start E v ≡ there eq start E w
  there_alike start v w same starts E =
      let came_too : came eq v E ≡ came eq w E = sum_alike (λ (m : Movement T). m.article) (λ (m : Movement T). coming m.change) v w same E in
      let went_too : went eq v E ≡ went eq w E = sum_alike (λ (m : Movement T). m.article) (λ (m : Movement T). going m.change) v w same E in
      omega arith

  -- the record that was named before names nothing new
  named_again : (v : T) (named : List (Movement T)) (m : Movement T) → is_named eq m.article named ≡ true → is_named eq v (named ++ m ∷ []) ≡ is_named eq v named
  named_again v named m before = by_case (eq v m.article) refl
    where
      by_case : (b : Bool) → eq v m.article ≡ b → is_named eq v (named ++ m ∷ []) ≡ is_named eq v named
      by_case false other =
          let more = times_more v named m ∙ ap (λ (b : Bool). times_named eq v named + cond b 1 0) other in
          let same : times_named eq v (named ++ m ∷ []) ≡ times_named eq v named = omega arith in
          ap (nat_lt 0) same
      by_case true own =
          let was : is_named eq v named ≡ true = named_alike v m.article own named ∙ before in
          let some : 0 < times_named eq v named = ltb-true 0 (times_named eq v named) was in
          let more = times_more v named m in
          lt-ltb 0 (times_named eq v (named ++ m ∷ [])) (omega arith) ∙ sym was

  named_now : (v : T) (named : List (Movement T)) (m : Movement T) → eq v m.article ≡ true → is_named eq v (named ++ m ∷ []) ≡ true
  named_now v named m own =
      let more = times_more v named m ∙ ap (λ (b : Bool). times_named eq v named + cond b 1 0) own in
      lt-ltb 0 (times_named eq v (named ++ m ∷ [])) (omega arith)

  named_as_before : (v : T) (named : List (Movement T)) (m : Movement T) → eq v m.article ≡ false → is_named eq v (named ++ m ∷ []) ≡ is_named eq v named
  named_as_before v named m other =
      let more = times_more v named m ∙ ap (λ (b : Bool). times_named eq v named + cond b 1 0) other in
      let same : times_named eq v (named ++ m ∷ []) ≡ times_named eq v named = omega arith in
      ap (nat_lt 0) same

  module _ (start counted : T → ℕ) (starts : (v w : T) → eq v w ≡ true → start v ≡ start w) (counts : (v w : T) → eq v w ≡ true → counted v ≡ counted w) where
    -- the number of v once the articles that these records name are as they were counted
    abbrev pub number_by : List (Movement T) → T → ℕ
    number_by named v = cond (is_named eq v named) (counted v) (start v)

    -- these movements have made it so
    abbrev IsSet : List (Movement T) → List (Movement T) → Type 0
    IsSet named E = (v : T) → start v + came eq v E ≡ number_by named v + went eq v E

    there_is : (named E : List (Movement T)) → IsSet named E → (v : T) → there eq start E v ≡ number_by named v
    there_is named E set v = let is = set v in omega arith

    module _ (named E : List (Movement T)) (m : Movement T) (set : IsSet named E) where
      abbrev found : Movement T
      found = record { place = m.place; article = m.article; change = change_to (start m.article) (counted m.article) }

      set_again : is_named eq m.article named ≡ true → IsSet (named ++ m ∷ []) E
      set_again before v =
          let same : number_by (named ++ m ∷ []) v ≡ number_by named v = ap (λ (b : Bool). cond b (counted v) (start v)) (named_again v named m before) in
          let is = set v in
          omega arith

      module _ (new : is_named eq m.article named ≡ false) where
        fits : asks_too_much eq start E found ≡ false
        fits =
            let is : there eq start E m.article ≡ start m.article = there_is named E set m.article ∙ ap (λ (b : Bool). cond b (counted m.article) (start m.article)) new in
            let enough = (turns (start m.article) (counted m.article)).0 in
            not_below (there eq start E m.article) (going found.change) (omega arith)

        set_now : IsSet (named ++ m ∷ []) (E ++ found ∷ [])
        set_now v = by_case (eq v m.article) refl
          where
            came_more : came eq v (E ++ found ∷ []) ≡ came eq v E + cond (eq v m.article) (coming found.change) 0
            came_more = sum_by_push (λ (x : Movement T). cond (eq v x.article) (coming x.change) 0) E found

            went_more : went eq v (E ++ found ∷ []) ≡ went eq v E + cond (eq v m.article) (going found.change) 0
            went_more = sum_by_push (λ (x : Movement T). cond (eq v x.article) (going x.change) 0) E found

            by_case : (b : Bool) → eq v m.article ≡ b → start v + came eq v (E ++ found ∷ []) ≡ number_by (named ++ m ∷ []) v + went eq v (E ++ found ∷ [])
            by_case true own =
                let in_more = came_more ∙ ap (λ (b : Bool). came eq v E + cond b (coming found.change) 0) own in
                let out_more = went_more ∙ ap (λ (b : Bool). went eq v E + cond b (going found.change) 0) own in
                let was : number_by named v ≡ start v = ap (λ (b : Bool). cond b (counted v) (start v)) (named_alike v m.article own named ∙ new) in
                let now : number_by (named ++ m ∷ []) v ≡ counted v = ap (λ (b : Bool). cond b (counted v) (start v)) (named_now v named m own) in
                let turned = (turns (start m.article) (counted m.article)).1 in
                let start_is = starts v m.article own in
                let counted_is = counts v m.article own in
                let is = set v in
                omega arith
            by_case false other =
                let in_more = came_more ∙ ap (λ (b : Bool). came eq v E + cond b (coming found.change) 0) other in
                let out_more = went_more ∙ ap (λ (b : Bool). went eq v E + cond b (going found.change) 0) other in
                let same : number_by (named ++ m ∷ []) v ≡ number_by named v = ap (λ (b : Bool). cond b (counted v) (start v)) (named_as_before v named m other) in
                let is = set v in
                omega arith

    -- all differences are entered, and then each article that is named is as it was counted
    abbrev AllSet : List (Movement T) → List (Movement T) → List (Movement T) → Type 0
    AllSet named E found = (refused_after eq start E found ≡ []) × IsSet named (entered_after eq start E found)

    one_set : (m : Movement T) (ms named E : List (Movement T)) → IsSet named E
        → ((F : List (Movement T)) → IsSet (named ++ m ∷ []) F → AllSet ((named ++ m ∷ []) ++ ms) F (differences_after eq start counted (named ++ m ∷ []) ms))
        → AllSet (named ++ m ∷ ms) E (differences_after eq start counted named (m ∷ ms))
    one_set m ms named E set then = by_case (is_named eq m.article named) refl
      where
        rest : List (Movement T)
        rest = differences_after eq start counted (named ++ m ∷ []) ms

        one : Movement T
        one = record { place = m.place; article = m.article; change = change_to (start m.article) (counted m.article) }

        by_case : (b : Bool) → is_named eq m.article named ≡ b → AllSet (named ++ m ∷ ms) E (cond b [] (one ∷ []) ++ rest)
        by_case true before =
            subst (λ (l : List (Movement T)). AllSet l E rest) (append_assoc named (m ∷ []) ms) (then E (set_again named E m set before))
        by_case false new =
            let later = then (E ++ one ∷ []) (set_now named E m set new) in
            let here = fits named E m set new in
            subst (λ (l : List (Movement T)). AllSet l E (one ∷ rest)) (append_assoc named (m ∷ []) ms)
            (subst (λ (b : Bool). (cond b (refusal eq start E one ∷ refused_after eq start E rest) (refused_after eq start (E ++ one ∷ []) rest) ≡ [])
            × IsSet ((named ++ m ∷ []) ++ ms) (entered_after eq start (cond b E (E ++ one ∷ [])) rest)) (sym here) later)

    all_set : (ms named E : List (Movement T)) → IsSet named E → AllSet (named ++ ms) E (differences_after eq start counted named ms)
    all_set [] named E set = (refl, subst (λ (l : List (Movement T)). IsSet l E) (sym (append-nil named)) set)
    all_set (m ∷ ms) named E set = one_set m ms named E set (λ F is. all_set ms (named ++ m ∷ []) F is)

    none_set : IsSet [] []
    none_set v = omega arith

    pub none_refused : (records : List (Movement T)) → refused_of eq start (differences_after eq start counted [] records) ≡ []
    none_refused records = (all_set records [] [] none_set).0

    pub numbers_set : (records : List (Movement T)) (v : T) → in_the_end eq start (differences_after eq start counted [] records) v ≡ number_by records v
    numbers_set records v = there_is records (entered_of eq start (differences_after eq start counted [] records)) ((all_set records [] [] none_set).1) v

-- an instance of an article that is equal to another one
pub named_by_copy : {T : Type 0} (eq : T → T → Bool) → IsEquivalence eq → (x a : T) → eq x a ≡ true → (v : T) → eq v a ≡ eq v x
named_by_copy eq laws x a same v = laws.symm v a ∙ sym (laws.congr x a v same) ∙ laws.symm x v

-- of all records those that are done were compared, and those that are left are to be
module _ {T : Type 0} (eq : T → T → Bool) (start counted : T → ℕ) where
  pub record ComparedSoFar (all left found : List (Movement T)) (named : T → ℕ) : Type 0 where
    pub done : List (Movement T)
    pub in_turn : done ++ left ≡ all
    pub whole : found ++ differences_after eq start counted done left ≡ differences_after eq start counted [] all
    pub noted : (v : T) → named v ≡ times_named eq v done

  pub compared_none : (all found : List (Movement T)) (named : T → ℕ) → found ≡ [] → ((v : T) → named v ≡ 0) → ComparedSoFar all all found named
  compared_none all found named none no_name = record {
    done = [];
    in_turn = refl;
    whole = ap (λ (l : List (Movement T)). l ++ differences_after eq start counted [] all) none;
    noted = λ v. let is = no_name v in omega arith;
  }

  module _ {all left rest found : List (Movement T)} {named : T → ℕ} (m : Movement T) (next : left ≡ m ∷ rest) (h : ComparedSoFar all left found named) where
    abbrev one : Movement T
    one = record { place = m.place; article = m.article; change = change_to (start m.article) (counted m.article) }

    pub compared_one : (then : List (Movement T)) (now : T → ℕ) → then ≡ found ++ cond (nat_lt 0 (named m.article)) [] (one ∷ []) → ((v : T) → now v ≡ named v + cond (eq v m.article) 1 0) → ComparedSoFar all rest then now
    compared_one then now pushed more = record {
      done = h.done ++ m ∷ [];
      in_turn = append_assoc h.done (m ∷ []) rest ∙ (λ i. h.done ++ sym next i) ∙ h.in_turn;
      whole =
          let is : then ≡ found ++ difference eq start counted h.done m = pushed ∙ ap (λ (n : ℕ). found ++ cond (nat_lt 0 n) [] (one ∷ [])) (h.noted m.article) in
          let later = differences_after eq start counted (h.done ++ m ∷ []) rest in
          ap (λ (l : List (Movement T)). l ++ later) is
          ∙ append_assoc found (difference eq start counted h.done m) later
          ∙ (λ i. found ++ differences_after eq start counted h.done (sym next i))
          ∙ h.whole;
      noted = λ v. more v ∙ ap (λ (n : ℕ). n + cond (eq v m.article) 1 0) (h.noted v) ∙ sym (sum_by_push (λ (m : Movement T). cond (eq v m.article) 1 0) h.done m);
    }

  pub compared_all : {all left found : List (Movement T)} {named : T → ℕ} → left ≡ [] → ComparedSoFar all left found named → found ≡ differences_after eq start counted [] all
  compared_all {found = found} none h = sym (append-nil found) ∙ (λ i. found ++ differences_after eq start counted h.done (sym none i)) ∙ h.whole
