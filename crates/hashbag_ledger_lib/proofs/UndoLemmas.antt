-- Opposite movements: what they bring in and take out, and when none of them is refused.
use Rattle.std.proofs.Common.{◌≡◌, ◌≢◌, ℕ, ◌+◌, ◌-◌, ◌<◌, nat_lt, Bool, true, false, cond, List, [], ◌∷◌, ◌++◌, Ordering, refl, sym, ◌∙◌, ap, subst, arith}
use Rattle.std.specs.Cmp.{IsEquivalence}
use Rattle.std.proofs.lemmas.Bool.{ltb-true}
use Rattle.std.proofs.lemmas.List.{append_assoc, append-nil}
use Rattle.std.proofs.lemmas.List.Sums.{sum_by-append, sum_by-cons, sum_by_push}
use Rattle.hashbag_csv.specs.Quantities.{IsBalance}
use Rattle.hashbag_ledger_lib.specs.declared.movements.Change.{Change}
use Rattle.hashbag_ledger_lib.specs.declared.movements.Change.TheVariants.{In, Out}
use Rattle.hashbag_ledger_lib.specs.declared.movements.Movement.{Movement}
use Rattle.hashbag_ledger_lib.specs.Ledger.{coming, going, came, went, there, asks_too_much, entered_after, refused_after, refusal, entered_of, refused_of, in_the_end, Leaves}
use Rattle.hashbag_ledger_lib.specs.Settled.{listed}
use Rattle.hashbag_ledger_lib.specs.Undos.{coming_back, going_back, returns_of, removals_of, opposites_of, FallsBelowZero, TakesBack}

-- one more movement
module _ {T : Type 0} where
  pub returns_more : (ms : List (Movement T)) (m : Movement T) → returns_of (ms ++ m ∷ []) ≡ returns_of ms ++ coming_back m m.change []
  returns_more [] m = refl
  returns_more (x ∷ ms) m =
      ap (coming_back x x.change) (returns_more ms m)
      ∙ (elim x.change as (λ c. coming_back x c (returns_of ms ++ coming_back m m.change []) ≡ coming_back x c (returns_of ms) ++ coming_back m m.change []) [ In n ↦ refl | Out n ↦ refl ])

  pub removals_more : (ms : List (Movement T)) (m : Movement T) → removals_of (ms ++ m ∷ []) ≡ removals_of ms ++ going_back m m.change []
  removals_more [] m = refl
  removals_more (x ∷ ms) m =
      ap (going_back x x.change) (removals_more ms m)
      ∙ (elim x.change as (λ c. going_back x c (removals_of ms ++ going_back m m.change []) ≡ going_back x c (removals_of ms) ++ going_back m m.change []) [ In n ↦ refl | Out n ↦ refl ])

-- of all movements those that are gone have been turned: what comes in, and what goes out again
module _ {T : Type 0} where
  pub record IsTurnedSoFar (all to_come coming_in going_out : List (Movement T)) : Type 0 where
    pub gone : List (Movement T)
    pub in_turn : gone ++ to_come ≡ all
    pub back : coming_in ≡ returns_of gone
    pub again : going_out ≡ removals_of gone

  pub one_turned : {all l rest coming_in going_out : List (Movement T)} {m : Movement T} (then_in then_out : List (Movement T)) → l ≡ m ∷ rest → IsTurnedSoFar all l coming_in going_out → then_in ≡ coming_in ++ coming_back m m.change []
      → then_out ≡ going_out ++ going_back m m.change [] → IsTurnedSoFar all rest then_in then_out
  one_turned {rest = rest} {m = m} then_in then_out steps h more_in more_out = record {
    gone = h.gone ++ m ∷ [];
    in_turn = append_assoc h.gone (m ∷ []) rest ∙ ap (λ (l : List (Movement T)). h.gone ++ l) (sym steps) ∙ h.in_turn;
    back = more_in ∙ ap (λ (l : List (Movement T)). l ++ coming_back m m.change []) h.back ∙ sym (returns_more h.gone m);
    again = more_out ∙ ap (λ (l : List (Movement T)). l ++ going_back m m.change []) h.again ∙ sym (removals_more h.gone m);
  }

  pub all_turned : {all coming_in going_out : List (Movement T)} → IsTurnedSoFar all [] coming_in going_out → coming_in ++ going_out ≡ opposites_of all
  all_turned h =
      let whole = sym (append-nil h.gone) ∙ h.in_turn in
      (λ i. h.back i ++ h.again i) ∙ ap opposites_of whole

-- a movement that comes in again, and one that goes out again
abbrev returned : {T : Type 0} → Movement T → ℕ → Movement T
returned m n = record { place = m.place; article = m.article; change = In n }

abbrev removed : {T : Type 0} → Movement T → ℕ → Movement T
removed m n = record { place = m.place; article = m.article; change = Out n }

zero_if : (b : Bool) → ◌≡◌ {A = ℕ} (cond b 0 0) 0
zero_if true = refl
zero_if false = refl

-- nothing is below zero
none_below : (n : ℕ) → nat_lt n 0 ≡ false
none_below n = by_case (nat_lt n 0) refl
  where
    by_case : (b : Bool) → nat_lt n 0 ≡ b → b ≡ false
    by_case true is = absurd (let below : n < 0 = ltb-true n 0 is in omega arith)
    by_case false is = refl

module _ {T : Type 0} (eq : T → T → Bool) where
  abbrev brings : T → Movement T → ℕ
  brings v m = cond (eq v m.article) (coming m.change) 0

  abbrev takes : T → Movement T → ℕ
  takes v m = cond (eq v m.article) (going m.change) 0

  -- what the opposites bring in was taken out, and the other way round
  came_returns : (v : T) (ms : List (Movement T)) → (came eq v (returns_of ms) ≡ went eq v ms) × (went eq v (returns_of ms) ≡ 0)
  came_returns v [] = (refl, refl)
  came_returns v (m ∷ ms) =
      let later = came_returns v ms in
      let came_later = later.0 in
      let went_later = later.1 in
      let all = sum_by-cons (takes v) m ms in
      let nothing : ◌≡◌ {A = ℕ} (cond (eq v m.article) 0 0) 0 = zero_if (eq v m.article) in
      (elim m.change as (λ c. m.change ≡ c → (came eq v (coming_back m c (returns_of ms)) ≡ went eq v (m ∷ ms)) × (went eq v (coming_back m c (returns_of ms)) ≡ 0)) [
        | In n ↦ λ is.
            let none : takes v m ≡ 0 = ap (λ (c : Change). cond (eq v m.article) (going c) 0) is ∙ nothing in
            (omega arith, later.1)
        | Out n ↦ λ is.
            let turned = sum_by-cons (brings v) (returned m n) (returns_of ms) in
            let gone = sum_by-cons (takes v) (returned m n) (returns_of ms) in
            let as_many : takes v m ≡ cond (eq v m.article) n 0 = ap (λ (c : Change). cond (eq v m.article) (going c) 0) is in
            (omega arith, omega arith)
      ]) refl

  went_removals : (v : T) (ms : List (Movement T)) → (went eq v (removals_of ms) ≡ came eq v ms) × (came eq v (removals_of ms) ≡ 0)
  went_removals v [] = (refl, refl)
  went_removals v (m ∷ ms) =
      let later = went_removals v ms in
      let went_later = later.0 in
      let came_later = later.1 in
      let all = sum_by-cons (brings v) m ms in
      let nothing : ◌≡◌ {A = ℕ} (cond (eq v m.article) 0 0) 0 = zero_if (eq v m.article) in
      (elim m.change as (λ c. m.change ≡ c → (went eq v (going_back m c (removals_of ms)) ≡ came eq v (m ∷ ms)) × (came eq v (going_back m c (removals_of ms)) ≡ 0)) [
        | In n ↦ λ is.
            let turned = sum_by-cons (takes v) (removed m n) (removals_of ms) in
            let gone = sum_by-cons (brings v) (removed m n) (removals_of ms) in
            let as_many : brings v m ≡ cond (eq v m.article) n 0 = ap (λ (c : Change). cond (eq v m.article) (coming c) 0) is in
            (omega arith, omega arith)
        | Out n ↦ λ is.
            let none : brings v m ≡ 0 = ap (λ (c : Change). cond (eq v m.article) (coming c) 0) is ∙ nothing in
            (omega arith, later.1)
      ]) refl

  pub came_opposites : (v : T) (ms : List (Movement T)) → came eq v (opposites_of ms) ≡ went eq v ms
  came_opposites v ms =
      let parts = sum_by-append (brings v) (returns_of ms) (removals_of ms) in
      let one = came_returns v ms in
      let two = went_removals v ms in
      omega (arith, one.0, one.1, two.0, two.1)

  pub went_opposites : (v : T) (ms : List (Movement T)) → went eq v (opposites_of ms) ≡ came eq v ms
  went_opposites v ms =
      let parts = sum_by-append (takes v) (returns_of ms) (removals_of ms) in
      let one = came_returns v ms in
      let two = went_removals v ms in
      omega (arith, one.0, one.1, two.0, two.1)

  module _ (start : T → ℕ) where
    -- where none is refused, all are entered
    entered_if_none : (E ms : List (Movement T)) → refused_after eq start E ms ≡ [] → entered_after eq start E ms ≡ E ++ ms
    entered_if_none E [] none = sym (append-nil E)
    entered_if_none E (m ∷ ms) none =
        (elim (asks_too_much eq start E m) as (λ b. cond b (refusal eq start E m ∷ refused_after eq start E ms) (refused_after eq start (E ++ m ∷ []) ms) ≡ [] → entered_after eq start (cond b E (E ++ m ∷ [])) ms ≡ E ++ m ∷ ms) [
          | true ↦ λ is. cc
          | false ↦ λ is. entered_if_none (E ++ m ∷ []) ms is ∙ append_assoc E (m ∷ []) ms
        ]) none

    -- what comes in is never refused
    none_returned : (ms E later : List (Movement T)) → refused_after eq start E (returns_of ms ++ later) ≡ refused_after eq start (E ++ returns_of ms) later
    none_returned [] E later = ap (λ (l : List (Movement T)). refused_after eq start l later) (sym (append-nil E))
    none_returned (m ∷ ms) E later =
        elim m.change as (λ c. refused_after eq start E (coming_back m c (returns_of ms) ++ later) ≡ refused_after eq start (E ++ coming_back m c (returns_of ms)) later) [
          | In n ↦ none_returned ms E later
          | Out n ↦
              ap (λ (b : Bool). cond b (refusal eq start E (returned m n) ∷ refused_after eq start E (returns_of ms ++ later)) (refused_after eq start (E ++ returned m n ∷ []) (returns_of ms ++ later))) (none_below (there eq start E m.article))
              ∙ none_returned ms (E ++ returned m n ∷ []) later ∙ ap (λ (l : List (Movement T)). refused_after eq start l later) (append_assoc E (returned m n ∷ []) (returns_of ms))
        ]

    -- after these, more of an article goes out than was there and came in
    abbrev IsShort : List (Movement T) → List (Movement T) → Type 0
    IsShort E ms = (v : T) × (start v + came eq v E < went eq v E + went eq v ms)

    -- a removal is refused only if an article would fall below zero
    module _ (laws : IsEquivalence eq) where
      short_at : (m : Movement T) (n : ℕ) (E later : List (Movement T)) → (refused_after eq start (E ++ removed m n ∷ []) later ≢ [] → IsShort (E ++ removed m n ∷ []) later)
          → refused_after eq start E (removed m n ∷ later) ≢ [] → IsShort E (removed m n ∷ later)
      short_at m n E later then = by_case (asks_too_much eq start E (removed m n)) refl
        where
          by_case : (b : Bool) → asks_too_much eq start E (removed m n) ≡ b → cond b (refusal eq start E (removed m n) ∷ refused_after eq start E later) (refused_after eq start (E ++ removed m n ∷ []) later) ≢ [] → IsShort E (removed m n ∷ later)
          by_case true is some =
              let more : there eq start E m.article < n = ltb-true (there eq start E m.article) n is in
              let all = sum_by-cons (takes m.article) (removed m n) later in
              let own : cond (eq m.article m.article) n 0 ≡ n = ap (λ (b : Bool). cond b n 0) (laws.refl m.article) in
              (m.article, omega arith)
          by_case false is some =
              let found = then some in
              let v = found.0 in
              let came_too = sum_by_push (brings v) E (removed m n) in
              let went_too = sum_by_push (takes v) E (removed m n) in
              let all = sum_by-cons (takes v) (removed m n) later in
              let short = found.1 in
              let nothing : ◌≡◌ {A = ℕ} (cond (eq v m.article) 0 0) 0 = zero_if (eq v m.article) in
              (v, omega arith)

      below_zero : (ms E : List (Movement T)) → refused_after eq start E (removals_of ms) ≢ [] → IsShort E (removals_of ms)
      below_zero [] E some = absurd (some refl)
      below_zero (m ∷ ms) E some =
          (elim m.change as (λ c. refused_after eq start E (going_back m c (removals_of ms)) ≢ [] → IsShort E (going_back m c (removals_of ms))) [
            | In n ↦ short_at m n E (removals_of ms) (below_zero ms (E ++ removed m n ∷ []))
            | Out n ↦ below_zero ms E
          ]) some

      pub falls : (batch : List (Movement T)) → refused_of eq start (opposites_of batch) ≢ [] → (v : T) × FallsBelowZero eq start batch v
      falls batch some =
          let all : refused_of eq start (opposites_of batch) ≡ refused_after eq start (returns_of batch) (removals_of batch) = none_returned batch [] (removals_of batch) in
          let found = below_zero batch (returns_of batch) (λ none. some (all ∙ none)) in
          let v = found.0 in
          let one = came_returns v batch in
          let two = went_removals v batch in
          (v, omega (arith, one.0, one.1, two.0, found.1))

    -- where no opposite movement is refused, the batch is taken back
    pub taken_back : (cmp : T → T → Ordering) (batch : List (Movement T)) (left : List (T × ℕ)) → refused_of eq start (opposites_of batch) ≡ [] → IsBalance eq cmp (in_the_end eq start (opposites_of batch)) left
        → Leaves eq start (opposites_of batch) (listed eq left) → TakesBack eq cmp start batch left
    taken_back cmp batch left none balance leaves =
        let all : entered_of eq start (opposites_of batch) ≡ opposites_of batch = entered_if_none [] (opposites_of batch) none in
        record {
          counts = λ v.
              let conserved : start v + came eq v (opposites_of batch) ≡ listed eq left v + went eq v (opposites_of batch) =
              subst (λ (l : List (Movement T)). start v + came eq v l ≡ listed eq left v + went eq v l) all (leaves.conserved v) in
              let came_is = came_opposites v batch in
              let went_is = went_opposites v batch in
              omega arith;
          balance =
              let end_is : in_the_end eq start (opposites_of batch) ≡ (λ v. start v + went eq v batch - came eq v batch) =
              (λ i v. (ap (λ (l : List (Movement T)). there eq start l v) all ∙ (λ j. start v + came_opposites v batch j - went_opposites v batch j)) i) in
              subst (λ (s : T → ℕ). IsBalance eq cmp s left) end_is balance;
        }

    -- the same of the movements that were entered, which are the opposites
    pub taken_back_by : (cmp : T → T → Ordering) (batch entered : List (Movement T)) (left : List (T × ℕ)) → entered ≡ opposites_of batch → refused_of eq start entered ≡ [] → IsBalance eq cmp (in_the_end eq start entered) left
        → Leaves eq start entered (listed eq left) → TakesBack eq cmp start batch left
    taken_back_by cmp batch entered left is none balance leaves =
        taken_back cmp batch left (subst (λ (l : List (Movement T)). refused_of eq start l ≡ []) is none) (subst (λ (l : List (Movement T)). IsBalance eq cmp (in_the_end eq start l) left) is balance)
        (subst (λ (l : List (Movement T)). Leaves eq start l (listed eq left)) is leaves)

    pub falls_by : IsEquivalence eq → (batch entered : List (Movement T)) → entered ≡ opposites_of batch → refused_of eq start entered ≢ [] → (v : T) × FallsBelowZero eq start batch v
    falls_by laws batch entered is some = falls laws batch (subst (λ (l : List (Movement T)). refused_of eq start l ≢ []) is some)

-- a batch that was the last one
module _ {T : Type 0} (eq : T → T → Bool) (stock before : T → ℕ) (batch : List (Movement T)) (was : (v : T) → stock v + went eq v batch ≡ before v + came eq v batch) where
  pub as_before : (cmp : T → T → Ordering) (left : List (T × ℕ)) → TakesBack eq cmp stock batch left → (v : T) → listed eq left v ≡ before v
  as_before cmp left h v = let now = h.counts v in let then = was v in omega arith

  pub none_falls : (v : T) → FallsBelowZero eq stock batch v → ⊥
  none_falls v below = let then = was v in omega arith
