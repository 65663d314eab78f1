-- Movements that are entered after others: the same as into the stock that those left.
use Rattle.std.proofs.Common.{◌≡◌, ℕ, ◌+◌, ◌-◌, ◌≤◌, nat_lt, Bool, true, false, cond, List, [], ◌∷◌, ◌++◌, length, take, Ordering, refl, sym, ◌∙◌, ap, subst, inl, inr, arith}
use Rattle.std.proofs.lemmas.Bool.{cases_lt}
use Rattle.std.proofs.lemmas.List.{append_assoc, append-nil, take-append-le}
use Rattle.std.proofs.lemmas.List.Sums.{sum_by-append}
use Rattle.std.proofs.Math.Seq.{take-length, take-append-add}
use Rattle.hashbag_csv.specs.Quantities.{IsBalance}
use Rattle.hashbag_ledger_lib.specs.declared.movements.Movement.{Movement}
use Rattle.hashbag_ledger_lib.specs.declared.movements.Refusal.{Refusal}
use Rattle.hashbag_ledger_lib.specs.Ledger.{coming, going, came, went, there, asks_too_much, entered_after, refused_after, refusal, entered_of, refused_of, in_the_end, IsNeverBelowZero, Leaves}
use Rattle.hashbag_ledger_lib.specs.Settled.{listed}
use Rattle.hashbag_ledger_lib.specs.Batches.{Continues}

module _ {T : Type 0} (eq : T → T → Bool) where
  came-append : (v : T) (E F : List (Movement T)) → came eq v (E ++ F) ≡ came eq v E + came eq v F
  came-append v E F = sum_by-append (λ (m : Movement T). cond (eq v m.article) (coming m.change) 0) E F

  went-append : (v : T) (E F : List (Movement T)) → went eq v (E ++ F) ≡ went eq v E + went eq v F
  went-append v E F = sum_by-append (λ (m : Movement T). cond (eq v m.article) (going m.change) 0) E F

  module _ (start : T → ℕ) where
    -- movements in two parts
    entered-append : (E ms ns : List (Movement T)) → entered_after eq start E (ms ++ ns) ≡ entered_after eq start (entered_after eq start E ms) ns
    entered-append E [] ns = refl
    entered-append E (m ∷ ms) ns = entered-append (cond (asks_too_much eq start E m) E (E ++ m ∷ [])) ms ns

    refused-append : (E ms ns : List (Movement T)) → refused_after eq start E (ms ++ ns) ≡ refused_after eq start E ms ++ refused_after eq start (entered_after eq start E ms) ns
    refused-append E [] ns = refl
    refused-append E (m ∷ ms) ns =
        elim (asks_too_much eq start E m) as (λ b. cond b (refusal eq start E m ∷ refused_after eq start E (ms ++ ns)) (refused_after eq start (E ++ m ∷ []) (ms ++ ns))
        ≡ cond b (refusal eq start E m ∷ refused_after eq start E ms) (refused_after eq start (E ++ m ∷ []) ms) ++ refused_after eq start (entered_after eq start (cond b E (E ++ m ∷ [])) ms) ns) [
          | true ↦ ap (λ (l : List (Refusal T)). refusal eq start E m ∷ l) (refused-append E ms ns)
          | false ↦ refused-append (E ++ m ∷ []) ms ns
        ]

    -- the stock that movements left, of which no more went out than was there and came in
    module _ (E : List (Movement T)) (within : (v : T) → went eq v E ≤ start v + came eq v E) where
      abbrev kept : T → ℕ
      kept v = there eq start E v

      there_onwards : (F : List (Movement T)) (v : T) → there eq start (E ++ F) v ≡ there eq kept F v
      there_onwards F v =
          let more_came = came-append v E F in
          let more_went = went-append v E F in
          let enough = within v in
          omega arith

      asks_onwards : (F : List (Movement T)) (m : Movement T) → asks_too_much eq start (E ++ F) m ≡ asks_too_much eq kept F m
      asks_onwards F m = ap (λ (n : ℕ). nat_lt n (going m.change)) (there_onwards F m.article)

      entered_onwards : (F ns : List (Movement T)) → entered_after eq start (E ++ F) ns ≡ E ++ entered_after eq kept F ns
      entered_onwards F [] = refl
      entered_onwards F (m ∷ ns) =
          ap (λ (b : Bool). entered_after eq start (cond b (E ++ F) ((E ++ F) ++ m ∷ [])) ns) (asks_onwards F m)
          ∙ (elim (asks_too_much eq kept F m) as (λ b. entered_after eq start (cond b (E ++ F) ((E ++ F) ++ m ∷ [])) ns ≡ E ++ entered_after eq kept (cond b F (F ++ m ∷ [])) ns) [
            | true ↦ entered_onwards F ns
            | false ↦ ap (λ (l : List (Movement T)). entered_after eq start l ns) (append_assoc E F (m ∷ [])) ∙ entered_onwards (F ++ m ∷ []) ns
          ])

      refusal_onwards : (F : List (Movement T)) (m : Movement T) → refusal eq start (E ++ F) m ≡ refusal eq kept F m
      refusal_onwards F m = ap (λ (n : ℕ). record { place = m.place; article = m.article; asked = going m.change; there = n }) (there_onwards F m.article)

      refused_onwards : (F ns : List (Movement T)) → refused_after eq start (E ++ F) ns ≡ refused_after eq kept F ns
      refused_onwards F [] = refl
      refused_onwards F (m ∷ ns) =
          ap (λ (b : Bool). cond b (refusal eq start (E ++ F) m ∷ refused_after eq start (E ++ F) ns) (refused_after eq start ((E ++ F) ++ m ∷ []) ns)) (asks_onwards F m)
          ∙ (elim (asks_too_much eq kept F m) as (λ b. cond b (refusal eq start (E ++ F) m ∷ refused_after eq start (E ++ F) ns) (refused_after eq start ((E ++ F) ++ m ∷ []) ns)
          ≡ cond b (refusal eq kept F m ∷ refused_after eq kept F ns) (refused_after eq kept (F ++ m ∷ []) ns)) [
            | true ↦ (λ i. refusal_onwards F m i ∷ refused_onwards F ns i)
            | false ↦ ap (λ (l : List (Movement T)). refused_after eq start l ns) (append_assoc E F (m ∷ [])) ∙ refused_onwards (F ++ m ∷ []) ns
          ])

      never_onwards : IsNeverBelowZero eq start E → (F : List (Movement T)) → IsNeverBelowZero eq kept F → IsNeverBelowZero eq start (E ++ F)
      never_onwards first F then k v = elim (cases_lt k (length E)) [
        | inl few ↦ subst (λ (l : List (Movement T)). went eq v l ≤ start v + came eq v l) (sym (take-append-le k E F (omega arith))) (first k v)
        | inr many ↦
            let n = k - length E in
            let is : length E + n ≡ k = omega arith in
            let front : take k (E ++ F) ≡ E ++ take n F = ap (λ (j : ℕ). take j (E ++ F)) (sym is) ∙ take-append-add E F n in
            let more_came = came-append v E (take n F) in
            let more_went = went-append v E (take n F) in
            let later = then n v in
            let enough = within v in
            subst (λ (l : List (Movement T)). went eq v l ≤ start v + came eq v l) (sym front) (omega arith)
      ]

  -- a batch that is entered into a balance which was left before
  module _ (cmp : T → T → Ordering) (start : T → ℕ) (before batch : List (Movement T)) (held left : List (T × ℕ)) (refusals : List (Refusal T)) (were : Leaves eq start before (listed eq held)) where
    abbrev first : List (Movement T)
    first = entered_of eq start before

    within_first : (v : T) → went eq v first ≤ start v + came eq v first
    within_first v = subst (λ (l : List (Movement T)). went eq v l ≤ start v + came eq v l) (take-length first) (were.never_below_zero (length first) v)

    held_is : listed eq held ≡ in_the_end eq start before
    held_is = λ i v. were.counts v i

    entered_is : entered_of eq start (before ++ batch) ≡ first ++ entered_of eq (in_the_end eq start before) batch
    entered_is = entered-append start [] before batch ∙ ap (λ (l : List (Movement T)). entered_after eq start l batch) (sym (append-nil first)) ∙ entered_onwards start first within_first [] batch

    end_is : in_the_end eq start (before ++ batch) ≡ in_the_end eq (in_the_end eq start before) batch
    end_is = λ i v. (ap (λ (l : List (Movement T)). there eq start l v) entered_is ∙ there_onwards start first within_first (entered_of eq (in_the_end eq start before) batch) v) i

    pub continues : IsBalance eq cmp (in_the_end eq (listed eq held) batch) left → Leaves eq (listed eq held) batch (listed eq left) → refusals ≡ refused_of eq (listed eq held) batch → Continues eq cmp start before batch left refusals
    continues balance leaves refused =
        let then : Leaves eq (in_the_end eq start before) batch (listed eq left) = subst (λ (s : T → ℕ). Leaves eq s batch (listed eq left)) held_is leaves in
        let second = entered_of eq (in_the_end eq start before) batch in
        record {
          balance = subst (λ (s : T → ℕ). IsBalance eq cmp s left) (ap (λ (s : T → ℕ). in_the_end eq s batch) held_is ∙ sym end_is) balance;
          leaves = record {
            counts = λ v. then.counts v ∙ (λ i. sym end_is i v);
            conserved = λ v. subst (λ (l : List (Movement T)). start v + came eq v l ≡ listed eq left v + went eq v l) (sym entered_is)
                (let more_came = came-append v first second in
                let more_went = went-append v first second in
                let one = were.conserved v in
                let two = then.conserved v in
                let joint = were.counts v in
                omega arith);
            never_below_zero = subst (λ (l : List (Movement T)). IsNeverBelowZero eq start l) (sym entered_is) (never_onwards start first within_first were.never_below_zero second then.never_below_zero);
          };
          refused =
              let is : refusals ≡ refused_of eq (in_the_end eq start before) batch = refused ∙ ap (λ (s : T → ℕ). refused_of eq s batch) held_is in
              let later : refused_after eq start first batch ≡ refused_of eq (in_the_end eq start before) batch =
              ap (λ (l : List (Movement T)). refused_after eq start l batch) (sym (append-nil first)) ∙ refused_onwards start first within_first [] batch in
              ap (λ (l : List (Refusal T)). refused_of eq start before ++ l) (is ∙ sym later) ∙ sym (refused-append start [] before batch);
        }
