-- The counts of what a walk gives as sums over it, and an extend by pairs that doesn't fail.
use Rattle.std.proofs.Common.{◌≡◌, ℕ, zero, suc, ◌+◌, ◌<◌, ◌≤◌, ◌==◌, cond, Bool, List, [], ◌∷◌, length, replicate, sum_by, take, get_or, Option, Some, Result, Ok, Err, IsOk, IfErr, inl, inr, sym, ◌∙◌, ap, subst, refl, arith}
use Rattle.std.specs.Cmp.{IsEquivalence}
use Rattle.std.proofs.lemmas.Bool.{cases_lt}
use Rattle.std.proofs.lemmas.Bool.Decides.{nat_tests}
use Rattle.std.proofs.lemmas.Iterator.{YieldsList}
use Rattle.std.proofs.lemmas.Iterator.Consumers.{YieldsList-so_far, YieldsList-turn}
use Rattle.std.proofs.lemmas.List.{map-id}
use Rattle.std.proofs.lemmas.List.Sums.{length-filter, sum_by-cons}
use Rattle.hashbag_core.specs.declared.bag.BagError.{BagError}
use Rattle.hashbag_core.specs.declared.bag.BagError.TheVariants.{Memory, TooMany, BelowTotal}
use Rattle.hashbag_core.specs.Bag.{Bag, occurrences}
use Rattle.hashbag_core.specs.EqualityLaws.{count_append}
use Rattle.hashbag_core.specs.Extends.{AsItIs, MayFailWith}
use Rattle.hashbag_core.specs.Inserts.{Inserts, InsertsUpTo, InTurn, MayFail, MayFailPair}
use Rattle.hashbag_core.specs.JoinsLeft.{lacking}
use Rattle.hashbag_core.specs.Occurrences.{count, distinct_count}
use Rattle.hashbag_table.specs.Tables.{room}
use Rattle.hashbag_core.proofs.CallerLemmas.{count_inserted_any, pairs_as_they_are}
use Rattle.hashbag_core.proofs.InsertLemmas.{length_in_turn, fails_past_room, some_added}
use Rattle.hashbag_core.proofs.Laws.{count_added}

-- the numbers of the items before one, and its own, are no more than those of all
sum_to : {A : Type 0} (f : A → ℕ) (all : List A) (k : ℕ) (d : A) → k < length all → sum_by f (take k all) + f (get_or all k d) ≤ sum_by f all
sum_to f [] k d below = absurd (omega arith)
sum_to f (p ∷ all) zero d below = let sum = sum_by-cons f p all in omega arith
sum_to f (p ∷ all) (suc k) d below =
    let whole = sum_by-cons f p all in
    let part = sum_by-cons f p (take k all) in
    let later = sum_to f all k d (omega arith) in
    omega arith

abbrev pub one_if : Bool → ℕ
one_if b = cond b 1 0

pub one_of_none : (k : ℕ) → k ≡ 0 → one_if (k == 0) ≡ 1
one_of_none k none = grind (arith, nat_tests)

none_of_some : (k : ℕ) → 0 < k → one_if (k == 0) ≡ 0
none_of_some k some = grind (arith, nat_tests)

one_or_none : (k d e : ℕ) → e ≤ d + 1 → (0 < k → e ≤ d) → e ≤ d + one_if (k == 0)
one_or_none k d e one none = elim (cases_lt 0 k) [
  | inl some ↦
      let fewer = none some in
      let no = none_of_some k some in
      omega (arith, fewer, no)
  | inr few ↦ let is = one_of_none k (omega (arith, few)) in omega (arith, one, is)
]

module _ {T : Type 0} {eq : T → T → Bool} (laws : IsEquivalence eq) where
  -- how often v occurs in what a walk gives: the sum of the counts of the values that equal it
  pub count_written : (v : T) (W : List (T × ℕ)) → count eq v (occurrences W) ≡ sum_by (λ p. cond (eq v p.0) p.1 0) W
  count_written v [] = refl
  count_written v (e ∷ W) =
      let parts = count_append laws v (replicate e.1 e.0) (occurrences W) in
      let copies : count eq v (replicate e.1 e.0) ≡ 0 + cond (eq v e.0) e.1 0 = count_added laws v e.0 e.1 [] in
      let later = count_written v W in
      let sum = sum_by-cons (λ (p : T × ℕ). cond (eq v p.0) p.1 0) e W in
      omega arith

-- ---- what X lacks

module _ {T : Type 0} (eq : T → T → Bool) (X : List T) where
  abbrev pub one_lacked : T × ℕ → ℕ
  one_lacked e = one_if (count eq e.0 X == 0)

  -- how many of these values X lacks
  abbrev pub lacked : List (T × ℕ) → ℕ
  lacked es = sum_by one_lacked es

module _ {T S : Type 0} {eq : T → T → Bool} (laws : IsEquivalence eq) (X : List T) where
  -- the bag has each value of X
  abbrev pub Has : Bag T S → Type 0
  Has bag = (v : T) → 0 < count eq v X → 0 < count eq v bag.items

  still_has : (v : T) (n : ℕ) (before after : Bag T S) → Inserts eq v n before after → Has before → Has after
  still_has v n before after went has = λ u some.
      let was = has u some in
      let now = count_inserted_any laws before after u v n went.added in
      omega (arith, was, now)

  pub has_in_turn : (pairs : List (T × ℕ)) (before after : Bag T S) → InTurn eq pairs before after → Has before → Has after
  has_in_turn [] before after same has = subst (λ (b : Bag T S). Has b) (sym same) has
  has_in_turn (p ∷ pairs) before after h has = has_in_turn pairs h.0 after h.2 (still_has p.0 p.1 before h.0 h.1 has)

  -- only what X lacks is a value more
  pub few_lacked : (pairs : List (T × ℕ)) (before after : Bag T S) → InTurn eq pairs before after → Has before → distinct_count eq after.items ≤ distinct_count eq before.items + lacked eq X pairs
  few_lacked [] before after same has = let as_many = ap (λ (b : Bag T S). distinct_count eq b.items) same in omega (arith, as_many)
  few_lacked (p ∷ pairs) before after h has =
      let first = one_or_none (count eq p.0 X) (distinct_count eq before.items) (distinct_count eq h.0.items) h.1.set_len (λ some. let same = h.1.same_set (has p.0 some) in omega (arith, same)) in
      let later = few_lacked pairs h.0 after h.2 (still_has p.0 p.1 before h.0 h.1 has) in
      let sum = sum_by-cons (one_lacked eq X) p pairs in
      omega (arith, first, later, sum)

  pub none_of_none : (v : T) (bag : Bag T S) → Has bag → count eq v bag.items ≡ 0 → count eq v X ≡ 0
  none_of_none v bag has none = elim (cases_lt 0 (count eq v X)) [
    | inl some ↦ let there = has v some in absurd (omega (arith, there, none))
    | inr few ↦ omega (arith, few)
  ]

module _ {T S : Type 0} {eq : T → T → Bool} (laws : IsEquivalence eq) where
  -- what fits fails only for memory
  declined_pair : (bag : Bag T S) (v : T) (n : ℕ) (e : BagError) → MayFailWith eq bag.most bag.items v n e → length bag.items + n ≤ bag.most → e ≡ Memory
  declined_pair bag v n TooMany over fits = absurd (omega (arith, over, fits))
  declined_pair bag v n Memory asks fits = refl
  declined_pair bag v n BelowTotal never fits = absurd never

  -- an extend by a known list of pairs doesn't fail where there is room for those that a list X lacks, whose values the bag has, and the
  -- limit allows their numbers
  pub no_pair_fails : {I : Type 0} {steps : I → Option (T × ℕ) → I → Type 0} {it : I} {all : List (T × ℕ)} {before after : Bag T S} {e : BagError} → (X : List T)
      → ((v : T) → 0 < count eq v X → 0 < count eq v before.items)
      → InsertsUpTo eq steps AsItIs (MayFailPair eq) it before after e → YieldsList steps (λ x. x) it all → length (lacking eq X all) ≤ room before.tables → length before.items + sum_by (λ p. p.1) all ≤ before.most → ⊥
  no_pair_fails {all = all} {before = before} {after = after} {e = e} X has h yields enough fits =
      let turn = YieldsList-turn yields h.items h.yielded.0 h.yielded.1 (Some h.failed) h.rest h.failed refl h.yielded.2 in
      let fewer : length h.items < length all = turn.0 in
      let came : h.pairs ≡ take (length h.items) all = pairs_as_they_are h.items h.pairs h.as_pairs ∙ sym (map-id h.items) ∙ YieldsList-so_far yields h.items h.yielded.0 h.yielded.1 in
      let long = length_in_turn eq h.pairs before after h.turn in
      let numbers = ap (λ (l : List (T × ℕ)). sum_by (λ p. p.1) l) came in
      let number = ap (λ (p : T × ℕ). p.1) turn.1 in
      let whole = sum_to (λ (p : T × ℕ). p.1) all (length h.items) h.failed fewer in
      let limit = (some_added laws h).limit in
      let memory = declined_pair after h.failed.0 h.failed.1 e h.why.why (omega (arith, long, numbers, number, whole, fits, limit)) in
      let declined = subst (λ (x : BagError). MayFail eq after h.failed.0 h.failed.1 x) memory h.why in
      let past = fails_past_room eq h.pairs before after h.failed.0 h.failed.1 h.turn declined in
      let few = few_lacked laws X h.pairs before after h.turn has in
      let none = none_of_none laws X h.failed.0 after (has_in_turn laws X h.pairs before after h.turn has) declined.why.2 in
      let one : one_lacked eq X h.failed ≡ 1 = ap (λ (n : ℕ). one_if (n == 0)) none in
      let same = ap (one_lacked eq X) turn.1 in
      let so_far = ap (lacked eq X) came in
      let last = sum_to (one_lacked eq X) all (length h.items) h.failed fewer in
      let many : length (lacking eq X all) ≡ lacked eq X all = length-filter (λ e. count eq e.0 X == 0) all in
      omega (arith, past, few, one, same, so_far, last, many, enough)

  -- an `extend_many` by known pairs succeeds, within the limit, with room for the pairs whose value isn't in a list X, if the bag has each
  -- value of X
  pub takes_pairs : {I A : Type 0} {steps : I → Option (T × ℕ) → I → Type 0} {it : I} {all : List (T × ℕ)} → (before after : Bag T S) (r : Result A BagError) (X : List T) → ((v : T) → 0 < count eq v X → 0 < count eq v before.items)
      → IfErr r (InsertsUpTo eq steps AsItIs (MayFailPair eq) it before after) → YieldsList steps (λ x. x) it all → length (lacking eq X all) ≤ room before.tables → length before.items + sum_by (λ p. p.1) all ≤ before.most → IsOk r
  takes_pairs before after (Ok a) X has h yields enough fits = refl
  takes_pairs before after (Err e) X has h yields enough fits = absurd (no_pair_fails X has h yields enough fits)
