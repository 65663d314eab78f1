-- Pairs that are inserted in turn beside spare slots: what they add, what becomes of the slots, and when there is room.
use Rattle.std.proofs.Common.{◌≡◌, ℕ, ◌+◌, ◌<◌, ◌≤◌, ◌==◌, cond, Bool, List, [], ◌∷◌, ◌++◌, length, length-append, sum_by, Option, Result, Ok, Err, IsOk, IfErr, inl, inr, sym, ◌∙◌, ap, subst, refl, append_assoc, arith}
use Rattle.std.specs.Cmp.{IsEquivalence}
use Rattle.std.proofs.lemmas.Bool.{cases_lt}
use Rattle.std.proofs.lemmas.Iterator.{YieldsList}
use Rattle.std.proofs.lemmas.List.{append-nil, map-id}
use Rattle.std.proofs.lemmas.List.Sums.{length-filter, count_by-le-length, sum_by-append, sum_by-cons}
use Rattle.hashbag_core.specs.declared.bag.BagError.{BagError}
use Rattle.hashbag_core.specs.declared.bag.BagError.TheVariants.{Memory, TooMany, BelowTotal}
use Rattle.hashbag_core.specs.Bag.{Bag, IsBagOf, occurrences}
use Rattle.hashbag_core.specs.Extends.{AsItIs}
use Rattle.hashbag_core.specs.Inserts.{Inserts, InsertsAll, InsertsUpTo, InTurn, MayFail, MayFailPair}
use Rattle.hashbag_core.specs.JoinsLeft.{lacking}
use Rattle.hashbag_core.specs.Occurrences.{count, distinct_count, IsBag}
use Rattle.hashbag_table.specs.Tables.{room}
use Rattle.hashbag_core.specs.Walks.{IsSetWalkOf}
use Rattle.hashbag_core.proofs.CallerLemmas.{count_extended, count_kept, items_that_came, pairs_as_they_are}
use Rattle.hashbag_core.proofs.InsertLemmas.{few_in_turn, left_in_turn, length_in_turn, spends_in_turn, turn_last, StaysWithin}
use Rattle.hashbag_core.proofs.OccurrenceLemmas.{count_rearranged}
use Rattle.hashbag_ops.proofs.Sums.{count_written, few_lacked, has_in_turn, lacked, none_of_none, one_if, one_lacked, takes_pairs, Has}

-- a sum over a list in two parts
pub sum_parts : {A : Type 0} (f : A → ℕ) (first rest all : List A) → first ++ rest ≡ all → sum_by f all ≡ sum_by f first + sum_by f rest
sum_parts f first rest all parts = ap (sum_by f) (sym parts) ∙ sum_by-append f first rest

module _ {T S : Type 0} (eq : T → T → Bool) where
  -- of the pairs `all` those before `rest` were inserted in turn, while there was room
  pub record SoFar (before now : Bag T S) (all rest : List (T × ℕ)) : Type 0 where
    pub first : List (T × ℕ)
    pub parts : first ++ rest ≡ all
    pub turn : InTurn eq first before now
    pub stays : StaysWithin eq before now

  stays_both : (a b c : Bag T S) → StaysWithin eq a b → StaysWithin eq b c → StaysWithin eq a c
  stays_both a b c first second = record {
    slots = second.slots ∙ first.slots;
    built = second.built ∙ first.built;
    left = let p = first.left in let q = second.left in omega (arith, p, q);
  }

  -- one value that is there, or for which there is room
  stays_one : (v : T) (n : ℕ) (now after : Bag T S) → Inserts eq v n now after → (room now.tables ≡ 0 → 0 < count eq v now.items) → StaysWithin eq now after
  stays_one v n now after went there =
      let spent = spends_in_turn eq ((v, n) ∷ []) now after (after, went, refl) in
      let one = went.set_len in
      elim (cases_lt 0 (room now.tables)) [
        | inl some ↦ spent.within (omega (arith, one, some))
        | inr none ↦ let same = went.same_set (there (omega (arith, none))) in spent.within (omega (arith, same))
      ]

  pub none_so_far : (bag : Bag T S) (all : List (T × ℕ)) → SoFar bag bag all all
  none_so_far bag all = record { first = []; parts = refl; turn = refl; stays = record { slots = refl; built = refl; left = omega arith } }

  pub one_more : (v : T) (n : ℕ) (before now after : Bag T S) (all left rest : List (T × ℕ)) → SoFar before now all left → left ≡ (v, n) ∷ rest → Inserts eq v n now after → (room now.tables ≡ 0 → 0 < count eq v now.items)
      → SoFar before after all rest
  one_more v n before now after all left rest so_far next went there = record {
    first = so_far.first ++ (v, n) ∷ [];
    parts = append_assoc so_far.first ((v, n) ∷ []) rest ∙ ap (λ (l : List (T × ℕ)). so_far.first ++ l) (sym next) ∙ so_far.parts;
    turn = turn_last eq so_far.first (v, n) before now after so_far.turn went;
    stays = stays_both before now after so_far.stays (stays_one v n now after went there);
  }

  -- the pair v, n and those after it have room in slots that have room for all, and below the limit
  pub record HasRest (now : Bag T S) (n : ℕ) (rest : List (T × ℕ)) (most : ℕ) : Type 0 where
    pub room : distinct_count eq now.items + (length rest + 1) ≤ most
    pub fits : length now.items + n + sum_by (λ p. p.1) rest ≤ now.most

  -- ---- what pairs add

  pub record Adds (before after : Bag T S) (pairs : List (T × ℕ)) : Type 0 where
    pub counts : (v : T) → count eq v after.items ≡ count eq v before.items + sum_by (λ p. cond (eq v p.0) p.1 0) pairs
    pub len : length after.items ≡ length before.items + sum_by (λ p. p.1) pairs
    pub limit : after.most ≡ before.most
    pub hasher : after.hasher ≡ before.hasher
    pub bag : IsBag eq after.most after.items

  -- a bag `after` has all of `before` and all of X
  pub record IsSum (before : Bag T S) (X : List T) (after : Bag T S) : Type 0 where
    pub counts : (v : T) → count eq v after.items ≡ count eq v before.items + count eq v X
    pub len : length after.items ≡ length before.items + length X
    pub limit : after.most ≡ before.most
    pub hasher : after.hasher ≡ before.hasher

module _ {T S : Type 0} {eq : T → T → Bool} (laws : IsEquivalence eq) where
  -- the pairs of a known list that an extend inserted
  pub in_turn : {I : Type 0} {steps : I → Option (T × ℕ) → I → Type 0} {it : I} {before after : Bag T S} (pairs : List (T × ℕ)) → InsertsAll eq steps AsItIs it before after → YieldsList steps (λ x. x) it pairs → InTurn eq pairs before after
  in_turn {before = before} {after = after} pairs h yields =
      subst (λ l. InTurn eq l before after) (pairs_as_they_are h.items h.pairs h.as_pairs ∙ sym (map-id h.items) ∙ items_that_came h.items h.yielded yields) h.turn

  pub adds_in_turn : (pairs : List (T × ℕ)) (before after : Bag T S) → IsBag eq before.most before.items → InTurn eq pairs before after → Adds eq before after pairs
  adds_in_turn pairs before after is turn =
      let left = left_in_turn laws pairs before after is turn in
      record {
        counts = λ v. count_extended laws v before.items pairs after left.means;
        len = length_in_turn eq pairs before after turn;
        limit = left.limit;
        hasher = left.hasher;
        bag = left.bag;
      }

  pub adds_none : (before after : Bag T S) → IsBagOf eq before before.items after → length after.items ≡ length before.items → Adds eq before after []
  adds_none before after kept same = record {
    counts = λ v. let k = count_kept laws before after v kept in omega (arith, k);
    len = omega (arith, same);
    limit = kept.limit;
    hasher = kept.hasher;
    bag = kept.bag;
  }

  pub adds_both : (a b c : Bag T S) (first rest all : List (T × ℕ)) → first ++ rest ≡ all → Adds eq a b first → Adds eq b c rest → Adds eq a c all
  adds_both a b c first rest all parts x y = record {
    counts = λ v.
        let p = x.counts v in
        let q = y.counts v in
        let sum = sum_parts (λ (p : T × ℕ). cond (eq v p.0) p.1 0) first rest all parts in
        omega (arith, p, q, sum);
    len = let p = x.len in let q = y.len in let sum = sum_parts (λ (p : T × ℕ). p.1) first rest all parts in omega (arith, p, q, sum);
    limit = y.limit ∙ x.limit;
    hasher = y.hasher ∙ x.hasher;
    bag = y.bag;
  }

  -- the first went into the slots there were, and the rest into others
  pub adds_beside : (before now moved after : Bag T S) (all left rest : List (T × ℕ)) → IsBag eq before.most before.items → (so_far : SoFar eq before now all left) → left ≡ rest
      → IsBagOf eq now now.items moved → length moved.items ≡ length now.items → InTurn eq rest moved after → Adds eq before after all
  adds_beside before now moved after all left rest is so_far next kept same turn =
      adds_both before moved after so_far.first rest all (ap (λ (l : List (T × ℕ)). so_far.first ++ l) (sym next) ∙ so_far.parts)
      (adds_both before now moved so_far.first [] so_far.first (append-nil so_far.first) (adds_in_turn so_far.first before now is so_far.turn) (adds_none now moved kept same))
      (adds_in_turn rest moved after kept.bag turn)

  -- one value and then the rest went into others
  pub adds_by_spare : (before now moved next after : Bag T S) (all left rest : List (T × ℕ)) (v : T) (n : ℕ) → IsBag eq before.most before.items → SoFar eq before now all left → left ≡ (v, n) ∷ rest
      → IsBagOf eq now now.items moved → length moved.items ≡ length now.items → Inserts eq v n moved next → InTurn eq rest next after → Adds eq before after all
  adds_by_spare before now moved next after all left rest v n is so_far came kept same went turn =
      adds_beside before now moved after all left ((v, n) ∷ rest) is so_far came kept same (next, went, turn)

  -- all went into the slots there were
  pub adds_all : (before now : Bag T S) (all left : List (T × ℕ)) → IsBag eq before.most before.items → SoFar eq before now all left → left ≡ [] → Adds eq before now all
  adds_all before now all left is so_far none =
      subst (λ (l : List (T × ℕ)). Adds eq before now l) (sym (append-nil so_far.first) ∙ ap (λ (l : List (T × ℕ)). so_far.first ++ l) (sym none) ∙ so_far.parts)
      (adds_in_turn so_far.first before now is so_far.turn)

  -- what a walk over a bag adds is that bag
  pub summed : {R : Type 0} (from : Bag T R) (before after : Bag T S) (W : List (T × ℕ)) → IsSetWalkOf eq from W → Adds eq before after W → IsSum eq before from.items after
  summed from before after W walk adds = record {
    counts = λ v.
        let whole = adds.counts v in
        let written = count_written laws v W in
        let walked = count_rearranged laws v (occurrences W) from.items walk.means in
        omega (arith, whole, written, walked);
    len = let whole = adds.len in let total = walk.total in omega (arith, whole, total);
    limit = adds.limit;
    hasher = adds.hasher;
  }

  -- a pair of a walk came, and the rest is still to come
  pub has_rest : {R : Type 0} (from : Bag T R) (before now : Bag T S) (W left rest : List (T × ℕ)) (v : T) (n most : ℕ) → IsSetWalkOf eq from W → IsBag eq before.most before.items → SoFar eq before now W left → left ≡ (v, n) ∷ rest
      → distinct_count eq before.items + distinct_count eq from.items ≤ most → length before.items + length from.items ≤ before.most → HasRest eq now n rest most
  has_rest from before now W left rest v n most walk is so_far next enough fits =
      let few = few_in_turn eq so_far.first before now so_far.turn in
      let long = length-append so_far.first left in
      let whole = ap (λ (l : List (T × ℕ)). length l) so_far.parts in
      let later = ap (λ (l : List (T × ℕ)). length l) next in
      let distinct = walk.distinct in
      let longer = length_in_turn eq so_far.first before now so_far.turn in
      let parts = sum_parts (λ (p : T × ℕ). p.1) so_far.first left W so_far.parts in
      let sum = ap (λ (l : List (T × ℕ)). sum_by (λ p. p.1) l) next in
      let one = sum_by-cons (λ (p : T × ℕ). p.1) (v, n) rest in
      let total = walk.total in
      let same = (adds_in_turn so_far.first before now is so_far.turn).limit in
      record { room = omega (arith, few, long, whole, later, distinct, enough); fits = omega (arith, longer, parts, sum, one, total, same, fits) }

  -- ---- room for what is lacked

  -- where there is room for those of the pairs that X lacks, whose values the bag has, no slot was added and nothing was built
  pub stays_lacked : (X : List T) (pairs : List (T × ℕ)) (before after : Bag T S) → Has laws X before → InTurn eq pairs before after → length (lacking eq X pairs) ≤ room before.tables → StaysWithin eq before after
  stays_lacked X pairs before after has turn enough =
      let few = few_lacked laws X pairs before after turn has in
      let many : length (lacking eq X pairs) ≡ lacked eq X pairs = length-filter (λ e. count eq e.0 X == 0) pairs in
      (spends_in_turn eq pairs before after turn).within (omega (arith, few, many, enough))

  -- so where an absent value comes and no room is left, there wasn't room for all that were lacked
  pub no_room_for_lacked : (v : T) (n : ℕ) (before now : Bag T S) (all left rest : List (T × ℕ)) → SoFar eq before now all left → left ≡ (v, n) ∷ rest → room now.tables ≡ 0 → count eq v now.items ≡ 0
      → length (lacking eq before.items all) ≤ room before.tables → ⊥
  no_room_for_lacked v n before now all left rest so_far next full absent enough =
      let X = before.items in
      let few = few_lacked laws X so_far.first before now so_far.turn (λ u some. some) in
      let none = none_of_none laws X v now (has_in_turn laws X so_far.first before now so_far.turn (λ u some. some)) absent in
      let one : one_lacked eq X (v, n) ≡ 1 = ap (λ (k : ℕ). one_if (k == 0)) none in
      let many : length (lacking eq X all) ≡ lacked eq X all = length-filter (λ e. count eq e.0 X == 0) all in
      let parts = sum_parts (one_lacked eq X) so_far.first ((v, n) ∷ rest) all (ap (λ (l : List (T × ℕ)). so_far.first ++ l) (sym next) ∙ so_far.parts) in
      let later = sum_by-cons (one_lacked eq X) (v, n) rest in
      let spent = so_far.stays.left in
      omega (arith, few, one, many, parts, later, spent, full, enough)

  -- ---- nothing fails

  -- a pair that fits doesn't fail where its value is there, or where there is room
  pub takes_one : {A : Type 0} (bag : Bag T S) (v : T) (n : ℕ) (r : Result A BagError) → length bag.items + n ≤ bag.most → IfErr r (MayFail eq bag v n) → (room bag.tables ≡ 0 → 0 < count eq v bag.items) → IsOk r
  takes_one bag v n (Ok a) fits fails there = refl
  takes_one bag v n (Err TooMany) fits fails there = let over = fails.why in absurd (omega (arith, fits, over))
  takes_one bag v n (Err BelowTotal) fits fails there = absurd fails.why
  takes_one bag v n (Err Memory) fits fails there = let is = there (fails.full refl) in let absent = fails.why.2 in absurd (omega (arith, is, absent))

  -- an extend by a known list of pairs doesn't fail where there is room for all
  pub takes_rest : {I A : Type 0} {steps : I → Option (T × ℕ) → I → Type 0} {it : I} (rest : List (T × ℕ)) (before after : Bag T S) (r : Result A BagError)
      → IfErr r (InsertsUpTo eq steps AsItIs (MayFailPair eq) it before after) → YieldsList steps (λ x. x) it rest → length rest ≤ room before.tables → length before.items + sum_by (λ p. p.1) rest ≤ before.most → IsOk r
  takes_rest rest before after r fails yields enough fits =
      let none : List T = [] in
      let few = length-filter (λ (e : T × ℕ). count eq e.0 none == 0) rest in
      let most_of = count_by-le-length (λ (e : T × ℕ). count eq e.0 none == 0) rest in
      takes_pairs laws before after r none (λ v some. absurd (omega (arith, some))) fails yields (omega (arith, few, most_of, enough)) fits
