use Rattle.std.proofs.Common.{◌≡◌, ℕ, zero, suc, ◌<◌, Bool, Result, Ok, Err, IfOk, refl, sym, ap, subst, arith, rules}
use Rattle.std.specs.Cmp.{IsEquivalence}
use Rattle.hashbag.specs.Bag.{Bag}
use Rattle.hashbag.specs.Inserts.{Inserts}
use Rattle.hashbag.specs.Occurrences.{count}
use Rattle.hashbag.proofs.CallerLemmas.{count_inserted, count_inserted_other}
use Rattle.hashbag_callers.specs.Ledger.{ChangesOnly}
use Rattle.hashbag_callers.proofs.ledger.list.Goals as goal

module _ {T S E : Type 0} {eq : T → T → Bool} (laws : IsEquivalence eq) (before left : Bag T S) (v : T) (r : Result ℕ E) where
  -- what the clauses of `or_insert` say of the bag that the entry left
  module _ (occupied : 0 < count eq v before.items → (r ≡ Ok (count eq v before.items)) × (left ≡ before)) (vacant : count eq v before.items ≡ 0 → IfOk r (λ n. (n ≡ 1) × Inserts eq v 1 before left)) where
    there_new : (o : Result ℕ E) → IfOk o (λ n. (n ≡ 1) × Inserts eq v 1 before left) → IfOk o (λ n. 0 < n)
    there_new (Ok n) came = let one = came.0 in omega arith
    there_new (Err e) came = tt

    there : (k : ℕ) → count eq v before.items ≡ k → IfOk r (λ n. 0 < n)
    there zero is = there_new r (vacant is)
    there (suc k) is = subst (λ (o : Result ℕ E). IfOk o (λ n. 0 < n)) (sym (occupied (omega arith)).0) (omega arith)

    listed_new : (o : Result ℕ E) → count eq v before.items ≡ 0 → IfOk o (λ n. (n ≡ 1) × Inserts eq v 1 before left) → IfOk o (λ n. ChangesOnly eq v n before left)
    listed_new (Ok n) none came =
        let one = came.0 in
        let now = count_inserted laws before left v 1 came.1.added in
        record { changed = omega arith; others = λ w other. count_inserted_other laws before left w v 1 came.1.added other }
    listed_new (Err e) none came = tt

    listed : (k : ℕ) → count eq v before.items ≡ k → IfOk r (λ n. ChangesOnly eq v n before left)
    listed zero is = listed_new r is (vacant is)
    listed (suc k) is =
        let same = occupied (omega arith) in
        subst (λ (o : Result ℕ E). IfOk o (λ n. ChangesOnly eq v n before left)) (sym same.0) (record {
          changed = ap (λ (b : Bag T S). count eq v b.items) same.1;
          others = λ w other. ap (λ (b : Bag T S). count eq w b.items) same.1;
        })

  -- the bag that came back is the one that the entry left
  came_back : (after : Bag T S) → after ≡ left → IfOk r (λ n. ChangesOnly eq v n before left) → IfOk r (λ n. ChangesOnly eq v n before after)
  came_back after same h = subst (λ (b : Bag T S). IfOk r (λ n. ChangesOnly eq v n before b)) (sym same) h

pub returns-clause-there : goal.returns-clause-there
returns-clause-there g c = there g.met.T.Eq.laws _ _ _ _ c.or_insert.ensures.occupied c.or_insert.ensures.vacant _ refl

pub returns-clause-listed : goal.returns-clause-listed
returns-clause-listed g c =
    let occupied = rw (c.entry.ensures.value, c.entry.ensures.unchanged) at c.or_insert.ensures.occupied in
    let vacant = rw (c.entry.ensures.value, c.entry.ensures.unchanged) at c.or_insert.ensures.vacant in
    came_back g.met.T.Eq.laws c.args.stock.now c.or_insert.new.self.0 c.args.article c.or_insert.result _ (search rules) (listed g.met.T.Eq.laws c.args.stock.now c.or_insert.new.self.0 c.args.article c.or_insert.result occupied vacant _ refl)
