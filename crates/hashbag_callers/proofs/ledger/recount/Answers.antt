use Rattle.std.proofs.Common.{◌≡◌, ℕ, Bool, sym, subst, ◌∙◌, rules}
use Rattle.std.specs.Cmp.{IsEquivalence}
use Rattle.hashbag.specs.Bag.{Bag, IsBagOf}
use Rattle.hashbag.specs.Occurrences.{recount}
use Rattle.hashbag.proofs.CallerLemmas.{count_set, count_set_other}
use Rattle.hashbag_callers.specs.Ledger.{ChangesOnly}
use Rattle.hashbag_callers.proofs.ledger.recount.Goals as goal

module _ {T S : Type 0} {eq : T → T → Bool} (laws : IsEquivalence eq) (before left : Bag T S) (v : T) where
  -- what a count that was set to n says of every value
  set_to : (n found : ℕ) → n ≡ found → IsBagOf eq before (recount eq v n before.items) left → ChangesOnly eq v found before left
  set_to n found is bag = record {
    changed = count_set laws before left v n bag ∙ is;
    others = λ w other. count_set_other laws before left w v n bag other;
  }

  -- the bag that came back is the one that the entry left
  came_back : (after : Bag T S) (found : ℕ) → after ≡ left → ChangesOnly eq v found before left → ChangesOnly eq v found before after
  came_back after found same h = subst (λ (b : Bag T S). ChangesOnly eq v found before b) (sym same) h

pub returns-clause-present : goal.returns-clause-present
returns-clause-present g c = λ there.
    let changes = rw (c.entry.ensures.value, c.entry.ensures.unchanged) at c.in_ok-stock.ensures.changes in
    let set = changes.present there in
    came_back g.met.T.Eq.laws c.args.stock.now c.in_ok-stock.field-0.bag.now c.args.article _ c.args.found (search rules)
    (set_to g.met.T.Eq.laws c.args.stock.now c.in_ok-stock.field-0.bag.now c.args.article set.0 c.args.found (sym set.1.leaves ∙ set.1.met) set.3)
