use Rattle.std.proofs.Common.{◌≡◌, ℕ, String, Global, Result, Ok, Err, IfOk, map, sym, subst}
use Rattle.std.specs.Borrow.{Bor}
use Rattle.std.specs.Global.{Vec}
use Rattle.hashbag_core.specs.Bag.{Bag}
use Rattle.hashbag_core.specs.Walks.{seen}
use Rattle.hashbag_words_lib.specs.Choice.{AreChosen}
use Rattle.hashbag_words_lib.specs.declared.choice.Order.{Order}
use Rattle.hashbag_words_lib.specs.declared.choice.Order.TheVariants.{Ascending, MostCommon}
use Rattle.hashbag_words_lib.proofs.choice.chosen.Goals as goal

by_order : {S E : Type 0} (r : Result (Vec (Bor (String Global) × ℕ)) E) (bag : Bag (String Global) S) (order is : Order) → order ≡ is
    → IfOk r (λ rows. AreChosen is bag (map seen rows.items)) → IfOk r (λ rows. AreChosen order bag (map seen rows.items))
by_order r bag order is e h = subst (λ (o : Order). IfOk r (λ rows. AreChosen o bag (map seen rows.items))) (sym e) h

both : {X E : Type 0} (P Q : X → Type 0) (r : Result X E) → IfOk r P → IfOk r Q → IfOk r (λ x. P x × Q x)
both P Q (Ok x) p q = (p, q)
both P Q (Err e) p q = tt

pub returns-in-Ascending : goal.returns-in-Ascending
returns-in-Ascending g c = by_order c.rising.result c.args.bag.now c.args.order Ascending c.in-Ascending.is (both _ _ c.rising.result c.rising.ensures.walk c.rising.ensures.rising)

pub returns-in-MostCommon : goal.returns-in-MostCommon
returns-in-MostCommon g c = by_order c.most_common.result c.args.bag.now c.args.order (MostCommon c.in-MostCommon.k) c.in-MostCommon.is c.most_common.ensures.first
