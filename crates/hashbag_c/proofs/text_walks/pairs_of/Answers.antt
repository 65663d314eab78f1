use Rattle.std.proofs.Common.{◌≡◌, ℕ, List, sym, ◌∙◌, subst}
use Rattle.std.specs.Str.{bytes_eq}
use Rattle.hashbag_core.specs.Walks.{IsSetWalkOf}
use Rattle.hashbag_c.proofs.WalkedLemmas.{all_of}
use Rattle.hashbag_c.proofs.text_walks.pairs_of.Goals as goal

pub returns-clause-walk : goal.returns-clause-walk
returns-clause-walk c =
    let whole : c.loop-value.pairs.items ≡ c.set_iter-value-items.result =
    all_of c.loop-value.pairs.items c.loop-value.value-iterator c.set_iter-value-items.result c.in-None.ensures.steps.0 (c.loop-value.invariant.parts ∙ c.into_iter-value-iterator.ensures.into_iter_gives) in
    subst (λ (W : List (List ℕ × ℕ)). IsSetWalkOf bytes_eq c.args.bag.now W) (sym whole) c.set_iter-value-items.ensures
