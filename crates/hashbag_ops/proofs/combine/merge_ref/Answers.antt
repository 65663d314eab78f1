use Rattle.std.proofs.Common.{◌+◌, Bool, List, Result, Ok, Err, OnOk, ap, sym, ◌∙◌}
use Rattle.hashbag_core.specs.Occurrences.{count, SameCounts}
use Rattle.hashbag_ops.specs.Unions.{IsSumOf}
use Rattle.hashbag_ops.proofs.combine.merge_ref.Goals as goal

-- the sum with a list is the sum with one that has the same counts
sum_of_same : {T : Type 0} (A E : Type 0) (eq : T → T → Bool) (X Y Y' Z : List T) → SameCounts eq Y Y' → (r : Result A E) → OnOk r (IsSumOf eq X Y' Z) → OnOk r (IsSumOf eq X Y Z)
sum_of_same A E eq X Y Y' Z same (Ok x) sum = λ v. sum v ∙ ap (λ n. count eq v X + n) (sym (same v))
sum_of_same A E eq X Y Y' Z same (Err e) sum = tt

pub returns-clause-counts : goal.returns-clause-counts
returns-clause-counts g c =
    sum_of_same _ _ g.T.PartialEq.eq c.args.into.now.items c.args.from.now.items c.in_ok-copy.copy.items c.merge.new.into.items c.in_ok-copy.ensures.counts c.merge.result
    c.merge.ensures.counts
