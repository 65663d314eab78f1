use Rattle.std.proofs.Common.{max, Bool, List, ◌∙◌, ap, arith}
use Rattle.std.proofs.lemmas.Result.{err_from_is_err_and}
use Rattle.hashbag_core.specs.Occurrences.{count, SameCounts}
use Rattle.hashbag_ops.specs.Unions.{IsUnion}
use Rattle.hashbag_ops.proofs.third.union.Goals as goal

-- a union of two lists is one of lists with the same counts
union_of_same : {T : Type 0} (eq : T → T → Bool) (X X' Y Y' Z : List T) → SameCounts eq X X' → SameCounts eq Y Y' → IsUnion eq X Y Z → IsUnion eq X' Y' Z
union_of_same eq X X' Y Y' Z first second union = λ v.
    union v ∙ ap (λ n. max n (count eq v Y)) (first v) ∙ ap (λ n. max (count eq v X') n) (second v)

pub returns-in_err-keep_most-clause-only_memory : goal.returns-in_err-keep_most-clause-only_memory
returns-in_err-keep_most-clause-only_memory g c = λ Z union few.
    let same = union_of_same g.T.PartialEq.eq c.args.a.now.items c.in_ok-bag.bag.items c.args.b.now.items c.in_ok-clone.field-0.items Z c.in_ok-bag.ensures.counts c.in_ok-clone.ensures.counts union in
    let limit = c.in_ok-bag.ensures.limit in
    let memory = c.in_err-keep_most.ensures.only_memory Z same (omega (arith, few, limit)) in
    let error = err_from_is_err_and c.from_residual-in_err-keep_most.result c.from_residual-in_err-keep_most.ensures.1 in
    rw (error.1, error.2) memory
