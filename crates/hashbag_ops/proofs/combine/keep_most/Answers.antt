use Rattle.std.proofs.Common.{◌≡◌, ◌+◌, ◌-◌, max, ◌++◌, Bool, List, Result, Ok, Err, OnOk, length, length-append, ◌∙◌, arith}
use Rattle.std.specs.Cmp.{IsEquivalence}
use Rattle.hashbag_core.specs.EqualityLaws.{count_append}
use Rattle.hashbag_core.specs.Occurrences.{count}
use Rattle.hashbag_ops.specs.Unions.{IsSumOf, IsUnion}
use Rattle.hashbag_ops.proofs.Lengths.{same_length}
use Rattle.hashbag_ops.proofs.combine.keep_most.Goals.{After-take_away}
use Rattle.hashbag_ops.proofs.combine.keep_most.Goals as goal

-- a union of X and Y is as long as X and what Y has more together
union_long : {T : Type 0} {eq : T → T → Bool} (laws : IsEquivalence eq) (X Y more Z : List T) → ((v : T) → count eq v more ≡ count eq v Y - count eq v X) → IsUnion eq X Y Z → length Z ≡ length X + length more
union_long {eq = eq} laws X Y more Z rest union =
    same_length laws Z (X ++ more) (λ v.
    let greater : count eq v Z ≡ max (count eq v X) (count eq v Y) = union v in
    let surplus : count eq v more ≡ count eq v Y - count eq v X = rest v in
    let parts = count_append laws v X more in
    omega (arith, greater, surplus, parts))
    ∙ length-append X more

long_union : (g : _) (c : After-take_away g) (Z : List g.row.T.Denot) → IsUnion g.T.PartialEq.eq c.args.into.now.items c.args.from.items Z → length Z ≡ length c.args.into.now.items + length c.take_away.new.bag.items
long_union g c Z union = union_long g.met.T.Eq.laws c.args.into.now.items c.args.from.items c.take_away.new.bag.items Z c.take_away.ensures.counts union

pub returns-clause-too_many : goal.returns-clause-too_many
returns-clause-too_many g c = λ Z union.
    let long = long_union g (goal.at.returns-clause-too_many g c).After-take_away Z union in
    (λ is. let over = c.merge.ensures.too_many.0 is in omega (arith, long, over), λ over. c.merge.ensures.too_many.1 (omega (arith, long, over)))

pub returns-clause-only_memory : goal.returns-clause-only_memory
returns-clause-only_memory g c = λ Z union fits.
    let long = long_union g (goal.at.returns-clause-only_memory g c).After-take_away Z union in
    c.merge.ensures.only_memory (omega (arith, long, fits))

-- the sum of X and what Y has more is their union
union_of_rest : {T : Type 0} (A E : Type 0) (eq : T → T → Bool) (X Y more Z : List T) → ((v : T) → count eq v more ≡ count eq v Y - count eq v X) → (r : Result A E) → OnOk r (IsSumOf eq X more Z) → OnOk r (IsUnion eq X Y Z)
union_of_rest A E eq X Y more Z rest (Ok x) sum = λ v. let total = sum v in let surplus = rest v in omega (arith, total, surplus)
union_of_rest A E eq X Y more Z rest (Err e) sum = tt

pub returns-clause-counts : goal.returns-clause-counts
returns-clause-counts g c =
    union_of_rest _ _ g.T.PartialEq.eq c.args.into.now.items c.args.from.items c.take_away.new.bag.items c.merge.new.into.items c.take_away.ensures.counts c.merge.result
    c.merge.ensures.counts
