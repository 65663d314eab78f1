use Rattle.std.proofs.Common.{◌∙◌, ap, refl, arith}
use Rattle.std.proofs.lemmas.Iterator.Consumers.{YieldsList-from_first}
use Rattle.hashbag_core.specs.Inserts.{InTurn}
use Rattle.hashbag_core.proofs.InsertLemmas.{StaysWithin}
use Rattle.hashbag_ops.proofs.Spared.{adds_in_turn, in_turn, stays_lacked, summed, IsSum}
use Rattle.hashbag_ops.proofs.Sums.{takes_pairs}
use Rattle.hashbag_ops.proofs.combine.merge.Goals.{After-unwrap}
use Rattle.hashbag_ops.proofs.combine.merge.Goals as goal

-- no pair fails
pub unwrap-requires : goal.unwrap-requires
unwrap-requires g c =
    let walk = c.into_iter.ensures.into_iter_gives in
    let total = walk.total in
    let same = c.in_ok-make_room.ensures.len in
    let limit = c.in_ok-make_room.ensures.limit in
    takes_pairs g.met.T.Eq.laws c.make_room.new.into c.extend_many.new.self c.extend_many.result c.args.into.now.items
    (λ v some. let kept = c.in_ok-make_room.ensures.counts v in omega (arith, kept, some))
    c.extend_many.ensures.fails (YieldsList-from_first (λ x. x) (λ s. s) c.into_iter.result refl)
    (c.in_ok-make_room.ensures.room c.into_iter.result walk) (omega (arith, same, limit, total))

-- the pairs of the walk were inserted in turn
walk_went : (g : _) (c : After-unwrap g) → InTurn g.T.PartialEq.eq c.into_iter.result c.make_room.new.into c.extend_many.new.self
walk_went g c = in_turn g.met.T.Eq.laws c.into_iter.result (rw c.unwrap.ensures at c.extend_many.ensures.all) (YieldsList-from_first (λ x. x) (λ s. s) c.into_iter.result refl)

is_sum : (g : _) (c : After-unwrap g) → IsSum g.T.PartialEq.eq c.make_room.new.into c.args.from.items c.extend_many.new.self
is_sum g c =
    let all = rw c.unwrap.ensures at c.extend_many.ensures.all in
    summed g.met.T.Eq.laws c.args.from c.make_room.new.into c.extend_many.new.self c.into_iter.result c.into_iter.ensures.into_iter_gives
    (adds_in_turn g.met.T.Eq.laws c.into_iter.result c.make_room.new.into c.extend_many.new.self all.bag (walk_went g c))

-- all pairs that came had room
stays_within : (g : _) (c : After-unwrap g) → StaysWithin g.T.PartialEq.eq c.make_room.new.into c.extend_many.new.self
stays_within g c =
    stays_lacked g.met.T.Eq.laws c.args.into.now.items c.into_iter.result c.make_room.new.into c.extend_many.new.self
    (λ v some. let kept = c.in_ok-make_room.ensures.counts v in omega (arith, kept, some)) (walk_went g c) (c.in_ok-make_room.ensures.room c.into_iter.result c.into_iter.ensures.into_iter_gives)

pub returns-clause-counts : goal.returns-clause-counts
returns-clause-counts g c =
    let sum = is_sum g (goal.at.returns-clause-counts g c).After-unwrap in
    λ v.
    let whole = sum.counts v in
    let kept = c.in_ok-make_room.ensures.counts v in
    omega (arith, whole, kept)

pub returns-clause-len : goal.returns-clause-len
returns-clause-len g c =
    let sum = is_sum g (goal.at.returns-clause-len g c).After-unwrap in
    let whole = sum.len in
    let kept = c.in_ok-make_room.ensures.len in
    omega (arith, whole, kept)

pub returns-clause-limit : goal.returns-clause-limit
returns-clause-limit g c =
    let sum = is_sum g (goal.at.returns-clause-limit g c).After-unwrap in
    sum.limit ∙ c.in_ok-make_room.ensures.limit

pub returns-clause-hasher : goal.returns-clause-hasher
returns-clause-hasher g c =
    let sum = is_sum g (goal.at.returns-clause-hasher g c).After-unwrap in
    sum.hasher ∙ c.in_ok-make_room.ensures.hasher

pub returns-clause-slots : goal.returns-clause-slots
returns-clause-slots g c =
    let stays = stays_within g (goal.at.returns-clause-slots g c).After-unwrap in
    let same = stays.slots in
    let more = c.in_ok-make_room.ensures.slots in
    omega (arith, same, more)

pub returns-clause-unbuilt : goal.returns-clause-unbuilt
returns-clause-unbuilt g c = λ enough.
    let stays = stays_within g (goal.at.returns-clause-unbuilt g c).After-unwrap in
    let walk = c.into_iter.ensures.into_iter_gives in
    stays.built ∙ ap (λ b. b.tables.built) (c.in_ok-make_room.ensures.enough c.into_iter.result walk (enough c.into_iter.result walk))
