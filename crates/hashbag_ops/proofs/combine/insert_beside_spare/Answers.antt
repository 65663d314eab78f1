use Rattle.std.proofs.Common.{refl, arith}
use Rattle.std.proofs.lemmas.Iterator.Consumers.{YieldsList-from_first}
use Rattle.hashbag_table.specs.Tables.{most_used}
use Rattle.hashbag_core.specs.Inserts.{Inserts, InTurn}
use Rattle.hashbag_core.proofs.InsertLemmas.{stays_in_turn}
use Rattle.hashbag_ops.proofs.Spared.{none_so_far, one_more, has_rest, in_turn, summed, adds_by_spare, adds_all, no_room_for_lacked, takes_one, takes_rest, HasRest, IsSum}
use Rattle.hashbag_ops.proofs.combine.insert_beside_spare.Goals.{After-unwrap-then-has_no_room_for, After-unwrap, In-Some, In_default}
use Rattle.hashbag_ops.proofs.combine.insert_beside_spare.Goals as goal

pub pairs-init : goal.pairs-init
pairs-init g c = none_so_far g.T.PartialEq.eq c.args.into.now c.into_iter-pairs.result

-- the pair that came and those after it have room
has_left : (g : _) (c : In-Some g) → HasRest g.T.PartialEq.eq c.pairs.into c.in-Some.n c.next.new.self (most_used c.args.spare)
has_left g c =
    has_rest g.met.T.Eq.laws c.args.from c.args.into.now c.pairs.into c.into_iter-pairs.result c.pairs.pairs c.next.new.self c.in-Some.value c.in-Some.n (most_used c.args.spare) c.into_iter-pairs.ensures.into_iter_gives c.len-len.ensures.bag
    c.pairs.invariant c.in-Some.ensures.steps c.requires.enough c.requires.fits

pub use_spare-requires : goal.use_spare-requires
use_spare-requires g c =
    let left = has_left g (goal.at.use_spare-requires g c).In-Some in
    let room = left.room in
    record { enough = omega (arith, room) }

-- the value that found no room
pub unwrap-requires : goal.unwrap-requires
unwrap-requires g c =
    let left = has_left g (goal.at.unwrap-requires g c).In-Some in
    let few = left.room in
    let fits = left.fits in
    let room = c.use_spare.ensures.room in
    let limit = c.use_spare.ensures.items.limit in
    let len = c.use_spare.ensures.len in
    c.insert_many.ensures.takes (omega (arith, fits, limit, len)) (omega (arith, few, room))

-- that pair was inserted
one_went : (g : _) (c : After-unwrap g) → Inserts g.T.PartialEq.eq c.in-Some.value c.in-Some.n c.use_spare.new.self c.insert_many.new.self
one_went g c = rw c.unwrap.ensures at c.insert_many.ensures.inserted

-- and then those after it
rest_went : (g : _) (c : After-unwrap-then-has_no_room_for g) → InTurn g.T.PartialEq.eq c.next.new.self c.insert_many.new.self c.extend_many.new.self
rest_went g c = in_turn g.met.T.Eq.laws c.next.new.self (rw c.unwrap-then-has_no_room_for.ensures at c.extend_many.ensures.all) (YieldsList-from_first (λ x. x) (λ s. s) c.next.new.self refl)

all_came : (g : _) (c : After-unwrap-then-has_no_room_for g) → IsSum g.T.PartialEq.eq c.args.into.now c.args.from.items c.extend_many.new.self
all_came g c =
    summed g.met.T.Eq.laws c.args.from c.args.into.now c.extend_many.new.self c.into_iter-pairs.result c.into_iter-pairs.ensures.into_iter_gives
    (adds_by_spare g.met.T.Eq.laws c.args.into.now c.pairs.into c.use_spare.new.self c.insert_many.new.self c.extend_many.new.self c.into_iter-pairs.result c.pairs.pairs c.next.new.self c.in-Some.value c.in-Some.n
    c.len-len.ensures.bag c.pairs.invariant c.in-Some.ensures.steps c.use_spare.ensures.items c.use_spare.ensures.len (rw c.unwrap.ensures at c.insert_many.ensures.inserted) (rest_went g c))

-- what comes after it
pub unwrap-requires-then-has_no_room_for : goal.unwrap-requires-then-has_no_room_for
unwrap-requires-then-has_no_room_for g c =
    let left = has_left g (goal.at.unwrap-requires-then-has_no_room_for g c).In-Some in
    let few = left.room in
    let fits = left.fits in
    let room = c.use_spare.ensures.room in
    let limit = c.use_spare.ensures.items.limit in
    let len = c.use_spare.ensures.len in
    let went = one_went g (goal.at.unwrap-requires-then-has_no_room_for g c).After-unwrap in
    let less = (went.less_room (omega (arith, few, room))).room in
    let same = went.added.limit in
    let longer = went.len in
    takes_rest g.met.T.Eq.laws c.next.new.self c.insert_many.new.self c.extend_many.new.self c.extend_many.result c.extend_many.ensures.fails (YieldsList-from_first (λ x. x) (λ s. s) c.next.new.self refl)
    (omega (arith, few, room, less)) (omega (arith, fits, limit, len, same, longer))

pub returns-then-has_no_room_for-clause-counts : goal.returns-then-has_no_room_for-clause-counts
returns-then-has_no_room_for-clause-counts g c = (all_came g (goal.at.returns-then-has_no_room_for-clause-counts g c).After-unwrap-then-has_no_room_for).counts

pub returns-then-has_no_room_for-clause-len : goal.returns-then-has_no_room_for-clause-len
returns-then-has_no_room_for-clause-len g c = (all_came g (goal.at.returns-then-has_no_room_for-clause-len g c).After-unwrap-then-has_no_room_for).len

pub returns-then-has_no_room_for-clause-limit : goal.returns-then-has_no_room_for-clause-limit
returns-then-has_no_room_for-clause-limit g c = (all_came g (goal.at.returns-then-has_no_room_for-clause-limit g c).After-unwrap-then-has_no_room_for).limit

pub returns-then-has_no_room_for-clause-hasher : goal.returns-then-has_no_room_for-clause-hasher
returns-then-has_no_room_for-clause-hasher g c = (all_came g (goal.at.returns-then-has_no_room_for-clause-hasher g c).After-unwrap-then-has_no_room_for).hasher

pub returns-then-has_no_room_for-clause-slots : goal.returns-then-has_no_room_for-clause-slots
returns-then-has_no_room_for-clause-slots g c =
    let left = has_left g (goal.at.returns-then-has_no_room_for-clause-slots g c).In-Some in
    let few = left.room in
    let room = c.use_spare.ensures.room in
    let went = one_went g (goal.at.returns-then-has_no_room_for-clause-slots g c).After-unwrap in
    let turn = rest_went g (goal.at.returns-then-has_no_room_for-clause-slots g c).After-unwrap-then-has_no_room_for in
    let one = went.less_room (omega (arith, few, room)) in
    let less = one.room in
    let same = one.slots in
    let stays = (stays_in_turn g.T.PartialEq.eq c.next.new.self c.insert_many.new.self c.extend_many.new.self turn (omega (arith, few, room, less))).slots in
    let spare = c.use_spare.ensures.slots in
    let larger = c.requires.larger in
    omega (arith, same, stays, spare, larger)

-- there wasn't room for what was lacked
pub returns-then-has_no_room_for-clause-unbuilt : goal.returns-then-has_no_room_for-clause-unbuilt
returns-then-has_no_room_for-clause-unbuilt g c = λ room_for.
    let W = c.into_iter-pairs.result in
    let full = c.has_no_room_for.ensures.full c.if-has_no_room_for.true in
    absurd (no_room_for_lacked g.met.T.Eq.laws c.in-Some.value c.in-Some.n c.args.into.now c.pairs.into W c.pairs.pairs c.next.new.self c.pairs.invariant c.in-Some.ensures.steps full.0 full.1
    (room_for W c.into_iter-pairs.ensures.into_iter_gives))

-- a value that is there, or for which there is room
pub unwrap-requires-in-Some : goal.unwrap-requires-in-Some
unwrap-requires-in-Some g c =
    let left = has_left g (goal.at.unwrap-requires-in-Some g c).In-Some in
    let fits = left.fits in
    takes_one g.met.T.Eq.laws c.pairs.into c.in-Some.value c.in-Some.n c.insert_many-in-Some.result (omega (arith, fits)) c.insert_many-in-Some.ensures.fails
    (c.has_no_room_for.ensures.there c.if-has_no_room_for.false)

pub pairs-preserved : goal.pairs-preserved
pairs-preserved g c =
    let went = rw c.unwrap-in-Some.ensures at c.insert_many-in-Some.ensures.inserted in
    one_more g.T.PartialEq.eq c.in-Some.value c.in-Some.n c.args.into.now c.pairs.into c.insert_many-in-Some.new.self c.into_iter-pairs.result c.pairs.pairs c.next.new.self c.pairs.invariant
    c.in-Some.ensures.steps went (c.has_no_room_for.ensures.there c.if-has_no_room_for.false)

-- all went into the slots there were
all_fitted : (g : _) (c : In_default g) → IsSum g.T.PartialEq.eq c.args.into.now c.args.from.items c.pairs.into
all_fitted g c =
    summed g.met.T.Eq.laws c.args.from c.args.into.now c.pairs.into c.into_iter-pairs.result c.into_iter-pairs.ensures.into_iter_gives
    (adds_all g.met.T.Eq.laws c.args.into.now c.pairs.into c.into_iter-pairs.result c.pairs.pairs c.len-len.ensures.bag c.pairs.invariant c.in_default.ensures.steps.0)

pub returns-clause-counts : goal.returns-clause-counts
returns-clause-counts g c = (all_fitted g (goal.at.returns-clause-counts g c).In_default).counts

pub returns-clause-len : goal.returns-clause-len
returns-clause-len g c = (all_fitted g (goal.at.returns-clause-len g c).In_default).len

pub returns-clause-limit : goal.returns-clause-limit
returns-clause-limit g c = (all_fitted g (goal.at.returns-clause-limit g c).In_default).limit

pub returns-clause-hasher : goal.returns-clause-hasher
returns-clause-hasher g c = (all_fitted g (goal.at.returns-clause-hasher g c).In_default).hasher
