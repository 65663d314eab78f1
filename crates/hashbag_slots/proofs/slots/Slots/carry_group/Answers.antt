use Rattle.std.proofs.Common.{◌≡◌, ℕ, ◌+◌, ◌-◌, Bool, subst, arith}
use Rattle.hashbag_slots.specs.Hashing.{hash_under}
use Rattle.hashbag_slots.specs.Slots.{is_live, slot_at}
use Rattle.hashbag_slots.specs.Columns.{CarriesInto}
use Rattle.hashbag_slots.proofs.Carrying.{CarriesInto-dead, CarriesInto-join, CarriesInto-skip}
use Rattle.hashbag_slots.proofs.GroupLemmas.{none_told, tells_fresh}
use Rattle.hashbag_slots.proofs.slots.Slots.carry_group.Goals as goal

pub live-init : goal.live-init
live-init g c =
    let from = c.args.from in let room = c.requires.within in let live : ℕ → Bool = λ p. is_live (slot_at c.args.older.now.slots p) in (
      from,
      omega arith,
      omega arith,
      tells_fresh live from (from + 16) c.live_among-ahead.result c.live_among-ahead.ensures,
      CarriesInto-dead g.T.PartialEq.eq _ from (from - from) c.args.self.now c.args.older.now (omega arith) (λ p a b. absurd (omega arith)) c.requires.apart c.requires.reached,
    )

pub take_lowest-place-requires-clause-fits : goal.take_lowest-place-requires-clause-fits
take_lowest-place-requires-clause-fits g c = let room = c.requires.within in let value = c.slots-slots.ensures.value in let most = c.slots-slots.ensures.bound in omega arith

pub live-preserved : goal.live-preserved
live-preserved g c =
    let i = c.live.invariant in let from = c.args.from in let place = c.take_lowest-place.result.0 in
    let live : ℕ → Bool = λ p. is_live (slot_at c.args.older.now.slots p) in
    let told = c.take_lowest-place.ensures in
    let first = told.first live i.0 (from + 16) i.1 i.3 in
    let below = told.before_until live i.0 (from + 16) i.3 in
    let low = first.low in let room = c.requires.within in let begun = i.1 in (
      place + 1,
      omega arith,
      omega arith,
      told.rest live i.0 (from + 16) i.3,
      CarriesInto-join g.T.PartialEq.eq _ from place 1 c.args.self.now c.args.older.now c.live.self c.live.older c.carry_slot.new.self c.carry_slot.new.older (omega arith)
          (CarriesInto-skip g.T.PartialEq.eq _ from i.0 place c.args.self.now c.args.older.now c.live.self c.live.older begun low (omega arith) first.before i.4)
          c.carry_slot.ensures,
    )

pub live-smaller : goal.live-smaller
live-smaller g c = c.take_lowest-place.ensures.fewer

pub returns : goal.returns
returns g c =
    let i = c.live.invariant in let from = c.args.from in let room = c.requires.within in
    let live : ℕ → Bool = λ p. is_live (slot_at c.args.older.now.slots p) in
    let none = none_told live from i.0 (from + 16) c.live.ahead i.3 i.1 c.live-test.false in
    let all : from + 16 - from ≡ 16 = omega arith in
    subst (λ n. CarriesInto g.T.PartialEq.eq (hash_under g.T.Hash.hash_input g.S.BuildHasher g.S.Hasher.Hasher c.args.state.now) from n c.args.self.now c.args.older.now c.live.self c.live.older) all
    (CarriesInto-skip g.T.PartialEq.eq _ from i.0 (from + 16) c.args.self.now c.args.older.now c.live.self c.live.older i.1 i.2 room none i.4)
