use Rattle.std.proofs.Common.{◌-◌, arith, w64}
use Rattle.std.proofs.lemmas.Nat.{and_le_r}
use Rattle.std.proofs.lemmas.Nat.Bits.{bit_at-trailing_zeros}
use Rattle.std.specs.Int.{trailing_zeros}
use Rattle.hashbag_slots.proofs.GroupLemmas.{first_told, first_below, rest_told}
use Rattle.hashbag_slots.proofs.group.take_lowest.Goals as goal

pub returns-clause-first : goal.returns-clause-first
returns-clause-first c test at until le tells =
    let lowest = bit_at-trailing_zeros w64 c.args.bits c.requires.positive c.ranges.bits.fits in
    first_told test c.args.from at until c.args.bits tells (trailing_zeros w64 c.args.bits) lowest.1 lowest.2 le

pub returns-clause-before_until : goal.returns-clause-before_until
returns-clause-before_until c test at until tells =
    let lowest = bit_at-trailing_zeros w64 c.args.bits c.requires.positive c.ranges.bits.fits in
    first_below test c.args.from at until c.args.bits tells (trailing_zeros w64 c.args.bits) lowest.1 lowest.2

pub returns-clause-rest : goal.returns-clause-rest
returns-clause-rest c test at until tells =
    let lowest = bit_at-trailing_zeros w64 c.args.bits c.requires.positive c.ranges.bits.fits in
    rest_told test c.args.from at until c.args.bits tells (trailing_zeros w64 c.args.bits) lowest.1 lowest.2 c.requires.positive

pub returns-clause-fewer : goal.returns-clause-fewer
returns-clause-fewer c = let some = c.requires.positive in let less = and_le_r c.args.bits (c.args.bits - 1) in omega arith
