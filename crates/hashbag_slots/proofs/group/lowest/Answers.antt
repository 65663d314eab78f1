use Rattle.std.proofs.Common.{w64}
use Rattle.std.proofs.lemmas.Nat.Bits.{bit_at-trailing_zeros}
use Rattle.std.specs.Int.{trailing_zeros}
use Rattle.hashbag_slots.proofs.GroupLemmas.{first_told, first_below}
use Rattle.hashbag_slots.proofs.group.lowest.Goals as goal

pub returns-clause-first : goal.returns-clause-first
returns-clause-first c test at until le tells =
    let low = bit_at-trailing_zeros w64 c.args.bits c.requires.positive c.ranges.bits.fits in
    first_told test c.args.from at until c.args.bits tells (trailing_zeros w64 c.args.bits) low.1 low.2 le

pub returns-clause-before_until : goal.returns-clause-before_until
returns-clause-before_until c test at until tells =
    let low = bit_at-trailing_zeros w64 c.args.bits c.requires.positive c.ranges.bits.fits in
    first_below test c.args.from at until c.args.bits tells (trailing_zeros w64 c.args.bits) low.1 low.2
