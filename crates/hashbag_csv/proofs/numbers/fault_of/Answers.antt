use Rattle.std.proofs.Common.{arith}
use Rattle.hashbag_csv.specs.Decimals.{IsDecimal, units}
use Rattle.hashbag_csv.specs.Marks.{code_of}
use Rattle.hashbag_csv.proofs.NumberLemmas.{parts_decimal, past}
use Rattle.hashbag_csv.proofs.numbers.fault_of.Goals as goal

-- a number with decimals that is past the greatest
pub returns : goal.returns
returns c =
    let m = code_of c.args.scale.mark in
    let D = c.args.scale.decimals in
    let s = c.args.digits.now in
    let is = parts_decimal m D s c.in-Some.ensures.0 (omega (arith, c.in-Some.ensures.1, c.if-decimals-scale.false)) in
    (is, past c.args.scale.most (IsDecimal m D s) (units m D s) is c.requires, c.in_ok-greatest.ensures.reads.0, c.in_ok-greatest.ensures.reads.1)
