use Rattle.std.proofs.Common.{◌<◌, length, ◌∙◌, ap, arith}
use Rattle.std.proofs.lemmas.Bool.Decides.{nat_tests}
use Rattle.std.specs.Char.{is_ascii_digit}
use Rattle.std.specs.List.{list_all}
use Rattle.hashbag_csv.proofs.NumberLemmas.{numeral_is}
use Rattle.hashbag_csv.proofs.numbers.are_digits.Goals as goal

pub returns : goal.returns
returns c =
    let some : 0 < length c.args.text.now = let is = c.is_empty.ensures in let not = c.if-is_empty.false in grind (arith, nat_tests) in
    numeral_is c.has_digits_alone.result c.args.text.now some (c.has_digits_alone.ensures ∙ ap (list_all is_ascii_digit) c.as_bytes.ensures.value)
