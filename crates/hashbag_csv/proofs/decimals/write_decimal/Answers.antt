use Rattle.std.proofs.Common.{◌≡◌, ℕ, List, ◌++◌, ◌%◌, ◌<◌, arith, ◌∙◌, ap, subst, sym, length}
use Rattle.std.proofs.Math.Nat.{mod-le}
use Rattle.std.specs.Str.Parse.{AllDigits, digits_value}
use Rattle.std.specs.String.{string_bytes}
use Rattle.hashbag_csv.proofs.DecimalLemmas.{alone_text, alone_written, code_low, joined_text, joined_written, padded_is, unit_some, under_unit}
use Rattle.hashbag_csv.proofs.decimals.write_decimal.Goals as goal

pub nonzero_div-number : goal.nonzero_div-number
nonzero_div-number c = let some = unit_some c.args.scale.decimals in omega (arith, c.unit_of-unit.ensures, some)

pub nonzero_rem-number : goal.nonzero_rem-number
nonzero_rem-number c = let some = unit_some c.args.scale.decimals in omega (arith, c.unit_of-unit.ensures, some)

pub returns-then-scale-eq0-clause-text : goal.returns-then-scale-eq0-clause-text
returns-then-scale-eq0-clause-text c =
    alone_text c.args.scale.mark c.args.scale.decimals c.args.number c.unit_of-unit.result (string_bytes c.in_ok-text.text) c.if-scale-eq0.true c.unit_of-unit.ensures c.in_ok-text.ensures.ok

pub returns-then-scale-eq0-clause-reads : goal.returns-then-scale-eq0-clause-reads
returns-then-scale-eq0-clause-reads c =
    alone_written c.args.scale.mark c.args.scale.decimals c.args.number c.unit_of-unit.result (string_bytes c.in_ok-text.text) (omega (arith, c.ranges.number)) c.if-scale-eq0.true c.unit_of-unit.ensures c.in_ok-text.ensures.ok

-- the whole part, the mark and the decimals
pub returns : goal.returns
returns c =
    let some : 0 < c.args.scale.decimals = omega (arith, c.if-scale-eq0.false) in
    let least = mod-le c.args.number c.unit_of-unit.result in
    let under = under_unit c.args.scale.decimals c.args.number c.unit_of-unit.result c.unit_of-unit.ensures in
    let part = padded_is c.args.scale.decimals (c.args.number % c.unit_of-unit.result) some under (omega (arith, least, c.ranges.number)) in
    let low = code_low c.args.scale.mark in
    let marked = c.in_ok-push.ensures.bytes ∙ ap (λ l. string_bytes c.in_ok-text.text ++ l) (c.in_ok-push.ensures.ascii (omega (arith, low, c.character.ensures))) in
    let whole = c.in_ok-push_str.ensures.bytes ∙ ap (λ l. string_bytes c.push.new.self ++ l) c.as_str.ensures.value in
    record {
      text = joined_text c.args.scale.mark c.args.scale.decimals c.args.number c.unit_of-unit.result c.character.result (string_bytes c.in_ok-text.text) (string_bytes c.push.new.self) (string_bytes c.in_ok-padded.field-0)
          (string_bytes c.push_str.new.self) (λ none. omega (arith, c.if-scale-eq0.false, none)) c.unit_of-unit.ensures c.in_ok-text.ensures.ok c.character.ensures marked whole c.in_ok-padded.ensures;
      reads = joined_written c.args.scale.mark c.args.scale.decimals c.args.number c.unit_of-unit.result c.character.result (string_bytes c.in_ok-text.text) (string_bytes c.push.new.self) (string_bytes c.in_ok-padded.field-0)
          (string_bytes c.push_str.new.self) (omega (arith, c.ranges.number)) some c.unit_of-unit.ensures c.in_ok-text.ensures.ok c.character.ensures marked whole
          (subst (λ (l : List ℕ). AllDigits 10 l × (length l ≡ c.args.scale.decimals) × (digits_value 10 l ≡ c.args.number % c.unit_of-unit.result)) (sym c.in_ok-padded.ensures) part);
    }
