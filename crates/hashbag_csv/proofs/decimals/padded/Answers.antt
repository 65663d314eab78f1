use Rattle.std.proofs.Common.{◌++◌, arith, ◌∙◌, ap}
use Rattle.std.specs.String.{string_bytes, string_len}
use Rattle.hashbag_csv.proofs.DecimalLemmas.{padded_text}
use Rattle.hashbag_csv.proofs.decimals.padded.Goals as goal

-- as many zeros as are missing, then the digits
pub returns : goal.returns
returns c =
    let digits = string_bytes c.in_ok-digits.digits in
    padded_text c.args.width c.args.number (string_len c.zeros.text) (string_bytes c.push_str.new.self) (string_bytes c.zeros.text) digits c.in_ok-digits.ensures.ok c.zeros.invariant.zeros
    (omega (arith, c.zeros.invariant.few, c.saturating_sub-missing.ensures, c.zeros-test.false, c.len.ensures, c.len-in-zeros.ensures))
    (c.in_ok-push_str.ensures.bytes ∙ ap (λ l. string_bytes c.zeros.text ++ l) c.as_str.ensures.value)
