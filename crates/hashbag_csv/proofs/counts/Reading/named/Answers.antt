use Rattle.std.proofs.Common.{◌≡◌, ℕ, ◌<◌, ◌≤◌, Option, None, Some, MatchOption, arith, ◌∙◌, ap}
use Rattle.std.specs.Option.{unwrap_or}
use Rattle.std.specs.Result.{result_unwrap_or}
use Rattle.std.proofs.lemmas.Fmt.{parse-decimal}
use Rattle.hashbag_csv.specs.Decimals.{most_decimals}
use Rattle.hashbag_csv.specs.Scales.{IsWidestScale}
use Rattle.hashbag_csv.specs.declared.scale.Mark.{Mark}
use Rattle.hashbag_csv.specs.declared.scale.Scale.{Scale}
use Rattle.hashbag_csv.proofs.counts.Reading.named.Goals as goal

-- there is a scale with at most 9 decimals
widest : (d n : ℕ) (mark : Mark) (made : Option Scale) (other : Scale) → MatchOption made (most_decimals < d) (IsWidestScale d mark) → d ≡ n → n ≤ 9 → (unwrap_or made other).decimals ≡ n
widest d n mark None other past is few = absurd (omega arith)
widest d n mark (Some scale) other made is few = made.0 ∙ is

pub returns-clause-decimals : goal.returns-clause-decimals
returns-clause-decimals c n few is =
    let read = parse-decimal 32 n c.args.decimals.now c.parse.result (omega arith) (omega arith) is c.parse.ensures.value.0 in
    let decimals : c.unwrap_or-decimals.result ≡ n = c.unwrap_or-decimals.ensures ∙ ap (λ r. result_unwrap_or r 0) read in
    ap (λ (s : Scale). s.decimals) c.unwrap_or.ensures ∙ widest c.unwrap_or-decimals.result n _ c.new.result c.whole.result c.new.ensures decimals few
