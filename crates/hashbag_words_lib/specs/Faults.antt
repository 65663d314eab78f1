-- What holds of a line that a call rejected.
use Rattle.std.specs.Prelude.{◌≡◌, Result, IfErr}
use Rattle.hashbag_words_lib.specs.declared.errors.BadLine.{BadLine}
use Rattle.hashbag_words_lib.specs.declared.errors.InputFault.{InputFault}
use Rattle.hashbag_words_lib.specs.declared.errors.InputFault.TheVariants.{Line}

-- if a call failed because a line is bad, P
abbrev pub OnBadLine : {T : Type 0} → Result T InputFault → Type 0 → Type 0
OnBadLine result P = IfErr result (λ e. (bad : BadLine) → e ≡ Line bad → P)
