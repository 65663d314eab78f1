use Rattle.std.proofs.Common.{◌≡◌, ◌≤◌, ℕ, List, ◌++◌, encode_utf8_all}
use Rattle.std.specs.Char.Escape.{escape_default}
use Rattle.std.specs.Char.Iter.{escape_end, escape_rest}
use Rattle.std.specs.Fmt.{HasWritten, IsPlainFormatter}
use Rattle.hashbag_csv.proofs.escaped.write_shown.Given as goal

-- the characters of the escape so far
abbrev pub invariant-loop-part : goal.invariant-loop-part
invariant-loop-part g l =
    (escape_end l.part-iterator ≤ 10) × (IsPlainFormatter l.fn.f
    → (done : List ℕ) × HasWritten g.W.Write.write_str_gives l.fn.f done l.f × (done ++ encode_utf8_all (escape_rest l.part-iterator) ≡ encode_utf8_all (escape_default l.fn.character)))
