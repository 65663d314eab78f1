use Rattle.std.proofs.Common.{◌≡◌, ℕ, List, ◌++◌, IsUtf8}
use Rattle.std.specs.Fmt.{HasWritten, IsPlainFormatter}
use Rattle.std.specs.Str.Iter.{chars_rest}
use Rattle.hashbag_csv.specs.Escaped.{escaped_text}
use Rattle.hashbag_csv.proofs.escaped.EscapedDisplay.fmt.Given as goal

-- the characters so far, as they are shown
abbrev pub invariant-loop-character : goal.invariant-loop-character
invariant-loop-character g l =
    IsUtf8 (chars_rest l.character-iterator) × (IsPlainFormatter l.fn.f
    → (done : List ℕ) × HasWritten g.W.Write.write_str_gives l.fn.f done l.f × (done ++ escaped_text (chars_rest l.character-iterator) ≡ escaped_text l.fn.self.0.now))
