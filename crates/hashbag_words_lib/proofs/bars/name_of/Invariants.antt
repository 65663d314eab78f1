use Rattle.std.proofs.Common.{◌≡◌, map}
use Rattle.hashbag_words_lib.specs.Bars.{shown_char}
use Rattle.hashbag_words_lib.proofs.bars.name_of.Given as goal

-- the characters so far are there
abbrev pub invariant-loop-c : goal.invariant-loop-c
invariant-loop-c l = l.name.items ≡ map shown_char l.yielded
