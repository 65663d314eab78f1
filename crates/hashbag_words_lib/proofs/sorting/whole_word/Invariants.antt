use Rattle.std.proofs.Common.{◌≡◌, ◌+◌, ◌-◌, ◌<◌, drop}
use Rattle.hashbag_words_lib.specs.Prefix.{lead}
use Rattle.hashbag_words_lib.proofs.PrefixLemmas.{bound}
use Rattle.hashbag_words_lib.proofs.sorting.whole_word.Given as goal

-- with the bytes that are left the number becomes that of all eight
abbrev pub invariant-loop-i : goal.invariant-loop-i
invariant-loop-i l = (lead l.number (8 - l.i) (drop (l.from + l.i) l.bytes) ≡ lead 0 8 (drop l.from l.bytes)) × (l.number < bound l.i)
