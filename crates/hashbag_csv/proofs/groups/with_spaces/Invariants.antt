use Rattle.std.proofs.Common.{◌≡◌, encode_utf8_all, map, string_bytes}
use Rattle.hashbag_csv.specs.Groups.{spaced}
use Rattle.hashbag_csv.proofs.groups.with_spaces.Given as goal

-- the characters so far are there
abbrev pub invariant-loop-character : goal.invariant-loop-character
invariant-loop-character l = string_bytes l.made ≡ encode_utf8_all (map spaced l.yielded)
