use Rattle.std.proofs.Common.{◌≡◌, List, length, flat_map, ◌++◌, map}
use Rattle.regex.specs.Locations.{location_count}
use Rattle.regex.specs.Patterns.{Match, find_all_str}
use Rattle.regex.specs.Strings.{captures_left, group_count, regex_pattern}
use Rattle.regex.specs.Writes.{group_of}
use Rattle.hashbag_words_lib.specs.Counts.{Takes}
use Rattle.hashbag_words_lib.specs.Tokens.{nonempty, part_of, token_of}
use Rattle.hashbag_words_lib.proofs.counting.add_groups.Given as goal

-- the matches so far, and those that are left, are all; and the groups of the former are counted
abbrev pub invariant-matches : goal.invariant-matches
invariant-matches g l =
    (seen : List Match) × (seen ++ captures_left l.matches ≡ find_all_str (regex_pattern l.fn.pattern) l.line)
    × Takes g.K.TokenSink.has l.fn.sink l.sink (map (token_of l.fn.fold) (nonempty (flat_map (λ m. part_of l.line (group_of m l.group)) seen)))
    × (location_count l.locations ≡ group_count l.fn.pattern)

abbrev pub decreases-matches : goal.decreases-matches
decreases-matches g l = length (captures_left l.matches)
