use Rattle.std.proofs.Common.{◌≡◌}
use Rattle.serde_json.specs.View.{members_view}
use Rattle.hashbag_core.specs.JsonFaults.{has_no_other}
use Rattle.hashbag_core.proofs.json.has_two_names.Given as goal

-- the members before this one have the two names
abbrev pub invariant-loop-name : goal.invariant-loop-name
invariant-loop-name l = has_no_other (members_view l.name-iterator) ≡ has_no_other (members_view l.members.entries)
