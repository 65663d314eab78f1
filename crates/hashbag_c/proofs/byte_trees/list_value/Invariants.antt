use Rattle.std.proofs.Common.{◌≡◌, take, map}
use Rattle.serde_json.specs.Data.{number, unsigned}
use Rattle.serde_json.specs.View.{view}
use Rattle.hashbag_c.proofs.byte_trees.list_value.Given as goal

-- the first bytes are written
abbrev pub invariant-loop-byte : goal.invariant-loop-byte
invariant-loop-byte l = map view l.list.items ≡ map (λ b. number (unsigned b)) (take l.byte-index l.bytes)
