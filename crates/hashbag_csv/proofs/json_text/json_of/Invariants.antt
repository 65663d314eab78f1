use Rattle.std.proofs.Common.{◌≡◌, [], ◌∷◌, flat_map, map, take}
use Rattle.json.specs.Token.{begin_array}
use Rattle.hashbag_csv.specs.Written.{object_of}
use Rattle.hashbag_csv.proofs.json_text.json_of.Given as goal

-- the objects of the rows so far
abbrev pub invariant-loop-value : goal.invariant-loop-value
invariant-loop-value g l = record {
  before : l.writer.before ≡ [];
  tokens : l.writer.tokens ≡ begin_array ∷ flat_map (object_of (g.L.Listing.columns l.listing)) (map (g.L.Listing.line l.listing) (take l.value-index l.values));
}
