use Rattle.std.proofs.Common.{◌≡◌, map, take}
use Rattle.hashbag_csv.specs.Tables.{cell_bytes, title_of}
use Rattle.hashbag_csv.proofs.table.titles_of.Given as goal

-- the titles so far
abbrev pub invariant-loop-name : goal.invariant-loop-name
invariant-loop-name l = cell_bytes l.titles ≡ map title_of (map (λ n. n.now) (take l.name-index l.names))
