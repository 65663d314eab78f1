use Rattle.std.proofs.Common.{◌≡◌, ◌++◌, ◌∷◌, map}
use Rattle.json.specs.Token.{begin_object}
use Rattle.std.specs.Iterator.Adapters.{zip_first, zip_second}
use Rattle.std.specs.Slice.Iter.{iter_rest}
use Rattle.hashbag_csv.specs.Cells.{lent_cell}
use Rattle.hashbag_csv.specs.Written.{members, token_of}
use Rattle.hashbag_csv.proofs.json_text.write_row.Given as goal

-- the members so far, and those that are left
abbrev pub invariant-loop-name : goal.invariant-loop-name
invariant-loop-name l = record {
  before : l.writer.before ≡ l.fn.writer.before;
  tokens : l.writer.tokens ++ members (map (λ n. n.now) (iter_rest (zip_first l.name-iterator))) (map token_of (map lent_cell (iter_rest (zip_second l.name-iterator))))
      ≡ l.fn.writer.tokens ++ begin_object ∷ members (map (λ n. n.now) l.names) (map token_of (map lent_cell l.cells));
}
