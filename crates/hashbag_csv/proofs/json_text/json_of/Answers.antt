use Rattle.std.proofs.Common.{List, ◌∷◌, ◌++◌, ◌∙◌, ap, flat_map, map, sym, take}
use Rattle.json.specs.Token.{Token, begin_array}
use Rattle.hashbag_csv.specs.Cells.{lent_cell}
use Rattle.hashbag_csv.specs.Readers.{Record}
use Rattle.hashbag_csv.specs.Written.{object_of}
use Rattle.hashbag_csv.proofs.WrittenLemmas.{flat_more, next_rows}
use Rattle.hashbag_csv.proofs.json_text.json_of.Goals as goal

-- a row more
pub loop-value-preserved : goal.loop-value-preserved
loop-value-preserved g c =
    let line = g.L.Listing.line c.args.listing.now in
    let object = object_of (g.L.Listing.columns c.args.listing.now) in
    let before = map line (take c.loop-value.value-index c.args.values.now) in
    let cells = map lent_cell c.deref-in-loop-value.result.now in
    let names = map (λ n. n.now) c.deref.result.now in
    let next = next_rows line c.args.values.now c.loop-value.value-index c.value-item.result cells c.loop-value-test.true c.value-item.is (ap (map lent_cell) c.deref-in-loop-value.ensures.value ∙ c.in_ok-cells.ensures) in
    record {
      before = c.write_row.ensures.before ∙ c.loop-value.invariant.before;
      tokens = c.in_ok-write_row.ensures.tokens ∙ ap (λ (ts : List Token). ts ++ object_of names cells) c.loop-value.invariant.tokens
          ∙ ap (λ (r : Record). begin_array ∷ (flat_map object before ++ object_of r cells)) (ap (map (λ n. n.now)) c.deref.ensures.value ∙ c.in_ok-names.ensures)
          ∙ ap (λ (ts : List Token). begin_array ∷ ts) (sym (ap (flat_map object) next ∙ flat_more object before cells));
    }
