use Rattle.std.proofs.Common.{◌≡◌, ℕ, List, [], IfOk, string_bytes, subst}
use Rattle.hex.specs.Hex.{encode_lower}
use Rattle.hashbag_ledger_lib.specs.Seals.{sealed}
use Rattle.hashbag_ledger_lib.proofs.sealing.seal_for.Goals as goal

-- all that was added is what the seal is made of
pub returns : goal.returns
returns c =
    let held = c.add_extras.ensures _ (c.add_movements.ensures _ (c.add_counts.ensures _ (c.add_source.ensures _ (c.add_head.ensures [] c.new-hasher.ensures)))) in
    let is = c.finalize.ensures (sealed c.args.scale c.args.batch.now c.args.entries.now c.args.extras.now) held in
    subst (λ (d : List ℕ). IfOk c.encode.result (λ seal. string_bytes seal ≡ encode_lower d)) is c.encode.ensures
