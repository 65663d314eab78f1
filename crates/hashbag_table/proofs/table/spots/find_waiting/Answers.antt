use Rattle.std.proofs.Common.{◌≡◌, ℕ, Bool, true, sym, arith}
use Rattle.hashbag_slots.specs.Hashing.{hash_under}
use Rattle.hashbag_slots.specs.Slots.{IsAbsent}
use Rattle.hashbag_slots.proofs.Hashing.{hash_named}
use Rattle.hashbag_slots.proofs.Maps.{lookup-IsAbsent}
use Rattle.hashbag_table.proofs.HintLemmas.{absent_edge}
use Rattle.hashbag_table.proofs.table.spots.find_waiting.Goals.{then-slots-eq0-via-then-slots-eq0, then-slots-eq0-via-else-slots-eq0+then-home-edge}
use Rattle.hashbag_table.proofs.table.spots.find_waiting.Goals as goal

pub returns-then-slots-eq0-clause-map : goal.returns-then-slots-eq0-clause-map
returns-then-slots-eq0-clause-map g c =
    let test : g.row.T.Denot → Bool = g.Q.Key.names c.args.key in let ss = c.args.older.now.slots in
    let hash : g.row.T.Denot → ℕ = hash_under g.T.Hash.hash_input g.S.BuildHasher g.S.Hasher.Hasher c.args.state.now in
    let alike : (v : g.row.T.Denot) → test v ≡ true → hash v ≡ c.args.hash = hash_named g.T.Hash.hash_input g.Q.Hash.hash_input g.S.BuildHasher g.S.Hasher.Hasher c.args.state.now c.args.key test (g.met.Q.Key.hashed_alike c.args.key) c.args.hash c.requires.hashed in
    let absent : IsAbsent test ss =
    elim c.then-slots-eq0.branch [
      | then-slots-eq0-via-then-slots-eq0 w ↦ λ p lt. absurd (let none = w.if-slots-eq0.true in let value = c.slots.ensures.value in omega arith)
      | then-slots-eq0-via-else-slots-eq0+then-home-edge w ↦
          let before = w.if-home-edge.true in let home = w.home.ensures in
          absent_edge test hash c.args.hash alike ss c.requires.reached.paths c.args.edge c.requires.within c.requires.not_live (c.requires.ends (omega arith)) (omega arith)
    ] in
    sym (lookup-IsAbsent test ss absent)
