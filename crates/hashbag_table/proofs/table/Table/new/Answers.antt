use Rattle.std.proofs.Common.{arith}
use Rattle.hashbag_slots.specs.Hashing.{hash_under}
use Rattle.hashbag_table.proofs.CarryLemmas.{IsTables-none}
use Rattle.hashbag_table.proofs.HintLemmas.{hints_new}
use Rattle.hashbag_table.proofs.table.Table.new.Goals as goal

pub invariant_of-result : goal.invariant_of-result
invariant_of-result g c =
    record {
      kept = IsTables-none g.T.PartialEq.eq (hash_under g.T.Hash.hash_input g.S.BuildHasher g.S.Hasher.Hasher c.args.hasher) c.no_slots-newer.result c.no_slots-older.result
          c.no_slots-newer.ensures.slots c.no_slots-older.ensures.slots (c.no_slots-newer.ensures.reached _) (c.no_slots-older.ensures.reached _);
      hints = hints_new c.no_slots-newer.result.slots c.no_slots-older.result.slots 0 _ (λ small. absurd (omega arith));
    }
