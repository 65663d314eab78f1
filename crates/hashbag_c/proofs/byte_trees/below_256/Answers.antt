use Rattle.hashbag_c.proofs.ByteTreeLemmas.{each_is_byte}
use Rattle.hashbag_c.proofs.byte_trees.below_256.Goals as goal

pub returns-clause-bytes : goal.returns-clause-bytes
returns-clause-bytes c = each_is_byte c.args.bytes.now (λ k. (c.type_inv.bytes k).fits)
