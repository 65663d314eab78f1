use Rattle.std.proofs.Common.{eqb, arith, w8}
use Rattle.std.specs.Simd.Lanes.{chunk}
use Rattle.std.proofs.lemmas.Simd.{length-chunk, bitmask_splat}
use Rattle.hashbag_slots.proofs.GroupLemmas.{tells_mask}
use Rattle.hashbag_slots.proofs.group.match_tag.Goals as goal

pub returns : goal.returns
returns c =
    let ts = c.args.tags.now in let from = c.args.from in
    let long = length-chunk from 16 ts c.requires in
    tells_mask (λ x. eqb x c.args.tag) ts from _ c.requires (bitmask_splat w8 eqb (chunk from 16 ts) 16 c.args.tag long (omega arith))
