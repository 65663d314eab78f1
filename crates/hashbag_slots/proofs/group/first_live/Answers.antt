use Rattle.std.proofs.Common.{◌%◌, ◌^◌, leb, map, replicate, ap, ◌∙◌, arith, w8}
use Rattle.std.specs.Simd.Lanes.{chunk, mask_l}
use Rattle.std.proofs.lemmas.List.{length-map}
use Rattle.std.proofs.lemmas.Simd.{length-chunk, tops_compared, zip2_splat_left, mask_l-mod}
use Rattle.hashbag_slots.proofs.Sixteen.{first_in}
use Rattle.hashbag_slots.proofs.group.first_live.Goals as goal

pub returns : goal.returns
returns c =
    let ts = c.args.tags.now in let from = c.args.from in let v = chunk from 16 ts in
    let long = length-chunk from 16 ts c.requires in
    let few = length-map v (λ x. leb 128 x) in
    let bits = ap (λ ms. mask_l ms % 2 ^ 64) (tops_compared w8 leb (replicate 16 128) v ∙ zip2_splat_left leb 128 16 v long) ∙ mask_l-mod (map (λ x. leb 128 x) v) 64 (omega arith) in
    record { first = first_in (λ x. leb 128 x) ts from c.first_set.result _ c.requires bits c.first_set.ensures }
