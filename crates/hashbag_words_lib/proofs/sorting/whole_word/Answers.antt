use Rattle.std.proofs.Common.{◌<◌, ◌+◌, slice_index, refl, ◌∙◌, rules, arith}
use Rattle.hashbag_words_lib.proofs.PrefixLemmas.{bound_next, byte_moved, room}
use Rattle.hashbag_words_lib.proofs.sorting.whole_word.Goals as goal

-- one byte goes from those that are left to the number
pub loop-i-preserved : goal.loop-i-preserved
loop-i-preserved c =
    let byte = slice_index c.args.bytes.now (c.args.from + c.loop-i.i) in
    let small : byte < 256 = search rules in (
      byte_moved c.args.bytes.now c.args.from c.loop-i.i c.loop-i.number byte (omega arith) refl ∙ c.loop-i.invariant.0,
      bound_next c.loop-i.i c.loop-i.number byte c.loop-i.invariant.1 small,
    )

pub overflow_mul-number : goal.overflow_mul-number
overflow_mul-number c = omega (arith, c.loop-i.invariant.1, room c.loop-i.i c.loop-i-test.true)
