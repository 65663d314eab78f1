use Rattle.std.proofs.Common.{◌∙◌, arith}
use Rattle.hashbag_words_lib.proofs.PrefixLemmas.{bound_next, byte_moved, room}
use Rattle.hashbag_words_lib.proofs.sorting.padded_word.Goals as goal

-- one byte goes from those that are left to the number
pub loop-i-preserved : goal.loop-i-preserved
loop-i-preserved c = (
  byte_moved c.args.bytes.now c.args.from c.loop-i.i c.loop-i.number c.byte_at.result (omega arith) c.byte_at.ensures ∙ c.loop-i.invariant.0,
  bound_next c.loop-i.i c.loop-i.number c.byte_at.result c.loop-i.invariant.1 (omega arith),
)

pub overflow_mul-number : goal.overflow_mul-number
overflow_mul-number c = omega (arith, c.loop-i.invariant.1, room c.loop-i.i c.loop-i-test.true)

pub overflow_add-number : goal.overflow_add-number
overflow_add-number c = omega (arith, c.loop-i.invariant.1, room c.loop-i.i c.loop-i-test.true)
