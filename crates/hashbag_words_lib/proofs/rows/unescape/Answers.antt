use Rattle.std.proofs.Common.{◌≡◌, ◌+◌, ◌<◌, ℕ, Bool, List, ◌∷◌, Option, Some, length, get_or, drop, sym, ◌∙◌, ap, arith}
use Rattle.hashbag_words_lib.specs.Rows.{resumed}
use Rattle.hashbag_words_lib.proofs.RowLemmas.{next_byte}
use Rattle.hashbag_words_lib.proofs.rows.unescape.Goals as goal

-- one byte was read
byte_read : (written : List ℕ) (at : ℕ) (old new : List ℕ) (was : Bool) {marked is : Option Bool} → at < length written → resumed old (Some was) (get_or written at 0 ∷ drop (at + 1) written) ≡ resumed new marked (drop (at + 1) written) → marked ≡ is
    → resumed old (Some was) (drop at written) ≡ resumed new is (drop (at + 1) written)
byte_read written at old new was below read is =
    ap (λ (l : List ℕ). resumed old (Some was) l) (next_byte written at below) ∙ read ∙ ap (λ (o : Option Bool). resumed new o (drop (at + 1) written)) is

pub returns-in_default : goal.returns-in_default
returns-in_default c =
    let below : c.loop-byte.byte-index < length c.args.written.now = omega arith in
    sym (c.loop-byte.invariant
    ∙ byte_read c.args.written.now c.loop-byte.byte-index c.loop-byte.token.items c.take_byte.new.token.items c.loop-byte.is_marked below (c.in_ok-marked.ensures (drop (c.loop-byte.byte-index + 1) c.args.written.now)) c.in_default.is)

pub loop-byte-preserved : goal.loop-byte-preserved
loop-byte-preserved c =
    c.loop-byte.invariant
    ∙ byte_read c.args.written.now c.loop-byte.byte-index c.loop-byte.token.items c.take_byte.new.token.items c.loop-byte.is_marked (omega arith) (c.in_ok-marked.ensures (drop (c.loop-byte.byte-index + 1) c.args.written.now)) c.in-Some.is
