use Rattle.std.proofs.Common.{◌≡◌, ◌≢◌, ℕ, ◌<◌, ◌≤◌, ◌-◌, get_or, refl, inl, Some, ◌∙◌, ap, arith}
use borrow.Author.Tests.{lt-ltb, le-leb}
use Rattle.std.proofs.lemmas.Bool.{ne_eqb}
use Rattle.hashbag_text.specs.Encodings.{middle, windows_1252}
use Rattle.hashbag_text.proofs.TextLemmas.{below_all, made}
use Rattle.hashbag_text.proofs.windows_1252.windows_1252.Goals as goal

-- a byte of the middle that is a character
of_middle : (byte code : ℕ) → 0x80 ≤ byte → byte < 0xA0 → code ≡ get_or middle (byte - 0x80) 0 → code ≢ 0 → Some code ≡ windows_1252 byte
of_middle byte code from below is some =
    let here : get_or middle (byte - 0x80) 0 ≢ 0 = λ zero. some (is ∙ zero) in
    rw (le-leb 0x80 byte from, lt-ltb byte 0xA0 below, ne_eqb _ _ here) (ap Some is)

pub returns : goal.returns
returns c =
    let code = c.middle-code.result in
    let small : get_or middle (c.args.byte - 0x80) 0 < 0xD800 = below_all 0xD800 middle (omega arith) refl (c.args.byte - 0x80) in
    made c.from_u32.result _ _ code c.from_u32.ensures.value (c.from_u32.ensures.succeeds (inl (omega arith))) (omega arith)
    ∙ of_middle c.args.byte code c.if-byte-lt128.false (omega arith) c.middle-code.ensures (λ zero. omega arith)
