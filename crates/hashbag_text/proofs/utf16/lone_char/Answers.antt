use Rattle.std.proofs.Common.{◌≡◌, ℕ, ◌<◌, Option, Some, None, MatchOption, inl, inr, sym, ◌∙◌, ap, arith}
use Rattle.std.specs.Prelude.{SomeIff}
use Rattle.core.specs.Char.{InScalarRange, OutOfScalarRange}
use Rattle.core.specs.Char.Utf16.{lone_unit_char}
use Rattle.core.proofs.str.Utf16.{lone_unit_char_low, lone_unit_char_high, lone_unit_char_surrogate}
use Rattle.hashbag_text.proofs.utf16.lone_char.Goals as goal

lone : (r : Option ℕ) (P : Type 0) (u : ℕ) → u < 0x1_0000 → SomeIff r P u → MatchOption r (OutOfScalarRange u) (λ _. InScalarRange u) → r ≡ lone_unit_char u
lone None P u small is within = elim within [
  | inl from ↦ sym (lone_unit_char_surrogate u (omega arith) (omega arith))
  | inr past ↦ absurd (omega arith)
]
lone (Some x) P u small is within = ap Some is.1 ∙ sym (elim within as (λ _. lone_unit_char u ≡ Some u) [
  | inl below ↦ lone_unit_char_low u below
  | inr above ↦ lone_unit_char_high u (omega arith)
])

pub returns : goal.returns
returns c =
    let small : c.from.result < 0x1_0000 = omega arith in
    lone c.from_u32.result _ c.from.result small c.from_u32.ensures.value c.from_u32.ensures.cases ∙ ap lone_unit_char c.from.ensures
