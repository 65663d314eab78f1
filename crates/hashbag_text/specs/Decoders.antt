-- The text of the bytes that follow, given what a decoder has read.
use Rattle.std.specs.Prelude.{◌≡◌, ◌++◌, ℕ, List, Option, None}
use Rattle.hashbag_text.specs.Encodings.{after_bytes}
use Rattle.hashbag_text.specs.States.{text_from}
use Rattle.hashbag_text.specs.declared.bad_bytes.BadBytes.{BadBytes}
use Rattle.hashbag_text.specs.declared.bad_bytes.DecodeError.{DecodeError}
use Rattle.hashbag_text.specs.declared.bad_bytes.DecodeError.TheVariants.{Line}
use Rattle.hashbag_text.specs.declared.decoder.Decoder.{Decoder}

-- if the error is `Line`, P holds
abbrev pub IfLine : DecodeError → Type 0 → Type 0
IfLine e P = (line : ℕ) → (bad_bytes : BadBytes) → e ≡ Line line bad_bytes → P

-- the text of what the decoder keeps and then of these bytes
abbrev pub text_from_decoder : Decoder → List ℕ → Option (List ℕ)
text_from_decoder d bytes = text_from d.state bytes

-- let any bytes come after a block. The old text, and then what `old` makes of the block and of these bytes, are the same as the new text, and then
-- what `new` makes of these bytes
abbrev pub DecodesTo : Decoder → List ℕ → List ℕ → Decoder → List ℕ → Type 0
DecodesTo old block text new text' = (bytes : List ℕ) → after_bytes text (text_from_decoder old (block ++ bytes)) ≡ after_bytes text' (text_from_decoder new bytes)

-- whatever bytes come after a block, there is no text
abbrev pub DecodesToNone : Decoder → List ℕ → Type 0
DecodesToNone old block = (bytes : List ℕ) → text_from_decoder old (block ++ bytes) ≡ None
