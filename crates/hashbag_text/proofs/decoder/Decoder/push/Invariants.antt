use Rattle.std.proofs.Common.{◌≡◌, ℕ, List, ◌++◌, drop, string_bytes}
use Rattle.hashbag_text.specs.Encodings.{after_bytes}
use Rattle.hashbag_text.specs.States.{text_from}
use Rattle.hashbag_text.proofs.decoder.Decoder.push.Given as goal

-- the bytes that were read became the text
abbrev pub invariant-loop-byte : goal.invariant-loop-byte
invariant-loop-byte l = (bytes : List ℕ) → after_bytes (string_bytes l.fn.text) (text_from l.fn.self.state (l.block ++ bytes))
    ≡ after_bytes (string_bytes l.text) (text_from l.self.state (drop l.byte-index l.block ++ bytes))
