use Rattle.std.proofs.Common.{rules, ℕ, ◌<◌, ◌+◌, List, ◌++◌, length, drop, string_bytes, ◌∙◌}
use Rattle.std.proofs.lemmas.List.{at_drop_more}
use Rattle.hashbag_text.specs.States.{text_from}
use Rattle.hashbag_text.proofs.TextLemmas.{one_more}
use Rattle.hashbag_text.proofs.decoder.Decoder.push.Goals as goal

pub loop-byte-preserved : goal.loop-byte-preserved
loop-byte-preserved c bytes =
    let block = c.args.block.now in
    let i = c.loop-byte.byte-index in
    let within : i < length block = search rules in
    let next = at_drop_more (λ (l : List ℕ). text_from c.loop-byte.self.state (l ++ bytes)) block i 0 within in
    one_more _ _ _ (string_bytes c.loop-byte.text) _ c.in-Ok.after.1 (c.loop-byte.invariant bytes)
    (next ∙ c.in-Ok.ensures.character (drop (i + 1) block ++ bytes)) c.in_default.ensures.text
