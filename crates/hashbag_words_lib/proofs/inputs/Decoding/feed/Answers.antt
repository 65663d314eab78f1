use Rattle.std.proofs.Common.{◌≡◌, ◌++◌, Option, refl, sym, subst}
use Rattle.hashbag_text.specs.Encodings.{after_bytes}
use Rattle.hashbag_text.specs.declared.decoder.Decoder.{Decoder}
use Rattle.hashbag_words_lib.specs.Inputs.{text_left}
use Rattle.hashbag_words_lib.proofs.inputs.Decoding.feed.Goals as goal

-- the bytes are the text
pub returns-in_default : goal.returns-in_default
returns-in_default g c =
    let block = c.args.block.now in
    record {
      text = block;
      decodes = λ bytes. subst (λ (d : Option Decoder). text_left d (block ++ bytes) ≡ after_bytes block (text_left d bytes)) (sym c.in_default.is) refl;
      feeds = c.in_ok-feed.ensures;
    }
