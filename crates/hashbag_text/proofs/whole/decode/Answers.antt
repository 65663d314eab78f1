use Rattle.std.proofs.Common.{List, ℕ, [], sym, ◌∙◌, ap}
use Rattle.std.proofs.lemmas.List.{append-nil}
use Rattle.hashbag_text.specs.Decoders.{text_from_decoder}
use Rattle.hashbag_text.proofs.whole.decode.Goals as goal

pub returns-in-Err-clause-bad_bytes : goal.returns-in-Err-clause-bad_bytes
returns-in-Err-clause-bad_bytes c = λ line bad_bytes is.
    let bytes = c.args.bytes.now in
    sym (c.new-decoder.ensures bytes) ∙ ap (λ (l : List ℕ). text_from_decoder c.new-decoder.result l) (sym (append-nil bytes)) ∙ c.in-Err.ensures.bad_bytes line bad_bytes is []
