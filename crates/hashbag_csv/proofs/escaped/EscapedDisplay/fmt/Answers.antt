use Rattle.std.proofs.Common.{◌++◌, sym, ap, ◌∙◌, append-nil, append_assoc, rules}
use Rattle.std.proofs.lemmas.Str.{IsUtf8-past_char}
use Rattle.std.proofs.Output.{has_written_append, has_written_of_eq}
use Rattle.hashbag_csv.specs.Escaped.{char_text}
use Rattle.hashbag_csv.proofs.EscapedLemmas.{escaped_empty, escaped_step}
use Rattle.hashbag_csv.proofs.escaped.EscapedDisplay.fmt.Goals as goal

-- a character more
pub loop-character-preserved : goal.loop-character-preserved
loop-character-preserved g c =
    let held = c.loop-character.invariant in
    let parts = c.in-Some.ensures.steps.0 in (
      IsUtf8-past_char _ _ c.in-Some.character held.0 parts,
      λ plain.
          let now = held.1 plain in (
            now.0 ++ char_text c.in-Some.character,
            has_written_append _ _ _ _ _ _ now.1 (search rules),
            append_assoc now.0 (char_text c.in-Some.character) _ ∙ ap (λ l. now.0 ++ l) (sym (escaped_step _ _ c.in-Some.character held.0 parts)) ∙ now.2,
          ),
    )

pub returns-clause-writes : goal.returns-clause-writes
returns-clause-writes g c =
    λ plain _.
    let now = c.loop-character.invariant.1 plain in
    has_written_of_eq _ _ _ _ _ (sym (append-nil now.0) ∙ ap (λ l. now.0 ++ l) (sym (escaped_empty _ c.in-None.ensures.steps.0.0)) ∙ now.2) now.1
