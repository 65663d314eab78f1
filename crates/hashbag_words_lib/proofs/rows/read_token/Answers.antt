use Rattle.std.proofs.Common.{◌≢◌, ◌<◌, ℕ, List, length, slice_index, sym, ◌∙◌, ap, subst, Some}
use Rattle.hashbag_words_lib.proofs.RowLemmas.{unescaped-plain}
use Rattle.hashbag_words_lib.proofs.rows.read_token.Goals as goal

pub returns-then-not-has_backslash-clause-token : goal.returns-then-not-has_backslash-clause-token
returns-then-not-has_backslash-clause-token c =
    unescaped-plain c.args.written.now
    (subst (λ (l : List ℕ). (i : ℕ) → i < length l → slice_index l i ≢ 92) c.as_bytes.ensures.value (c.has_backslash.ensures c.if-not-has_backslash.true))
    ∙ ap Some (sym c.in_ok-to_string.ensures.ok)
