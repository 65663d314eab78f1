-- Whether a text has movements.
use Rattle.std.proofs.Common.{◌≡◌, ℕ, ◌+◌, ◌<◌, Bool, true, false, List, ◌∷◌, length, get_or, drop, sym, ◌∙◌, ap, not, if◌then◌else◌}
use Rattle.std.specs.Prelude.{◌||◌}
use Rattle.std.proofs.lemmas.List.{drop_more}
use Rattle.hashbag_ledger_db.specs.Once.{ends_line, has_content, has_rows}

-- a byte that ends no line is content
pub content_here : (bytes : List ℕ) (i : ℕ) → i < length bytes → ends_line (get_or bytes i 0) ≡ false → has_content bytes ≡ has_content (drop i bytes) → true ≡ has_content bytes
content_here bytes i below none so_far =
    let x = get_or bytes i 0 in
    let d = drop (i + 1) bytes in
    let e : drop i bytes ≡ x ∷ d = drop_more bytes i 0 below in
    sym (so_far ∙ ap has_content e ∙ ap (λ (b : Bool). not b || has_content d) none)

-- the first byte that ends a line is no content
pub rows_begin : (text rest : List ℕ) (i : ℕ) (r : Bool) → i < length text → ends_line (get_or text i 0) ≡ true → rest ≡ drop i text → r ≡ has_content rest
    → has_rows text ≡ has_rows (drop i text) → r ≡ has_rows text
rows_begin text rest i r below ends are is so_far =
    let x = get_or text i 0 in
    let d = drop (i + 1) text in
    let e : drop i text ≡ x ∷ d = drop_more text i 0 below in
    is ∙ ap has_content (are ∙ e) ∙ ap (λ (b : Bool). not b || has_content d) ends ∙ sym (ap has_rows e ∙ ap (λ (b : Bool). if b then has_content d else has_rows d) ends) ∙ sym so_far
