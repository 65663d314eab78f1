-- The text of rows that are built one after the other.
use Rattle.std.proofs.Common.{◌≡◌, ℕ, ◌+◌, ◌<◌, List, ◌∷◌, ◌++◌, length, get_or, drop, map, nat_eq, Bool, false, String, Global, sym, ◌∙◌, ap, arith, append_assoc, ne_eqb}
use Rattle.std.specs.Borrow.{Bor}
use Rattle.std.proofs.lemmas.List.{drop_more, get_or-map, length-map}
use Rattle.hashbag_core.specs.Walks.{seen}
use Rattle.hashbag_words_lib.specs.Sorted.{row_of}
use Rattle.hashbag_words_lib.specs.Writing.{comma, row_text, rows_text}
use Rattle.hashbag_words_lib.specs.declared.writing.Format.{Format}

abbrev rows_of : List (Bor (String Global) × ℕ) → List (List ℕ × ℕ)
rows_of items = map row_of (map seen items)

-- the rows from one on are that one and those behind it
rows_from : (items : List (Bor (String Global) × ℕ)) (built : ℕ) (x : Bor (String Global) × ℕ) → built < length items → x ≡ get_or items built x
    → drop built (rows_of items) ≡ row_of (seen x) ∷ drop (built + 1) (rows_of items)
rows_from items built x lt is =
    let seen_all : length (map seen items) ≡ length items = length-map items seen in
    let all : length (rows_of items) ≡ length (map seen items) = length-map (map seen items) row_of in
    drop_more (rows_of items) built (row_of (seen x)) (omega (arith, seen_all, all))
    ∙ ap (λ r. r ∷ drop (built + 1) (rows_of items))
    (get_or-map row_of (map seen items) built (seen x) (row_of (seen x)) (omega (arith, seen_all))
    ∙ ap row_of (get_or-map seen items built x (seen x) lt ∙ ap seen (sym is)))

-- the text of a row is no longer to come, but in the part
pub one_more : (format : Format) (items : List (Bor (String Global) × ℕ)) (built : ℕ) (x : Bor (String Global) × ℕ) (part added more end : List ℕ)
    → built < length items → x ≡ get_or items built x → added ≡ part ++ more → more ≡ comma format (nat_eq built 0) ++ row_text format (row_of (seen x))
    → added ++ (rows_text format (nat_eq (built + 1) 0) (drop (built + 1) (rows_of items)) ++ end) ≡ part ++ (rows_text format (nat_eq built 0) (drop built (rows_of items)) ++ end)
one_more format items built x part added more end lt is grows row =
    let rest = drop (built + 1) (rows_of items) in
    ap (λ (l : List ℕ). l ++ (rows_text format (nat_eq (built + 1) 0) rest ++ end)) grows
    ∙ ap (λ (b : Bool). (part ++ more) ++ (rows_text format b rest ++ end)) (ne_eqb (built + 1) 0 (λ z. omega arith))
    ∙ append_assoc part more (rows_text format false rest ++ end)
    ∙ ap (λ (l : List ℕ). part ++ l) (sym (append_assoc more (rows_text format false rest) end))
    ∙ ap (λ (l : List ℕ). part ++ ((l ++ rows_text format false rest) ++ end)) row
    ∙ ap (λ (rows : List (List ℕ × ℕ)). part ++ (rows_text format (nat_eq built 0) rows ++ end)) (sym (rows_from items built x lt is))
