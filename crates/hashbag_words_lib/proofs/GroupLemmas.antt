-- What a group has in the matches of a pattern.
use Rattle.std.proofs.Common.{◌≡◌, ℕ, ◌-◌, ◌<◌, ◌≤◌, Bool, true, false, cond, nat_lt, List, [], ◌∷◌, ◌++◌, length, drop, filter, flat_map, map, min, slice_range, refl, sym, ◌∙◌, ap, arith, append_assoc}
use Rattle.std.specs.Str.{is_utf8}
use Rattle.std.proofs.lemmas.Bool.Decides.{nat_tests}
use Rattle.std.proofs.lemmas.Grind.{flat_map-append}
use Rattle.std.proofs.lemmas.List.{append-nil, length-drop, length-take, map-append, nil_from_length, take_all}
use Rattle.std.proofs.lemmas.List.Elements.{filter-append}
use Rattle.regex.specs.Patterns.{Match, find_all_str}
use Rattle.regex.specs.Strings.{group_count, regex_pattern}
use Rattle.regex.specs.Writes.{group_of}
use Rattle.regex.specs.declared.string.regex.Regex.{Regex}
use Rattle.hashbag_words_lib.specs.Tokens.{groups_in, nonempty, part_of, token_of}

-- a part whose end is before its beginning is empty
pub no_part : (line : List ℕ) (start end : ℕ) → min end (length line) < start → [] ≡ slice_range line start end
no_part line start end below =
    sym (nil_from_length (slice_range line start end) (length-take (end - start) (drop start line) ∙ ap (λ (n : ℕ). min (end - start) n) (length-drop start line) ∙ omega (arith, below)))

within : (line : List ℕ) (start end n : ℕ) → end ≤ length line → n ≡ min end (length line) → slice_range line start n ≡ slice_range line start end
within line start end n fits is = ap (λ (k : ℕ). slice_range line start k) (omega (arith, fits, is))

past : (line : List ℕ) (start end n : ℕ) → length line ≤ end → n ≡ min end (length line) → slice_range line start n ≡ slice_range line start end
past line start end n over is =
    let left = length-drop start line in
    take_all (n - start) (drop start line) (omega (arith, over, is, left)) ∙ sym (take_all (end - start) (drop start line) (omega (arith, over, left)))

-- a part ends where the line ends
pub part_within : (line : List ℕ) (start end : ℕ) → slice_range line start (min end (length line)) ≡ slice_range line start end
part_within line start end = either (nat_lt (length line) end) refl
  where
    either : (b : Bool) → nat_lt (length line) end ≡ b → slice_range line start (min end (length line)) ≡ slice_range line start end
    either true is = past line start end _ (let t = is in grind (arith, nat_tests)) refl
    either false is = within line start end _ (let t = is in grind (arith, nat_tests)) refl

-- bytes that are UTF-8, and others
pub text_is_part : (bytes : List ℕ) → is_utf8 bytes ≡ true → bytes ∷ [] ≡ filter is_utf8 (bytes ∷ [])
text_is_part bytes is = ap (λ (b : Bool). cond b (bytes ∷ []) []) (sym is)

pub others_are_no_part : (bytes : List ℕ) → is_utf8 bytes ≡ false → [] ≡ filter is_utf8 (bytes ∷ [])
others_are_no_part bytes is = ap (λ (b : Bool). cond b (bytes ∷ []) []) (sym is)

-- the tokens of one match more
pub next_group : (fold : Bool) (line : List ℕ) (n : ℕ) (seen : List Match) (m : Match)
    → map (token_of fold) (nonempty (flat_map (λ x. part_of line (group_of x n)) (seen ++ m ∷ [])))
    ≡ map (token_of fold) (nonempty (flat_map (λ x. part_of line (group_of x n)) seen)) ++ map (token_of fold) (nonempty (part_of line (group_of m n)))
next_group fold line n seen m =
    let parts = λ (x : Match). part_of line (group_of x n) in
    ap (λ (l : List (List ℕ)). map (token_of fold) (nonempty l)) (flat_map-append parts seen (m ∷ []) ∙ ap (λ (l : List (List ℕ)). flat_map parts seen ++ l) (append-nil (parts m)))
    ∙ ap (λ (l : List (List ℕ)). map (token_of fold) l) (filter-append (λ text. nat_lt 0 (length text)) (flat_map parts seen) (parts m))
    ∙ map-append (token_of fold) (nonempty (flat_map parts seen)) (nonempty (parts m))

-- if the pattern doesn't have the group, nothing is counted
pub no_group : (pattern : Regex) (n : ℕ) (line : List ℕ) → nat_lt n (group_count pattern) ≡ false → [] ≡ groups_in pattern n line
no_group pattern n line is = ap (λ (b : Bool). cond b (flat_map (λ m. part_of line (group_of m n)) (find_all_str (regex_pattern pattern) line)) []) (sym is)

-- if no match is left, those that were seen are all
pub all_groups : (pattern : Regex) (n : ℕ) (line : List ℕ) (seen left : List Match) → nat_lt n (group_count pattern) ≡ true → left ≡ [] → seen ++ left ≡ find_all_str (regex_pattern pattern) line
    → flat_map (λ m. part_of line (group_of m n)) seen ≡ groups_in pattern n line
all_groups pattern n line seen left is none all =
    let parts = λ (m : Match). part_of line (group_of m n) in
    ap (λ (l : List Match). flat_map parts l) (sym (append-nil seen) ∙ ap (λ (l : List Match). seen ++ l) (sym none) ∙ all)
    ∙ ap (λ (b : Bool). cond b (flat_map parts (find_all_str (regex_pattern pattern) line)) []) (sym is)

-- the first of the matches that were left was seen
pub one_more : (seen old new all : List Match) (m : Match) (rest : List Match) → old ≡ m ∷ rest → new ≡ drop 1 old → seen ++ old ≡ all → (seen ++ m ∷ []) ++ new ≡ all
one_more seen old new all m rest first others is =
    append_assoc seen (m ∷ []) new ∙ ap (λ (l : List Match). seen ++ m ∷ l) (others ∙ ap (λ (l : List Match). drop 1 l) first) ∙ ap (λ (l : List Match). seen ++ l) (sym first) ∙ is
