-- What holds of each string holds of all bytes: how often they are in lists of strings, and in rows of strings.
use Rattle.std.proofs.Common.{◌≡◌, ◌⊎◌, ℕ, ◌+◌, Bool, true, false, cond, List, [], ◌∷◌, map, sum_by, count_by, String, string_bytes, string_eq, bytes_eq, Global, refl, sym, ◌∙◌, ap, subst, arith, inl, inr}
use Rattle.std.specs.Cmp.Lexicographic.{bytes_decides, nat_list_eq_equiv}
use Rattle.std.proofs.lemmas.List.Sums.{sum_by-cons}
use Rattle.hashbag_core.specs.Occurrences.{count}
use Rattle.hashbag_words_lib.specs.Choice.{shows, shown_count}
use Rattle.hashbag_words_lib.specs.Sorted.{of_row, row_of, times_in}
use Rattle.hashbag_words_lib.specs.declared.choice.Choice.{Choice}

pub sum_of_map : {X Y : Type 0} (f : Y → ℕ) (g : X → Y) (xs : List X) → sum_by f (map g xs) ≡ sum_by (λ x. f (g x)) xs
sum_of_map f g [] = refl
sum_of_map {X} f g (x ∷ xs) = sum_by-cons f (g x) (map g xs) ∙ ap (λ (n : ℕ). f (g x) + n) (sum_of_map f g xs) ∙ sym (sum_by-cons (λ (y : X). f (g y)) x xs)

-- a string, counted once
abbrev once : String Global → String Global × ℕ
once v = (v, 1)

-- how often strings with these bytes are in a list of strings, and in one of pairs
abbrev pub times_of : List ℕ → List (String Global) → ℕ
times_of text strings = count bytes_eq text (map string_bytes strings)

abbrev pub times_by : List ℕ → List (String Global × ℕ) → ℕ
times_by text pairs = times_in text (map row_of pairs)

pub times_of-string : (v : String Global) (strings : List (String Global)) → times_of (string_bytes v) strings ≡ count string_eq v strings
times_of-string v strings = sum_of_map (λ text. cond (bytes_eq (string_bytes v) text) 1 0) string_bytes strings

-- strings with these bytes, as they are counted by a key
pub times_of-named : (text : List ℕ) (strings : List (String Global)) → count_by (λ v. bytes_eq (string_bytes v) text) strings ≡ times_of text strings
times_of-named text [] = refl
times_of-named text (v ∷ strings) =
    sum_by-cons (λ w. cond (bytes_eq (string_bytes w) text) 1 0) v strings
    ∙ ap (λ (b : Bool). cond b 1 0 + count_by (λ w. bytes_eq (string_bytes w) text) strings) (nat_list_eq_equiv.symm (string_bytes v) text)
    ∙ ap (λ (n : ℕ). cond (bytes_eq text (string_bytes v)) 1 0 + n) (times_of-named text strings)
    ∙ sym (sum_by-cons (λ bytes. cond (bytes_eq text bytes) 1 0) (string_bytes v) (map string_bytes strings))

times_by-once : (text : List ℕ) (strings : List (String Global)) → times_by text (map once strings) ≡ times_of text strings
times_by-once text strings =
    sum_of_map (of_row text) row_of (map once strings)
    ∙ sum_of_map (λ p. of_row text (row_of p)) once strings
    ∙ sym (sum_of_map (λ bytes. cond (bytes_eq text bytes) 1 0) string_bytes strings)

-- a string has these bytes, or none in the list
abbrev Named : List ℕ → List (String Global × ℕ) → Type 0
Named text pairs = ((v : String Global) × (text ≡ string_bytes v)) ⊎ (times_by text pairs ≡ 0)

named_in : (text : List ℕ) (pairs : List (String Global × ℕ)) → Named text pairs
named_in text [] = inr refl
named_in text (p ∷ pairs) = by_first (bytes_eq text (string_bytes p.0)) refl (named_in text pairs)
  where
    by_first : (b : Bool) → bytes_eq text (string_bytes p.0) ≡ b → Named text pairs → Named text (p ∷ pairs)
    by_first true is later = inl (p.0, (bytes_decides text (string_bytes p.0)).0 is)
    by_first false is (inl v) = inl v
    by_first false is (inr none) =
        let parts : times_by text (p ∷ pairs) ≡ of_row text (row_of p) + times_by text pairs = sum_by-cons (of_row text) (row_of p) (map row_of pairs) in
        let first : of_row text (row_of p) ≡ 0 = ap (λ (b : Bool). cond b p.1 0) is in
        inr (omega (arith, parts, first, none))

-- two lists together have each string as often as a third one: so it is with all bytes
adds_by : (xs ys zs : List (String Global × ℕ)) → ((v : String Global) → times_by (string_bytes v) xs ≡ times_by (string_bytes v) ys + times_by (string_bytes v) zs)
    → (text : List ℕ) → times_by text xs ≡ times_by text ys + times_by text zs
adds_by xs ys zs same text = by_name (named_in text xs) (named_in text ys) (named_in text zs)
  where
    of_string : ((v : String Global) × (text ≡ string_bytes v)) → times_by text xs ≡ times_by text ys + times_by text zs
    of_string v = subst (λ (t : List ℕ). times_by t xs ≡ times_by t ys + times_by t zs) (sym v.1) (same v.0)

    by_name : Named text xs → Named text ys → Named text zs → times_by text xs ≡ times_by text ys + times_by text zs
    by_name (inl v) y z = of_string v
    by_name (inr x) (inl v) z = of_string v
    by_name (inr x) (inr y) (inl v) = of_string v
    by_name (inr x) (inr y) (inr z) = omega (arith, x, y, z)

-- the same of strings that became more by pairs
pub adds : (before after : List (String Global)) (pairs : List (String Global × ℕ)) → ((v : String Global) → count string_eq v after ≡ count string_eq v before + times_by (string_bytes v) pairs)
    → (text : List ℕ) → times_of text after ≡ times_of text before + times_by text pairs
adds before after pairs same text =
    let of_string : (v : String Global) → times_by (string_bytes v) (map once after) ≡ times_by (string_bytes v) (map once before) + times_by (string_bytes v) pairs = λ v.
    let new = times_by-once (string_bytes v) after ∙ times_of-string v after in
    let old = times_by-once (string_bytes v) before ∙ times_of-string v before in
    new ∙ same v ∙ ap (λ (n : ℕ). n + times_by (string_bytes v) pairs) (sym old)
    in
    sym (times_by-once text after) ∙ adds_by (map once after) (map once before) pairs of_string text ∙ ap (λ (n : ℕ). n + times_by text pairs) (times_by-once text before)

-- of pairs that have each string as often as a list of strings
pub same_by : (strings : List (String Global)) (pairs : List (String Global × ℕ)) → ((v : String Global) → times_by (string_bytes v) pairs ≡ count string_eq v strings)
    → (text : List ℕ) → times_by text pairs ≡ times_of text strings
same_by strings pairs same text = sym (adds [] strings pairs (λ v. sym (same v) ∙ none_before (times_by (string_bytes v) pairs)) text ∙ sym (none_before (times_by text pairs)))
  where
    none_before : (n : ℕ) → n ≡ 0 + n
    none_before n = omega arith

-- of a list of strings that has each string as often as it is shown of another list
pub shown_by : (choice : Choice) (before after : List (String Global)) → ((v : String Global) → count string_eq v after ≡ shown_count choice (string_bytes v) (count string_eq v before))
    → (text : List ℕ) → times_of text after ≡ shown_count choice text (times_of text before)
shown_by choice before after same text = by_name (named_in text (map once before)) (named_in text (map once after))
  where
    none_shown : (b : Bool) (n : ℕ) → n ≡ 0 → n ≡ cond b 0 0
    none_shown true n none = none
    none_shown false n none = none

    of_string : ((v : String Global) × (text ≡ string_bytes v)) → times_of text after ≡ shown_count choice text (times_of text before)
    of_string v =
        subst (λ (t : List ℕ). times_of t after ≡ shown_count choice t (times_of t before)) (sym v.1)
        (times_of-string v.0 after ∙ same v.0 ∙ ap (λ (n : ℕ). shown_count choice (string_bytes v.0) n) (sym (times_of-string v.0 before)))

    by_name : Named text (map once before) → Named text (map once after) → times_of text after ≡ shown_count choice text (times_of text before)
    by_name (inl v) y = of_string v
    by_name (inr x) (inl v) = of_string v
    by_name (inr x) (inr y) =
        sym (times_by-once text after) ∙ none_shown (shows choice (text, 0)) (times_by text (map once after)) y
        ∙ ap (λ (n : ℕ). shown_count choice text n) (sym x ∙ times_by-once text before)
