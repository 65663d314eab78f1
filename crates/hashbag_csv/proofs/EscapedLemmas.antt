-- Texts as messages show them.
use Rattle.std.proofs.Common.{◌≡◌, ℕ, ◌+◌, ◌-◌, ◌<◌, List, [], ◌∷◌, ◌++◌, length, map, take, slice_range, None, Some, chars, encode_utf8, encode_utf8_all, flat_map, codes, IsUtf8, refl, sym, ap, subst, ◌∙◌, arith, append-nil, append_assoc}
use Rattle.std.specs.declared.str.CharIndices.{CharIndices}
use Rattle.std.specs.Iterator.{SkipsThenYields, Yields}
use Rattle.std.specs.Str.Iter.{char_indices_offset, char_indices_rest, char_indices_steps}
use Rattle.std.proofs.lemmas.Bool.{cond_above, cond_below}
use Rattle.std.proofs.lemmas.List.{length-append, length-map, nil_from_length, take_at}
use Rattle.std.proofs.lemmas.Str.{IsUtf8-past_char, chars-nil, chars_from_encodes, chars_past_char}
use Rattle.hashbag_csv.specs.Escaped.{char_text, escaped_text, most_shown, shown_text}

pub escaped_empty : (text : List ℕ) → length text ≡ 0 → escaped_text text ≡ []
escaped_empty text none = ap (λ cs. flat_map char_text cs) (ap chars (nil_from_length text none) ∙ chars-nil)

pub escaped_step : (text rest : List ℕ) (c : ℕ) → IsUtf8 text → text ≡ encode_utf8 c ++ rest → escaped_text text ≡ char_text c ++ escaped_text rest
escaped_step text rest c utf8 parts = ap (λ cs. flat_map char_text cs) (chars_past_char text rest c utf8 parts)

-- ---- the first characters of a field

-- the characters that calls passed over
abbrev passed : List (ℕ × ℕ) → List ℕ
passed xs = map (λ x. x.1) xs

-- where calls are that passed over these characters
record IsAt (xs : List (ℕ × ℕ)) (s t : CharIndices) : Type 0 where
  utf8 : IsUtf8 (char_indices_rest t)
  bytes : char_indices_rest s ≡ encode_utf8_all (passed xs) ++ char_indices_rest t
  characters : chars (char_indices_rest s) ≡ passed xs ++ chars (char_indices_rest t)
  offset : char_indices_offset t ≡ char_indices_offset s + length (encode_utf8_all (passed xs))

passes : (xs : List (ℕ × ℕ)) (s t : CharIndices) → IsUtf8 (char_indices_rest s) → Yields char_indices_steps s xs t → IsAt xs s t
passes [] s t utf8 same = subst (λ t. IsAt [] s t) same (record { utf8 = utf8; bytes = refl; characters = refl; offset = omega arith })
passes (x ∷ xs) s t utf8 ran =
    let step = ran.1 in
    let text = char_indices_rest s in
    let left = char_indices_rest ran.0 in
    let more = passes xs ran.0 t (IsUtf8-past_char text left x.1 utf8 step.1) ran.2 in
    let long = length-append (encode_utf8 x.1) (encode_utf8_all (passed xs)) in
    let before = step.2 in
    record {
      utf8 = more.utf8;
      bytes = step.1 ∙ ap (λ l. encode_utf8 x.1 ++ l) more.bytes ∙ sym (append_assoc (encode_utf8 x.1) _ _);
      characters = chars_past_char text left x.1 utf8 step.1 ∙ ap (λ l. x.1 ∷ l) more.characters;
      offset = omega (arith, more.offset, before, long);
    }

-- a field of more than n characters, cut after n
pub shown_many : (n : ℕ) (field cut text : List ℕ) (s u : CharIndices) (p : ℕ × ℕ) → IsUtf8 field → IsUtf8 cut → char_indices_rest s ≡ field → char_indices_offset s ≡ 0
    → SkipsThenYields char_indices_steps s n (Some p) u → cut ≡ slice_range field 0 p.0 → n ≡ most_shown → text ≡ escaped_text cut ++ codes ".." → text ≡ shown_text field
shown_many n field cut text s u p utf8 cut_utf8 from start ran cut_is most text_is =
    let xs = ran.0 in
    let t = ran.1.0 in
    let step = ran.1.2 in
    let at = passes xs s t (subst IsUtf8 (sym from) utf8) ran.1.1 in
    let whole : field ≡ encode_utf8_all (passed xs) ++ char_indices_rest t = sym from ∙ at.bytes in
    let end : length (encode_utf8_all (passed xs)) ≡ p.0 = let here = step.0 in let there = at.offset in omega (arith, here, there, start) in
    let cut_at : cut ≡ encode_utf8_all (passed xs) = cut_is ∙ ap (λ l. slice_range l 0 p.0) whole ∙ take_at (encode_utf8_all (passed xs)) (char_indices_rest t) (p.0 - 0) (omega (arith, end)) in
    let long : length (passed xs) ≡ most_shown = length-map xs (λ x. x.1) ∙ ran.2 ∙ most in
    let all : chars field ≡ passed xs ++ chars (char_indices_rest t) = ap chars (sym from) ∙ at.characters in
    let one = ap length (chars_past_char (char_indices_rest t) (char_indices_rest u) p.1 at.utf8 step.1) in
    let count = ap length all ∙ length-append (passed xs) (chars (char_indices_rest t)) in
    let many : most_shown < length (chars field) = omega (arith, long, one, count) in
    let first : take most_shown (chars field) ≡ chars cut =
    ap (take most_shown) all ∙ take_at (passed xs) (chars (char_indices_rest t)) most_shown long ∙ chars_from_encodes (passed xs) cut cut_utf8 (sym cut_at) in
    text_is ∙ ap (λ l. flat_map char_text l ++ codes "..") (sym first) ∙ cond_below most_shown (length (chars field)) _ (escaped_text field) many

-- a field of no more characters
pub shown_few : (n : ℕ) (field text : List ℕ) (s u : CharIndices) → IsUtf8 field → char_indices_rest s ≡ field
    → SkipsThenYields char_indices_steps s n None u → n ≡ most_shown → text ≡ escaped_text field → text ≡ shown_text field
shown_few n field text s u utf8 from ran most text_is =
    let xs = ran.0 in
    let t = ran.1.0 in
    let at = passes xs s t (subst IsUtf8 (sym from) utf8) ran.1.1 in
    let none : chars (char_indices_rest t) ≡ [] = ap chars (nil_from_length (char_indices_rest t) ran.1.2.0) ∙ chars-nil in
    let all : chars field ≡ passed xs = ap chars (sym from) ∙ at.characters ∙ ap (λ l. passed xs ++ l) none ∙ append-nil (passed xs) in
    let count = ap length all ∙ length-map xs (λ x. x.1) in
    let few = ran.2 in
    cond_above most_shown (length (chars field)) _ (escaped_text field) text (omega (arith, count, few, most)) text_is
