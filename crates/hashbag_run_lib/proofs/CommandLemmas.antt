-- What the definitions of `specs/Commands` say at the code's tests.
use Rattle.std.proofs.Common.{◌≡◌, ℕ, ◌+◌, ◌^◌, ◌<◌, ◌≤◌, ◌==◌, nat_lt, nat_le, Bool, true, false, ◌&&◌, List, [], ◌∷◌, ◌++◌, length, take, drop, get_or, map, Option, Some, None, Result, Ok, Err, Bor, below_more, refl, sym, ◌∙◌, ap, subst, arith, append_assoc}
use Rattle.std.specs.Prelude.{filter_map, codes, bytes_eq, option_map, option_and_then, option_to_list, IsUtf8, IsAscii, OkIff}
use Rattle.std.specs.Char.{is_ascii_digit}
use Rattle.std.specs.Int.{IsInRange}
use Rattle.std.specs.List.{list_any, list_all, cons_option, position_or_len}
use Rattle.std.specs.Result.{result_ok}
use Rattle.std.specs.Str.Parse.{digits_value}
use Rattle.std.proofs.lemmas.Bool.{and_parts, and_from, and_left, and_right, or_from, leb-true, cond-true, cond-false, false_from_ne_true, ltb-true, lt-ltb, le-ltb, le-leb, lt-leb}
use Rattle.std.proofs.lemmas.List.{take_more, take_all, drop_all, at_drop_more, get_or_default, append-nil}
use Rattle.std.proofs.lemmas.Iterator.Adapters.{option_map_id}
use Rattle.std.proofs.lemmas.List.Elements.{filter_map-append}
use Rattle.std.proofs.lemmas.List.Sums.{position_or_len_is}
use Rattle.std.proofs.lemmas.Slice.Eq.{bytes_eq-Decides}
use Rattle.std.proofs.lemmas.Str.{IsUtf8-from_ascii}
use Rattle.std.proofs.lemmas.Str.Ascii.{IsAscii-nil, IsAscii-cons}
use Rattle.std.proofs.lemmas.Str.Parse.{IsDigitsTest, IsNumeralModel, numerals_by_value}
use Rattle.std.proofs.lemmas.List.{length-map, get_or-map}
use Rattle.hashbag_run_lib.specs.Commands.{number_in, numbers_in, verbs, command, Command, command_on, is_bad, lines_of, first_bad, commands_of}

-- ---- numbers

is_digit : (c : ℕ) → IsInRange 48 57 c → is_ascii_digit c ≡ true
is_digit c range = and_from _ _ (le-leb 48 c range.0) (le-leb c 57 range.1)

in_range : (c : ℕ) → is_ascii_digit c ≡ true → IsInRange 48 57 c
in_range c digit =
    let parts = and_parts (nat_le 48 c) (nat_le c 57) digit in
    (leb-true 48 c parts.0, leb-true c 57 parts.1)

tells_digits : IsDigitsTest (λ ds. list_all is_ascii_digit ds ≡ true)
tells_digits = record {
  empty = refl;
  parts = λ c cs all. let sides = and_parts (is_ascii_digit c) (list_all is_ascii_digit cs) all in (in_range c sides.0, sides.1);
  more = λ c cs range rest. and_from (is_ascii_digit c) (list_all is_ascii_digit cs) (is_digit c range) rest;
}

pub digits_model : IsNumeralModel (λ ds. list_all is_ascii_digit ds ≡ true) (digits_value 10)
digits_model = numerals_by_value _ tells_digits

pub number_too_long : (w : List ℕ) → 20 < length w → None ≡ number_in w
number_too_long w long = sym (cond-false _ _ _ (and_right _ _ (and_left _ _ (lt-leb (length w) 20 long))))

pub number_odd : (w : List ℕ) → list_all is_ascii_digit w ≡ false → None ≡ number_in w
number_odd w odd = sym (cond-false _ _ _ (and_left _ _ (and_left _ _ odd)))

pub number_read : {E : Type 0} (w : List ℕ) (r : Result ℕ E) (o : Option ℕ) → o ≡ result_ok r → OkIff r ((0 < length w) × (digits_value 10 w < 2 ^ 64)) (digits_value 10 w) → list_all is_ascii_digit w ≡ true → length w ≤ 20 → o ≡ number_in w
number_read w (Ok n) o is read digits short =
    is ∙ ap Some read.1 ∙ sym (cond-true _ _ _ (and_from _ _ (and_from _ _ digits (lt-ltb 0 (length w) read.0.0)) (and_from _ _ (le-leb (length w) 20 short) (lt-ltb (digits_value 10 w) (2 ^ 64) read.0.1))))
number_read w (Err e) o is refused digits short =
    let some = list_all is_ascii_digit w && nat_lt 0 (length w) in
    let fits = nat_le (length w) 20 && nat_lt (digits_value 10 w) (2 ^ 64) in
    let none : (some && fits) ≡ false = false_from_ne_true (some && fits) (λ all.
    let sides = and_parts some fits all in
    refused (ltb-true 0 (length w) (and_parts (list_all is_ascii_digit w) (nat_lt 0 (length w)) sides.0).1, ltb-true (digits_value 10 w) (2 ^ 64) (and_parts (nat_le (length w) 20) (nat_lt (digits_value 10 w) (2 ^ 64)) sides.1).1)) in
    is ∙ sym (cond-false _ _ _ none)

all_ascii : (test : ℕ → Bool) → ((b : ℕ) → test b ≡ true → b < 128) → (bs : List ℕ) → list_all test bs ≡ true → IsAscii bs
all_ascii test low [] all = IsAscii-nil
all_ascii test low (b ∷ bs) all = IsAscii-cons b bs (low b (and_parts _ _ all).0) (all_ascii test low bs (and_parts _ _ all).1)

digit_low : (b : ℕ) → is_ascii_digit b ≡ true → b < 128
digit_low b digit = omega (arith, (in_range b digit).1)

pub digits_are_text : (w : List ℕ) → list_all is_ascii_digit w ≡ true → IsUtf8 w
digits_are_text w digits = IsUtf8-from_ascii w (all_ascii is_ascii_digit digit_low w digits)

-- ---- lists of numbers

onto : (done : List ℕ) (n : ℕ) (rest : Option (List ℕ)) → option_map (λ ns. done ++ ns) (option_map (λ ns. n ∷ ns) rest) ≡ option_map (λ ns. (done ++ n ∷ []) ++ ns) rest
onto done n None = refl
onto done n (Some ns) = ap Some (sym (append_assoc done (n ∷ []) ns))

-- the numbers of the words are those so far, and then those of the words from place i on
abbrev pub HasRead : List (List ℕ) → ℕ → List ℕ → Type 0
HasRead words i done = numbers_in words ≡ option_map (λ ns. done ++ ns) (numbers_in (drop i words))

-- the numbers of the words after a number
abbrev after : Option (List ℕ) → ℕ → Option (List ℕ)
after rest n = option_map (λ ns. n ∷ ns) rest

from_place : (words : List (List ℕ)) (i : ℕ) → i < length words → numbers_in (drop i words) ≡ option_and_then (after (numbers_in (drop (i + 1) words))) (number_in (get_or words i []))
from_place words i inside = at_drop_more numbers_in words i [] inside

pub read_begun : (words : List (List ℕ)) → HasRead words 0 []
read_begun words = sym (option_map_id (numbers_in words))

pub read_more : (words : List (List ℕ)) (i : ℕ) (done : List ℕ) (n : ℕ) → i < length words → HasRead words i done → Some n ≡ number_in (get_or words i []) → HasRead words (i + 1) (done ++ n ∷ [])
read_more words i done n inside so_far is =
    so_far ∙ ap (option_map (λ ns. done ++ ns)) (from_place words i inside ∙ ap (option_and_then (after (numbers_in (drop (i + 1) words)))) (sym is)) ∙ onto done n (numbers_in (drop (i + 1) words))

pub read_stopped : (words : List (List ℕ)) (i : ℕ) (done : List ℕ) → i < length words → HasRead words i done → None ≡ number_in (get_or words i []) → None ≡ numbers_in words
read_stopped words i done inside so_far is =
    sym (so_far ∙ ap (option_map (λ ns. done ++ ns)) (from_place words i inside ∙ ap (option_and_then (after (numbers_in (drop (i + 1) words)))) (sym is)))

pub read_all : (words : List (List ℕ)) (i : ℕ) (done : List ℕ) → length words ≤ i → HasRead words i done → Some done ≡ numbers_in words
read_all words i done ended so_far =
    sym (so_far ∙ ap (λ rest. option_map (λ ns. done ++ ns) (numbers_in rest)) (drop_all i words ended) ∙ ap Some (append-nil done))

-- ---- verbs

unlike : (verb name : List ℕ) → ¬ IsUtf8 verb → list_all (λ b. nat_lt b 128) name ≡ true → bytes_eq verb name ≡ false
unlike verb name odd low =
    false_from_ne_true _ (λ same. odd (subst (λ (bs : List ℕ). IsUtf8 bs) (sym ((bytes_eq-Decides verb name).0 same)) (IsUtf8-from_ascii name (all_ascii (λ b. nat_lt b 128) (λ b t. ltb-true b 128 t) name low))))

unnamed : (verb : List ℕ) (many : ℕ) → ¬ IsUtf8 verb → (vs : List (List ℕ × ℕ)) → list_all (λ v. list_all (λ b. nat_lt b 128) v.0) vs ≡ true → list_any (λ v. bytes_eq verb v.0 && (many == v.1)) vs ≡ false
unnamed verb many odd [] low = refl
unnamed verb many odd (v ∷ vs) low =
    let parts = and_parts (list_all (λ b. nat_lt b 128) v.0) (list_all (λ u. list_all (λ b. nat_lt b 128) u.0) vs) low in
    or_from _ _ (and_left _ _ (unlike verb v.0 odd parts.0)) (unnamed verb many odd vs parts.1)

pub no_text_no_verb : (verb numbers : List ℕ) → ¬ IsUtf8 verb → None ≡ command verb numbers
no_text_no_verb verb numbers odd =
    sym (cond-false _ _ _ (or_from _ _ (and_left _ _ (unlike verb (codes "retain") odd refl)) (unnamed verb (length numbers) odd verbs refl)))

-- ---- inputs

pub first_is : (input : List ℕ) (i : ℕ) (line : List ℕ) → i < length (lines_of input) → line ≡ get_or (lines_of input) i line → ((k : ℕ) → k < i → is_bad (get_or (lines_of input) k []) ≡ false) → is_bad line ≡ true → first_bad input ≡ Some (i + 1)
first_is input i line inside is before bad =
    let at : is_bad (get_or (lines_of input) i []) ≡ true = ap is_bad (get_or_default (lines_of input) i [] line inside ∙ sym is) ∙ bad in
    let first = position_or_len_is is_bad (lines_of input) i [] (omega arith) before (λ _. at) in
    ap (option_map (λ k. k + 1)) (cond-true _ _ _ (lt-ltb (position_or_len is_bad (lines_of input)) (length (lines_of input)) (omega (arith, first, inside))) ∙ ap Some first)

pub none_is : (input : List ℕ) (n : ℕ) → n ≡ length (lines_of input) → ((k : ℕ) → k < n → is_bad (get_or (lines_of input) k []) ≡ false) → first_bad input ≡ None
none_is input n all before =
    let first = position_or_len_is is_bad (lines_of input) n [] (omega arith) before (λ inside. absurd (omega (arith, inside, all))) in
    ap (option_map (λ k. k + 1)) (cond-false _ _ _ (le-ltb (position_or_len is_bad (lines_of input)) (length (lines_of input)) (omega (arith, first, all))))

pub good_so_far : (input : List ℕ) (i : ℕ) (line : List ℕ) → i < length (lines_of input) → line ≡ get_or (lines_of input) i line → ((k : ℕ) → k < i → is_bad (get_or (lines_of input) k []) ≡ false) → is_bad line ≡ false → (k : ℕ) → k < i + 1 → is_bad (get_or (lines_of input) k []) ≡ false
good_so_far input i line inside is before good =
    let P : ℕ → Type 0 = λ k. is_bad (get_or (lines_of input) k []) ≡ false in
    below_more P i before (ap is_bad (get_or_default (lines_of input) i [] line inside ∙ sym is) ∙ good)

pub commands_more : (bag input : List ℕ) (i : ℕ) (line : List ℕ) (before after : List Command) → i < length (lines_of input) → line ≡ get_or (lines_of input) i line → before ≡ filter_map (command_on bag) (take i (lines_of input)) → after ≡ before ++ option_to_list (command_on bag line) → after ≡ filter_map (command_on bag) (take (i + 1) (lines_of input))
commands_more bag input i line before after inside is so_far one =
    one ∙ ap (λ l. l ++ option_to_list (command_on bag line)) so_far
    ∙ ap (λ l. filter_map (command_on bag) (take i (lines_of input)) ++ l) (single (command_on bag) line)
    ∙ sym (filter_map-append (command_on bag) (take i (lines_of input)) (line ∷ []))
    ∙ ap (λ x. filter_map (command_on bag) (take i (lines_of input) ++ x ∷ [])) is
    ∙ sym (ap (filter_map (command_on bag)) (take_more (lines_of input) i line inside))
  where
    kept : {Y : Type 0} (o : Option Y) → option_to_list o ≡ cons_option o []
    kept None = refl
    kept (Some y) = refl

    single : {X Y : Type 0} (h : X → Option Y) (x : X) → option_to_list (h x) ≡ filter_map h (x ∷ [])
    single h x = kept (h x)

pub commands_all : (bag input : List ℕ) (n : ℕ) (commands : List Command) → n ≡ length (lines_of input) → commands ≡ filter_map (command_on bag) (take n (lines_of input)) → commands ≡ commands_of bag input
commands_all bag input n commands all is = is ∙ ap (filter_map (command_on bag)) (take_all n (lines_of input) (omega arith))

-- ---- words, behind references

now_at : (ws : List (Bor (List ℕ))) (i : ℕ) (d : Bor (List ℕ)) → i < length ws → (get_or ws i d).now ≡ get_or (map (λ x. x.now) ws) i []
now_at ws i d inside = sym (get_or-map (λ x. x.now) ws i d [] inside)

pub word_read : (ws : List (Bor (List ℕ))) (i : ℕ) (d : Bor (List ℕ)) (done : List ℕ) (n : ℕ) → i < length ws → HasRead (map (λ x. x.now) ws) i done → Some n ≡ number_in (get_or ws i d).now → HasRead (map (λ x. x.now) ws) (i + 1) (done ++ n ∷ [])
word_read ws i d done n inside so_far read =
    read_more (map (λ x. x.now) ws) i done n (rw (length-map ws (λ x. x.now)) inside) so_far (read ∙ ap number_in (now_at ws i d inside))

pub word_stopped : (ws : List (Bor (List ℕ))) (i : ℕ) (d : Bor (List ℕ)) (done : List ℕ) → i < length ws → HasRead (map (λ x. x.now) ws) i done → None ≡ number_in (get_or ws i d).now → None ≡ numbers_in (map (λ x. x.now) ws)
word_stopped ws i d done inside so_far odd =
    read_stopped (map (λ x. x.now) ws) i done (rw (length-map ws (λ x. x.now)) inside) so_far (odd ∙ ap number_in (now_at ws i d inside))
