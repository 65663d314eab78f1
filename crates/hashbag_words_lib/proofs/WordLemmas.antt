-- The words that `split_whitespace` gives are what stands between white space.
use Rattle.std.proofs.Common.{◌≡◌, ℕ, ◌<◌, ◌≤◌, Bool, true, false, cond, ◌&&◌, List, [], ◌∷◌, ◌++◌, length, map, get_or, refl, sym, ◌∙◌, ap, subst, arith, append_assoc}
use borrow.Author.Tests.{not-false, lt-ltb}
use lib.Utf8.{scalar, scalars, encodes, encode}
use Rattle.std.specs.Char.{is_whitespace, is_not_whitespace}
use Rattle.std.specs.List.{slice_split, onto_first, All}
use Rattle.std.specs.Str.{chars, IsUtf8, NonePass, NoCharPasses, EmptyOrStartsWithPassing}
use Rattle.std.specs.Str.Iter.{split_whitespace_rest, split_whitespace_steps}
use Rattle.std.proofs.lemmas.Iterator.{YieldsList}
use Rattle.std.proofs.lemmas.Iterator.Splits.{YieldsList-from_shown_while}
use Rattle.std.proofs.lemmas.List.{append-nil, nil_from_length}
use Rattle.std.proofs.lemmas.List.Elements.{All-nil, All-cons}
use Rattle.std.proofs.lemmas.List.Splits.{slice_split_at, slice_split_none}
use Rattle.std.proofs.lemmas.Str.{chars-encodes, cons_from_encodes, length-le-encodes}
use Rattle.hashbag_words_lib.specs.Tokens.{nonempty, spaced_words}

-- ---- characters at the front of a text

-- a text that begins with these characters goes on with the others
characters_left : (cs ds rest : List ℕ) → encodes ds ≡ encodes cs ++ rest → (es : List ℕ) × (ds ≡ cs ++ es) × (encodes es ≡ rest)
characters_left [] ds rest e = (ds, refl, e)
characters_left (c ∷ cs) ds rest e =
    let first = cons_from_encodes ds (encodes cs ++ rest) c (e ∙ append_assoc (encode c) (encodes cs) rest) in
    let later = characters_left cs first.0 rest first.2 in
    (later.0, first.1 ∙ ap (λ (l : List ℕ). c ∷ l) later.1, later.2)

second_of_both : (a b : Bool) → (a && b) ≡ true → b ≡ true
second_of_both true b e = e
second_of_both false b e = absurd (cc)

pub scalars_left : (cs es : List ℕ) → scalars (cs ++ es) ≡ true → scalars es ≡ true
scalars_left [] es e = e
scalars_left (c ∷ cs) es e = scalars_left cs es (second_of_both (scalar c) (scalars (cs ++ es)) e)

-- ---- the parts between white space

all_white : (cs : List ℕ) → NonePass is_not_whitespace cs → (es : List ℕ) → nonempty (slice_split is_whitespace (cs ++ es)) ≡ nonempty (slice_split is_whitespace es)
all_white [] h es = refl
all_white (c ∷ cs) h es =
    ap (λ (b : Bool). nonempty (cond b ([] ∷ slice_split is_whitespace (cs ++ es)) (onto_first c (slice_split is_whitespace (cs ++ es))))) (not-false (is_whitespace c) h.0)
    ∙ all_white cs h.1 es

none_white : (cs : List ℕ) → NonePass is_whitespace cs → All (λ c. is_whitespace c ≡ false) cs
none_white [] h = All-nil (λ c. is_whitespace c ≡ false)
none_white (c ∷ cs) h = All-cons (λ d. is_whitespace d ≡ false) c cs h.0 (none_white cs h.1)

kept_first : (w : List ℕ) (parts : List (List ℕ)) → 0 < length w → nonempty (w ∷ parts) ≡ w ∷ nonempty parts
kept_first w parts some = ap (λ (b : Bool). cond b (w ∷ nonempty parts) (nonempty parts)) (lt-ltb 0 (length w) some)

-- a word before what is empty or begins with white space
word_first : (w : List ℕ) → NonePass is_whitespace w → 0 < length w → (es : List ℕ) → (0 < length es → is_whitespace (get_or es 0 0) ≡ true)
    → nonempty (slice_split is_whitespace (w ++ es)) ≡ w ∷ nonempty (slice_split is_whitespace es)
word_first w word some [] white =
    ap (λ (l : List ℕ). nonempty (slice_split is_whitespace l)) (append-nil w)
    ∙ ap nonempty (slice_split_none is_whitespace w (none_white w word)) ∙ kept_first w [] some
word_first w word some (e ∷ es) white =
    ap nonempty (slice_split_at is_whitespace w e es (none_white w word) (white (omega arith))) ∙ kept_first w (slice_split is_whitespace es) some
    ∙ ap (λ (b : Bool). w ∷ nonempty (cond b ([] ∷ slice_split is_whitespace es) (onto_first e (slice_split is_whitespace es)))) (sym (white (omega arith)))

-- ---- a step of the iterator

-- the characters of what is left, behind a gap and behind a word
pub record Ahead (bs : List ℕ) (cs : List ℕ) (rest : List ℕ) : Type 0 where
  pub after : List ℕ
  pub chars_are : chars bs ≡ cs ++ after
  pub rest_is : encodes after ≡ rest
  pub are_scalar : scalars after ≡ true

pub ahead : (bs cs rest : List ℕ) → IsUtf8 bs → bs ≡ encodes cs ++ rest → Ahead bs cs rest
ahead bs cs rest text e =
    let left = characters_left cs text.0 rest (text.1.1 ∙ e) in
    record {
      after = left.0;
      chars_are = ap chars (sym text.1.1) ∙ chars-encodes text.0 text.1.0 ∙ left.1;
      rest_is = left.2;
      are_scalar = scalars_left cs left.0 (ap scalars (sym left.1) ∙ text.1.0);
    }

no_characters : (cs : List ℕ) → encodes cs ≡ [] → cs ≡ []
no_characters cs none = nil_from_length cs (let fits : length cs ≤ length (encodes cs) = length-le-encodes cs in let long : length (encodes cs) ≡ 0 = ap length none in omega arith)

some_characters : (cs : List ℕ) → 0 < length (encodes cs) → 0 < length cs
some_characters [] some = some
some_characters (c ∷ cs) some = omega arith

-- nothing but white space has no words
no_words : (bs : List ℕ) → IsUtf8 bs → NoCharPasses is_not_whitespace bs → spaced_words bs ≡ []
no_words bs text white =
    let a = ahead bs white.0 [] text (sym white.1 ∙ sym (append-nil (encodes white.0))) in
    ap (λ (l : List ℕ). map encodes (nonempty (slice_split is_whitespace l))) a.chars_are
    ∙ ap (λ (l : List (List ℕ)). map encodes l) (all_white white.0 white.2 a.after)
    ∙ ap (λ (l : List ℕ). map encodes (nonempty (slice_split is_whitespace l))) (no_characters a.after a.rest_is)

-- what is empty or begins with white space
begins_white : (es rest more : List ℕ) → encodes es ≡ rest → EmptyOrStartsWithPassing is_whitespace rest more → 0 < length es → is_whitespace (get_or es 0 0) ≡ true
begins_white es rest more e white some =
    let fits : length es ≤ length (encodes es) = length-le-encodes es in
    let long : length (encodes es) ≡ length rest = ap length e in
    let begun = white (omega arith) in
    let split = cons_from_encodes es more begun.0 (e ∙ begun.2) in
    ap (λ (l : List ℕ). is_whitespace (get_or l 0 0)) split.1 ∙ begun.1

-- a word that comes off the front is the first word
next_word : (bs gap w rest more : List ℕ) → IsUtf8 bs → bs ≡ gap ++ (w ++ rest) → 0 < length w → NoCharPasses is_not_whitespace gap → NoCharPasses is_whitespace w → EmptyOrStartsWithPassing is_whitespace rest more
    → IsUtf8 rest × (spaced_words bs ≡ w ∷ spaced_words rest)
next_word bs gap w rest more text parts some white word behind =
    let a = ahead bs white.0 (w ++ rest) text (parts ∙ ap (λ (l : List ℕ). l ++ (w ++ rest)) (sym white.1)) in
    let b = ahead (w ++ rest) word.0 rest (a.after, (a.are_scalar, a.rest_is)) (ap (λ (l : List ℕ). l ++ rest) (sym word.1)) in
    let whole : chars bs ≡ white.0 ++ (word.0 ++ b.after) =
    a.chars_are ∙ ap (λ (l : List ℕ). white.0 ++ l) (sym (ap chars (sym a.rest_is) ∙ chars-encodes a.after a.are_scalar) ∙ b.chars_are) in
    let last : chars rest ≡ b.after = ap chars (sym b.rest_is) ∙ chars-encodes b.after b.are_scalar in
    let long : 0 < length (encodes word.0) = subst (λ (l : List ℕ). 0 < length l) (sym word.1) some in (
      (b.after, (b.are_scalar, b.rest_is)),
      ap (λ (l : List ℕ). map encodes (nonempty (slice_split is_whitespace l))) whole
          ∙ ap (λ (l : List (List ℕ)). map encodes l) (all_white white.0 white.2 (word.0 ++ b.after))
          ∙ ap (λ (l : List (List ℕ)). map encodes l) (word_first word.0 word.2 (some_characters word.0 long) b.after (begins_white b.after rest more b.rest_is behind))
          ∙ ap (λ (l : List ℕ). l ∷ map encodes (nonempty (slice_split is_whitespace b.after))) word.1
          ∙ ap (λ (l : List ℕ). w ∷ map encodes (nonempty (slice_split is_whitespace l))) (sym last),
    )

-- `split_whitespace` gives what stands between white space; the fact is the call's clause `rest`
pub YieldsList-from_split_whitespace : {s : _} (bs : List ℕ) → IsUtf8 bs → split_whitespace_rest s ≡ bs → YieldsList split_whitespace_steps (λ x. x.now) s (spaced_words bs)
YieldsList-from_split_whitespace {s} bs text e =
    subst (λ (v : List ℕ). YieldsList split_whitespace_steps (λ x. x.now) s (spaced_words v)) e
    (YieldsList-from_shown_while split_whitespace_steps (λ x. x.now) (λ t. spaced_words (split_whitespace_rest t)) (λ t. IsUtf8 (split_whitespace_rest t))
    (λ t u is k. ap length (no_words (split_whitespace_rest t) is k.1))
    (λ t x u is k. next_word (split_whitespace_rest t) k.0 x.now (split_whitespace_rest u) k.5.0 is k.1 k.2 k.3 k.4 k.5.1)
    s (subst IsUtf8 (sym e) text))
