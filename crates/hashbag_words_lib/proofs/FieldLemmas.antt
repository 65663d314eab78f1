-- What a text is cut into at a separator, and the fields that are left behind it.
use Rattle.std.proofs.Common.{◌≡◌, ℕ, zero, suc, ◌+◌, ◌-◌, ◌<◌, ◌≤◌, Bool, true, false, cond, List, [], ◌∷◌, ◌++◌, length, map, take, drop, Option, None, Some, MatchOption, refl, sym, ◌∙◌, ap, subst, arith, length-append}
use borrow.Author.Tests.{eq-eqb}
use lib.Dec.{eqb}
use lib.Utf8.{scalars, encodes, encode}
use Rattle.std.specs.Borrow.{Bor}
use Rattle.std.specs.Char.{char_set_contains}
use Rattle.std.specs.List.{slice_get, slice_split, filter, All}
use Rattle.std.specs.Str.{chars, IsUtf8, NonePass, NoCharPasses}
use Rattle.std.specs.Str.Pattern.{FindsBy, FindsChar}
use Rattle.std.proofs.lemmas.List.{take-append-drop}
use Rattle.std.proofs.lemmas.List.Elements.{All-nil, All-cons}
use Rattle.std.proofs.lemmas.List.Splits.{slice_split_at, slice_split_none}
use Rattle.std.proofs.lemmas.Str.{chars-encodes, chars_from_encodes, cons_from_encodes, length-encode, len_utf8_bounds}
use Rattle.hashbag_words_lib.specs.Fields.{fields_of, is_field, parts_of}
use Rattle.hashbag_words_lib.specs.declared.rule.Separator.{Separator}
use Rattle.hashbag_words_lib.proofs.WordLemmas.{ahead, scalars_left}

-- ---- a cut at the first character that passes a test

-- what is between the characters that pass a test
abbrev parts : (ℕ → Bool) → List ℕ → List (List ℕ)
parts k bs = map encodes (slice_split k (chars bs))

none_pass : (k : ℕ → Bool) (cs : List ℕ) → NonePass k cs → All (λ c. k c ≡ false) cs
none_pass k [] h = All-nil (λ c. k c ≡ false)
none_pass k (c ∷ cs) h = All-cons (λ d. k d ≡ false) c cs h.0 (none_pass k cs h.1)

-- a text without such a character is one part
one_part : (k : ℕ → Bool) (bs : List ℕ) → IsUtf8 bs → NoCharPasses k bs → parts k bs ≡ bs ∷ []
one_part k bs text none =
    ap (λ (l : List ℕ). map encodes (slice_split k l)) (sym (chars_from_encodes none.0 bs text none.1))
    ∙ ap (λ (l : List (List ℕ)). map encodes l) (slice_split_none k none.0 (none_pass k none.0 none.2))
    ∙ ap (λ (l : List ℕ). l ∷ []) none.1

-- what is before the first one is the first part
first_part : (k : ℕ → Bool) (bs front rest : List ℕ) (c : ℕ) → IsUtf8 bs → bs ≡ front ++ (encode c ++ rest) → k c ≡ true → NoCharPasses k front
    → parts k bs ≡ front ∷ parts k rest
first_part k bs front rest c text is hit none =
    let a = ahead bs none.0 (encode c ++ rest) text (is ∙ ap (λ (l : List ℕ). l ++ (encode c ++ rest)) (sym none.1)) in
    let b = cons_from_encodes a.after rest c a.rest_is in
    let last : chars rest ≡ b.0 = ap chars (sym b.2) ∙ chars-encodes b.0 (scalars_left (c ∷ []) b.0 (ap scalars (sym b.1) ∙ a.are_scalar)) in
    ap (λ (l : List ℕ). map encodes (slice_split k l)) (a.chars_are ∙ ap (λ (l : List ℕ). none.0 ++ l) b.1)
    ∙ ap (λ (l : List (List ℕ)). map encodes l) (slice_split_at k none.0 c b.0 (none_pass k none.0 none.2) hit)
    ∙ ap (λ (l : List ℕ). l ∷ parts_after b.0) none.1
    ∙ ap (λ (l : List ℕ). front ∷ parts_after l) (sym last)
  where
    parts_after : List ℕ → List (List ℕ)
    parts_after l = map encodes (slice_split k l)

-- what `split_once` says, with the character that it finds by a test
abbrev FoundBy : (ℕ → Bool) → List ℕ → Bor (List ℕ) × Bor (List ℕ) → Type 0
FoundBy k bs x =
    (i : ℕ) × (j : ℕ) × FindsBy k bs (Some (i, j)) × (x.0.now ≡ take i bs) × (x.1.now ≡ drop j bs) × (i ≤ j) × (length x.0.now ≡ i) × (length x.1.now + j ≡ length bs)

cut_by : (k : ℕ → Bool) (bs : List ℕ) (x : Bor (List ℕ) × Bor (List ℕ)) → IsUtf8 bs → FoundBy k bs x → (parts k bs ≡ x.0.now ∷ parts k x.1.now) × (length x.1.now < length bs)
cut_by k bs x text h =
    let c = h.2.1.0 in
    let at = h.2.1.2 in
    let whole : bs ≡ x.0.now ++ (encode c ++ x.1.now) =
    sym (take-append-drop h.0 bs) ∙ ap (λ (l : List ℕ). take h.0 bs ++ l) (at.split ∙ ap (λ (l : List ℕ). encode c ++ l) (sym h.4))
    ∙ ap (λ (l : List ℕ). l ++ (encode c ++ x.1.now)) (sym h.3) in (
      first_part k bs x.0.now x.1.now c text whole h.2.1.1 (subst (NoCharPasses k) (sym h.3) h.2.0),
      omega (arith, ap length whole, length-append x.0.now (encode c ++ x.1.now), length-append (encode c) x.1.now, length-encode c, (len_utf8_bounds c).0),
    )

-- how `split_once` cuts at a character
pub cut_at_char : (c : ℕ) (bs : List ℕ) (r : Option (Bor (List ℕ) × Bor (List ℕ))) → IsUtf8 bs
    → MatchOption r (FindsChar c bs None) (λ x. (i : ℕ) × (j : ℕ) × FindsChar c bs (Some (i, j)) × (x.0.now ≡ take i bs) × (x.1.now ≡ drop j bs) × (i ≤ j) × (length x.0.now ≡ i) × (length x.1.now + j ≡ length bs))
    → MatchOption r (parts (λ d. eqb d c) bs ≡ bs ∷ []) (λ x. (parts (λ d. eqb d c) bs ≡ x.0.now ∷ parts (λ d. eqb d c) x.1.now) × (length x.1.now < length bs))
cut_at_char c bs None text h = one_part (λ d. eqb d c) bs text h
cut_at_char c bs (Some x) text h = cut_by (λ d. eqb d c) bs x text (h.0, h.1, (h.2.0, (c, eq-eqb c c refl, h.2.1)), h.3, h.4, h.5, h.6, h.7)

-- what `find` says of a list of characters as a pattern
abbrev FindsAny : List ℕ → List ℕ → Option (ℕ × ℕ) → Type 0
FindsAny set bs r = (k : ℕ → Bool) → ((c : ℕ) → char_set_contains set c ≡ k c) → FindsBy k bs r

-- how `split_once` cuts at one of several characters
pub cut_at_any : (set bs : List ℕ) (r : Option (Bor (List ℕ) × Bor (List ℕ))) → IsUtf8 bs
    → MatchOption r (FindsAny set bs None) (λ x. (i : ℕ) × (j : ℕ) × FindsAny set bs (Some (i, j)) × (x.0.now ≡ take i bs) × (x.1.now ≡ drop j bs) × (i ≤ j) × (length x.0.now ≡ i) × (length x.1.now + j ≡ length bs))
    → MatchOption r (parts (char_set_contains set) bs ≡ bs ∷ []) (λ x. (parts (char_set_contains set) bs ≡ x.0.now ∷ parts (char_set_contains set) x.1.now) × (length x.1.now < length bs))
cut_at_any set bs None text h = one_part (char_set_contains set) bs text (h (char_set_contains set) (λ c. refl))
cut_at_any set bs (Some x) text h = cut_by (char_set_contains set) bs x text (h.0, h.1, h.2 (char_set_contains set) (λ c. refl), h.3, h.4, h.5, h.6, h.7)

-- ---- the fields behind a cut, and those of a text that can't be cut

module _ (s : Separator) (bs : List ℕ) where
  cut_fields : (part behind : List ℕ) (n : ℕ) (b : Bool) → parts_of s bs ≡ part ∷ parts_of s behind → is_field s part ≡ b → slice_get (fields_of s bs) n ≡ slice_get (cond b (part ∷ fields_of s behind) (fields_of s behind)) n
  cut_fields part behind n b cut is =
      ap (λ (l : List (List ℕ)). slice_get (filter (is_field s) l) n) cut
      ∙ ap (λ (b : Bool). slice_get (cond b (part ∷ fields_of s behind) (fields_of s behind)) n) is

  pub behind_no_field : (part behind : List ℕ) (n : ℕ) → parts_of s bs ≡ part ∷ parts_of s behind → is_field s part ≡ false → slice_get (fields_of s bs) n ≡ slice_get (fields_of s behind) n
  behind_no_field part behind n cut is = cut_fields part behind n false cut is

  a_field : (part behind : List ℕ) (n : ℕ) → parts_of s bs ≡ part ∷ parts_of s behind → is_field s part ≡ true → slice_get (fields_of s bs) n ≡ slice_get (part ∷ fields_of s behind) n
  a_field part behind n cut is = cut_fields part behind n true cut is

  pub this_field : (part behind : List ℕ) (n : ℕ) → parts_of s bs ≡ part ∷ parts_of s behind → is_field s part ≡ true → n ≡ 0 → slice_get (fields_of s bs) n ≡ Some part
  this_field part behind n cut is zeroth = a_field part behind n cut is ∙ ap (λ (k : ℕ). slice_get (part ∷ fields_of s behind) k) zeroth

  pub behind_a_field : (part behind : List ℕ) (n : ℕ) → parts_of s bs ≡ part ∷ parts_of s behind → is_field s part ≡ true → 0 < n → slice_get (fields_of s bs) n ≡ slice_get (fields_of s behind) (n - 1)
  behind_a_field part behind zero cut is more = absurd (omega arith)
  behind_a_field part behind (suc m) cut is more =
      let one_less : m ≡ suc m - 1 = omega arith in
      a_field part behind (suc m) cut is ∙ ap (λ (k : ℕ). slice_get (fields_of s behind) k) one_less

  -- the last part is a field, or it is none
  one_part_fields : (n : ℕ) (b : Bool) → parts_of s bs ≡ bs ∷ [] → is_field s bs ≡ b → slice_get (fields_of s bs) n ≡ slice_get (cond b (bs ∷ []) []) n
  one_part_fields n b one is =
      ap (λ (l : List (List ℕ)). slice_get (filter (is_field s) l) n) one ∙ ap (λ (b : Bool). slice_get (cond b (bs ∷ []) []) n) is

  pub last_field : (n : ℕ) → parts_of s bs ≡ bs ∷ [] → is_field s bs ≡ true → n ≡ 0 → slice_get (fields_of s bs) n ≡ Some bs
  last_field n one is zeroth = one_part_fields n true one is ∙ ap (λ (k : ℕ). slice_get (bs ∷ []) k) zeroth

  pub no_last_field : (n : ℕ) → parts_of s bs ≡ bs ∷ [] → is_field s bs ≡ false → slice_get (fields_of s bs) n ≡ None
  no_last_field n one is = one_part_fields n false one is

  pub past_the_last : (n : ℕ) → parts_of s bs ≡ bs ∷ [] → 0 < n → slice_get (fields_of s bs) n ≡ None
  past_the_last n one more =
      ap (λ (l : List (List ℕ)). slice_get (filter (is_field s) l) n) one ∙ of_one (is_field s bs) n more
    where
      of_one : (b : Bool) (k : ℕ) → 0 < k → slice_get (cond b (bs ∷ []) []) k ≡ None
      of_one false k some = refl
      of_one true zero some = absurd (omega arith)
      of_one true (suc k) some = refl
