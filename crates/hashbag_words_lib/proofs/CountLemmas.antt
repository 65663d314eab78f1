-- Tokens and rows that are given to a sink, one after the other; and to a bag.
use Rattle.std.proofs.Common.{◌≡◌, ℕ, ◌+◌, cond, List, [], ◌∷◌, ◌++◌, map, String, string_bytes, string_eq, bytes_eq, Global, refl, sym, ◌∙◌, ap, subst, arith, append_assoc}
use Rattle.std.specs.Cmp.Lexicographic.{bytes_decides, nat_list_eq_equiv}
use Rattle.std.specs.String.{string_eq_equiv}
use Rattle.hashbag_core.specs.Bag.{Bag, IsBagOf}
use Rattle.hashbag_core.specs.EqualityLaws.{count_append}
use Rattle.hashbag_core.specs.Keys.{InsertsNamed}
use Rattle.hashbag_core.specs.Occurrences.{count, add}
use Rattle.hashbag_core.proofs.CallerLemmas.{count_inserted_any, count_inserted_key, text_names_one}
use Rattle.std.proofs.lemmas.List.{append-nil}
use Rattle.std.proofs.lemmas.List.Sums.{sum_by-append, sum_by-cons}
use Rattle.hashbag_words_lib.specs.Counts.{texts_in, HasRows, HasTokens, Takes, TakesRows}
use Rattle.hashbag_words_lib.specs.Sorted.{of_row, row_of, times_in}
use Rattle.hashbag_words_lib.proofs.TextLemmas.{adds}

none_behind : (n : ℕ) → n ≡ n + 0
none_behind n = omega arith

-- a function of what items show
pub map-map : {A B C : Type 0} (f : B → C) (g : A → B) (xs : List A) → map (λ x. f (g x)) xs ≡ map f (map g xs)
map-map f g [] = refl
map-map f g (x ∷ xs) = ap (λ (l : List _). f (g x) ∷ l) (map-map f g xs)

-- ---- any sink

module _ {K A : Type 0} (has : K → List A → Type 0) where
  -- nothing was given
  pub Takes-nil : (sink : K) → Takes has sink sink []
  Takes-nil sink before h = subst (has sink) (sym (append-nil before)) h

  -- items were given, and then others
  pub Takes-append : (a b c : K) (xs ys : List A) → Takes has a b xs → Takes has b c ys → Takes has a c (xs ++ ys)
  Takes-append a b c xs ys f g before h = subst (has c) (append_assoc before xs ys) (g (before ++ xs) (f before h))

-- ---- a bag

module _ {S : Type 0} where
  -- the text `added` is in the new bag n times more often than in the old bag, and every other text as often
  abbrev AddsTimes : Bag (String Global) S → Bag (String Global) S → List ℕ → ℕ → Type 0
  AddsTimes old new added n = (text : List ℕ) → count bytes_eq text (texts_in new) ≡ count bytes_eq text (texts_in old) + cond (bytes_eq text added) n 0

  -- an empty bag has no tokens, and no rows
  pub no_tokens : (bag : Bag (String Global) S) → bag.items ≡ [] → HasTokens bag []
  no_tokens bag none text = ap (λ (l : List (String Global)). count bytes_eq text (map string_bytes l)) none

  pub no_rows : (bag : Bag (String Global) S) → bag.items ≡ [] → HasRows bag []
  no_rows bag none text = ap (λ (l : List (String Global)). count bytes_eq text (map string_bytes l)) none

  -- n more of every string that has these bytes
  adds_string : (a b : Bag (String Global) S) (s : String Global) (added : List ℕ) (n : ℕ) → string_bytes s ≡ added
      → ((v : String Global) → count string_eq v b.items ≡ count string_eq v a.items + cond (bytes_eq (string_bytes v) added) n 0) → AddsTimes a b added n
  adds_string a b s added n is more text =
      adds a.items b.items ((s, n) ∷ []) (λ v. more v ∙ ap (λ (k : ℕ). count string_eq v a.items + k) (sym (one_row (string_bytes v)))) text
      ∙ ap (λ (k : ℕ). count bytes_eq text (texts_in a) + k) (one_row text)
    where
      one_row : (t : List ℕ) → times_in t (row_of (s, n) ∷ []) ≡ cond (bytes_eq t added) n 0
      one_row t = sum_by-cons (of_row t) (row_of (s, n)) [] ∙ sym (none_behind (of_row t (row_of (s, n)))) ∙ ap (λ (bytes : List ℕ). cond (bytes_eq t bytes) n 0) is

  -- a row was added
  row_added : {M : Type 0} (a b : Bag (String Global) S) (text : List ℕ) (n : ℕ) → AddsTimes a b text n → TakesRows {M = M} (λ shown bag rows. HasRows bag rows) a b ((text, n) ∷ [])
  row_added a b text n adds shown before h t =
      let more : count bytes_eq t (texts_in b) ≡ count bytes_eq t (texts_in a) + cond (bytes_eq t text) n 0 = adds t in
      let was : count bytes_eq t (texts_in a) ≡ times_in t before = h t in
      let parts : times_in t (before ++ (text, n) ∷ []) ≡ times_in t before + times_in t ((text, n) ∷ []) = sum_by-append (of_row t) before ((text, n) ∷ []) in
      let one : times_in t ((text, n) ∷ []) ≡ cond (bytes_eq t text) n 0 + 0 = sum_by-cons (of_row t) (text, n) [] in
      omega (arith, more, was, parts, one)

  -- a token was added once
  token_added : (a b : Bag (String Global) S) (text : List ℕ) → AddsTimes a b text 1 → Takes HasTokens a b (text ∷ [])
  token_added a b text adds before h t =
      let more : count bytes_eq t (texts_in b) ≡ count bytes_eq t (texts_in a) + cond (bytes_eq t text) 1 0 = adds t in
      let was : count bytes_eq t (texts_in a) ≡ count bytes_eq t before = h t in
      let parts : count bytes_eq t (before ++ text ∷ []) ≡ count bytes_eq t before + count bytes_eq t (text ∷ []) = count_append nat_list_eq_equiv t before (text ∷ []) in
      let one : count bytes_eq t (text ∷ []) ≡ 0 + cond (bytes_eq t text) 1 0 = refl in
      omega (arith, more, was, parts, one)

  -- a string was inserted n times
  AddsTimes-inserted : (a b : Bag (String Global) S) (s : String Global) (n : ℕ) → IsBagOf string_eq a (add string_eq s n a.items) b → AddsTimes a b (string_bytes s) n
  AddsTimes-inserted a b s n h = adds_string a b s (string_bytes s) n refl (λ v. count_inserted_any string_eq_equiv a b v s n h)

  pub row_inserted : {M : Type 0} (a b : Bag (String Global) S) (s : String Global) (n : ℕ) → IsBagOf string_eq a (add string_eq s n a.items) b → TakesRows {M = M} (λ shown bag rows. HasRows bag rows) a b ((string_bytes s, n) ∷ [])
  row_inserted a b s n h = row_added a b (string_bytes s) n (AddsTimes-inserted a b s n h)

  -- a string was inserted once
  pub token_inserted : (a b : Bag (String Global) S) (s : String Global) → IsBagOf string_eq a (add string_eq s 1 a.items) b → Takes HasTokens a b (string_bytes s ∷ [])
  token_inserted a b s h = token_added a b (string_bytes s) (AddsTimes-inserted a b s 1 h)

  -- what a text names was inserted once
  pub token_named : (a b : Bag (String Global) S) (text : List ℕ) → InsertsNamed string_eq (λ w. bytes_eq (string_bytes w) text) 1 a b → Takes HasTokens a b (text ∷ [])
  token_named a b text h =
      token_added a b text (adds_string a b h.0 text 1 ((bytes_decides (string_bytes h.0) text).0 h.1)
      (λ v. count_inserted_key string_eq_equiv a b v (λ w. bytes_eq (string_bytes w) text) 1 (text_names_one text) h))
