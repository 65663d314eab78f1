-- The changes of two balances whose articles are in ascending order, from the first article on.
use Rattle.std.proofs.Common.{◌≡◌, ◌≢◌, ℕ, Bool, true, false, cond, List, [], ◌∷◌, get_or, map, All, Ordering, Less, Equal, Greater, is_eq, String, string_bytes, bytes_eq, Global, Option, None, Some, refl, sym, ◌∙◌, ap, subst, subst₂}
use Rattle.std.specs.Cmp.Lexicographic.{slice_cmp, nat_list_cmp_total, texts_ties, bytes_decides}
use Rattle.std.specs.List.{AllByRecursion}
use Rattle.std.specs.List.Sorted.{IsStrictlySortedBy}
use Rattle.std.specs.Map.{keys_of}
use Rattle.std.specs.Ordering.{nat_cmp, ordering_reverse}
use Rattle.std.proofs.lemmas.List.Elements.{All-nil, All-cons, All-head, All-tail}
use Rattle.hashbag_ledger_lib.specs.declared.rows.RowChange.{RowChange}
use Rattle.hashbag_ledger_lib.specs.declared.rows.RowChange.TheVariants.{Put, Remove}
use Rattle.hashbag_ledger_lib.specs.Changes.{Rises, IsBefore, number_in, article_of, new_number, applied, AreChanges, Begins}

abbrev text_cmp : List ℕ → List ℕ → Ordering
text_cmp v w = slice_cmp nat_cmp v w

-- ---- texts

apart : (v w : List ℕ) → text_cmp v w ≡ Less → bytes_eq v w ≡ false
apart v w up = texts_ties v w ∙ ap is_eq up

apart_back : (v w : List ℕ) → text_cmp v w ≡ Less → bytes_eq w v ≡ false
apart_back v w up = texts_ties w v ∙ ap is_eq (nat_list_cmp_total.antisymm w v ∙ ap ordering_reverse up)

itself : (v : List ℕ) → bytes_eq v v ≡ true
itself v = (bytes_decides v v).1 refl

pub same_if_equal : (v w : List ℕ) → text_cmp v w ≡ Equal → v ≡ w
same_if_equal v w is = (bytes_decides v w).0 (texts_ties v w ∙ ap is_eq is)

pub less_if_greater : (v w : List ℕ) → text_cmp v w ≡ Greater → text_cmp w v ≡ Less
less_if_greater v w is = nat_list_cmp_total.antisymm w v ∙ ap ordering_reverse is

-- ---- articles after a text

-- these articles come after the text
abbrev Above : List ℕ → List (String Global) → Type 0
Above v ks = AllByRecursion (λ k. text_cmp v (string_bytes k) ≡ Less) ks

above_later : (v w : List ℕ) (ks : List (String Global)) → text_cmp v w ≡ Less → Above w ks → Above v ks
above_later v w [] up above = tt
above_later v w (k ∷ ks) up above = (nat_list_cmp_total.trans v w (string_bytes k) up above.0, above_later v w ks up above.1)

above_all : (v : List ℕ) (L : List (String Global × ℕ)) → IsBefore v L → Rises L → Above v (keys_of L)
unfolding IsStrictlySortedBy
above_all v [] above rises = tt
above_all v (e ∷ L) above rises = (above, above_later v (string_bytes e.0) (keys_of L) above rises.0)

-- a balance is in ascending order exactly if its first article comes before the next one, and the others are in ascending order
pub rises_on : (e : String Global × ℕ) (L : List (String Global × ℕ)) → IsBefore (string_bytes e.0) L → Rises L → Rises (e ∷ L)
unfolding IsStrictlySortedBy
rises_on e L before rises = (above_all (string_bytes e.0) L before rises, rises)

pub rises_after : (e : String Global × ℕ) (L : List (String Global × ℕ)) → Rises (e ∷ L) → Rises L
unfolding IsStrictlySortedBy
rises_after e L rises = rises.1

pub first_is_before : (e : String Global × ℕ) (L : List (String Global × ℕ)) → Rises (e ∷ L) → IsBefore (string_bytes e.0) L
unfolding IsStrictlySortedBy
first_is_before e [] rises = tt
first_is_before e (f ∷ L) rises = rises.0.0

pub none_rise : Rises []
unfolding IsStrictlySortedBy
none_rise = tt

none_above : (v : List ℕ) (L : List (String Global × ℕ)) → Above v (keys_of L) → number_in v L ≡ None
none_above v [] above = refl
none_above v (e ∷ L) above = ap (λ (b : Bool). cond b (Some e.1) (number_in v L)) (apart v (string_bytes e.0) above.0) ∙ none_above v L above.1

-- an article that a balance has comes after the text, if all do
found_above : (v w : List ℕ) (n : ℕ) (L : List (String Global × ℕ)) → Above v (keys_of L) → number_in w L ≡ Some n → text_cmp v w ≡ Less
found_above v w n [] above is = cc
found_above v w n (e ∷ L) above is = at (bytes_eq w (string_bytes e.0)) refl (found_above v w n L above.1)
  where
    at : (b : Bool) → bytes_eq w (string_bytes e.0) ≡ b → (number_in w L ≡ Some n → text_cmp v w ≡ Less) → text_cmp v w ≡ Less
    at true same later = ap (text_cmp v) ((bytes_decides w (string_bytes e.0)).0 same) ∙ above.0
    at false other later = later (sym (ap (λ (b : Bool). cond b (Some e.1) (number_in w L)) other) ∙ is)

-- so does one whose number differs in two
differs_above : (v w : List ℕ) (L M : List (String Global × ℕ)) → Above v (keys_of L) → Above v (keys_of M) → number_in w L ≢ number_in w M → text_cmp v w ≡ Less
differs_above v w L M one two differ = at (number_in w L) (number_in w M) refl refl
  where
    at : (m n : Option ℕ) → number_in w L ≡ m → number_in w M ≡ n → text_cmp v w ≡ Less
    at (Some m) n is_m is_n = found_above v w m L one is_m
    at None (Some n) is_m is_n = found_above v w n M two is_n
    at None None is_m is_n = absurd (differ (is_m ∙ sym is_n))

-- ---- a balance without its first article

record Without (v : List ℕ) (L M : List (String Global × ℕ)) : Type 0 where
  rises : Rises M
  above : Above v (keys_of M)
  others : (w : List ℕ) → bytes_eq w v ≡ false → number_in w L ≡ number_in w M

without_first : (v : List ℕ) (e : String Global × ℕ) (L : List (String Global × ℕ)) → string_bytes e.0 ≡ v → Rises (e ∷ L) → Without v (e ∷ L) L
unfolding IsStrictlySortedBy
without_first v e L is rises = record {
  rises = rises.1;
  above = subst (λ (u : List ℕ). Above u (keys_of L)) is rises.0;
  others = λ w other. ap (λ (b : Bool). cond b (Some e.1) (number_in w L)) (subst (λ (u : List ℕ). bytes_eq w u ≡ false) (sym is) other);
}

without_none : (v : List ℕ) (L : List (String Global × ℕ)) → IsBefore v L → Rises L → Without v L L
without_none v L above rises = record { rises = rises; above = above_all v L above rises; others = λ w other. refl }

first_is : (v : List ℕ) (e : String Global × ℕ) (L : List (String Global × ℕ)) → string_bytes e.0 ≡ v → number_in v (e ∷ L) ≡ Some e.1
first_is v e L is = ap (λ (b : Bool). cond b (Some e.1) (number_in v L)) (subst (λ (u : List ℕ). bytes_eq v u ≡ true) (sym is) (itself v))

none_is : (v : List ℕ) (L : List (String Global × ℕ)) → IsBefore v L → Rises L → number_in v L ≡ None
none_is v L above rises = none_above v L (above_all v L above rises)

-- ---- one article more

abbrev Needed : List (String Global × ℕ) → List (String Global × ℕ) → RowChange → Type 0
Needed L M c = number_in (string_bytes (article_of c)) L ≢ number_in (string_bytes (article_of c)) M

-- changes of later articles leave the number of an earlier one
untouched : (v : List ℕ) (cs : List RowChange) (was : Option ℕ) → Above v (map article_of cs) → applied v cs was ≡ was
untouched v [] was above = refl
untouched v (c ∷ cs) was above =
    ap (λ (b : Bool). applied v cs (cond b (new_number c) was)) (apart v (string_bytes (article_of c)) above.0) ∙ untouched v cs was above.1

module _ (v : List ℕ) (L M N O : List (String Global × ℕ)) (one : Without v L N) (two : Without v M O) where
  changes_above : (cs : List RowChange) → All (Needed N O) cs → Above v (map article_of cs)
  changes_above [] needed = tt
  changes_above (c ∷ cs) needed = (
    differs_above v (string_bytes (article_of c)) N O one.above two.above (All-head (Needed N O) c cs needed),
    changes_above cs (All-tail (Needed N O) c cs needed),
  )

  still_needed : (cs : List RowChange) → All (Needed N O) cs → All (Needed L M) cs
  still_needed cs needed = λ k d lt. at (get_or cs k d) (needed k d lt)
    where
      at : (c : RowChange) → Needed N O c → Needed L M c
      at c differ =
          let w = string_bytes (article_of c) in
          let other : bytes_eq w v ≡ false = apart_back v w (differs_above v w N O one.above two.above differ) in
          λ is. differ (sym (one.others w other) ∙ is ∙ two.others w other)

  -- the number of the first article, and those of the others
  made : (cs : List RowChange) → AreChanges N O cs → (was : Option ℕ) (w : List ℕ) (b : Bool) → bytes_eq w v ≡ b → was ≡ number_in v M → applied w cs (cond b was (number_in w L)) ≡ number_in w M
  made cs are was w true same is =
      let text : w ≡ v = (bytes_decides w v).0 same in
      subst (λ (u : List ℕ). applied u cs was ≡ number_in u M) (sym text) (untouched v cs was (changes_above cs are.needed) ∙ is)
  made cs are was w false other is = ap (applied w cs) (one.others w other) ∙ are.turns w ∙ sym (two.others w other)

  kept : number_in v L ≡ number_in v M → (cs : List RowChange) → AreChanges N O cs → AreChanges L M cs
  kept same cs are = record {
    turns = λ w. at w (bytes_eq w v) refl;
    rising = are.rising;
    needed = still_needed cs are.needed;
  }
    where
      at : (w : List ℕ) (b : Bool) → bytes_eq w v ≡ b → applied w cs (number_in w L) ≡ number_in w M
      at w true is =
          subst (λ (u : List ℕ). applied u cs (number_in u L) ≡ number_in u M) (sym ((bytes_decides w v).0 is)) (untouched v cs (number_in v L) (changes_above cs are.needed) ∙ same)
      at w false is = made cs are (number_in v M) w false is refl

  put : (c : RowChange) → string_bytes (article_of c) ≡ v → number_in v L ≢ number_in v M → new_number c ≡ number_in v M → (cs : List RowChange) → AreChanges N O cs → AreChanges L M (c ∷ cs)
  unfolding IsStrictlySortedBy
  put c text differ is cs are = record {
    turns = λ w. made cs are (new_number c) w (bytes_eq w (string_bytes (article_of c))) (ap (bytes_eq w) (sym text)) is;
    rising = (subst (λ (u : List ℕ). Above u (map article_of cs)) (sym text) (changes_above cs are.needed), are.rising);
    needed = All-cons (Needed L M) c cs (subst (λ (u : List ℕ). number_in u L ≢ number_in u M) (sym text) differ) (still_needed cs are.needed);
  }

-- ---- the cases

-- there are none
pub none : AreChanges [] [] []
unfolding IsStrictlySortedBy
none = record { turns = λ v. refl; rising = tt; needed = All-nil (Needed [] []) }

-- the first article of the balance before is in that one alone
pub removed : (a : String Global) (e : String Global × ℕ) (before after L : List (String Global × ℕ)) → before ≡ e ∷ L → string_bytes a ≡ string_bytes e.0 → IsBefore (string_bytes e.0) after → Begins before after (Remove a ∷ []) L after
removed a e before after L is text above cs are = subst (λ (l : List (String Global × ℕ)). Rises l → Rises after → AreChanges l after (Remove a ∷ cs)) (sym is) (λ rises rises_too.
    let v = string_bytes e.0 in
    let one = without_first v e L refl rises in
    let two = without_none v after above rises_too in
    let first = first_is v e L refl in
    let gone = none_is v after above rises_too in
    put v (e ∷ L) after L after one two (Remove a) text (λ same. absurd (cc)) (sym gone) cs (are one.rises two.rises))

-- that of the balance after is
pub put_new : (a : String Global) (e : String Global × ℕ) (before after M : List (String Global × ℕ)) → after ≡ e ∷ M → string_bytes a ≡ string_bytes e.0 → IsBefore (string_bytes e.0) before → Begins before after (Put a e.1 ∷ []) before M
put_new a e before after M is text above cs are = subst (λ (l : List (String Global × ℕ)). Rises before → Rises l → AreChanges before l (Put a e.1 ∷ cs)) (sym is) (λ rises rises_too.
    let v = string_bytes e.0 in
    let one = without_none v before above rises in
    let two = without_first v e M refl rises_too in
    let first = first_is v e M refl in
    let gone = none_is v before above rises in
    put v before (e ∷ M) before M one two (Put a e.1) text (λ same. absurd (cc)) (sym first) cs (are one.rises two.rises))

-- both have it
module _ (d e : String Global × ℕ) (before after L M : List (String Global × ℕ)) (is : before ≡ d ∷ L) (is_too : after ≡ e ∷ M) (same : string_bytes d.0 ≡ string_bytes e.0) where
  pub put_other : (a : String Global) → string_bytes a ≡ string_bytes e.0 → d.1 ≢ e.1 → Begins before after (Put a e.1 ∷ []) L M
  put_other a text other cs are = subst₂ (λ (l m : List (String Global × ℕ)). Rises l → Rises m → AreChanges l m (Put a e.1 ∷ cs)) (sym is) (sym is_too) (λ rises rises_too.
      let v = string_bytes e.0 in
      let one = without_first v d L same rises in
      let two = without_first v e M refl rises_too in
      let first = first_is v d L same in
      let second = first_is v e M refl in
      put v (d ∷ L) (e ∷ M) L M one two (Put a e.1) text (λ alike. other (cc)) (sym second) cs (are one.rises two.rises))

  pub unchanged : d.1 ≡ e.1 → Begins before after [] L M
  unchanged alike cs are = subst₂ (λ (l m : List (String Global × ℕ)). Rises l → Rises m → AreChanges l m cs) (sym is) (sym is_too) (λ rises rises_too.
      let v = string_bytes e.0 in
      let one = without_first v d L same rises in
      let two = without_first v e M refl rises_too in
      kept v (d ∷ L) (e ∷ M) L M one two (first_is v d L same ∙ ap Some alike ∙ sym (first_is v e M refl)) cs (are one.rises two.rises))
