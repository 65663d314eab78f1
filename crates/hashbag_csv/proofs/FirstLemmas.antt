-- The first line with an article, as lines are read one after the other.
use Rattle.std.proofs.Common.{◌≡◌, ℕ, Bool, Bor, true, false, cond, List, [], ◌∷◌, ◌++◌, map, Option, Some, None, String, Global, inl, inr, refl, sym, ◌∙◌, ap, append_assoc}
use Rattle.std.specs.Prelude.{is_some, option_map}
use Rattle.std.specs.Bool.{Decides}
use Rattle.std.specs.Global.{Vec}
use Rattle.std.specs.HashMap.{HashMap, Updates, get}
use Rattle.std.specs.Map.{lookup}
use Rattle.std.specs.String.{string_bytes}
use Rattle.std.proofs.lemmas.Bool.{cases_Bool, false≢true}
use Rattle.std.proofs.lemmas.Slice.Eq.{bytes_eq-Decides, slice_eq-Decides}
use Rattle.hashbag_csv.specs.Articles.{same_article}
use Rattle.hashbag_csv.specs.FirstLines.{Carried, HasFirsts, carried_at, carried_under}
use Rattle.hashbag_csv.specs.Lines.{place_of}
use Rattle.hashbag_csv.specs.Readers.{Record}
use Rattle.hashbag_csv.specs.declared.key_form.KeyForm.{KeyForm}

-- ---- a look-up in a list that has an entry more

module _ {K X : Type 0} (test : K → Bool) where
  found_stays : (es : List (K × X)) (e : K × X) (x : X) → lookup test es ≡ Some x → lookup test (es ++ e ∷ []) ≡ Some x
  found_stays [] e x is = cc is
  found_stays (d ∷ es) e x is = by (test d.0) is (found_stays es e x)
    where
      by : (b : Bool) → cond b (Some d.1) (lookup test es) ≡ Some x → (lookup test es ≡ Some x → lookup test (es ++ e ∷ []) ≡ Some x) → cond b (Some d.1) (lookup test (es ++ e ∷ [])) ≡ Some x
      by true here again = here
      by false here again = again here

  none_yet : (es : List (K × X)) (e : K × X) → lookup test es ≡ None → test e.0 ≡ true → lookup test (es ++ e ∷ []) ≡ Some e.1
  none_yet [] e none is = ap (λ (b : Bool). cond b (Some e.1) None) is
  none_yet (d ∷ es) e none is = by (test d.0) none (λ later. none_yet es e later is)
    where
      by : (b : Bool) → cond b (Some d.1) (lookup test es) ≡ None → (lookup test es ≡ None → lookup test (es ++ e ∷ []) ≡ Some e.1) → cond b (Some d.1) (lookup test (es ++ e ∷ [])) ≡ Some e.1
      by true here again = cc here
      by false here again = again here

  another_stays : (es : List (K × X)) (e : K × X) → test e.0 ≡ false → lookup test (es ++ e ∷ []) ≡ lookup test es
  another_stays [] e differs = ap (λ (b : Bool). cond b (Some e.1) None) differs
  another_stays (d ∷ es) e differs = ap (λ (o : Option X). cond (test d.0) (Some d.1) o) (another_stays es e differs)

-- ---- articles, as the bytes of their fields

decides : (x y : Record) → Decides (same_article x y) (x ≡ y)
decides x y = slice_eq-Decides bytes_eq-Decides x y (same_article x y) refl

apart : (x y : Record) → same_article x y ≡ false → same_article y x ≡ false
apart x y differs = elim (cases_Bool (same_article y x)) [
  | inl equals ↦ absurd (false≢true (sym differs ∙ (decides x y).1 (sym ((decides y x).0 equals))))
  | inr other ↦ other
]

abbrev Fields : Type 0
Fields = Vec (String Global)

abbrev bytes : Fields → Record
bytes t = map string_bytes t.items

some_of : (o : Option Fields) → is_some o ≡ true → (x : Record) × (option_map bytes o ≡ Some x)
some_of (Some t) is = (bytes t, refl)
some_of None is = cc is

none_of : (o : Option Fields) → is_some o ≡ false → option_map bytes o ≡ None
none_of (Some t) is = cc is
none_of None is = refl

module _ {A S : Type 0} (eq : A → A → Bool) (fields : A → Record) (same : (x y : A) → eq x y ≡ same_article (fields x) (fields y)) where
  -- a line with an article that an earlier line has
  pub later_line : (K : List Carried) (m : HashMap A Fields S) (a : A) (t : Record) → HasFirsts eq fields K m → is_some (get eq m a) ≡ true → HasFirsts eq fields (K ++ (fields a, t) ∷ []) m
  later_line K m a t has there = λ v. elim (cases_Bool (same_article (fields v) (fields a))) [
    | inl equals ↦
        let found = some_of (get eq m a) there in
        let here : lookup (same_article (fields v)) K ≡ Some found.0 = ap (λ (r : Record). lookup (same_article r) K) ((decides (fields v) (fields a)).0 equals) ∙ sym (has a) ∙ found.1 in
        has v ∙ here ∙ sym (found_stays (same_article (fields v)) K (fields a, t) found.0 here)
    | inr differs ↦ has v ∙ sym (another_stays (same_article (fields v)) K (fields a, t) differs)
  ]

  -- the first line with its article
  pub first_line : (K : List Carried) (m n : HashMap A Fields S) (a : A) (t : Fields) (r : Record) → bytes t ≡ r → HasFirsts eq fields K m → is_some (get eq m a) ≡ false → Updates eq m n a (Some t)
      → HasFirsts eq fields (K ++ (fields a, r) ∷ []) n
  first_line K m n a t r is has absent updates = λ v. elim (cases_Bool (same_article (fields a) (fields v))) [
    | inl equals ↦
        let equal = (decides (fields a) (fields v)).0 equals in
        let none : lookup (same_article (fields v)) K ≡ None = ap (λ (x : Record). lookup (same_article x) K) (sym equal) ∙ sym (has a) ∙ none_of (get eq m a) absent in
        ap (option_map bytes) (updates.0 v ∙ ap (λ (b : Bool). cond b (Some t) (get eq m v)) (same a v ∙ equals))
        ∙ ap (λ (x : Record). Some x) is
        ∙ sym (none_yet (same_article (fields v)) K (fields a, r) none ((decides (fields v) (fields a)).1 (sym equal)))
    | inr differs ↦
        ap (option_map bytes) (updates.0 v ∙ ap (λ (b : Bool). cond b (Some t) (get eq m v)) (same a v ∙ differs))
        ∙ has v
        ∙ sym (another_stays (same_article (fields v)) K (fields a, r) (apart (fields a) (fields v) differs))
  ]

-- the records that are left, after one was read
pub one_carried : (f : Record → Carried) (all : List Carried) (D : List Carried) (before after : List Record) (r : Record) (line : Carried)
    → all ≡ D ++ map f before → before ≡ r ∷ after → line ≡ f r → all ≡ (D ++ line ∷ []) ++ map f after
one_carried f all D before after r line is next same =
    is ∙ ap (λ (l : List Record). D ++ map f l) next ∙ ap (λ (x : Carried). D ++ x ∷ map f after) (sym same) ∙ sym (append_assoc D (line ∷ []) (map f after))

map_two : (f : List ℕ → ℕ) (names : List (Bor (List ℕ))) → map (λ n. f n.now) names ≡ map f (map (λ n. n.now) names)
map_two f [] = refl
map_two f (n ∷ names) = ap (λ (l : List ℕ). f n.now ∷ l) (map_two f names)

-- the lines below the header, by the places of the columns
pub all_carried : (form : KeyForm) (keys carried : List (Bor (List ℕ))) (all : List Record) (header : Record) (records : List Record) (places along : List ℕ)
    → all ≡ header ∷ records → places ≡ map (λ n. place_of header n.now) keys → along ≡ map (λ n. place_of header n.now) carried
    → map (carried_at form places along) records ≡ carried_under form (map (λ k. k.now) keys) (map (λ k. k.now) carried) all
all_carried form keys carried all header records places along is keys_are carried_are =
    (λ i. map (carried_at form ((keys_are ∙ map_two (place_of header) keys) i) ((carried_are ∙ map_two (place_of header) carried) i)) records)
    ∙ ap (carried_under form (map (λ k. k.now) keys) (map (λ k. k.now) carried)) (sym is)
