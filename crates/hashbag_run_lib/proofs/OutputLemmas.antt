-- Lines that are appended one after another.
use Rattle.std.proofs.Common.{◌≡◌, ℕ, ◌+◌, ◌<◌, ◌≤◌, List, [], ◌∷◌, ◌++◌, length, take, get_or, sym, ◌∙◌, ap, append_assoc}
use Rattle.std.specs.Prelude.{flat_map}
use Rattle.std.proofs.lemmas.List.{take_more, take_all, append-nil}
use Rattle.std.proofs.lemmas.Grind.{flat_map-append}

module _ {X : Type 0} (f : X → List ℕ) where
  one_line : (x : X) → flat_map f (x ∷ []) ≡ f x
  one_line x = append-nil (f x)

  -- the lines of the items up to place i have been appended, and now that of the item there
  pub line_more : (start before after : List ℕ) (xs : List X) (i : ℕ) (x : X) → i < length xs → x ≡ get_or xs i x → before ≡ start ++ flat_map f (take i xs) → after ≡ before ++ f x → after ≡ start ++ flat_map f (take (i + 1) xs)
  line_more start before after xs i x inside is so_far one =
      one ∙ ap (λ l. l ++ f x) so_far ∙ append_assoc start (flat_map f (take i xs)) (f x)
      ∙ ap (λ l. start ++ (flat_map f (take i xs) ++ l)) (sym (one_line x))
      ∙ ap (λ l. start ++ l) (sym (flat_map-append f (take i xs) (x ∷ [])) ∙ ap (λ y. flat_map f (take i xs ++ y ∷ [])) is ∙ ap (flat_map f) (sym (take_more xs i x inside)))

  pub lines_all : (start after : List ℕ) (xs : List X) (i : ℕ) → length xs ≤ i → after ≡ start ++ flat_map f (take i xs) → after ≡ start ++ flat_map f xs
  lines_all start after xs i ended so_far = so_far ∙ ap (λ l. start ++ flat_map f l) (take_all i xs ended)

-- five texts that were appended in turn to none
pub in_turn : (t0 t1 t2 t3 t4 t5 a b c d e : List ℕ) → t0 ≡ [] → t1 ≡ t0 ++ a → t2 ≡ t1 ++ b → t3 ≡ t2 ++ c → t4 ≡ t3 ++ d → t5 ≡ t4 ++ e → t5 ≡ a ++ (b ++ (c ++ (d ++ e)))
in_turn t0 t1 t2 t3 t4 t5 a b c d e h0 h1 h2 h3 h4 h5 =
    let s1 : t1 ≡ a = h1 ∙ ap (λ l. l ++ a) h0 in
    h5 ∙ ap (λ l. l ++ e) (h4 ∙ ap (λ l. l ++ d) (h3 ∙ ap (λ l. l ++ c) (h2 ∙ ap (λ l. l ++ b) s1)))
    ∙ append_assoc (a ++ b ++ c) d e ∙ append_assoc (a ++ b) c (d ++ e) ∙ append_assoc a b (c ++ (d ++ e))

-- four, to some text
pub four_in_turn : (t0 t1 t2 t3 t4 a b c d : List ℕ) → t1 ≡ t0 ++ a → t2 ≡ t1 ++ b → t3 ≡ t2 ++ c → t4 ≡ t3 ++ d → t4 ≡ t0 ++ (a ++ (b ++ (c ++ d)))
four_in_turn t0 t1 t2 t3 t4 a b c d h1 h2 h3 h4 =
    h4 ∙ ap (λ l. l ++ d) (h3 ∙ ap (λ l. l ++ c) (h2 ∙ ap (λ l. l ++ b) h1))
    ∙ append_assoc (t0 ++ a ++ b) c d ∙ append_assoc (t0 ++ a) b (c ++ d) ∙ append_assoc t0 a (b ++ (c ++ d))
