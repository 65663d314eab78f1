-- Articles by their fields in a loose form.
use Rattle.std.proofs.Common.{◌≡◌, Bool, Bor, true, cond, List, [], ◌∷◌, ◌++◌, map, Option, Some, String, Global, inl, inr, refl, sym, ◌∙◌, ap, subst}
use Rattle.std.specs.Prelude.{IfSome}
use Rattle.std.specs.Global.{Vec}
use Rattle.std.specs.HashMap.{HashMap, Updates, get}
use Rattle.std.specs.String.{string_bytes}
use Rattle.std.proofs.lemmas.Bool.{cases_Bool}
use Rattle.std.proofs.lemmas.List.Elements.{All-append, All-cons, All-nil}
use Rattle.std.proofs.lemmas.Slice.Eq.{bytes_eq-Decides, slice_eq-Decides}
use Rattle.hashbag_csv.specs.Alike.{AreNear, HasLoosely, loosely, same_texts}
use Rattle.hashbag_csv.specs.ArticleLaws.{all_same}
use Rattle.hashbag_csv.specs.Articles.{same_article}
use Rattle.hashbag_csv.specs.Readers.{Record}

-- equal texts have equal bytes
same_bytes : (x y : Vec (String Global)) → same_texts x y ≡ true → map string_bytes x.items ≡ map string_bytes y.items
same_bytes x y is = (slice_eq-Decides bytes_eq-Decides (map string_bytes x.items) (map string_bytes y.items) (same_article (map string_bytes x.items) (map string_bytes y.items)) refl).0 (sym (all_same x.items y.items) ∙ is)

module _ {A S : Type 0} (fields : A → Record) where
  pub noted : (m n : HashMap (Vec (String Global)) (Bor A) S) (k : Vec (String Global)) (x : Bor A) → HasLoosely fields m → loosely (fields x.now) ≡ map string_bytes k.items → Updates same_texts m n k (Some x)
      → HasLoosely fields n
  noted m n k x has is updates = λ q. elim (cases_Bool (same_texts k q)) [
    | inl equals ↦ subst (λ (o : Option (Bor A)). IfSome o (λ y. loosely (fields y.now) ≡ map string_bytes q.items)) (sym (updates.0 q ∙ ap (λ (b : Bool). cond b (Some x) (get same_texts m q)) equals))
        (is ∙ same_bytes k q equals)
    | inr differs ↦ subst (λ (o : Option (Bor A)). IfSome o (λ y. loosely (fields y.now) ≡ map string_bytes q.items)) (sym (updates.0 q ∙ ap (λ (b : Bool). cond b (Some x) (get same_texts m q)) differs)) (has q)
  ]

  -- one more pair
  pub paired : (m : HashMap (Vec (String Global)) (Bor A) S) (pairs pairs' : List (Bor A × Bor A)) (k : Vec (String Global)) (x y : Bor A) → HasLoosely fields m → AreNear fields pairs → get same_texts m k ≡ Some x
      → loosely (fields y.now) ≡ map string_bytes k.items → pairs' ≡ pairs ++ (x, y) ∷ [] → AreNear fields pairs'
  paired m pairs pairs' k x y has near found is more =
      let first : loosely (fields x.now) ≡ map string_bytes k.items = subst (λ (o : Option (Bor A)). IfSome o (λ z. loosely (fields z.now) ≡ map string_bytes k.items)) found (has k) in
      subst (AreNear fields) (sym more)
      (All-append (λ (p : Bor A × Bor A). loosely (fields p.0.now) ≡ loosely (fields p.1.now)) pairs ((x, y) ∷ []) near
      (All-cons (λ (p : Bor A × Bor A). loosely (fields p.0.now) ≡ loosely (fields p.1.now)) (x, y) [] (first ∙ sym is) (All-nil (λ (p : Bor A × Bor A). loosely (fields p.0.now) ≡ loosely (fields p.1.now)))))
