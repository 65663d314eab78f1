-- Types whose values are written as JSON strings. `text_of` is the text of a value, and `has_text` whether a text is the text of some value.
use Rattle.std.specs.Prelude.{◌≡◌, ℕ, List, Option, Some, None, Bool, true, false, is_some, String, string_bytes}
use Rattle.std.proofs.Common.{Global, sym, ◌∙◌, ap, refl}
use Rattle.std.specs.Bool.{Decides}
use Rattle.std.proofs.lemmas.Bool.{false≢true}
use Rattle.serde_json.specs.Data.{Data, string}
use Rattle.serde_json.specs.Find.{as_str}
use Rattle.serde_json.specs.View.{view}
use Rattle.serde_json.specs.declared.value.Value.{Value}
use Rattle.hashbag_core.specs.JsonItemLaws.{text_is_read}

-- whether there is a text, and it is the text of some value
abbrev pub has_text_in : (List ℕ → Bool) → Option (List ℕ) → Bool
has_text_in has_text None = false
has_text_in has_text (Some t) = has_text t

some_text : (has_text : List ℕ → Bool) (o : Option (List ℕ)) → has_text_in has_text o ≡ true → is_some o ≡ true
some_text has_text None e = absurd (false≢true e)
some_text has_text (Some t) e = refl

same_text : (t u : List ℕ) → Some t ≡ Some u → t ≡ u
same_text t u e = cc

module _ {X : Type 0} (text_of : X → List ℕ) (has_text : List ℕ → Bool) where
  -- the text of x is one that has a value
  abbrev pub TextHasValue : X → Type 0
  TextHasValue x = has_text (text_of x) ≡ true

  -- d is the string of the text of x, and that text has a value
  abbrev pub ReadsText : Data → X → Type 0
  ReadsText d x = (as_str d ≡ Some (text_of x)) × TextHasValue x

  pub written_read : (x : X) → TextHasValue x → (y : X) × TextHasValue y × ReadsText (string (text_of x)) y
  written_read x h = (x, h, (refl, h))

  pub read_has : (d : Data) (x : X) → ReadsText d x → has_text_in has_text (as_str d) ≡ true
  read_has d x h = ap (has_text_in has_text) h.0 ∙ h.1

  pub text_found : (v : Value) → ((s : String Global) → has_text (string_bytes s) ≡ true → (x : X) × (text_of x ≡ string_bytes s)) → has_text_in has_text (as_str (view v)) ≡ true
      → (x : X) × TextHasValue x × ReadsText (view v) x
  text_found v has_value e =
      let s = text_is_read v (some_text has_text (as_str (view v)) e) in
      let has : has_text (string_bytes s.0) ≡ true = sym (ap (has_text_in has_text) s.2) ∙ e in
      let x = has_value s.0 has in
      let is : TextHasValue x.0 = ap has_text x.1 ∙ has in
      (x.0, is, (s.2 ∙ ap (λ (t : List ℕ). Some t) (sym x.1), is))

  module _ (eq : X → X → Bool) (same : (x y : X) → Decides (eq x y) (text_of x ≡ text_of y)) where
    pub equal_text : (x y : X) → TextHasValue x → eq x y ≡ true → TextHasValue y
    equal_text x y h e = ap has_text (sym ((same x y).0 e)) ∙ h

    pub equal_strings : (x y : X) → TextHasValue x → TextHasValue y → eq x y ≡ true → string (text_of x) ≡ string (text_of y)
    equal_strings x y h k e = ap string ((same x y).0 e)

    pub read_again : (x y : X) → TextHasValue x → ReadsText (string (text_of x)) y → eq x y ≡ true
    read_again x y h r = (same x y).1 (same_text _ _ r.0)

    pub read_as_one : (d : Data) (x y : X) → TextHasValue x → TextHasValue y → ReadsText d x → ReadsText d y → eq x y ≡ true
    read_as_one d x y h k p q = (same x y).1 (same_text _ _ (sym p.0 ∙ q.0))
