-- Records that are read one after the other, and the check of each.
use Rattle.std.proofs.Common.{◌≡◌, ◌<◌, ◌≤◌, ℕ, Bool, Bor, List, [], ◌∷◌, ◌++◌, length, Option, Some, None, refl, sym, ◌∙◌, ap, subst, append_assoc, arith}
use Rattle.std.proofs.lemmas.List.{length-append}
use Rattle.std.specs.Prelude.{option_copied, option_map}
use Rattle.hashbag_csv.specs.BadLines.{AreBadLines, AreBadUnder, AreChecks, IsCheckOf, errors_in}
use Rattle.hashbag_csv.specs.Lines.{place_of}
use Rattle.hashbag_csv.specs.Readers.{Record}
use Rattle.hashbag_csv.specs.declared.fault.Fault.{Fault}
use Rattle.hashbag_csv.specs.declared.fault.SheetError.{SheetError}
use Rattle.hashbag_csv.specs.declared.fault.SheetError.TheVariants.{Line, Memory}
use Rattle.hashbag_csv.specs.declared.line_form.LineForm.{LineForm}
use Rattle.hashbag_csv.specs.declared.number_form.NumberForm.{NumberForm}
use Rattle.hashbag_csv.specs.declared.scale.Scale.{Scale}

-- one more record
pub checks_more : (IsCheck : Record → Option SheetError → Type 0) (rs : List Record) (vs : List (Option SheetError)) (r : Record) (v : Option SheetError)
    → AreChecks IsCheck rs vs → IsCheck r v → AreChecks IsCheck (rs ++ r ∷ []) (vs ++ v ∷ [])
checks_more IsCheck [] [] r v before here = (here, tt)
checks_more IsCheck [] (w ∷ vs) r v before here = absurd before
checks_more IsCheck (q ∷ rs) [] r v before here = absurd before
checks_more IsCheck (q ∷ rs) (w ∷ vs) r v before here = (before.0, checks_more IsCheck rs vs r v before.1 here)

errors_more : (vs : List (Option SheetError)) (v : Option SheetError) → errors_in (vs ++ v ∷ []) ≡ errors_in vs ++ errors_in (v ∷ [])
errors_more [] v = refl
errors_more (None ∷ vs) v = errors_more vs v
errors_more (Some e ∷ vs) v = ap (λ (l : List SheetError). e ∷ l) (errors_more vs v)

-- the errors that are named, after one more record
pub named_more : (errors errors' : List SheetError) (vs : List (Option SheetError)) (v : Option SheetError) → errors' ≡ errors ++ errors_in (v ∷ []) → errors ≡ errors_in vs → errors' ≡ errors_in (vs ++ v ∷ [])
named_more errors errors' vs v is named = is ∙ ap (λ (l : List SheetError). l ++ errors_in (v ∷ [])) named ∙ sym (errors_more vs v)

-- what was read, and what is left
pub one_read : (all read before after : List Record) (r : Record) → all ≡ read ++ before → before ≡ r ∷ after → all ≡ (read ++ r ∷ []) ++ after
one_read all read before after r is next = is ∙ ap (λ (l : List Record). read ++ l) next ∙ sym (append_assoc read (r ∷ []) after)

-- the check of a record has one error at most
pub one_error : (v : Option SheetError) → length (errors_in (v ∷ [])) ≤ 1
one_error None = omega arith
one_error (Some e) = omega arith

pub errors_fit : (errors errors' : List SheetError) (v : Option SheetError) (most : ℕ) → errors' ≡ errors ++ errors_in (v ∷ []) → length errors < most → length errors' ≤ most
errors_fit errors errors' v most is below =
    let long = ap length is ∙ length-append errors (errors_in (v ∷ [])) in
    let one = one_error v in
    omega (arith, long, one, below)

-- the check, by a header that has as many fields
pub check_by : (scale : Scale) (form : NumberForm) (number : Option ℕ) (short short' : Bool) (width width' : ℕ) (r : Record) (v : Option SheetError) → short' ≡ short → width' ≡ width
    → IsCheckOf scale form number short' width' r v → IsCheckOf scale form number short width r v
check_by scale form number short short' width width' r v same_short same_width is =
    subst (λ (b : Bool). IsCheckOf scale form number b width r v) same_short (subst (λ (w : ℕ). IsCheckOf scale form number short' w r v) same_width is)

pub not_memory : (line : ℕ) (fault : Fault) → ¬ (Line line fault ≡ Memory)
not_memory line fault is = cc is

-- a statement of four values, at equal ones
pub at_equal : (says : NumberForm → Option ℕ → Bool → ℕ → Type 0) (f f' : NumberForm) (n n' : Option ℕ) (s s' : Bool) (w w' : ℕ) → f ≡ f' → n ≡ n' → s ≡ s' → w ≡ w' → says f n s w → says f' n' s' w'
at_equal says f f' n n' s s' w w' a b c d h = subst (λ (x : NumberForm). says x n' s' w') a (subst (λ (x : Option ℕ). says f x s' w') b (subst (λ (x : Bool). says f n x w') c (subst (λ (x : ℕ). says f n s x) d h)))

-- the bad lines below the header
pub under_header : (scale : Scale) (form : LineForm) (number : Option (List ℕ)) (most : ℕ) (all : List Record) (header : Record) (records : List Record) (errors : List SheetError) → all ≡ header ∷ records
    → AreBadLines (IsCheckOf scale form.number (option_map (place_of header) number) form.allows_short (length header)) most records errors → AreBadUnder scale form number most all errors
under_header scale form number most all header records errors is bad = subst (λ (l : List Record). AreBadUnder scale form number most l errors) (sym is) bad

pub map_copied : (f : List ℕ → ℕ) (o : Option (Bor (List ℕ))) → option_map f (option_copied o) ≡ option_map (λ n. f n.now) o
map_copied f None = refl
map_copied f (Some n) = refl
