-- The laws of `JsonItem`, for numbers and texts.
use Rattle.std.proofs.Common.{◌≡◌, ℕ, ◌<◌, ◌^◌, ltb, nat_eq, ℤ, pos, negsuc, Bool, true, false, cond, Option, Some, None, is_some, option_and_then, List, String, Global, string_bytes, refl, sym, ◌∙◌, ap, subst, arith}
use borrow.Author.Tests.{eqb-true, eq-eqb, ltb-true, lt-ltb}
use Rattle.std.proofs.lemmas.Bool.{false≢true}
use Rattle.std.proofs.lemmas.Slice.Eq.{bytes_eq-Decides}
use Rattle.std.proofs.lemmas.Bool.Decides.{Decides-int_eq}
use Rattle.std.specs.Ordering.{int_eq}
use Rattle.std.specs.String.{string_eq}
use Rattle.serde_json.specs.Data.{Data, number, string, unsigned}
use Rattle.serde_json.specs.Find.{of_integer, as_str}
use Rattle.serde_json.specs.View.{view, view_step}
use Rattle.serde_json.specs.Written.{has_float}
use Rattle.serde_json.specs.declared.value.Value.{Value}
use Rattle.serde_json.specs.declared.value.Value.TheOpen.{Value-F}
use Rattle.serde_json.specs.declared.value.Value.TheViews.{out-Value}
use Rattle.serde_json.specs.declared.value.Value.TheFolds.{map-Value, fold_out-Value}
use Rattle.hashbag_core.specs.JsonItems.{IsU64, IsI64, u64_of, i64_of, u64_within, i64_within, u64_item, i64_item}

same_some : {X : Type 0} (x y : X) → Some x ≡ Some y → x ≡ y
same_some x y e = cc

same_of : {X : Type 0} (o : Option X) (x y : X) → o ≡ Some x → o ≡ Some y → x ≡ y
same_of o x y p q = same_some x y (sym p ∙ q)

-- ---- u64

pub u64_equal : (x y : ℕ) → IsU64 x → nat_eq x y ≡ true → IsU64 y
u64_equal x y h e = let same = eqb-true x y e in omega arith

pub u64_trees : (x y : ℕ) → IsU64 x → IsU64 y → nat_eq x y ≡ true → number (unsigned x) ≡ number (unsigned y)
u64_trees x y h k e = ap (λ n. number (unsigned n)) (eqb-true x y e)

u64_in_range : (x : ℕ) → IsU64 x → u64_within x ≡ Some x
u64_in_range x h = ap (λ b. cond b (Some x) None) (lt-ltb x (2 ^ 64) h)

pub u64_reads : (x : ℕ) → IsU64 x → u64_item (number (unsigned x)) ≡ Some x
u64_reads x h = u64_in_range x h

-- a tree's number, if it is in range, is the tree's item
pub u64_found : (d : Data) (x : ℕ) → Some x ≡ u64_of d → IsU64 x → u64_item d ≡ Some x
u64_found d x e h = ap (option_and_then u64_within) (sym e) ∙ u64_in_range x h

pub u64_none : (d : Data) → None ≡ u64_of d → is_some (u64_item d) ≡ false
u64_none d e = ap (λ (o : Option ℕ). is_some (option_and_then u64_within o)) (sym e)

pub u64_back : (x y : ℕ) → IsU64 x → u64_item (number (unsigned x)) ≡ Some y → nat_eq x y ≡ true
u64_back x y h e = eq-eqb x y (same_of _ x y (u64_reads x h) e)

pub u64_one : (d : Data) (x y : ℕ) → IsU64 x → IsU64 y → u64_item d ≡ Some x → u64_item d ≡ Some y → nat_eq x y ≡ true
u64_one d x y h k p q = eq-eqb x y (same_of (u64_item d) x y p q)

pub u64_has : (d : Data) (x : ℕ) → u64_item d ≡ Some x → is_some (u64_item d) ≡ true
u64_has d x e = ap (λ (o : Option ℕ). is_some o) e

u64_by_range : (n : ℕ) (b : Bool) → ltb n (2 ^ 64) ≡ b → is_some (cond b (Some n) None) ≡ true → (x : ℕ) × IsU64 x × (u64_within n ≡ Some x)
u64_by_range n true is e = let below = ltb-true n (2 ^ 64) is in (n, below, u64_in_range n below)
u64_by_range n false is e = absurd (false≢true e)

u64_is_item : (o : Option ℕ) → is_some (option_and_then u64_within o) ≡ true → (x : ℕ) × IsU64 x × (option_and_then u64_within o ≡ Some x)
u64_is_item None e = absurd (false≢true e)
u64_is_item (Some n) e = u64_by_range n (ltb n (2 ^ 64)) refl e

pub u64_is_read : (d : Data) → is_some (u64_item d) ≡ true → (x : ℕ) × IsU64 x × (u64_item d ≡ Some x)
u64_is_read d e = u64_is_item (u64_of d) e

-- ---- i64

pub i64_equal : (x y : ℤ) → IsI64 x → int_eq x y ≡ true → IsI64 y
i64_equal x y h e = subst IsI64 ((Decides-int_eq x y).0 e) h

pub i64_trees : (x y : ℤ) → IsI64 x → IsI64 y → int_eq x y ≡ true → number (of_integer x) ≡ number (of_integer y)
i64_trees x y h k e = ap (λ z. number (of_integer z)) ((Decides-int_eq x y).0 e)

i64_in_range : (x : ℤ) → IsI64 x → i64_within x ≡ Some x
i64_in_range (pos n) h = ap (λ b. cond b (Some (pos n)) None) (lt-ltb n (2 ^ 63) h)
i64_in_range (negsuc n) h = ap (λ b. cond b (Some (negsuc n)) None) (lt-ltb n (2 ^ 63) h)

i64_written : (x : ℤ) → IsI64 x → Some x ≡ i64_of (number (of_integer x))
i64_written (pos n) h = sym (ap (λ b. cond b (Some (pos n)) None) (lt-ltb n (2 ^ 63) h))
i64_written (negsuc n) h = refl

-- a tree's number, if it is in range, is the tree's item
pub i64_found : (d : Data) (x : ℤ) → Some x ≡ i64_of d → IsI64 x → i64_item d ≡ Some x
i64_found d x e h = ap (option_and_then i64_within) (sym e) ∙ i64_in_range x h

pub i64_none : (d : Data) → None ≡ i64_of d → is_some (i64_item d) ≡ false
i64_none d e = ap (λ (o : Option ℤ). is_some (option_and_then i64_within o)) (sym e)

pub i64_reads : (x : ℤ) → IsI64 x → i64_item (number (of_integer x)) ≡ Some x
i64_reads x h = i64_found (number (of_integer x)) x (i64_written x h) h

pub i64_has : (d : Data) (x : ℤ) → i64_item d ≡ Some x → is_some (i64_item d) ≡ true
i64_has d x e = ap (λ (o : Option ℤ). is_some o) e

i64_by_range : (n : ℕ) (x : ℤ) (b : Bool) → ltb n (2 ^ 63) ≡ b → (n < 2 ^ 63 → IsI64 x) → is_some (cond b (Some x) None) ≡ true → IsI64 x
i64_by_range n x true is fits e = fits (ltb-true n (2 ^ 63) is)
i64_by_range n x false is fits e = absurd (false≢true e)

i64_fits : (x : ℤ) → is_some (i64_within x) ≡ true → IsI64 x
i64_fits (pos n) e = i64_by_range n (pos n) (ltb n (2 ^ 63)) refl (λ h. h) e
i64_fits (negsuc n) e = i64_by_range n (negsuc n) (ltb n (2 ^ 63)) refl (λ h. h) e

i64_is_item : (o : Option ℤ) → is_some (option_and_then i64_within o) ≡ true → (x : ℤ) × IsI64 x × (option_and_then i64_within o ≡ Some x)
i64_is_item None e = absurd (false≢true e)
i64_is_item (Some z) e = let fits = i64_fits z e in (z, fits, i64_in_range z fits)

pub i64_is_read : (d : Data) → is_some (i64_item d) ≡ true → (x : ℤ) × IsI64 x × (i64_item d ≡ Some x)
i64_is_read d e = i64_is_item (i64_of d) e

pub i64_back : (x y : ℤ) → IsI64 x → i64_item (number (of_integer x)) ≡ Some y → int_eq x y ≡ true
i64_back x y h e = (Decides-int_eq x y).1 (same_of _ x y (i64_reads x h) e)

pub i64_one : (d : Data) (x y : ℤ) → IsI64 x → IsI64 y → i64_item d ≡ Some x → i64_item d ≡ Some y → int_eq x y ≡ true
i64_one d x y h k p q = (Decides-int_eq x y).1 (same_of (i64_item d) x y p q)

pub i64_no_float : (x : ℤ) → IsI64 x → has_float (number (of_integer x)) ≡ false
i64_no_float (pos n) h = refl
i64_no_float (negsuc n) h = refl

-- ---- texts

pub text_trees : (x y : String Global) → Unit {0} → Unit {0} → string_eq x y ≡ true → string (string_bytes x) ≡ string (string_bytes y)
text_trees x y h k e = ap string ((bytes_eq-Decides (string_bytes x) (string_bytes y)).0 e)

pub text_back : (x y : String Global) → Unit {0} → as_str (string (string_bytes x)) ≡ Some (string_bytes y) → string_eq x y ≡ true
text_back x y h e = (bytes_eq-Decides (string_bytes x) (string_bytes y)).1 (same_some _ _ e)

pub text_one : (d : Data) (x y : String Global) → Unit {0} → Unit {0} → as_str d ≡ Some (string_bytes x) → as_str d ≡ Some (string_bytes y) → string_eq x y ≡ true
text_one d x y h k p q = (bytes_eq-Decides (string_bytes x) (string_bytes y)).1 (same_of (as_str d) _ _ p q)

pub text_has : (d : Data) (x : String Global) → as_str d ≡ Some (string_bytes x) → is_some (as_str d) ≡ true
text_has d x e = ap (λ (o : Option (List ℕ)). is_some o) e

-- d is the tree of some text
abbrev pub IsOfText : Data → Type 0
IsOfText d = (x : String Global) × Unit {0} × (as_str d ≡ Some (string_bytes x))

text_in_level : (l : Value-F Value) → is_some (as_str (view_step (map-Value Value Data view l))) ≡ true → IsOfText (view_step (map-Value Value Data view l))
text_in_level Value-F.Null e = absurd (false≢true e)
text_in_level (Value-F.Bool b) e = absurd (false≢true e)
text_in_level (Value-F.Number n) e = absurd (false≢true e)
text_in_level (Value-F.String s) e = (s, tt, refl)
text_in_level (Value-F.Array v) e = absurd (false≢true e)
text_in_level (Value-F.Object m) e = absurd (false≢true e)

-- if the tree of v is a string, it is the tree of some `String`
pub text_is_read : (v : Value) → is_some (as_str (view v)) ≡ true → IsOfText (view v)
text_is_read v e =
    subst (λ (d : Data). is_some (as_str d) ≡ true → IsOfText d) (sym (fold_out-Value Data view_step v)) (text_in_level (out-Value v)) e
