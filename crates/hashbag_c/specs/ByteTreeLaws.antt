-- The laws of `JsonItem` for byte strings.
use Rattle.std.proofs.Common.{◌≡◌, ℕ, ltb, Bool, true, false, cond, Option, Some, None, is_some, option_map, option_and_then, List, [], ◌∷◌, map, refl, sym, ◌∙◌, ap, subst}
use Rattle.std.proofs.lemmas.Bool.{false≢true, and_parts, and_from}
use Rattle.std.proofs.lemmas.Slice.Eq.{bytes_eq-Decides}
use Rattle.std.specs.Str.{bytes_eq, is_utf8}
use Rattle.serde_json.specs.Data.{Data, null, boolean, number, string, array, object, unsigned, Items, no_items, item}
use Rattle.serde_json.specs.View.{items_of}
use Rattle.serde_json.specs.Written.{has_float, items_have_float}
use Rattle.hashbag_core.specs.JsonItems.{u64_of}
use Rattle.hashbag_c.specs.ByteTrees.{are_bytes, numbers_tree, bytes_tree, byte_within, bytes_in, text_within, bytes_item}

same_some : {X : Type 0} (x y : X) → Some x ≡ Some y → x ≡ y
same_some x y e = cc

two_of : {X : Type 0} (o : Option X) (x y : X) → o ≡ Some x → o ≡ Some y → x ≡ y
two_of o x y p q = same_some x y (sym p ∙ q)

-- ---- if a tree is read as a list, each number of the list is a byte

abbrev IsOfBytes : Option (List ℕ) → Type 0
IsOfBytes None = Unit {0}
IsOfBytes (Some x) = are_bytes x ≡ true

byte_first : (n : ℕ) (b : Bool) → ltb n 256 ≡ b → (more : Option (List ℕ)) → IsOfBytes more → IsOfBytes (option_and_then (λ k. option_map (λ bs. k ∷ bs) more) (cond b (Some n) None))
byte_first n true is None h = tt
byte_first n true is (Some bs) h = and_from (ltb n 256) (are_bytes bs) is h
byte_first n false is more h = tt

number_first : (o : Option ℕ) (more : Option (List ℕ)) → IsOfBytes more → IsOfBytes (option_and_then (λ k. option_map (λ bs. k ∷ bs) more) (option_and_then byte_within o))
number_first None more h = tt
number_first (Some n) more h = byte_first n (ltb n 256) refl more h

in_list : (ds : Items) → IsOfBytes (bytes_in ds)
in_list no_items = refl
in_list (item d ds) = number_first (u64_of d) (bytes_in ds) (in_list ds)

in_text : (s : List ℕ) (b : Bool) → are_bytes s ≡ b → IsOfBytes (cond b (Some s) None)
in_text s true is = is
in_text s false is = tt

in_tree : (d : Data) → IsOfBytes (bytes_item d)
in_tree null = tt
in_tree (boolean b) = tt
in_tree (number n) = tt
in_tree (string s) = in_text s (are_bytes s) refl
in_tree (array ds) = in_list ds
in_tree (object ms) = tt

some_is_read : (o : Option (List ℕ)) → IsOfBytes o → is_some o ≡ true → (x : List ℕ) × (are_bytes x ≡ true) × (o ≡ Some x)
some_is_read None h e = absurd (false≢true e)
some_is_read (Some x) h e = (x, h, refl)

pub bytes_are_read : (d : Data) → is_some (bytes_item d) ≡ true → (x : List ℕ) × (are_bytes x ≡ true) × (bytes_item d ≡ Some x)
bytes_are_read d e = some_is_read (bytes_item d) (in_tree d) e

-- ---- the tree of a byte string is read as this byte string

pub text_read : (x : List ℕ) → are_bytes x ≡ true → text_within x ≡ Some x
text_read x h = ap (λ b. cond b (Some x) None) h

list_read : (x : List ℕ) → are_bytes x ≡ true → bytes_item (numbers_tree x) ≡ Some x
list_read [] h = refl
list_read (b ∷ bs) h =
    let parts = and_parts (ltb b 256) (are_bytes bs) h in
    ap (λ t. option_and_then (λ k. option_map (λ l. k ∷ l) (bytes_item (numbers_tree bs))) (cond t (Some b) None)) parts.0
    ∙ ap (λ (o : Option (List ℕ)). option_map (λ l. b ∷ l) o) (list_read bs parts.1)

either_read : (u : Bool) (x : List ℕ) → are_bytes x ≡ true → bytes_item (cond u (string x) (numbers_tree x)) ≡ Some x
either_read true x h = text_read x h
either_read false x h = list_read x h

pub bytes_read : (x : List ℕ) → are_bytes x ≡ true → bytes_item (bytes_tree x) ≡ Some x
bytes_read x h = either_read (is_utf8 x) x h

-- ---- the other laws

pub bytes_equal : (x y : List ℕ) → are_bytes x ≡ true → bytes_eq x y ≡ true → are_bytes y ≡ true
bytes_equal x y h e = subst (λ (z : List ℕ). are_bytes z ≡ true) ((bytes_eq-Decides x y).0 e) h

pub bytes_trees : (x y : List ℕ) → are_bytes x ≡ true → are_bytes y ≡ true → bytes_eq x y ≡ true → bytes_tree x ≡ bytes_tree y
bytes_trees x y h k e = ap bytes_tree ((bytes_eq-Decides x y).0 e)

pub bytes_have : (d : Data) (x : List ℕ) → bytes_item d ≡ Some x → is_some (bytes_item d) ≡ true
bytes_have d x e = ap (λ (o : Option (List ℕ)). is_some o) e

pub bytes_back : (x y : List ℕ) → are_bytes x ≡ true → bytes_item (bytes_tree x) ≡ Some y → bytes_eq x y ≡ true
bytes_back x y h e = (bytes_eq-Decides x y).1 (two_of _ x y (bytes_read x h) e)

pub bytes_one : (d : Data) (x y : List ℕ) → are_bytes x ≡ true → are_bytes y ≡ true → bytes_item d ≡ Some x → bytes_item d ≡ Some y → bytes_eq x y ≡ true
bytes_one d x y h k p q = (bytes_eq-Decides x y).1 (two_of (bytes_item d) x y p q)

list_no_float : (x : List ℕ) → items_have_float (items_of (map (λ b. number (unsigned b)) x)) ≡ false
list_no_float [] = refl
list_no_float (b ∷ bs) = list_no_float bs

either_no_float : (u : Bool) (x : List ℕ) → has_float (cond u (string x) (numbers_tree x)) ≡ false
either_no_float true x = refl
either_no_float false x = list_no_float x

pub bytes_no_float : (x : List ℕ) → are_bytes x ≡ true → has_float (bytes_tree x) ≡ false
bytes_no_float x h = either_no_float (is_utf8 x) x
