-- Byte strings and their JSON trees, as the code makes and reads them.
use Rattle.std.proofs.Common.{◌≡◌, ℕ, ◌+◌, ◌<◌, ◌≤◌, ltb, Bool, true, false, cond, List, [], ◌∷◌, ◌++◌, length, take, drop, get_or, map, Option, Some, None, is_some, option_map, option_and_then, Result, Ok, Err, refl, sym, ◌∙◌, ap, subst, suc, append_assoc}
use borrow.Author.Tests.{lt-ltb}
use Rattle.std.specs.Str.{IsUtf8, is_utf8}
use Rattle.std.proofs.lemmas.Bool.{false≢true, and_from, false_from_ne_true}
use Rattle.std.proofs.lemmas.List.{append-nil, drop_more, drop_all, map-append, take_more, take_all}
use Rattle.std.proofs.lemmas.Str.{IsUtf8-from_is_utf8, is_utf8-from_IsUtf8}
use Rattle.serde_json.specs.Data.{Data, null, boolean, number, string, array, object, unsigned, Items}
use Rattle.serde_json.specs.Find.{as_array, as_str}
use Rattle.serde_json.specs.View.{view, items_of, items_view}
use Rattle.serde_json.specs.declared.value.Value.{Value}
use Rattle.hashbag_core.specs.declared.json.ItemError.{ItemError}
use Rattle.hashbag_core.specs.declared.json.ItemError.TheVariants.{NotAnItem}
use Rattle.hashbag_c.specs.ByteTreeLaws.{bytes_are_read, bytes_have, text_read}
use Rattle.hashbag_c.specs.ByteTrees.{are_bytes, numbers_tree, bytes_tree, byte_item, bytes_in, text_within, bytes_item}

-- ---- bytes

pub each_is_byte : (xs : List ℕ) → ((k : ℕ) → get_or xs k 0 < 256) → are_bytes xs ≡ true
each_is_byte [] small = refl
each_is_byte (x ∷ xs) small = and_from (ltb x 256) (are_bytes xs) (lt-ltb x 256 (small 0)) (each_is_byte xs (λ k. small (suc k)))

-- ---- the tree of a byte string

pub text_tree : (xs : List ℕ) → IsUtf8 xs → string xs ≡ bytes_tree xs
text_tree xs text = sym (ap (λ u. cond u (string xs) (numbers_tree xs)) (is_utf8-from_IsUtf8 xs text))

pub list_tree : (xs : List ℕ) → ¬ (IsUtf8 xs) → numbers_tree xs ≡ bytes_tree xs
list_tree xs other = sym (ap (λ u. cond u (string xs) (numbers_tree xs)) (false_from_ne_true (is_utf8 xs) (λ is. other (IsUtf8-from_is_utf8 xs is))))

pub as_text : (d : Data) (t xs ys : List ℕ) → d ≡ string t → t ≡ xs → IsUtf8 xs → xs ≡ ys → d ≡ bytes_tree ys
as_text d t xs ys is same text whole = is ∙ ap string (same ∙ whole) ∙ text_tree ys (subst IsUtf8 whole text)

pub as_list : (d : Data) (xs ys : List ℕ) → d ≡ numbers_tree xs → ¬ (IsUtf8 xs) → xs ≡ ys → d ≡ bytes_tree ys
as_list d xs ys is other whole = is ∙ ap numbers_tree whole ∙ list_tree ys (subst (λ (l : List ℕ). ¬ (IsUtf8 l)) whole other)

abbrev numeral : ℕ → Data
numeral b = number (unsigned b)

pub one_written : (vs : List Value) (v : Value) (bs : List ℕ) (i : ℕ) → i < length bs → view v ≡ numeral (get_or bs i 0) → map view vs ≡ map numeral (take i bs) → map view (vs ++ (v ∷ [])) ≡ map numeral (take (i + 1) bs)
one_written vs v bs i below is same =
    map-append view vs (v ∷ []) ∙ ap (λ (l : List Data). l ++ (view v ∷ [])) same ∙ ap (λ (d : Data). map numeral (take i bs) ++ (d ∷ [])) is
    ∙ sym (map-append numeral (take i bs) (get_or bs i 0 ∷ [])) ∙ ap (λ (l : List ℕ). map numeral l) (sym (take_more bs i 0 below))

pub all_written : (vs : List Value) (bs : List ℕ) (i : ℕ) → length bs ≤ i → map view vs ≡ map numeral (take i bs) → array (items_of (map view vs)) ≡ numbers_tree bs
all_written vs bs i all same = ap (λ (l : List Data). array (items_of l)) (same ∙ ap (λ (l : List ℕ). map numeral l) (take_all i bs all))

-- ---- the trees of a list as bytes

none_mapped : (f : List ℕ → List ℕ) (o : Option (List ℕ)) → is_some (option_map f o) ≡ is_some o
none_mapped f None = refl
none_mapped f (Some x) = refl

mapped_more : (xs : List ℕ) (b : ℕ) (o : Option (List ℕ)) → option_map (λ more. xs ++ more) (option_map (λ bs. b ∷ bs) o) ≡ option_map (λ more. (xs ++ (b ∷ [])) ++ more) o
mapped_more xs b None = refl
mapped_more xs b (Some bs) = ap Some (sym (append_assoc xs (b ∷ []) bs))

mapped_none : (o : Option (List ℕ)) → o ≡ option_map (λ more. [] ++ more) o
mapped_none None = refl
mapped_none (Some x) = refl

-- the bytes that the first i trees are, and those of the others, are the bytes of all
abbrev pub HasRead : List Value → ℕ → List ℕ → Type 0
HasRead L i xs = bytes_in (items_view L) ≡ option_map (λ more. xs ++ more) (bytes_in (items_view (drop i L)))

pub nothing_read : (L : List Value) → HasRead L 0 []
nothing_read L = mapped_none (bytes_in (items_view L))

pub all_read : (L : List Value) (i : ℕ) (xs : List ℕ) → length L ≤ i → HasRead L i xs → Some xs ≡ bytes_in (items_view L)
all_read L i xs all read =
    sym (read ∙ ap (λ (l : List Value). option_map (λ more. xs ++ more) (bytes_in (items_view l))) (drop_all i L all) ∙ ap Some (append-nil xs))

module _ (L : List Value) (i : ℕ) (v : Value) (below : i < length L) (is : v ≡ get_or L i v) where
  next : bytes_in (items_view (drop i L)) ≡ option_and_then (λ b. option_map (λ bs. b ∷ bs) (bytes_in (items_view (drop (i + 1) L)))) (byte_item (view v))
  next = ap (λ (l : List Value). bytes_in (items_view l)) (drop_more L i v below ∙ ap (λ (x : Value). x ∷ drop (i + 1) L) (sym is))

  next_byte : (b : ℕ) → Some b ≡ byte_item (view v) → bytes_in (items_view (drop i L)) ≡ option_map (λ bs. b ∷ bs) (bytes_in (items_view (drop (i + 1) L)))
  next_byte b e = next ∙ ap (λ (o : Option ℕ). option_and_then (λ k. option_map (λ bs. k ∷ bs) (bytes_in (items_view (drop (i + 1) L)))) o) (sym e)

  next_none : None ≡ byte_item (view v) → bytes_in (items_view (drop i L)) ≡ None
  next_none e = next ∙ ap (λ (o : Option ℕ). option_and_then (λ k. option_map (λ bs. k ∷ bs) (bytes_in (items_view (drop (i + 1) L)))) o) (sym e)

  pub byte_read : (xs : List ℕ) (b : ℕ) → Some b ≡ byte_item (view v) → HasRead L i xs → HasRead L (i + 1) (xs ++ (b ∷ []))
  byte_read xs b e read = read ∙ ap (λ (o : Option (List ℕ)). option_map (λ more. xs ++ more) o) (next_byte b e) ∙ mapped_more xs b (bytes_in (items_view (drop (i + 1) L)))

  pub no_byte_read : (xs : List ℕ) → None ≡ byte_item (view v) → HasRead L i xs → None ≡ bytes_in (items_view L)
  no_byte_read xs e read = sym (read ∙ ap (λ (o : Option (List ℕ)). option_map (λ more. xs ++ more) o) (next_none e))

  pub byte_passes : (b : ℕ) → Some b ≡ byte_item (view v) → is_some (bytes_in (items_view (drop i L))) ≡ is_some (bytes_in (items_view (drop (i + 1) L)))
  byte_passes b e = ap (λ (o : Option (List ℕ)). is_some o) (next_byte b e) ∙ none_mapped (λ bs. b ∷ bs) (bytes_in (items_view (drop (i + 1) L)))

  pub no_byte_passes : None ≡ byte_item (view v) → is_some (bytes_in (items_view (drop i L))) ≡ false
  no_byte_passes e = ap (λ (o : Option (List ℕ)). is_some o) (next_none e)

-- ---- the byte string that a tree is

pub of_text : (d : Data) (s : List ℕ) → Some s ≡ as_str d → bytes_item d ≡ text_within s
of_text null s e = absurd (cc)
of_text (boolean b) s e = absurd (cc)
of_text (number n) s e = absurd (cc)
of_text (string t) s e = let same : s ≡ t = cc in ap text_within (sym same)
of_text (array ds) s e = absurd (cc)
of_text (object ms) s e = absurd (cc)

pub of_list : (d : Data) (ds : Items) → Some ds ≡ as_array d → bytes_item d ≡ bytes_in ds
of_list null ds e = absurd (cc)
of_list (boolean b) ds e = absurd (cc)
of_list (number n) ds e = absurd (cc)
of_list (string t) ds e = absurd (cc)
of_list (array es) ds e = let same : ds ≡ es = cc in ap bytes_in (sym same)
of_list (object ms) ds e = absurd (cc)

pub of_neither : (d : Data) → None ≡ as_str d → None ≡ as_array d → bytes_item d ≡ None
of_neither null e f = refl
of_neither (boolean b) e f = refl
of_neither (number n) e f = refl
of_neither (string t) e f = absurd (cc)
of_neither (array ds) e f = absurd (cc)
of_neither (object ms) e f = refl

same_some : {X : Type 0} (x y : X) → Some x ≡ Some y → x ≡ y
same_some x y e = cc

pub read_is_bytes : (d : Data) (x : List ℕ) → bytes_item d ≡ Some x → are_bytes x ≡ true
read_is_bytes d x e =
    let read = bytes_are_read d (bytes_have d x e) in
    subst (λ (l : List ℕ). are_bytes l ≡ true) (same_some _ _ (sym read.2 ∙ e)) read.1

-- a string is read as its bytes
pub text_item : (d : Data) (s xs ys : List ℕ) → Some s ≡ as_str d → xs ≡ s → are_bytes xs ≡ true → ys ≡ xs → bytes_item d ≡ Some ys
text_item d s xs ys e same bytes copied =
    of_text d s e ∙ ap text_within (sym same) ∙ text_read xs bytes ∙ ap Some (sym copied)

-- an array is read as the bytes in it
pub list_item : (d : Data) (ds : Items) (x : List ℕ) → Some ds ≡ as_array d → Some x ≡ bytes_in ds → bytes_item d ≡ Some x
list_item d ds x e found = of_list d ds e ∙ sym found

-- a tree that has an item is not said to have none
pub is_an_item : {X : Type 0} (r : Result X ItemError) (h : Bool) → h ≡ true → (r ≡ Err NotAnItem → ⊥) → (r ≡ Err NotAnItem → h ≡ false) × (h ≡ false → r ≡ Err NotAnItem)
is_an_item r h there apart = (λ e. absurd (apart e), λ e. absurd (false≢true (sym e ∙ there)))

pub ok_apart : {X : Type 0} (x : X) → Ok x ≡ Err NotAnItem → ⊥
ok_apart x e = absurd (cc)
