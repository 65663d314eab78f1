-- The words of sizes.
use Rattle.std.specs.Prelude.{◌≡◌, ◌||◌, ℕ, List, Bool, true, false, codes, bytes_eq, Option, Some, None, if◌then◌else◌}
use Rattle.std.proofs.Common.{refl, sym, ◌∙◌, ap}
use Rattle.std.proofs.lemmas.Slice.Eq.{bytes_eq-Decides}
use Rattle.hashbag_callers.specs.declared.own_types.Size.{Size}
use Rattle.hashbag_callers.specs.declared.own_types.Size.TheVariants.{Small, Medium, Large}

-- the word of a size
abbrev pub size_text : Size → List ℕ
size_text Small = codes "small"
size_text Medium = codes "medium"
size_text Large = codes "large"

-- whether a text is the word of a size
abbrev pub is_size : List ℕ → Bool
is_size t = bytes_eq t (codes "small") || bytes_eq t (codes "medium") || bytes_eq t (codes "large")

-- the size of a word
abbrev size_of : List ℕ → Option Size
size_of t = if bytes_eq t (codes "small") then Some Small else if bytes_eq t (codes "medium") then Some Medium else if bytes_eq t (codes "large") then Some Large else None

size_back : (x : Size) → size_of (size_text x) ≡ Some x
size_back Small = refl
size_back Medium = refl
size_back Large = refl

same_size : (x y : Size) → Some x ≡ Some y → x ≡ y
same_size x y e = cc

-- sizes with the same word are equal
pub size_one : (x y : Size) → size_text x ≡ size_text y → x ≡ y
size_one x y e = same_size x y (sym (size_back x) ∙ ap size_of e ∙ size_back y)

found_by : (t : List ℕ) (s m l : Bool) → bytes_eq t (codes "small") ≡ s → bytes_eq t (codes "medium") ≡ m → bytes_eq t (codes "large") ≡ l → (s || m || l) ≡ true → (x : Size) × (size_text x ≡ t)
found_by t true m l p q r e = (Small, sym ((bytes_eq-Decides t (codes "small")).0 p))
found_by t false true l p q r e = (Medium, sym ((bytes_eq-Decides t (codes "medium")).0 q))
found_by t false false true p q r e = (Large, sym ((bytes_eq-Decides t (codes "large")).0 r))
found_by t false false false p q r e = absurd (cc)

-- if a text is the word of a size, a size whose word is the text
pub size_found : (t : List ℕ) → is_size t ≡ true → (x : Size) × (size_text x ≡ t)
size_found t e = found_by t _ _ _ refl refl refl e
