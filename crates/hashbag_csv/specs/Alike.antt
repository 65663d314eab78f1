-- Articles that differ only in case, in white space at their ends, or in normal form.
use Rattle.std.specs.Prelude.{◌≡◌, ℕ, Bool, List, map, chars, encode_utf8_all, All, IfSome, String}
use Rattle.std.specs.Borrow.{Bor}
use Rattle.std.specs.Cmp.Lexicographic.{pointwise}
use Rattle.std.specs.Global.{Global, Vec}
use Rattle.std.specs.HashMap.{HashMap, get}
use Rattle.std.specs.Str.{trim}
use Rattle.std.specs.String.{string_bytes, string_eq}
use Rattle.caseless.specs.Caseless.{default_case_fold}
use Rattle.unicode_normalization.specs.Forms.{nfc}
use Rattle.hashbag_csv.specs.Readers.{Record}

-- a text without the white space at both ends, with its case folded, in normal form C
abbrev pub loose : List ℕ → List ℕ
loose text = encode_utf8_all (nfc (chars (encode_utf8_all (default_case_fold (chars (trim text))))))

-- the fields of an article, each in the form `loose`
abbrev pub loosely : Record → Record
loosely article = map loose article

-- the two articles of each pair are equal in the form `loose`
abbrev pub AreNear : {A : Type 0} → (A → Record) → List (Bor A × Bor A) → Type 0
AreNear fields pairs = All (λ p. loosely (fields p.0.now) ≡ loosely (fields p.1.now)) pairs

-- whether two lists of texts are equal
abbrev pub same_texts : Vec (String Global) → Vec (String Global) → Bool
same_texts x y = pointwise string_eq x.items y.items

-- the key of each article in a map is the article's fields in the form `loose`
abbrev pub HasLoosely : {A S : Type 0} → (A → Record) → HashMap (Vec (String Global)) (Bor A) S → Type 0
HasLoosely fields m = (q : Vec (String Global)) → IfSome (get same_texts m q) (λ x. loosely (fields x.now) ≡ map string_bytes q.items)

-- if `loose` is `loosely` of the article's fields, a step keeps two facts: `HasLoosely` of the map, and `AreNear` of the pairs
abbrev pub KeepsNear : {A S : Type 0} → (A → Record) → A → Vec (String Global) → HashMap (Vec (String Global)) (Bor A) S → Vec (Bor A × Bor A) → HashMap (Vec (String Global)) (Bor A) S → Vec (Bor A × Bor A) → Type 0
KeepsNear fields article loose seen pairs seen_after pairs_after =
    HasLoosely fields seen → AreNear fields pairs.items → loosely (fields article) ≡ map string_bytes loose.items
    → HasLoosely fields seen_after × AreNear fields pairs_after.items
