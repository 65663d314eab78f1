-- What bags have of tokens and of rows, and what a call gives to a sink.
use Rattle.std.specs.Prelude.{◌≡◌, ℕ, Bool, List, ◌++◌, map, String, string_bytes, Option}
use Rattle.std.specs.Borrow.{Bor}
use Rattle.std.specs.Iterator.{Drains}
use Rattle.std.specs.Str.{bytes_eq}
use Rattle.std.specs.Global.{Global}
use Rattle.hashbag_core.specs.Bag.{Bag}
use Rattle.hashbag_core.specs.Occurrences.{count}
use Rattle.hashbag_words_lib.specs.Sorted.{times_in}
use Rattle.hashbag_words_lib.specs.Tokens.{token_of}

-- the texts in a bag, each as often as it occurs. In definitions a text is any list of bytes, UTF-8 or not
abbrev pub texts_in : {S : Type 0} → Bag (String Global) S → List (List ℕ)
texts_in bag = map string_bytes bag.items

-- the bag has each text as often as the list
abbrev pub HasTokens : {S : Type 0} → Bag (String Global) S → List (List ℕ) → Type 0
HasTokens bag tokens = (text : List ℕ) → count bytes_eq text (texts_in bag) ≡ count bytes_eq text tokens

-- the bag has each text as often as these rows count it
abbrev pub HasRows : {S : Type 0} → Bag (String Global) S → List (List ℕ × ℕ) → Type 0
HasRows bag rows = (text : List ℕ) → count bytes_eq text (texts_in bag) ≡ times_in text rows

-- ---- what a call gives to a sink. `has sink items`: the sink has these items, tokens or rows

module _ {K A : Type 0} (has : K → List A → Type 0) where
  -- whatever the sink had, it has that and these items
  abbrev pub Takes : K → K → List A → Type 0
  Takes old new items = (before : List A) → has old before → has new (before ++ items)

  -- the sink has what it had
  abbrev pub Keeps : K → K → Type 0
  Keeps old new = (items : List A) → has old items → has new items

-- rows are given to a sink. `has shown sink rows`: the sink has these rows; if it writes them, it shows them as `shown` says
module _ {M K : Type 0} (has : M → K → List (List ℕ × ℕ) → Type 0) where
  abbrev pub TakesRows : K → K → List (List ℕ × ℕ) → Type 0
  TakesRows old new rows = (shown : M) → Takes (has shown) old new rows

  abbrev pub KeepsRows : K → K → Type 0
  KeepsRows old new = (shown : M) → Keeps (has shown) old new

-- the sink has these pieces too, each as its token
abbrev pub TakesTokens : {K : Type 0} → (K → List (List ℕ) → Type 0) → Bool → K → K → List (List ℕ) → Type 0
TakesTokens has fold old new pieces = Takes has old new (map (token_of fold) pieces)

-- the sink has all pieces that an iterator gave, each as its token
abbrev pub TakesPieces : {K I : Type 0} → (K → List (List ℕ) → Type 0) → Bool → (I → Option (Bor (List ℕ)) → I → Type 0) → I → K → K → Type 0
TakesPieces has fold steps pieces old new = (came : List (Bor (List ℕ))) × Drains steps pieces came × Takes has old new (map (λ piece. token_of fold piece.now) came)
