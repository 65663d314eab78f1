-- Bags as JSON texts: what is written, what a text is read as, and why it isn't read.
use Rattle.std.specs.Prelude.{◌≡◌, ℕ, ◌<◌, ◌≤◌, Bool, List, ◌++◌, length, drop, min, nat_eq, Option, None, Some, is_some, unwrap_or, IsUtf8}
use Rattle.std.specs.Cmp.Lexicographic.{slice_cmp}
use Rattle.std.specs.Ordering.{nat_cmp}
use Rattle.std.specs.Str.{bytes_eq}
use Rattle.std.specs.declared.cmp.Ordering.{Ordering}
use Rattle.serde_json.specs.Data.{Data, number, unsigned}
use Rattle.serde_json.specs.Read.{read}
use Rattle.serde_json.specs.Written.{compact_text}
use Rattle.hashbag_core.specs.Bag.{Bag}
use Rattle.hashbag_core.specs.Inserts.{IsMadeOf}
use Rattle.hashbag_core.specs.JsonFaults.{fault, limit_of}
use Rattle.hashbag_core.specs.JsonItems.{u64_item}
use Rattle.hashbag_core.specs.JsonTrees.{IsReading, IsTreeOfCounts, ReadsBack}
use Rattle.hashbag_core.specs.Occurrences.{greatest_total, IsBag}
use Rattle.hashbag_core.specs.declared.json.JsonError.{JsonError}
use Rattle.hashbag_core.specs.declared.json.JsonError.TheVariants.{NotAnArray, NotAPair, BadCount, BadItem, TooMany, BadLimit}
use Rattle.hashbag_core.specs.declared.json.JsonError.TheVariants as json_error
use Rattle.hashbag_c.specs.ByteTrees.{bytes_tree, bytes_item}
use Rattle.hashbag_c.specs.declared.json.TextError.{TextError}
use Rattle.hashbag_c.specs.declared.json.TextError.TheVariants.{Memory, NotJson, Fault}
use Rattle.hashbag_c.specs.declared.state.Keys.{Keys}
use Rattle.hashbag_c.specs.declared.state.State.{State}

-- ---- what is written

module _ {T S : Type 0} (eq : T → T → Bool) (cmp : T → T → Ordering) (tree_of : T → Data) (has_item : Data → Bool) (reads : Data → T → Type 0) where
  -- all bags with these counts and this limit have one tree, and the text is that tree without spaces. Reading the text gives the tree. The tree
  -- has no fault, and is read as a bag with these counts and this limit
  pub record IsJson (bag : Bag T S) (text : List ℕ) : Type 0 where
    pub tree : Data
    pub is_tree : IsTreeOfCounts eq cmp tree_of bag.items bag.most tree
    pub text_is : text ≡ compact_text tree
    pub is_read : read text ≡ Some tree
    pub no_fault : fault greatest_total has_item tree ≡ None
    pub counts : ReadsBack eq reads bag.items tree
    pub limit : limit_of tree ≡ bag.most

-- some text for which P holds is at the beginning of `after`, whose other places are as in `before`; n is the text's length
pub record IsWritten (P : List ℕ → Type 0) (before after : List ℕ) (n : ℕ) : Type 0 where
  pub text : List ℕ
  pub holds : P text
  pub long : n ≡ length text
  pub fits : length text ≤ length before
  pub whole : after ≡ text ++ drop (length text) before

-- a text for which P holds has n bytes, and the buffer, which had `before`, has fewer places
pub record IsTooLong (P : List ℕ → Type 0) (before : List ℕ) (n : ℕ) : Type 0 where
  pub text : List ℕ
  pub holds : P text
  pub long : n ≡ length text
  pub more : length before < length text

module _ {T S : Type 0} (eq : T → T → Bool) (cmp : T → T → Ordering) (tree_of : T → Data) (has_item : Data → Bool) (reads : Data → T → Type 0) where
  -- the JSON of a bag is written
  abbrev pub JsonIsWritten : Bag T S → List ℕ → List ℕ → ℕ → Type 0
  JsonIsWritten bag before after n = IsWritten (IsJson eq cmp tree_of has_item reads bag) before after n

  -- the JSON of a bag is too long
  abbrev pub JsonIsTooLong : Bag T S → List ℕ → ℕ → Type 0
  JsonIsTooLong bag before n = IsTooLong (IsJson eq cmp tree_of has_item reads bag) before n

-- ---- what a text is read as

module _ {T S : Type 0} (eq : T → T → Bool) (has_item : Data → Bool) (reads : Data → T → Type 0) where
  -- the text is that of a tree without a fault. Its pairs, inserted in turn into an empty bag, made this bag, whose limit is that of the
  -- tree or `most`, whichever is less
  pub record IsReadFrom (most : ℕ) (text : List ℕ) (bag : Bag T S) : Type 0 where
    pub tree : Data
    pub is_tree : read text ≡ Some tree
    pub no_fault : fault most has_item tree ≡ None
    pub pairs : List (T × ℕ)
    pub reading : IsReading reads tree pairs
    pub made : IsMadeOf eq pairs bag
    pub limit : bag.most ≡ min most (limit_of tree)
    pub is_bag : IsBag eq bag.most bag.items

-- ---- why a text isn't read

-- the text is a tree whose first fault, under the limit `most`, is `error`
pub record HasFault (has_item : Data → Bool) (most : ℕ) (text : List ℕ) (error : JsonError) : Type 0 where
  pub tree : Data
  pub is_tree : read text ≡ Some tree
  pub first : fault most has_item tree ≡ Some error

-- why a text isn't read. `Memory`: an allocation failed. `NotJson place`: it isn't JSON or isn't UTF-8, and `place` is roughly where the error is, at
-- most the text's length. `Fault error`: this is the first fault of its tree under the limit `most`
abbrev pub IsCause : (Data → Bool) → ℕ → List ℕ → TextError → Type 0
IsCause has_item most text Memory = Unit {0}
IsCause has_item most text (NotJson place) = (place ≤ length text) × (IsUtf8 text → read text ≡ None)
IsCause has_item most text (Fault error) = HasFault has_item most text error

-- the number of a fault
abbrev pub fault_number : JsonError → ℕ
fault_number NotAnArray = 3
fault_number (NotAPair i) = 4
fault_number (BadCount i) = 5
fault_number (BadItem i) = 6
fault_number (TooMany i) = 7
fault_number json_error.Memory = 8
fault_number BadLimit = 10

-- the index of the pair that is at fault, if a pair is
abbrev pub fault_pair : JsonError → Option ℕ
fault_pair NotAnArray = None
fault_pair (NotAPair i) = Some i
fault_pair (BadCount i) = Some i
fault_pair (BadItem i) = Some i
fault_pair (TooMany i) = Some i
fault_pair json_error.Memory = None
fault_pair BadLimit = None

-- the number that is returned for an error
abbrev pub code_of : TextError → ℕ
code_of Memory = 1
code_of (NotJson place) = 24
code_of (Fault error) = fault_number error

-- the place of an error: the place in the text, or the index of the pair that is at fault
abbrev pub place_of : TextError → Option ℕ
place_of Memory = None
place_of (NotJson place) = Some place
place_of (Fault error) = fault_pair error

-- a text isn't read: `code` is the error's number; `after` is the error's place, or `before` if it has none
pub record IsReported (has_item : Data → Bool) (most : ℕ) (text : List ℕ) (code before after : ℕ) : Type 0 where
  pub error : TextError
  pub cause : IsCause has_item most text error
  pub code_is : code ≡ code_of error
  pub place_is : after ≡ unwrap_or (place_of error) before

-- ---- numbers

-- the tree of a number
abbrev pub number_tree : ℕ → Data
number_tree n = number (unsigned n)

-- whether a tree is that of a number
abbrev pub has_number : Data → Bool
has_number d = is_some (u64_item d)

-- a tree is read as a number
abbrev pub reads_number : Data → ℕ → Type 0
reads_number d n = u64_item d ≡ Some n

-- the text is the JSON of a bag of numbers
abbrev pub IsNumbersJson : Bag ℕ State → List ℕ → Type 0
IsNumbersJson bag text = IsJson nat_eq nat_cmp number_tree has_number reads_number bag text

-- a bag of numbers was read from the text
abbrev pub AreNumbersReadFrom : ℕ → List ℕ → Bag ℕ State → Type 0
AreNumbersReadFrom most text bag = IsReadFrom nat_eq has_number reads_number most text bag

-- ---- byte strings

-- whether a tree is that of a byte string
abbrev pub has_bytes : Data → Bool
has_bytes d = is_some (bytes_item d)

-- a tree is read as a byte string
abbrev pub reads_bytes : Data → List ℕ → Type 0
reads_bytes d bs = bytes_item d ≡ Some bs

-- the text is the JSON of a bag of byte strings
abbrev pub IsTextsJson : Bag (List ℕ) Keys → List ℕ → Type 0
IsTextsJson bag text = IsJson bytes_eq (slice_cmp nat_cmp) bytes_tree has_bytes reads_bytes bag text

-- a bag of byte strings was read from the text
abbrev pub AreTextsReadFrom : ℕ → List ℕ → Bag (List ℕ) Keys → Type 0
AreTextsReadFrom most text bag = IsReadFrom bytes_eq has_bytes reads_bytes most text bag
