-- Byte strings as JSON trees: a string if the bytes are UTF-8, else an array of numbers. Both are read back.
use Rattle.std.specs.Prelude.{ℕ, nat_lt, ◌&&◌, Bool, true, if◌then◌else◌, List, [], ◌∷◌, map, Option, Some, None, option_map, option_and_then}
use Rattle.std.specs.Str.{is_utf8}
use Rattle.serde_json.specs.Data.{Data, null, boolean, number, string, array, object, unsigned, Items, no_items, item}
use Rattle.serde_json.specs.View.{items_of}
use Rattle.hashbag_core.specs.JsonItems.{u64_of}

-- whether each number is a byte
abbrev pub are_bytes : List ℕ → Bool
are_bytes [] = true
are_bytes (b ∷ bs) = nat_lt b 256 && are_bytes bs

-- the array of these numbers
abbrev pub numbers_tree : List ℕ → Data
numbers_tree bs = array (items_of (map (λ b. number (unsigned b)) bs))

-- the tree of a byte string
abbrev pub bytes_tree : List ℕ → Data
bytes_tree bs = if is_utf8 bs then string bs else numbers_tree bs

-- the number if it is a byte, else none
abbrev pub byte_within : ℕ → Option ℕ
byte_within n = if nat_lt n 256 then Some n else None

-- a tree read as a byte, none if it isn't a whole number from 0 to 255
abbrev pub byte_item : Data → Option ℕ
byte_item d = option_and_then byte_within (u64_of d)

-- the trees of an array read as bytes, none if one of the trees isn't a byte
abbrev pub bytes_in : Items → Option (List ℕ)
bytes_in no_items = Some []
bytes_in (item d ds) = option_and_then (λ b. option_map (λ bs. b ∷ bs) (bytes_in ds)) (byte_item d)

-- the string if each of its numbers is a byte, else none. In the tree of a `Value` each is
abbrev pub text_within : List ℕ → Option (List ℕ)
text_within s = if are_bytes s then Some s else None

-- a tree read as a byte string, none if it is neither a string nor an array of whole numbers from 0 to 255
abbrev pub bytes_item : Data → Option (List ℕ)
bytes_item null = None
bytes_item (boolean b) = None
bytes_item (number n) = None
bytes_item (string s) = text_within s
bytes_item (array ds) = bytes_in ds
bytes_item (object ms) = None
