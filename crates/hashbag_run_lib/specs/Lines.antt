-- The lines that the program writes.
use Rattle.std.specs.Prelude.{◌≡◌, ℕ, ℤ, List, [], ◌∷◌, ◌++◌, String, codes, decimal, flat_map, string_bytes}
use Rattle.std.specs.Fmt.{signed_decimal}
use Rattle.std.specs.Global.{Global}
use Rattle.std.specs.List.{join_with_byte}
use Rattle.serde_json.specs.Data.{Data}
use Rattle.serde_json.specs.Written.{compact_text}
use Rattle.hashbag_script.specs.declared.script.Reply.{Reply}
use Rattle.hashbag_script.specs.declared.script.Reply.TheVariants.{Count, Left, Taken, Absent, Done, TooMany, BelowTotal}

-- a line: words with a space between each two, and a line feed
abbrev pub line : List (List ℕ) → List ℕ
line words = join_with_byte 32 words ++ 10 ∷ []

-- these bytes were appended to a text
abbrev pub AppendsTo : String Global → String Global → List ℕ → Type 0
AppendsTo old new bytes = string_bytes new ≡ string_bytes old ++ bytes

-- a reply, as words
abbrev pub reply_words : Reply ℕ → List (List ℕ)
reply_words (Count n) = codes "count" ∷ decimal n ∷ []
reply_words (Left n) = codes "left" ∷ decimal n ∷ []
reply_words (Taken v n) = codes "taken" ∷ decimal v ∷ decimal n ∷ []
reply_words Absent = codes "absent" ∷ []
reply_words Done = codes "done" ∷ []
reply_words TooMany = codes "too" ∷ codes "many" ∷ []
reply_words BelowTotal = codes "below" ∷ codes "total" ∷ []

-- the line of a reply of the bag with this name
abbrev pub reply_line : List ℕ → Reply ℕ → List ℕ
reply_line bag reply = line (bag ∷ reply_words reply)

-- the line of a value with its two counts
abbrev pub outer_line : ℕ × ℕ × ℕ → List ℕ
outer_line j = line (codes "outer" ∷ decimal j.0 ∷ decimal j.1 ∷ decimal j.2 ∷ [])

-- the line of this kind for a value with a count
abbrev pub count_line : List ℕ → ℕ × ℕ → List ℕ
count_line kind e = line (kind ∷ decimal e.0 ∷ decimal e.1 ∷ [])

-- the line of a value with a signed count
abbrev pub signed_line : ℕ × ℤ → List ℕ
signed_line e = line (codes "signed" ∷ decimal e.0 ∷ signed_decimal e.1 ∷ [])

-- the line of the tree of the bag with this name
abbrev pub tree_line : List ℕ → Data → List ℕ
tree_line bag tree = line (bag ∷ codes "json" ∷ compact_text tree ∷ [])

-- the lines of four joins
abbrev pub join_lines : List (ℕ × ℕ × ℕ) → List (ℕ × ℕ) → List (ℕ × ℤ) → List (ℕ × ℕ) → List ℕ
join_lines outer difference signed not_in =
    flat_map outer_line outer ++ (flat_map (count_line (codes "difference")) difference
    ++ (flat_map signed_line signed ++ flat_map (count_line (codes "not_in")) not_in))

-- all lines: of the replies of a and of b, then of the joins, then of the trees
abbrev pub output : List (Reply ℕ) → List (Reply ℕ) → List ℕ → Data → Data → List ℕ
output replies_a replies_b joins tree_a tree_b =
    flat_map (reply_line (codes "a")) replies_a ++ (flat_map (reply_line (codes "b")) replies_b
    ++ (joins ++ (tree_line (codes "a") tree_a ++ tree_line (codes "b") tree_b)))

-- the line that names a bad line
abbrev pub bad_line : ℕ → List ℕ
bad_line number = line (codes "bad" ∷ codes "line" ∷ decimal number ∷ [])

-- the line after a failed allocation
abbrev pub no_memory : List ℕ
no_memory = line (codes "no" ∷ codes "memory" ∷ [])
