-- Marks between groups of three digits.
use Rattle.std.specs.Prelude.{◌≡◌, ℕ, ◌%◌, ◌==◌, ◌&&◌, ◌||◌, ◌++◌, not, if◌then◌else◌, Bool, true, false, List, [], ◌∷◌, length, filter, drop, String, string_bytes, chars, encode_utf8_all, map, Option, Some, None, MatchOption}
use Rattle.std.specs.Char.{is_ascii_digit}
use Rattle.std.specs.Global.{Global}
use Rattle.std.specs.List.{list_all}
use Rattle.hashbag_csv.specs.Decimals.{whole_of}
use Rattle.hashbag_csv.specs.declared.groups.GroupMark.{GroupMark}
use Rattle.hashbag_csv.specs.declared.groups.GroupMark.TheVariants.{Point, Comma, Apostrophe, Space, NoBreak}

-- the code of a mark
abbrev pub group_code : GroupMark → ℕ
group_code Point = 46
group_code Comma = 44
group_code Apostrophe = 39
group_code Space = 32
group_code NoBreak = 32

-- whether a byte with `behind` bytes after it fits: it is the mark if `behind` is 3, 7, 11 and so on, else a digit
abbrev pub fits_place : ℕ → ℕ → ℕ → Bool
fits_place group c behind = if behind % 4 == 3 then c == group else is_ascii_digit c

-- each byte of a text fits its place
abbrev pub marks_fit : ℕ → List ℕ → Bool
marks_fit group [] = true
marks_fit group (c ∷ cs) = fits_place group c (length cs) && marks_fit group cs

-- no mark at all, or groups of three digits with the mark between them; the first group may have one or two digits
abbrev pub is_in_groups : ℕ → List ℕ → Bool
is_in_groups group whole = list_all (λ c. not (c == group)) whole || (not (length whole % 4 == 0) && marks_fit group whole)

-- a text without the mark
abbrev pub without : ℕ → List ℕ → List ℕ
without group text = filter (λ c. not (c == group)) text

-- a text without the marks between groups before its first decimal mark
abbrev pub ungrouped : ℕ → ℕ → List ℕ → List ℕ
ungrouped group mark text = without group (whole_of mark text) ++ drop (length (whole_of mark text)) text

-- a character as it is read if the mark is a no-break space: a space for U+00A0 and for U+202F, which is narrow
abbrev pub spaced : ℕ → ℕ
spaced c = if c == 0xA0 || c == 0x202F then 32 else c

-- a text with a space in place of each no-break space
abbrev pub with_spaces : List ℕ → List ℕ
with_spaces text = encode_utf8_all (map spaced (chars text))

-- a text as it is read: with spaces in place of no-break spaces if they are the mark
abbrev pub read_for : GroupMark → List ℕ → List ℕ
read_for NoBreak text = with_spaces text
read_for _ text = text

-- whether the whole part of a text is in groups; true if no group mark is given
abbrev pub fits_groups : ℕ → Option GroupMark → List ℕ → Bool
fits_groups mark None text = true
fits_groups mark (Some group) text = is_in_groups (group_code group) (whole_of mark (read_for group text))

-- a text without the marks between its groups; as it is if no group mark is given
abbrev pub ungrouped_if : ℕ → Option GroupMark → List ℕ → List ℕ
ungrouped_if mark None text = text
ungrouped_if mark (Some group) text = ungrouped (group_code group) mark (read_for group text)

-- `made` is a text with these bytes if the test passes, and `None` otherwise
abbrev pub IsTextIf : Bool → List ℕ → Option (String Global) → Type 0
IsTextIf test bytes made = MatchOption made (test ≡ false) (λ text. (test ≡ true) × (string_bytes text ≡ bytes))

-- `made` is the text without the marks between its groups if the whole part is in groups, and `None` otherwise
abbrev pub IsUngrouped : ℕ → GroupMark → List ℕ → Option (String Global) → Type 0
IsUngrouped mark group text made = IsTextIf (fits_groups mark (Some group) text) (ungrouped_if mark (Some group) text) made
