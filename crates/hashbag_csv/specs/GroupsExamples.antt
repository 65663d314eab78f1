-- The definitions of groups compute.
use Rattle.std.specs.Prelude.{◌≡◌, [], ◌∷◌, ◌++◌, true, false, Some, None, codes, refl}
use Rattle.std.specs.Str.{chars}
use lib.Utf8.{encode}
use Rattle.hashbag_csv.specs.Groups.{fits_groups, is_in_groups, ungrouped, ungrouped_if, with_spaces, without, IsTextIf}
use Rattle.hashbag_csv.specs.declared.groups.GroupMark.TheVariants.{Space, NoBreak}

-- one to three digits first, or no mark
thousands : is_in_groups 46 (codes "12.345.678") ≡ true
thousands = refl

short : is_in_groups 46 (codes "123") ≡ true
short = refl

none : is_in_groups 46 (codes "1234567") ≡ true
none = refl

-- too few digits behind a mark, or too many before one; two marks in a row, and a mark at either end; no digit
few : is_in_groups 46 (codes "1.00") ≡ false
few = refl

many : is_in_groups 46 (codes "1234.567") ≡ false
many = refl

in_a_row : is_in_groups 46 (codes "1..000") ≡ false
in_a_row = refl

at_the_front : is_in_groups 46 (codes ".100") ≡ false
at_the_front = refl

at_the_end : is_in_groups 46 (codes "100.") ≡ false
at_the_end = refl

letter : is_in_groups 46 (codes "1.00x") ≡ false
letter = refl

-- marks before the decimal mark are removed, and marks after it are kept
before : ungrouped 46 44 (codes "1.234.567,50") ≡ codes "1234567,50"
before = refl

after : ungrouped 46 44 (codes "1.000,5.5") ≡ codes "1000,5.5"
after = refl

whole : ungrouped 39 46 (codes "1'000") ≡ codes "1000"
whole = refl

-- a text that isn't in groups gives `None`
not_made : IsTextIf (is_in_groups 46 (codes "1.00")) (without 46 (codes "1.00")) None
not_made = refl

-- both no-break spaces are read as spaces, and no other character that has one of their bytes
both : with_spaces (codes "1" ++ 0xC2 ∷ 0xA0 ∷ codes "2" ++ 0xE2 ∷ 0x80 ∷ 0xAF ∷ codes "3 4") ≡ codes "1 2 3 4"
unfolding chars encode
both = refl

others : with_spaces (0xC3 ∷ 0xA0 ∷ 0xE2 ∷ 0x80 ∷ 0xAE ∷ 0xC2 ∷ 0xA1 ∷ []) ≡ 0xC3 ∷ 0xA0 ∷ 0xE2 ∷ 0x80 ∷ 0xAE ∷ 0xC2 ∷ 0xA1 ∷ []
unfolding chars encode
others = refl

-- with `nbsp` a no-break space is a mark, and so its groups have three digits
no_break : ungrouped_if 44 (Some NoBreak) (codes "1" ++ 0xC2 ∷ 0xA0 ∷ codes "000,5") ≡ codes "1000,5"
unfolding chars encode
no_break = refl

narrow : fits_groups 44 (Some NoBreak) (codes "1" ++ 0xE2 ∷ 0x80 ∷ 0xAF ∷ codes "00,5") ≡ false
unfolding chars encode
narrow = refl

-- with `space` it is none
unread : ungrouped_if 44 (Some Space) (codes "1" ++ 0xC2 ∷ 0xA0 ∷ codes "000,5") ≡ codes "1" ++ 0xC2 ∷ 0xA0 ∷ codes "000,5"
unread = refl
