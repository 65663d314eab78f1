-- The definition of groups of digits computes.
use Rattle.std.specs.Prelude.{◌≡◌, true, false, codes, refl}
use Rattle.hashbag_csv.specs.Faults.{is_grouped}

-- points, one between two digits
thousands : is_grouped 46 false (codes "1.000.000") ≡ true
thousands = refl

alone : is_grouped 46 false (codes "15") ≡ true
alone = refl

-- two points in a row, a point at either end, another mark, and nothing
in_a_row : is_grouped 46 false (codes "1..0") ≡ false
in_a_row = refl

at_the_front : is_grouped 46 false (codes ".5") ≡ false
at_the_front = refl

at_the_end : is_grouped 46 false (codes "5.") ≡ false
at_the_end = refl

other : is_grouped 46 false (codes "1,0") ≡ false
other = refl

nothing : is_grouped 46 false (codes "") ≡ false
nothing = refl
