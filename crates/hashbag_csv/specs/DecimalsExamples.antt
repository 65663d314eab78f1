-- The texts of numbers, computed.
use Rattle.std.specs.Prelude.{◌≡◌, codes, refl}
use Rattle.std.specs.Fmt.{digits}
use Rattle.hashbag_csv.specs.Decimals.{decimal_text}

-- without decimals, there is no mark
whole : decimal_text 46 0 150 ≡ codes "150"
unfolding digits
whole = refl

-- with two, a zero before the mark and zeros after it
hundredths : decimal_text 44 2 5 ≡ codes "0,05"
unfolding digits
hundredths = refl

ones : decimal_text 46 2 12300 ≡ codes "123.00"
unfolding digits
ones = refl
