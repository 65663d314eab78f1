-- The message of a seal, at small values.
use Rattle.std.specs.Prelude.{◌≡◌, refl, [], ◌∷◌, Some, None, pos}
use Rattle.hashbag_ledger_lib.specs.declared.movements.Change.TheVariants.{In, Out}
use Rattle.hashbag_ledger_lib.specs.Numbers.{plain}
use Rattle.hashbag_ledger_lib.specs.Seals.{with_text, with_option, with_change, with_extra}

-- a text has its length before it, in eight bytes
text_of_two : with_text [] (104 ∷ 105 ∷ []) ≡ 2 ∷ 0 ∷ 0 ∷ 0 ∷ 0 ∷ 0 ∷ 0 ∷ 0 ∷ 104 ∷ 105 ∷ []
text_of_two = refl

-- a missing number is sealed otherwise than the number 0
none_is_no_zero : with_option [] None ≡ 0 ∷ 0 ∷ 0 ∷ 0 ∷ 0 ∷ 0 ∷ 0 ∷ 0 ∷ []
none_is_no_zero = refl

zero_is_some : with_option [] (Some (pos 0)) ≡ 1 ∷ 0 ∷ 0 ∷ 0 ∷ 0 ∷ 0 ∷ 0 ∷ 0 ∷ 0 ∷ 0 ∷ 0 ∷ 0 ∷ 0 ∷ 0 ∷ 0 ∷ 0 ∷ []
zero_is_some = refl

-- `Out` is sealed otherwise than `In`, except for 0
nothing_goes_out : with_change [] (plain (Out 0)) ≡ with_change [] (In 0)
nothing_goes_out = refl

seven_go_out : with_change [] (plain (Out 7)) ≡ 1 ∷ 0 ∷ 0 ∷ 0 ∷ 0 ∷ 0 ∷ 0 ∷ 0 ∷ 7 ∷ 0 ∷ 0 ∷ 0 ∷ 0 ∷ 0 ∷ 0 ∷ 0 ∷ []
seven_go_out = refl

-- a movement without a date and a note adds nothing
no_extra : with_extra [] 5 (record { date = None; note = None }) ≡ []
no_extra = refl
