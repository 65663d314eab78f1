-- Scales, and numbers in their units.
use Rattle.std.specs.Prelude.{◌≡◌, ℕ, ◌-◌, ◌^◌, List}
use Rattle.hashbag_csv.specs.Decimals.{IsDecimal, decimal_text}
use Rattle.hashbag_csv.specs.Lines.{number_in}
use Rattle.hashbag_csv.specs.Marks.{code_of}
use Rattle.hashbag_csv.specs.declared.scale.Mark.{Mark}
use Rattle.hashbag_csv.specs.declared.scale.Scale.{Scale}

-- a scale has this number of decimals after this mark, and the greatest number `usize.MAX`
abbrev pub IsWidestScale : ℕ → Mark → Scale → Type 0
IsWidestScale decimals mark scale = (scale.decimals ≡ decimals) × (scale.mark ≡ mark) × (scale.most ≡ 2 ^ 64 - 1)

-- a text is a number, with no more decimals than the scale has
abbrev pub IsNumberIn : Scale → List ℕ → Type 0
IsNumberIn scale text = IsDecimal (code_of scale.mark) scale.decimals text

-- a text is read as the number of n units of the scale
abbrev pub ReadsAs : Scale → ℕ → List ℕ → Type 0
ReadsAs scale n text = IsNumberIn scale text × (number_in scale text ≡ n)

-- the text of a number of units: with all decimals of the scale, and no zeros before the digits of the whole part
abbrev pub number_text : Scale → ℕ → List ℕ
number_text scale n = decimal_text (code_of scale.mark) scale.decimals n
