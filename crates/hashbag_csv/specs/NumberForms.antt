-- Fields that are numbers.
use Rattle.std.specs.Prelude.{◌≡◌, ℕ, ◌⊎◌, Bool, true, false, List, [], IsTrue, Option, ⊤}
use Rattle.hashbag_csv.specs.Decimals.{IsDecimal}
use Rattle.hashbag_csv.specs.Faults.{IsFaultOfDigits}
use Rattle.hashbag_csv.specs.Groups.{fits_groups, ungrouped_if}
use Rattle.hashbag_csv.specs.Lines.{number_by, number_in}
use Rattle.hashbag_csv.specs.Marks.{code_of}
use Rattle.hashbag_csv.specs.declared.fault.Fault.{Fault}
use Rattle.hashbag_csv.specs.declared.fault.Fault.TheVariants.{BadGroups}
use Rattle.hashbag_csv.specs.declared.fault.SheetError.{SheetError}
use Rattle.hashbag_csv.specs.declared.fault.SheetError.TheVariants.{Line, Memory}
use Rattle.hashbag_csv.specs.declared.groups.GroupMark.{GroupMark}
use Rattle.hashbag_csv.specs.declared.number_form.NumberForm.{NumberForm}
use Rattle.hashbag_csv.specs.declared.scale.Scale.{Scale}

-- a field is empty, and an empty field is 0
abbrev pub IsBlankZero : NumberForm → List ℕ → Type 0
IsBlankZero form field = IsTrue form.blank_is_zero × (field ≡ [])

-- a field is a number, whose whole part may be in groups
abbrev pub IsGroupedNumber : Scale → Option GroupMark → List ℕ → Type 0
IsGroupedNumber scale group field = let mark = code_of scale.mark in (fits_groups mark group field ≡ true) × IsDecimal mark scale.decimals (ungrouped_if mark group field)

-- a field is a number in this form
abbrev pub IsNumberField : Scale → NumberForm → List ℕ → Type 0
IsNumberField scale form field = IsBlankZero form field ⊎ IsGroupedNumber scale form.group field

-- a field is a number of n units in this form
abbrev pub ReadsField : Scale → NumberForm → List ℕ → ℕ → Type 0
ReadsField scale form field n = IsNumberField scale form field × (n ≡ number_by scale form field)

-- whether a fault is that digits aren't in groups of three
abbrev pub is_group_fault : Fault → Bool
is_group_fault (BadGroups field) = true
is_group_fault _ = false

-- the fault of a field that isn't read: a group fault if the whole part isn't in groups, else the fault of the field without its group marks
abbrev pub IsGroupedFault : Scale → Option GroupMark → List ℕ → Fault → Type 0
IsGroupedFault scale group field fault =
    let mark = code_of scale.mark in
    ((fits_groups mark group field ≡ false) × (is_group_fault fault ≡ true))
    ⊎ ((fits_groups mark group field ≡ true) × IsFaultOfDigits mark scale.decimals scale.most (ungrouped_if mark group field) fault)

-- the error of a field that isn't read, in this line; or `Memory`
abbrev pub IsGroupedError : Scale → Option GroupMark → ℕ → List ℕ → SheetError → Type 0
IsGroupedError scale group line field (Line at fault) = (at ≡ line) × IsGroupedFault scale group field fault
IsGroupedError scale group line field Memory = ⊤

-- the error of a field that isn't read in this form, in this line; if an empty field is 0, it has no error
abbrev pub IsErrorOfNumberField : Scale → NumberForm → ℕ → List ℕ → SheetError → Type 0
IsErrorOfNumberField scale form line field e = ¬ (IsBlankZero form field) × IsGroupedError scale form.group line field e

-- the number of a field without its marks between groups, in units of the scale
abbrev pub grouped_number_in : Scale → Option GroupMark → List ℕ → ℕ
grouped_number_in scale group field = number_in scale (ungrouped_if (code_of scale.mark) group field)

-- a field is a number, whose whole part may be in groups, and has the value n in units of the scale
abbrev pub ReadsGrouped : Scale → Option GroupMark → List ℕ → ℕ → Type 0
ReadsGrouped scale group field n = IsGroupedNumber scale group field × (n ≡ grouped_number_in scale group field)
