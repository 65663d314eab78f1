use Rattle.std.proofs.Common.{◌≡◌, ◌≢◌, ℕ, refl, arith}
use Rattle.hashbag_core.specs.declared.json.JsonError.{JsonError}
use Rattle.hashbag_core.specs.declared.json.JsonError.TheVariants.{NotAnArray, NotAPair, BadCount, BadItem, TooMany, Memory, BadLimit}
use Rattle.hashbag_c.specs.Json.{fault_number}
use Rattle.hashbag_c.proofs.json.number_of.Goals as goal

number_is : (e : JsonError) (n : ℕ) → (e ≡ NotAnArray → n ≡ 3) → ((i : ℕ) → e ≡ NotAPair i → n ≡ 4) → ((i : ℕ) → e ≡ BadCount i → n ≡ 5) → ((i : ℕ) → e ≡ BadItem i → n ≡ 6)
    → ((i : ℕ) → e ≡ TooMany i → n ≡ 7) → (e ≡ Memory → n ≡ 8) → (e ≡ BadLimit → n ≡ 10) → n ≡ fault_number e
number_is NotAnArray n array pair count item many memory limit = array refl
number_is (NotAPair i) n array pair count item many memory limit = pair i refl
number_is (BadCount i) n array pair count item many memory limit = count i refl
number_is (BadItem i) n array pair count item many memory limit = item i refl
number_is (TooMany i) n array pair count item many memory limit = many i refl
number_is Memory n array pair count item many memory limit = memory refl
number_is BadLimit n array pair count item many memory limit = limit refl

some_number : (e : JsonError) (n : ℕ) → n ≡ fault_number e → n ≢ 0
some_number NotAnArray n is none = absurd (omega arith)
some_number (NotAPair i) n is none = absurd (omega arith)
some_number (BadCount i) n is none = absurd (omega arith)
some_number (BadItem i) n is none = absurd (omega arith)
some_number (TooMany i) n is none = absurd (omega arith)
some_number Memory n is none = absurd (omega arith)
some_number BadLimit n is none = absurd (omega arith)

pub returns : goal.returns
returns c =
    let said = c.number.ensures in
    let number = number_is c.args.error c.number.result said.number_of_not_an_array said.number_of_not_a_pair said.number_of_bad_count said.number_of_bad_item said.number_of_too_many said.number_of_memory said.number_of_bad_limit in
    record { number = number; failed = some_number c.args.error c.number.result number }
