-- What inputs mean, by computing.
use Rattle.std.specs.Prelude.{◌≡◌, [], ◌∷◌, ◌++◌, codes, Some, None, refl}
use Rattle.hashbag_run_lib.specs.Commands.{number_in, command_on, first_bad, commands_of, AppendsCommand}
use Rattle.hashbag_script.specs.declared.script.Step.TheVariants.{Insert}

leading_zeros : number_in (codes "007") ≡ Some 7
leading_zeros = refl

greatest : number_in (codes "18446744073709551615") ≡ Some 18446744073709551615
greatest = refl

past_the_greatest : number_in (codes "18446744073709551616") ≡ None
past_the_greatest = refl

too_many_digits : number_in (codes "000000000000000000001") ≡ None
too_many_digits = refl

no_digit : number_in [] ≡ None
no_digit = refl

signed : number_in (codes "+1") ≡ None
signed = refl

pairs : command_on (codes "b") (codes "b retain 1 2 3 4") ≡ Some (codes "retain", 1 ∷ 2 ∷ 3 ∷ 4 ∷ [])
pairs = refl

no_pairs : command_on (codes "b") (codes "b retain") ≡ Some (codes "retain", [])
no_pairs = refl

half_a_pair : command_on (codes "b") (codes "b retain 1") ≡ None
half_a_pair = refl

two_spaces : command_on (codes "a") (codes "a  insert 5") ≡ None
two_spaces = refl

space_at_the_end : command_on (codes "a") (codes "a clear ") ≡ None
space_at_the_end = refl

too_few_numbers : command_on (codes "a") (codes "a many 5") ≡ None
too_few_numbers = refl

carriage_return : command_on (codes "a") (codes "a clear" ++ 13 ∷ []) ≡ None
carriage_return = refl

another_bag : first_bad (codes "a insert 1" ++ 10 ∷ codes "c insert 2" ++ 10 ∷ codes "a insert") ≡ Some 2
another_bag = refl

empty_lines : first_bad (10 ∷ 10 ∷ codes "a insert 1" ++ 10 ∷ codes "a") ≡ Some 4
empty_lines = refl

empty_input : first_bad [] ≡ None
empty_input = refl

in_order : commands_of (codes "a") (codes "a insert 5" ++ 10 ∷ codes "b clear" ++ 10 ∷ 10 ∷ codes "a count 5") ≡ (codes "insert", 5 ∷ []) ∷ (codes "count", 5 ∷ []) ∷ []
in_order = refl

-- a line is a command on one bag only
appended : AppendsCommand (codes "a") (codes "a insert 5") [] (Insert 5 ∷ [])
appended = refl

not_appended : AppendsCommand (codes "b") (codes "a insert 5") [] []
not_appended = refl
