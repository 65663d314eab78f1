use Rattle.hashbag_csv.proofs.DecimalLemmas.{none_alone}
use Rattle.hashbag_csv.proofs.decimals.units_of_digits.Goals as goal

-- a number that doesn't fit has no units that fit
pub returns-in_default : goal.returns-in_default
returns-in_default c = none_alone c.args.decimals c.args.digits.now c.in_default.ensures
