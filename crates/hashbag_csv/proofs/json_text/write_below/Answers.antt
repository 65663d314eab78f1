use Rattle.std.proofs.Common.{◌∙◌, arith, subst, sym}
use Rattle.json.specs.Print.{IsNumber}
use Rattle.hashbag_csv.proofs.WrittenLemmas.{negative_is_number}
use Rattle.hashbag_csv.proofs.json_text.write_below.Goals as goal

-- a `-`, and digits
pub number-requires : goal.number-requires
number-requires c = subst IsNumber (sym (c.as_str.ensures.value ∙ c.in_ok-format.ensures.ok)) (negative_is_number c.args.n (omega arith))
