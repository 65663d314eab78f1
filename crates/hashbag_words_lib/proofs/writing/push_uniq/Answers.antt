use Rattle.std.proofs.Common.{◌≡◌, ◌++◌, OnOk, ◌∷◌, [], subst}
use Rattle.std.specs.Fmt.{styled_decimal}
use Rattle.hashbag_words_lib.proofs.writing.push_uniq.Goals as goal

-- the options of the hole are those of seven columns
pub returns : goal.returns
returns c = subst (λ spec. OnOk c.writeln.result (c.writeln.new.self.items ≡ c.args.text.now.items ++ (styled_decimal spec c.args.count ++ 32 ∷ (c.args.token.now ++ 10 ∷ [])))) c.laid_out.ensures c.writeln.ensures.bytes
