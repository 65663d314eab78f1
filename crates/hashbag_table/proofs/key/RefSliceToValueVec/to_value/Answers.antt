use Rattle.std.proofs.Common.{◌≡◌, IsTrue, subst, sym}
use Rattle.std.proofs.lemmas.Result.{IfOk-weaker}
use Rattle.std.specs.Cmp.Lexicographic.{lists_equiv, pointwise}
use Rattle.hashbag_table.proofs.key.RefSliceToValueVec.to_value.Goals as goal

pub returns : goal.returns
returns g c =
    IfOk-weaker c.from_slice.result (λ v. v.items ≡ c.args.self.now) (λ v. IsTrue (pointwise g.T.PartialEq.eq v.items c.args.self.now))
    (λ v same. subst (λ xs. IsTrue (pointwise g.T.PartialEq.eq xs c.args.self.now)) (sym same) ((lists_equiv g.met.T.Eq.laws).refl c.args.self.now)) c.from_slice.ensures.items
