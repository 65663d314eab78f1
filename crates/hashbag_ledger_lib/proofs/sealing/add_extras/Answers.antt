use Rattle.std.proofs.Common.{◌≡◌, ◌+◌, ◌∷◌, ◌++◌, [], ℕ, List, length, take, sym, ◌∙◌, ap, subst, arith}
use Rattle.std.proofs.lemmas.List.{take_more, length-take-le}
use Rattle.sha2.specs.Hashers.{Holds256}
use Rattle.hashbag_ledger_lib.specs.declared.extras.Extra.{Extra}
use Rattle.hashbag_ledger_lib.specs.Seals.{with_extra, with_extras}
use Rattle.hashbag_ledger_lib.proofs.SealLemmas.{extras_more}
use Rattle.hashbag_ledger_lib.proofs.sealing.add_extras.Goals as goal

-- one more date and note
pub loop-i-preserved : goal.loop-i-preserved
loop-i-preserved c =
    let at = c.loop-i in
    let all = c.args.extras.now in
    let x = c.index-extras-i.result in
    let so_far = take at.i all in
    let within = c.loop-i-test.true in
    let next : take (at.i + 1) all ≡ so_far ++ x ∷ [] = take_more all at.i x within ∙ ap (λ (y : Extra). so_far ++ y ∷ []) (sym c.index-extras-i.is) in
    let long : length so_far ≡ at.i = length-take-le at.i all (omega arith) in
    let number : 0 + length so_far ≡ at.i = omega (arith, long) in
    λ m held. subst (λ (l : List Extra). Holds256 c.add_extra.new.hasher (with_extras m 0 l)) (sym next)
    (subst (λ (t : List ℕ). Holds256 c.add_extra.new.hasher t) (sym (extras_more m 0 so_far x ∙ ap (λ (n : ℕ). with_extra (with_extras m 0 so_far) n x) number)) (c.add_extra.ensures (with_extras m 0 so_far) (at.invariant m held)))
