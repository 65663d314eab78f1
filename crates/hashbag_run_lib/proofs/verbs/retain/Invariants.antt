use Rattle.std.proofs.Common.{◌≡◌, ◌*◌, [], ◌∷◌, take}
use Rattle.std.specs.Prelude.{flat_map}
use Rattle.hashbag_run_lib.proofs.verbs.retain.Given as goal

abbrev pub invariant-loop-i : goal.invariant-loop-i
invariant-loop-i l = flat_map (λ p. p.0 ∷ p.1 ∷ []) l.pairs.items ≡ take (2 * l.i) l.numbers
