-- A part, and what it is looked up by.
use Rattle.std.specs.Prelude.{◌≡◌, ◌==◌, ◌&&◌, ℕ, List, Bool, true, false, bytes_eq, refl}
use Rattle.std.proofs.Common.{arith, sym}
use Rattle.std.proofs.lemmas.Bool.Decides.{nat_tests}
use Rattle.std.proofs.lemmas.Slice.Eq.{bytes_eq-Decides}

both : (a b : Bool) → (a && b) ≡ true → (a ≡ true) × (b ≡ true)
both true true e = (refl, refl)
both true false e = absurd (cc)
both false b e = absurd (cc)

-- the name and the lot of a part are the name and the lot of a key
pub part_is : (name key : List ℕ) (lot n : ℕ) → (bytes_eq name key && (lot == n)) ≡ true → (name ≡ key) × (lot ≡ n)
part_is name key lot n e = let (one, other) = both (bytes_eq name key) (lot == n) e in ((bytes_eq-Decides name key).0 one, (let t = other in grind (arith, nat_tests)))

-- a key that names a part names exactly the parts that are equal to this part
pub part_one : (v w key : List ℕ) (m n lot : ℕ) → (bytes_eq v key && (m == lot)) ≡ true → (bytes_eq w key && (n == lot)) ≡ (bytes_eq w v && (n == m))
part_one v w key m n lot e = let (name, number) = part_is v key m lot e in λ i. bytes_eq w (sym name i) && (n == sym number i)
