-- Batches of movements that are entered in turn, each into the balance that the batches before it left.
use Rattle.std.specs.Prelude.{◌≡◌, ℕ, ◌++◌, Bool, List, [], ◌∷◌}
use Rattle.std.specs.declared.cmp.Ordering.{Ordering}
use Rattle.std.specs.Global.{Vec}
use Rattle.hashbag_csv.specs.Quantities.{IsBalance}
use Rattle.hashbag_ledger_lib.specs.declared.movements.Movement.{Movement}
use Rattle.hashbag_ledger_lib.specs.declared.movements.Refusal.{Refusal}
use Rattle.hashbag_ledger_lib.specs.Ledger.{in_the_end, refused_of, Leaves}
use Rattle.hashbag_ledger_lib.specs.Settled.{listed}

-- the movements of files, in turn
abbrev pub all_of : {T : Type 0} → List (Vec (Movement T)) → List (Movement T)
all_of [] = []
all_of (f ∷ fs) = f.items ++ all_of fs

module _ {T : Type 0} (eq : T → T → Bool) (cmp : T → T → Ordering) where
  -- after the movements `before`, `batch` left the balance `left`, and had `refusals`. Entered as one batch, `before` and then `batch` leave the
  -- same balance, and the refusals are the refusals of `before` followed by `refusals`
  pub record Continues (start : T → ℕ) (before batch : List (Movement T)) (left : List (T × ℕ)) (refusals : List (Refusal T)) : Type 0 where
    pub balance : IsBalance eq cmp (in_the_end eq start (before ++ batch)) left
    pub leaves : Leaves eq start (before ++ batch) (listed eq left)
    pub refused : refused_of eq start before ++ refusals ≡ refused_of eq start (before ++ batch)
