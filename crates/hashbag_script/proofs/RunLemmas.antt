-- For callers: what short runs reply.
--
-- `laws` is `g.met.T.Eq.laws` under a bound `T: Eq`, and `nat_eq_equiv` of `Rattle.std.specs.Cmp` at unsigned numbers.
use Rattle.std.proofs.Common.{◌≡◌, ℕ, ◌+◌, ◌≤◌, nat_lt, Bool, true, false, cond, List, [], ◌∷◌, length, refl, ◌∙◌, ap, arith}
use borrow.Author.Tests.{ltb-true}
use Rattle.std.specs.Cmp.{IsEquivalence}
use Rattle.hashbag_core.specs.Occurrences.{count, add}
use Rattle.hashbag_core.proofs.Laws.{count_added}
use Rattle.hashbag_script.specs.declared.script.Step.TheVariants.{Insert, Count as CountStep}
use Rattle.hashbag_script.specs.declared.script.Reply.{Reply}
use Rattle.hashbag_script.specs.declared.script.Reply.TheVariants.{Count, TooMany}
use Rattle.hashbag_script.specs.Rows.{insert_row}
use Rattle.hashbag_script.specs.Script.{run}

not_above : (most n : ℕ) → n ≤ most → (b : Bool) → nat_lt most n ≡ b → b ≡ false
not_above most n fits true e = let above = ltb-true most n e in absurd (omega arith)
not_above most n fits false e = refl

module _ {T : Type 0} {eq : T → T → Bool} (laws : IsEquivalence eq) where
  -- an insertion that fits
  pub insert_row-fits : (most : ℕ) (v : T) (n : ℕ) (X : List T) → length X + n ≤ most → insert_row eq most v n X ≡ (add eq v n X, Count (count eq v X))
  insert_row-fits most v n X fits = ap (λ (b : Bool). cond b (X, TooMany) (add eq v n X, Count (count eq v X))) (not_above most (length X + n) fits _ refl)

  -- of `run` of two steps: the replies of an insertion that fits, and of a count of the same value
  pub run-insert_count : (most : ℕ) (v : T) (X : List T) → length X + 1 ≤ most → (run eq most X (Insert v ∷ CountStep v ∷ [])).1 ≡ Count (count eq v X) ∷ Count (count eq v X + 1) ∷ []
  unfolding run
  run-insert_count most v X fits =
      let more : count eq v (add eq v 1 X) ≡ count eq v X + 1 = count_added laws v v 1 X ∙ ap (λ (b : Bool). count eq v X + cond b 1 0) (laws.refl v) in
      ap (λ (r : List T × Reply T). r.1 ∷ Count (count eq v r.0) ∷ []) (insert_row-fits most v 1 X fits) ∙ ap (λ (n : ℕ). Count (count eq v X) ∷ Count n ∷ []) more
