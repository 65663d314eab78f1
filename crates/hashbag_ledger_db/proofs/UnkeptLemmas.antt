-- Files whose movements came to a ledger, and one more.
use Rattle.std.proofs.Common.{◌≡◌, ℕ, ◌+◌, ◌<◌, Bor, List, [], ◌∷◌, ◌++◌, length, take, get_or, String, Global, refl, sym, ◌∙◌, ap, subst, append_assoc, arith}
use Rattle.std.proofs.lemmas.List.{append-nil, length-take-le, take_more}
use Rattle.std.specs.String.{string_eq}
use Rattle.hashbag_ledger_db.specs.declared.settings.Settings.{Settings}
use Rattle.hashbag_ledger_db.specs.Unkept.{AreMovementsFrom, AreMovementsIn, EntersAll, EntersFileOf, EntersFiles}
use Rattle.hashbag_ledger_lib.specs.Settled.{IsLedgerOf}
use Rattle.hashbag_ledger_lib.specs.declared.ledger.Ledger.{Ledger}
use Rattle.hashbag_ledger_lib.specs.declared.movements.Movement.{Movement}

-- ---- movements that come to a ledger

both_come : {S H : Type 0} (old then new : Ledger (String Global) S H) (ms more : List (Movement (String Global))) → EntersAll ms old then → EntersAll more then new → EntersAll (ms ++ more) old new
both_come old then new ms more first second L before is =
    subst (λ (l : List (Movement (String Global))). IsLedgerOf string_eq L l new.refusals.items new.stock) (append_assoc before ms more) (second L (before ++ ms) (first L before is))

-- ---- files

module _ (gives : List ℕ → List ℕ → Type 0) (settings : Settings) where
  one_named : (n : ℕ) (files : List (Bor (List ℕ))) (file : Bor (List ℕ)) (ms more : List (Movement (String Global)))
      → AreMovementsFrom gives settings n files ms → AreMovementsIn gives settings (n + length files) file.now more → AreMovementsFrom gives settings n (files ++ file ∷ []) (ms ++ more)
  one_named n [] file ms more none one = (
    more,
    [],
    subst (λ (k : ℕ). AreMovementsIn gives settings k file.now more) (omega arith) one,
    refl,
    ap (λ (l : List (Movement (String Global))). l ++ more) none ∙ sym (append-nil more),
  )
  one_named n (f ∷ files) file ms more (first, later, in_first, from, is) one = (
    first,
    later ++ more,
    in_first,
    one_named (n + 1) files file later more from (subst (λ (k : ℕ). AreMovementsIn gives settings k file.now more) (omega arith) one),
    ap (λ (l : List (Movement (String Global))). l ++ more) is ∙ append_assoc first later more,
  )

  -- the movements of one file more came to the ledger
  pub one_entered : {S H : Type 0} (old then new : Ledger (String Global) S H) (files : List (Bor (List ℕ))) (i : ℕ) (d : Bor (List ℕ)) → i < length files
      → EntersFiles gives settings (take i files) old then → EntersFileOf gives settings i (get_or files i d).now then new → EntersFiles gives settings (take (i + 1) files) old new
  one_entered old then new files i d within (ms, are, came) (more, in_file, come) =
      let long : length (take i files) ≡ i = length-take-le i files (omega (arith, within)) in (
        ms ++ more,
        subst (λ (l : List (Bor (List ℕ))). AreMovementsFrom gives settings 0 l (ms ++ more)) (sym (take_more files i d within))
            (one_named 0 (take i files) (get_or files i d) ms more are
            (subst (λ (k : ℕ). AreMovementsIn gives settings k (get_or files i d).now more) (omega (arith, long)) in_file)),
        both_come old then new ms more came come,
      )
