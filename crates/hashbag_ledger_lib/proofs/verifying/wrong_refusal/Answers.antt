use Rattle.std.proofs.Common.{◌≢◌, map, slice_get, refl, sym, ◌∙◌, ap, List, arith}
use Rattle.std.proofs.lemmas.List.{length-map}
use Rattle.hashbag_ledger_lib.specs.declared.verifying.KeptRefusal.{KeptRefusal}
use Rattle.hashbag_ledger_lib.specs.Rows.{kept_of, wrong_movement}
use Rattle.hashbag_ledger_lib.proofs.ListLemmas.{lent_is, lent_as, same_if_same_below}
use Rattle.hashbag_ledger_lib.proofs.verifying.wrong_refusal.Goals as goal

-- these two differ
pub returns-then-not-is_same_refusal : goal.returns-then-not-is_same_refusal
returns-then-not-is_same_refusal c =
    let at = c.refusals.i in
    let stored = lent_is c.args.kept.now at c.get-stored.result c.get-stored.ensures.lookup in
    let made = lent_as kept_of c.args.counted.now at c.get-made.result c.get-made.ensures.lookup in
    let differ : slice_get c.args.kept.now at ≢ slice_get (map kept_of c.args.counted.now) at = λ same. let yes = c.is_same_refusal.ensures.1 (stored ∙ same ∙ sym made) in let no = c.if-not-is_same_refusal.true in cc in
    record {
      agrees = (λ none. absurd (cc), λ same. absurd (differ (ap (λ (l : List KeptRefusal). slice_get l at) same)));
      first = record {
        place = at;
        before = c.refusals.invariant;
        differ = differ;
        is = c.first_number.ensures ∙ (λ i. wrong_movement (stored i) (made i));
      };
    }

-- all refusals are the same
pub returns : goal.returns
returns c =
    let counted = length-map c.args.counted.now kept_of in
    record {
      agrees = (
        λ _. same_if_same_below c.args.kept.now (map kept_of c.args.counted.now) c.refusals.i (omega arith) (omega arith) c.refusals.invariant,
        λ _. refl,
      );
      first = tt;
    }
