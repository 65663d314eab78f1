-- What a count does to the balance that was read.
use Rattle.std.proofs.Common.{◌≡◌, ℕ, Bool, true, List, String, Global, ap, subst}
use Rattle.hashbag_ledger_db.specs.declared.job.Job.{Job}
use Rattle.hashbag_ledger_db.specs.Counted.{IsCountedAs, IsCountedIn}
use Rattle.hashbag_ledger_db.specs.Inputs.{HasTextOf, name_and_kind}
use Rattle.hashbag_ledger_db.specs.declared.movements.Input.{Input}
use Rattle.hashbag_ledger_lib.specs.declared.filing.Filed.{Filed}
use Rattle.hashbag_ledger_lib.specs.declared.style.Style.{Style}

-- what was counted is the text of its bytes
pub counted_in : (job : Job) (style : Style) (read kept : List (String Global × ℕ)) (name bytes : List ℕ) (input : Input) (filed : Filed)
    → name_and_kind input ≡ (name, true) → HasTextOf job.encoding bytes input → read ≡ kept → (input.is_start ≡ true → IsCountedAs job style read input.text.items filed)
    → IsCountedIn job style kept bytes filed
counted_in job style read kept name bytes input filed is text same all =
    let first : input.is_start ≡ true = ap (λ (n : List ℕ × Bool). n.1) is in
    record {
      text = input.text.items;
      decoded = text.0;
      all = subst (λ (b : List (String Global × ℕ)). IsCountedAs job style b input.text.items filed) same (all first);
    }
