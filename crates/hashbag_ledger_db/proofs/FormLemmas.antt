-- What the inputs of a call do to a new stock, and to one that is kept.
use Rattle.std.proofs.Common.{◌≡◌, ℕ, List, [], String, Global, refl, sym, ◌∙◌, ap, subst}
use Rattle.hashbag_csv.specs.declared.counts.Reading.{Reading}
use Rattle.hashbag_ledger_db.specs.Readings.{IsReadingOf, asked_style, names_by, plain_names}
use Rattle.hashbag_ledger_db.specs.declared.job.Job.{Job}
use Rattle.hashbag_ledger_db.specs.Filed.{IsFiledOf, IsFiledAs, IsFiledAnew, style_in}
use Rattle.hashbag_ledger_db.specs.declared.movements.Input.{Input}
use Rattle.hashbag_ledger_lib.specs.declared.filing.Filed.{Filed}
use Rattle.hashbag_ledger_lib.specs.declared.reading.Columns.{Columns}
use Rattle.hashbag_ledger_lib.specs.declared.style.Style.{Style}
use Rattle.hashbag_ledger_db.specs.declared.stock.tables.Contents.{Contents}
use Rattle.hashbag_ledger_db.specs.declared.stock.tables.Contents.TheVariants.{Empty, Stock}

pub filed_as : (job : Job) (s t : Style) (given names : Columns (List ℕ)) (kept : Columns (List ℕ)) (reading : Reading) (inputs : List Input) (balance : List (String Global × ℕ)) (filed : Filed)
    → s ≡ t → given ≡ names_by job names → names ≡ kept → IsReadingOf job s reading → IsFiledOf job reading given inputs balance filed → IsFiledAs job t kept inputs balance filed
filed_as job s t given names kept reading inputs balance filed same by are is all = record {
  reading = reading;
  is = subst (λ (k : Style). IsReadingOf job k reading) same is;
  all = subst (λ (n : Columns (List ℕ)). IsFiledOf job reading n inputs balance filed) (by ∙ ap (names_by job) are) all;
}

pub filed_on_kept : (job : Job) (contents : Contents) (s style : Style) (given names kept : Columns (List ℕ)) (reading : Reading) (inputs : List Input) (was balance : List (String Global × ℕ)) (filed : Filed)
    → contents ≡ Stock s → contents ≡ Stock style → was ≡ balance → given ≡ names_by job names → names ≡ kept → IsReadingOf job s reading → IsFiledOf job reading given inputs was filed
    → IsFiledAs job style kept inputs balance filed
filed_on_kept job contents s style given names kept reading inputs was balance filed was_contents is same by are read all =
    let styles : s ≡ style = cc in
    filed_as job s style given names kept reading inputs balance filed styles by are read
    (subst (λ (b : List (String Global × ℕ)). IsFiledOf job reading given inputs b filed) same all)

pub filed_by_contents : (job : Job) (contents : Contents) (inputs : List Input) (names : Columns (List ℕ)) (balance : List (String Global × ℕ)) (filed : Filed)
    → (contents ≡ Empty → balance ≡ []) → (contents ≡ Empty → names ≡ plain_names) → (contents ≡ Empty → IsFiledAnew job inputs filed)
    → ((style : Style) → contents ≡ Stock style → IsFiledAs job style names inputs balance filed)
    → IsFiledAs job (style_in contents job) names inputs balance filed
filed_by_contents job Empty inputs names balance filed none plain anew kept =
    subst (λ (n : Columns (List ℕ)). IsFiledAs job (asked_style job) n inputs balance filed) (sym (plain refl))
    (subst (λ (b : List (String Global × ℕ)). IsFiledAs job (asked_style job) plain_names inputs b filed) (sym (none refl)) (anew refl))
filed_by_contents job (Stock style) inputs names balance filed none plain anew kept = kept style refl
