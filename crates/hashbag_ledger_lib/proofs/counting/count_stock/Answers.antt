use Rattle.std.proofs.Common.{◌≡◌, ℕ, ◌-◌, ◌^◌, ◌∷◌, ◌++◌, [], true, is_ok, List, String, Global, string_eq, string_cmp, sym, ◌∙◌, ap, subst}
use Rattle.hashbag_csv.specs.Quantities.{quantity}
use Rattle.hashbag_ledger_lib.specs.declared.movements.Movement.{Movement}
use Rattle.hashbag_ledger_lib.specs.Batches.{all_of}
use Rattle.hashbag_ledger_lib.specs.Entries.{IsBooked}
use Rattle.hashbag_ledger_lib.specs.Ledger.{stock_of}
use Rattle.hashbag_ledger_lib.proofs.CountedLemmas.{booked_found, none_is_refused, numbers_are}
use Rattle.hashbag_ledger_lib.proofs.counting.count_stock.Goals as goal

-- the differences are entered, and no others
pub returns : goal.returns
returns g c =
    let kept = c.args.kept.now in
    let copy = c.in_ok-copy.copy.items in
    let counts = c.in_ok-counts.counts in
    let counted = counts.balance.items in
    let records = c.args.records.items in
    let there = stock_of string_eq c.in_ok-there.there.items in
    let here = stock_of string_eq c.in_ok-counted.counted.items in
    let found = c.in_ok-differences.differences.items in
    let filed = c.in_ok-filed.filed in
    let are : IsBooked string_eq string_cmp (2 ^ 63 - 1) [] records counted counts.entries.items =
    subst (λ (L : List (String Global × ℕ)). IsBooked string_eq string_cmp (2 ^ 63 - 1) L records counted counts.entries.items) c.new-none.ensures.items c.in_ok-counts.ensures.booked in
    let empty : (v : String Global) → stock_of string_eq c.in_ok-unnamed.unnamed.items v ≡ 0 =
    λ v. c.in_ok-unnamed.ensures.counts v ∙ ap (quantity string_eq v) c.new-nothing.ensures.items in
    let is = c.in_ok-differences.ensures empty in
    let pushed : is_ok c.push.result ≡ true = sym (rw c.in_ok-map_err.was at c.map_err.ensures.variant) in
    let files : c.push.new.self.items ≡ c.in_ok-differences.differences ∷ [] = rw pushed at c.push.ensures.items ∙ ap (λ l. l ++ c.in_ok-differences.differences ∷ []) c.new-files.ensures.items in
    let booked : IsBooked string_eq string_cmp (2 ^ 63 - 1) kept (found ++ []) filed.booked.balance.items filed.booked.entries.items =
    subst (λ (ms : List (Movement (String Global))). IsBooked string_eq string_cmp (2 ^ 63 - 1) kept ms filed.booked.balance.items filed.booked.entries.items) (ap all_of files) c.in_ok-filed.ensures.booked in
    record {
      booked = booked_found kept copy counted records counts.entries.items there here found c.in_ok-copy.ensures are c.in_ok-there.ensures.counts c.in_ok-counted.ensures.counts is filed.booked.balance.items filed.booked.entries.items booked;
      none_refused = none_is_refused kept copy counted records counts.entries.items there here found c.in_ok-copy.ensures are c.in_ok-there.ensures.counts c.in_ok-counted.ensures.counts is filed.booked.balance.items filed.booked.entries.items booked;
      numbers = numbers_are kept copy counted records counts.entries.items there here found c.in_ok-copy.ensures are c.in_ok-there.ensures.counts c.in_ok-counted.ensures.counts is filed.booked.balance.items filed.booked.entries.items booked;
      changed = c.in_ok-filed.ensures.changed;
    }
