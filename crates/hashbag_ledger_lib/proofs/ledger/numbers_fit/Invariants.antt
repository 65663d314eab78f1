use Rattle.std.proofs.Common.{◌≡◌, ◌≤◌, ◌-◌, ◌^◌, sum_by, take}
use Rattle.hashbag_ledger_lib.proofs.ledger.numbers_fit.Given as goal

-- the sum of the numbers so far, which fits
abbrev pub invariant-loop-entry : goal.invariant-loop-entry
invariant-loop-entry g l = record {
  sum : l.total ≡ sum_by (λ e. e.1) (take l.entry-index l.list);
  fits : l.total ≤ 2 ^ 64 - 1;
}
