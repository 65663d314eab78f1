use Rattle.std.proofs.Common.{◌≡◌, ℕ, List, Bor, true, false, rules}
use Rattle.hashbag_ledger_lib.specs.Dated.{counts_at, moved, with_bytes}
use Rattle.hashbag_ledger_lib.proofs.DatedLemmas.{pushed_none, pushed_one}
use Rattle.hashbag_ledger_lib.proofs.dated.push_moved.Goals as goal

-- it doesn't count
pub returns-then-not-counts : goal.returns-then-not-counts
returns-then-not-counts c =
    let none : counts_at c.args.date.now c.args.dated.now ≡ false = search rules in
    pushed_none c.args.date.now c.args.dated.now c.args.part c.args.list.now.items none

-- it counts
pub returns : goal.returns
returns c =
    let one : counts_at c.args.date.now c.args.dated.now ≡ true = search rules in
    let x : Bor (List ℕ) × ℕ = (c.as_str-2.result, c.amount.result) in
    let same : with_bytes x ≡ moved c.args.part c.args.dated.now.0.movement = search rules in
    pushed_one c.args.date.now c.args.dated.now c.args.part c.args.list.now.items c.push.new.self.items x one c.in_ok-push.ensures.items same
