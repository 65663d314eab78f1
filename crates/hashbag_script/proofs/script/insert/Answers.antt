use Rattle.std.proofs.Common.{◌≡◌, ◌+◌, ◌<◌, ◌≤◌, length, subst, arith}
use Rattle.std.proofs.lemmas.Bool.{false≢true}
use Rattle.hashbag_core.proofs.ExtendLemmas.{may_fail_memory}
use Rattle.hashbag_core.specs.declared.bag.BagError.{BagError}
use Rattle.hashbag_core.specs.Extends.{MayFailWith}
use Rattle.hashbag_core.specs.Occurrences.{count}
use Rattle.hashbag_script.proofs.RoomLemmas.{one_inserted}
use Rattle.hashbag_script.proofs.RowLemmas.{row_kept, insert_row-passes}
use Rattle.hashbag_script.proofs.StepLemmas.{sets_inserted, sets_unchanged}
use Rattle.hashbag_script.proofs.script.insert.Goals.{In-Err-Memory}
use Rattle.hashbag_script.proofs.script.insert.Goals as goal

pub returns-in-Ok-clause-tables : goal.returns-in-Ok-clause-tables
returns-in-Ok-clause-tables g c = sets_inserted g.met.T.Eq.laws c.args.value c.args.bag.now c.insert_many.new.self c.args.n c.in-Ok.ensures.inserted

pub returns-in-Err-TooMany-clause-tables : goal.returns-in-Err-TooMany-clause-tables
returns-in-Err-TooMany-clause-tables g c = sets_unchanged g.T.PartialEq.eq c.args.value c.args.bag.now c.insert_many.new.self c.in-Err-TooMany.ensures.err

pub returns-in-Err-BelowTotal-clause-tables : goal.returns-in-Err-BelowTotal-clause-tables
returns-in-Err-BelowTotal-clause-tables g c = sets_unchanged g.T.PartialEq.eq c.args.value c.args.bag.now c.insert_many.new.self c.in-Err-BelowTotal.ensures.err

pub returns-in-Err-TooMany-clause-left : goal.returns-in-Err-TooMany-clause-left
returns-in-Err-TooMany-clause-left g c =
    let passes : c.args.bag.now.most < length c.args.bag.now.items + c.args.n = subst (λ (e : BagError). MayFailWith g.T.PartialEq.eq c.args.bag.now.most c.args.bag.now.items c.args.value c.args.n e) c.in-Err-TooMany.field-0-is c.in-Err-TooMany.ensures.fails.why in
    row_kept g.met.T.Eq.laws _ _ c.args.bag.now c.insert_many.new.self c.len-len.ensures.bag (insert_row-passes g.met.T.Eq.laws c.args.bag.now.most c.args.value c.args.n c.args.bag.now.items passes) c.in-Err-TooMany.ensures.err

what_asks : (g : _) (c : In-Err-Memory g) → (length c.args.bag.now.items + c.args.n ≤ c.args.bag.now.most) × (0 < c.args.n) × (count g.T.PartialEq.eq c.args.value c.args.bag.now.items ≡ 0)
what_asks g c = may_fail_memory g.met.T.Eq.laws c.args.bag.now.most c.args.bag.now.items c.args.value c.args.n c.in-Err-Memory.field-0 c.in-Err-Memory.field-0-is c.in-Err-Memory.ensures.fails.why

pub returns-in-Err-Memory-clause-asked : goal.returns-in-Err-Memory-clause-asked
returns-in-Err-Memory-clause-asked g c =
    let asks = what_asks g (goal.at.returns-in-Err-Memory-clause-asked g c).In-Err-Memory in
    record { absent = asks.2; some = asks.1; fits = asks.0 }

pub returns-in-Err-Memory-clause-takes : goal.returns-in-Err-Memory-clause-takes
returns-in-Err-Memory-clause-takes g c = λ enough.
    let asks = what_asks g (goal.at.returns-in-Err-Memory-clause-takes g c).In-Err-Memory in
    let one = one_inserted g.met.T.Eq.laws c.args.bag.now.most c.args.value c.args.n c.args.bag.now.items asks.2 asks.1 asks.0 in
    absurd (false≢true (c.in-Err-Memory.ensures.takes asks.0 (omega (arith, one, enough))))
