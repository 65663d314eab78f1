use Rattle.std.proofs.Common.{◌<◌, ◌≤◌, length, inl, inr, ap, arith, refl, subst, sym}
use Rattle.std.proofs.lemmas.Bool.{false≢true, cases_lt}
use Rattle.hashbag_table.specs.Tables.{room}
use Rattle.hashbag_table.proofs.EntryLemmas.{OnErr-from}
use Rattle.hashbag_script.specs.Script.{MayShrink}
use Rattle.hashbag_script.proofs.StepLemmas.{sets_fewer}
use Rattle.hashbag_script.proofs.script.apply.Goals as goal

pub returns-in-Insert-clause-turns : goal.returns-in-Insert-clause-turns
returns-in-Insert-clause-turns g c = rw c.in-Insert.is c.insert.ensures.tables

pub returns-in-InsertMany-clause-turns : goal.returns-in-InsertMany-clause-turns
returns-in-InsertMany-clause-turns g c = rw c.in-InsertMany.is c.insert-in-InsertMany.ensures.tables

pub returns-in-Replace-clause-turns : goal.returns-in-Replace-clause-turns
returns-in-Replace-clause-turns g c = rw c.in-Replace.is c.replace.ensures.tables

pub returns-in-EntryOr-clause-turns : goal.returns-in-EntryOr-clause-turns
returns-in-EntryOr-clause-turns g c = rw c.in-EntryOr.is c.entry_or.ensures.tables

pub returns-in-Remove-clause-turns : goal.returns-in-Remove-clause-turns
returns-in-Remove-clause-turns g c = rw c.in-Remove.is (sets_fewer g.met.T.Eq.laws c.in-Remove.value c.args.bag.now c.remove.new.self 1 c.remove.ensures.fewer)

pub returns-in-RemoveUpTo-clause-turns : goal.returns-in-RemoveUpTo-clause-turns
returns-in-RemoveUpTo-clause-turns g c = rw c.in-RemoveUpTo.is (sets_fewer g.met.T.Eq.laws c.in-RemoveUpTo.value c.args.bag.now c.remove_up_to.new.self c.in-RemoveUpTo.n c.remove_up_to.ensures.fewer)

pub returns-in-TryTake-clause-turns : goal.returns-in-TryTake-clause-turns
returns-in-TryTake-clause-turns g c = rw c.in-TryTake.is c.try_take.ensures.tables

pub returns-in-TakeAll-clause-turns : goal.returns-in-TakeAll-clause-turns
returns-in-TakeAll-clause-turns g c = rw c.in-TakeAll.is c.take_all.ensures.tables

pub returns-in-EntrySet-clause-turns : goal.returns-in-EntrySet-clause-turns
returns-in-EntrySet-clause-turns g c = rw c.in-EntrySet.is c.entry_set.ensures.tables

pub returns-in-Retain-clause-turns : goal.returns-in-Retain-clause-turns
returns-in-Retain-clause-turns g c = rw c.in-Retain.is c.retain.ensures.tables

pub returns-in-Clear-clause-turns : goal.returns-in-Clear-clause-turns
returns-in-Clear-clause-turns g c = rw c.in-Clear.is c.clear.ensures.cleared

pub returns-in-Count-clause-turns : goal.returns-in-Count-clause-turns
returns-in-Count-clause-turns g c = rw c.in-Count.is refl

pub returns-in-Limit-clause-turns : goal.returns-in-Limit-clause-turns
returns-in-Limit-clause-turns g c = rw c.in-Limit.is (ap (λ b. b.tables) c.set_limit.ensures.left)

pub returns-in_ok-reserve-in-Reserve-clause-turns : goal.returns-in_ok-reserve-in-Reserve-clause-turns
returns-in_ok-reserve-in-Reserve-clause-turns g c = rw c.in-Reserve.is c.in_ok-reserve-in-Reserve.ensures.reserves

pub returns-in_ok-shrink_to_fit-in-ShrinkToFit-clause-turns : goal.returns-in_ok-shrink_to_fit-in-ShrinkToFit-clause-turns
returns-in_ok-shrink_to_fit-in-ShrinkToFit-clause-turns g c = rw c.in-ShrinkToFit.is (record { none = c.in_ok-shrink_to_fit-in-ShrinkToFit.ensures.freed; shrinks = c.in_ok-shrink_to_fit-in-ShrinkToFit.ensures.shrinks })

pub returns-in_ok-shrink_to_fit-in-ShrinkToFit-clause-fewer : goal.returns-in_ok-shrink_to_fit-in-ShrinkToFit-clause-fewer
returns-in_ok-shrink_to_fit-in-ShrinkToFit-clause-fewer g c = λ about asks. elim c.in_ok-shrink_to_fit-in-ShrinkToFit.ensures.shrinks [
  | inl stays ↦ subst (λ t. length t.newer ≤ length c.args.bag.now.tables.newer) (sym stays.1) (omega arith)
  | inr packs ↦ let less = packs.0 in omega (arith, less)
]

-- ---- what asks for memory

pub returns-in_err-reserve-in-Reserve-clause-asked : goal.returns-in_err-reserve-in-Reserve-clause-asked
returns-in_err-reserve-in-Reserve-clause-asked g c =
    let short : room c.args.bag.now.tables < c.in-Reserve.n = elim (cases_lt (room c.args.bag.now.tables) c.in-Reserve.n) [
      | inl less ↦ less
      | inr enough ↦ absurd (false≢true (c.in_err-reserve-in-Reserve.ensures.enough enough).0)
    ] in
    rw c.in-Reserve.is (OnErr-from _ short)

pub returns-in_err-shrink_to_fit-in-ShrinkToFit-clause-asked : goal.returns-in_err-shrink_to_fit-in-ShrinkToFit-clause-asked
returns-in_err-shrink_to_fit-in-ShrinkToFit-clause-asked g c =
    let may : MayShrink g.T.PartialEq.eq c.args.bag.now.items c.args.bag.now.tables = record {
      some = λ none. false≢true (c.in_err-shrink_to_fit-in-ShrinkToFit.ensures.none none);
      smaller = λ m least. elim (cases_lt m (length c.args.bag.now.tables.newer)) [
        | inl less ↦ less
        | inr enough ↦ absurd (false≢true (c.in_err-shrink_to_fit-in-ShrinkToFit.ensures.enough m least enough).0)
      ];
    } in
    rw c.in-ShrinkToFit.is (OnErr-from _ may)
