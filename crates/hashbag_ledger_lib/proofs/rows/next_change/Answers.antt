use Rattle.std.proofs.Common.{◌≡◌, [], Less, Equal, Greater, string_bytes, string_cmp, sym, subst}
use Rattle.std.proofs.lemmas.List.{nil_from_length}
use Rattle.hashbag_ledger_lib.specs.Changes.{IsBefore}
use Rattle.hashbag_ledger_lib.proofs.ChangeLemmas.{less_if_greater, same_if_equal, removed, put_new, put_other, unchanged}
use Rattle.hashbag_ledger_lib.proofs.rows.next_change.Goals as goal

pub returns-in_ok-clone-in-Some-None-clause-begins : goal.returns-in_ok-clone-in-Some-None-clause-begins
returns-in_ok-clone-in-Some-None-clause-begins c =
    let at = c.in-Some-None in
    let none : c.args.after.now ≡ [] = nil_from_length _ at.ensures'.cases in
    removed c.in_ok-clone-in-Some-None.field-0 at.old.now c.args.before.now c.args.after.now at.olds.now at.ensures.cases.0 c.in_ok-clone-in-Some-None.ensures.cases
    (subst (IsBefore (string_bytes at.old.now.0)) (sym none) tt)

pub returns-in_ok-clone-in-None-Some-clause-begins : goal.returns-in_ok-clone-in-None-Some-clause-begins
returns-in_ok-clone-in-None-Some-clause-begins c =
    let at = c.in-None-Some in
    let none : c.args.before.now ≡ [] = nil_from_length _ at.ensures.cases in
    put_new c.in_ok-clone-in-None-Some.field-0 at.new.now c.args.before.now c.args.after.now at.news.now at.ensures'.cases.0 c.in_ok-clone-in-None-Some.ensures.cases
    (subst (IsBefore (string_bytes at.new.now.0)) (sym none) tt)

pub returns-in_ok-clone-in-Less-clause-begins : goal.returns-in_ok-clone-in-Less-clause-begins
returns-in_ok-clone-in-Less-clause-begins c =
    let at = c.in-Some-Some in
    let up : string_cmp at.old.now.0 at.new.now.0 ≡ Less = cc in
    removed c.in_ok-clone-in-Less.field-0 at.old.now c.args.before.now c.args.after.now at.olds.now at.ensures.cases.0 c.in_ok-clone-in-Less.ensures.cases
    (subst (IsBefore (string_bytes at.old.now.0)) (sym at.ensures'.cases.0) up)

pub returns-in_ok-clone-in-Greater-clause-begins : goal.returns-in_ok-clone-in-Greater-clause-begins
returns-in_ok-clone-in-Greater-clause-begins c =
    let at = c.in-Some-Some in
    let down : string_cmp at.old.now.0 at.new.now.0 ≡ Greater = cc in
    put_new c.in_ok-clone-in-Greater.field-0 at.new.now c.args.before.now c.args.after.now at.news.now at.ensures'.cases.0 c.in_ok-clone-in-Greater.ensures.cases
    (subst (IsBefore (string_bytes at.new.now.0)) (sym at.ensures.cases.0) (less_if_greater (string_bytes at.old.now.0) (string_bytes at.new.now.0) down))

pub returns-in-Equal-clause-begins : goal.returns-in-Equal-clause-begins
returns-in-Equal-clause-begins c =
    let at = c.in-Some-Some in
    let tied : string_cmp at.old.now.0 at.new.now.0 ≡ Equal = cc in
    unchanged at.old.now at.new.now c.args.before.now c.args.after.now at.olds.now at.news.now at.ensures.cases.0 at.ensures'.cases.0 (same_if_equal (string_bytes at.old.now.0) (string_bytes at.new.now.0) tied) c.if-old-new.true

pub returns-in_ok-clone-in-Equal-2-clause-begins : goal.returns-in_ok-clone-in-Equal-2-clause-begins
returns-in_ok-clone-in-Equal-2-clause-begins c =
    let at = c.in-Some-Some in
    let tied : string_cmp at.old.now.0 at.new.now.0 ≡ Equal = cc in
    put_other at.old.now at.new.now c.args.before.now c.args.after.now at.olds.now at.news.now at.ensures.cases.0 at.ensures'.cases.0 (same_if_equal (string_bytes at.old.now.0) (string_bytes at.new.now.0) tied)
    c.in_ok-clone-in-Equal-2.field-0 c.in_ok-clone-in-Equal-2.ensures.cases c.if-old-new.false
