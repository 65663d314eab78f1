use Rattle.std.proofs.Common.{refl, sym, ◌∙◌, arith}
use Rattle.hashbag_table.proofs.KeyLemmas.{named_positive}
use Rattle.hashbag_table.proofs.SpotLemmas.{count_present, count_absent}
use Rattle.hashbag_core.proofs.OccurrenceLemmas.{set_occurrences, set_none_occurrences}
use Rattle.hashbag_core.proofs.HeldLemmas.{recounts_some, recounts_none}
use Rattle.hashbag_core.proofs.bag.recount.set_or_remove.Goals as goal

pub returns-in-Ok-clause-set : goal.returns-in-Ok-clause-set
returns-in-Ok-clause-set g c = set_occurrences g.met.T.Eq.laws c.args.value.now c.args.n _ _ c.requires.counted (let is = c.in-Ok.ensures.before in omega (arith, is.0, is.1)) c.in-Ok.ensures.set.means

pub returns-in-Ok-clause-slot : goal.returns-in-Ok-clause-slot
returns-in-Ok-clause-slot g c = recounts_some (g.T.PartialEq.eq c.args.value.now) c.args.n _ _ c.if-n-gt0.true c.in-Ok.ensures.slot

pub returns-in-Some-clause-before : goal.returns-in-Some-clause-before
returns-in-Some-clause-before g c =
    let eq = g.T.PartialEq.eq in let laws = g.met.T.Eq.laws in let v = c.args.value.now in let es = c.args.table.now.entries in
    let found = sym c.in-Some.ensures.taken in let none = c.if-n-gt0.false in (
      sym (count_present eq v es (c.in-Some.former, c.in-Some.before) found),
      named_positive eq laws (eq v) (λ x w yes. laws.congr v x w yes ∙ laws.symm x w) es (c.in-Some.former, c.in-Some.before) c.requires.counted found,
      omega arith,
    )

pub returns-in-Some-clause-set : goal.returns-in-Some-clause-set
returns-in-Some-clause-set g c =
    let laws = g.met.T.Eq.laws in let v = c.args.value.now in
    let is = returns-in-Some-clause-before g c in let some = is.1 in let same = is.0 in let none = c.if-n-gt0.false in
    set_none_occurrences laws v c.args.n _ _ c.requires.counted (omega arith) (omega arith) (c.in-Some.ensures.left v (laws.refl v)).means

pub returns-in-Some-clause-hasher : goal.returns-in-Some-clause-hasher
returns-in-Some-clause-hasher g c = (c.in-Some.ensures.left c.args.value.now (g.met.T.Eq.laws.refl c.args.value.now)).hasher

pub returns-in-Some-clause-counted : goal.returns-in-Some-clause-counted
returns-in-Some-clause-counted g c = (c.in-Some.ensures.left c.args.value.now (g.met.T.Eq.laws.refl c.args.value.now)).counted

pub returns-in-Some-clause-slot : goal.returns-in-Some-clause-slot
returns-in-Some-clause-slot g c =
    let none = c.if-n-gt0.false in recounts_none (g.T.PartialEq.eq c.args.value.now) c.args.n _ _ (omega arith) (c.in-Some.ensures.slot refl)

pub returns-in-None-clause-count : goal.returns-in-None-clause-count
returns-in-None-clause-count g c =
    (sym (count_absent g.T.PartialEq.eq c.args.value.now c.args.table.now.entries (sym c.in-None.ensures.taken)), λ some. absurd (omega arith))
