use Rattle.std.proofs.Common.{List, ℕ, [], ◌++◌, arith, refl, sym, ◌∙◌, subst}
use Rattle.hashbag_words_lib.specs.Counted.{Counted, HasCounted, IsFirstBad}
use Rattle.hashbag_words_lib.proofs.CountedLemmas.{told_same, Counted-rest, none_found}
use Rattle.hashbag_words_lib.proofs.FedLemmas.{ends_at, feeds_all, feeds_at, feeds_bad, feeds_more, feeds_none}
use Rattle.hashbag_words_lib.proofs.counter.TextCounter.add_lines.Goals as goal

pub lines-init : goal.lines-init
lines-init g c = (feeds_none (HasCounted g.K.TokenSink.has) c.args.self.now c.args.block.now, refl, refl)

pub lines-preserved : goal.lines-preserved
lines-preserved g c = (
  feeds_more c.lines.invariant.0 (ends_at c.lines.rest.now c.in-Some.is c.memchr.ensures) c.end_line.new.self c.in_ok-end_line.ensures.counted,
  c.in_ok-end_line.ensures.rule ∙ c.lines.invariant.1,
  c.in_ok-end_line.ensures.bad_lines ∙ c.lines.invariant.2,
)

pub returns-clause-counted : goal.returns-clause-counted
returns-clause-counted g c =
    let has = g.K.TokenSink.has in
    let self = c.lines.self in
    let rest = c.lines.rest.now in
    feeds_all c.lines.invariant.0 (λ before t. Counted has self.rule before self.sink c.extend_from_slice.new.self.items self.reading t)
    (λ before text h. subst (λ (l : List ℕ). Counted has self.rule before self.sink l self.reading (text ++ rest)) (sym c.in-Ok.ensures.items)
    (Counted-rest has self.rule before self.sink self.partial.items rest self.reading text (none_found c.memchr.result rest c.in_default.is c.memchr.ensures) h))

pub end_line-requires : goal.end_line-requires
end_line-requires g c = let found = ends_at c.lines.rest.now c.in-Some.is c.memchr.ensures in found.none

pub returns-in_err-end_line-clause-bad : goal.returns-in_err-end_line-clause-bad
returns-in_err-end_line-clause-bad g c =
    told_same c.from_residual.result c.in_err-end_line.field-0.0 c.from_residual.ensures.1
    (λ bad is. feeds_bad c.lines.invariant.0 (ends_at c.lines.rest.now c.in-Some.is c.memchr.ensures) (λ r t. IsFirstBad r t c.end_line.new.self.reading) c.lines.invariant.1 (c.in_err-end_line.ensures.bad bad is))

pub overflow_add-rest : goal.overflow_add-rest
overflow_add-rest g c = omega (arith, feeds_at c.lines.invariant.0 (ends_at c.lines.rest.now c.in-Some.is c.memchr.ensures) [])
