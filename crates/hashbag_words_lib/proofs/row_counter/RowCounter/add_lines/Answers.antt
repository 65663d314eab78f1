use Rattle.std.proofs.Common.{List, ℕ, Option, None, [], ◌++◌, arith, refl, sym, ◌∙◌, subst}
use Rattle.hashbag_words_lib.specs.Added.{Added, HasAdded, IsFirstNoRow}
use Rattle.hashbag_words_lib.specs.declared.choice.Choice.{Choice}
use Rattle.hashbag_words_lib.specs.declared.writing.Format.{Format}
use Rattle.hashbag_words_lib.proofs.AddedLemmas.{Added-rest}
use Rattle.hashbag_words_lib.proofs.CountedLemmas.{told_same, none_found}
use Rattle.hashbag_words_lib.proofs.FedLemmas.{ends_at, feeds_all, feeds_at, feeds_bad, feeds_more, feeds_none}
use Rattle.hashbag_words_lib.proofs.row_counter.RowCounter.add_lines.Goals as goal

pub lines-init : goal.lines-init
lines-init g c = (feeds_none (λ (b : Option (Choice × Format) × List (List ℕ × ℕ)). HasAdded g.K.RowSink.has b.0 b.1) c.args.self.now c.args.block.now, refl, refl)

pub lines-preserved : goal.lines-preserved
lines-preserved g c = (
  feeds_more c.lines.invariant.0 (ends_at c.lines.rest.now c.in-Some.is c.memchr.ensures) c.end_line.new.self (λ b. c.in_ok-end_line.ensures.added b.0 b.1),
  c.in_ok-end_line.ensures.form ∙ c.lines.invariant.1,
  c.in_ok-end_line.ensures.bad_lines ∙ c.lines.invariant.2,
)

pub returns-clause-added : goal.returns-clause-added
returns-clause-added g c shown before =
    let has = g.K.RowSink.has in
    let self = c.lines.self in
    let rest = c.lines.rest.now in
    feeds_all c.lines.invariant.0 (λ (b : Option (Choice × Format) × List (List ℕ × ℕ)) t. Added has self.form b.0 b.1 self.sink c.extend_from_slice.new.self.items self.reading t)
    (λ b text h. subst (λ (l : List ℕ). Added has self.form b.0 b.1 self.sink l self.reading (text ++ rest)) (sym c.in-Ok.ensures.items)
    (Added-rest has self.form b.0 b.1 self.sink self.partial.items rest self.reading text (none_found c.memchr.result rest c.in_default.is c.memchr.ensures) h))
    (shown, before)

pub end_line-requires : goal.end_line-requires
end_line-requires g c = let found = ends_at c.lines.rest.now c.in-Some.is c.memchr.ensures in found.none

pub returns-in_err-end_line-clause-bad : goal.returns-in_err-end_line-clause-bad
returns-in_err-end_line-clause-bad g c =
    told_same c.from_residual.result c.in_err-end_line.field-0.0 c.from_residual.ensures.1
    (λ bad is shown before. feeds_bad c.lines.invariant.0 (ends_at c.lines.rest.now c.in-Some.is c.memchr.ensures) (λ r t. IsFirstNoRow r t c.end_line.new.self.reading) c.lines.invariant.1
    (λ b. c.in_err-end_line.ensures.bad bad is b.0 b.1) (shown, before))

pub overflow_add-rest : goal.overflow_add-rest
overflow_add-rest g c = omega (arith, feeds_at c.lines.invariant.0 (ends_at c.lines.rest.now c.in-Some.is c.memchr.ensures) (None, []))
