use Rattle.std.proofs.Common.{ℕ, List, ◌∙◌, subst, arith}
use Rattle.std.specs.Str.{bytes_eq}
use Rattle.std.proofs.lemmas.List.{at_drop_all}
use Rattle.hashbag_core.specs.Keys.{InsertsNamed}
use Rattle.hashbag_core.specs.Occurrences.{count}
use Rattle.hashbag_c.specs.Pieces.{pieces_from}
use Rattle.hashbag_c.proofs.PieceLemmas.{counts_with_pieces}
use Rattle.hashbag_c.proofs.text_batches.insert_each.Goals as goal

pub loop-end-preserved : goal.loop-end-preserved
loop-end-preserved c = record {
  done = omega arith;
  len = omega (arith, c.in_ok-insert_key.ensures.len);
  counts = λ v.
      let inserted = subst (λ (k : List ℕ). InsertsNamed bytes_eq (λ x. bytes_eq x k) 1 c.loop-end.bag c.insert_key.new.self) c.in_ok-piece.ensures.0 c.in_ok-insert_key.ensures.inserted in
      counts_with_pieces c.loop-end.bag c.insert_key.new.self v c.args.bytes.now c.args.ends.now c.loop-end.from c.loop-end.end-index c.loop-end-test.true inserted
      ∙ c.loop-end.invariant.counts v;
}

pub returns-clause-counts : goal.returns-clause-counts
returns-clause-counts c = record {
  counts = λ v.
      let all = c.loop-end.invariant.counts v in
      let none = at_drop_all (λ (l : List ℕ). count bytes_eq v (pieces_from c.loop-end.from c.args.bytes.now l)) c.args.ends.now c.loop-end.end-index (omega arith) in
      omega arith;
}
