use Rattle.std.proofs.Common.{◌+◌, ℕ, List, [], length, get_or, drop, ◌∙◌, ap, sym, arith}
use Rattle.std.specs.List.{slice_range}
use Rattle.std.specs.Str.{bytes_eq}
use Rattle.hashbag_core.specs.Occurrences.{count}
use Rattle.hashbag_c.specs.Pieces.{split_from}
use Rattle.hashbag_c.proofs.PieceLemmas.{counts_with_rest, not_equal, is_equal, split_goes_on, split_ends, split_last}
use Rattle.hashbag_c.proofs.text_batches.insert_pieces.Goals as goal

pub loop-at-preserved-then-byte-separator : goal.loop-at-preserved-then-byte-separator
loop-at-preserved-then-byte-separator c = record {
  begun = omega arith;
  few = omega arith;
  len = c.loop-at.invariant.len;
  counts = λ v.
      let bytes = c.args.bytes.now in let at = c.loop-at.at in
      let same = split_goes_on c.args.separator bytes c.loop-at.from at c.loop-at.invariant.begun c.loop-at-test.true (not_equal (get_or bytes at 0) c.args.separator c.if-byte-separator.true) in
      ap (λ (l : List (List ℕ)). count bytes_eq v c.loop-at.bag.items + count bytes_eq v l) (sym same) ∙ c.loop-at.invariant.counts v;
}

pub loop-at-preserved : goal.loop-at-preserved
loop-at-preserved c = record {
  begun = omega arith;
  few = omega arith;
  len = omega (arith, c.in_ok-insert_key.ensures.len);
  counts = λ v.
      let bytes = c.args.bytes.now in let at = c.loop-at.at in
      let same = split_ends c.args.separator bytes c.loop-at.from at c.loop-at.invariant.begun c.loop-at-test.true (is_equal (get_or bytes at 0) c.args.separator c.if-byte-separator.false) in
      counts_with_rest c.loop-at.bag c.insert_key.new.self v (slice_range bytes c.loop-at.from at) (split_from c.args.separator (slice_range bytes (at + 1) (at + 1)) (drop (at + 1) bytes)) c.in_ok-insert_key.ensures.inserted
      ∙ ap (λ (l : List (List ℕ)). count bytes_eq v c.loop-at.bag.items + count bytes_eq v l) (sym same) ∙ c.loop-at.invariant.counts v;
}

pub returns-clause-counts : goal.returns-clause-counts
returns-clause-counts c = record {
  counts = λ v.
      let bytes = c.args.bytes.now in let at = c.loop-at.at in
      let last = split_last c.args.separator bytes c.loop-at.from at (omega arith) (omega arith) in
      let one = counts_with_rest c.loop-at.bag c.insert_key-2.new.self v (slice_range bytes c.loop-at.from (length bytes)) [] c.in_ok-insert_key-2.ensures.inserted in
      let whole = ap (λ (l : List (List ℕ)). count bytes_eq v c.loop-at.bag.items + count bytes_eq v l) (sym last) ∙ c.loop-at.invariant.counts v in
      omega arith;
}
