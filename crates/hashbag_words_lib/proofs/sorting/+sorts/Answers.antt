use Rattle.std.proofs.Common.{◌+◌, ◌-◌, ◌*◌, ◌<◌, ltb, get_or, length, rules, sym, ◌∙◌, ap, arith}
use Rattle.std.proofs.lemmas.List.{get_or_default}
use Rattle.std.proofs.lemmas.List.Sorted.{All-permutation, IsPartitionedBy-ltb, IsPartitionPoint-from_clause, IsPermutation-map, IsPermutation-refl, IsPermutation-trans}
use Rattle.hashbag_words_lib.specs.Prefix.{bare_row, number_of, HasWord, Starts}
use Rattle.hashbag_words_lib.proofs.PrefixLemmas.{bound}
use Rattle.hashbag_words_lib.proofs.DepthLemmas.{cut_sorts, moved_starts, one_number, run_starts, short_sorted, sorted_by_row}
use Rattle.hashbag_words_lib.proofs.sorting.+sorts.Goals as goal

pub sort_from-returns : goal.sort_from-returns
sort_from-returns t c =
    let words = c.sort_by_words.ensures in
    let runs = c.sort_blocks.ensures in record {
      permutation = IsPermutation-trans _ _ _ words.permutation runs.permutation;
      sorted = λ number starts. runs.sorted number (words.words, words.rising) (moved_starts c.args.from number _ _ words.permutation starts);
    }

pub sort_blocks-returns-then-n-lt2 : goal.sort_blocks-returns-then-n-lt2
sort_blocks-returns-then-n-lt2 t c = record {
  permutation = IsPermutation-refl _;
  sorted = λ number rising starts. short_sorted c.args.rows.now (omega arith);
}

pub sort_blocks-returns-then-steps-eq0 : goal.sort_blocks-returns-then-steps-eq0
sort_blocks-returns-then-steps-eq0 t c =
    let moved = c.sort_unstable.ensures.permutation in record {
      permutation = IsPermutation-map bare_row _ _ moved;
      sorted = λ number rising starts.
          sorted_by_row c.args.from number _ (All-permutation (HasWord c.args.from) _ _ moved rising.0) (All-permutation (Starts c.args.from number) _ _ moved starts) c.sort_unstable.ensures.sorted;
    }

-- rows of one number agree in eight more bytes
pub sort_blocks-returns-then-first-rows : goal.sort_blocks-returns-then-first-rows
sort_blocks-returns-then-first-rows t c =
    let rows = c.args.rows.now in
    let d0 = c.index-rows-0.result in
    let d1 = c.index-rows-n.result in
    let first = (get_or rows 0 d0).0 in
    let some : 0 < length rows = omega arith in
    let last : length rows - 1 < length rows = omega arith in record {
      permutation = c.sort_from.ensures.permutation;
      sorted = λ number rising starts. c.sort_from.ensures.sorted (number * bound 8 + first)
          (run_starts c.args.from number first rows rising.0 starts
          (one_number first rows rising.1 (λ d. ap (λ p. p.0) (get_or_default rows 0 d d0 some)) (λ d. ap (λ p. p.0) (get_or_default rows (length rows - 1) d d1 last) ∙ sym c.if-first-rows.true)));
    }

pub sort_cut-returns : goal.sort_cut-returns
sort_cut-returns t c =
    let rows = c.args.rows.now in
    let least = c.args.least in
    let cut = c.partition_point-cut.result in
    let first = c.sort_first.ensures in
    let rest = c.sort_rest.ensures in
    cut_sorts c.args.from least cut rows c.sort_first.new.rows c.sort_rest.new.rows c.partition_point-cut.ensures.bound first.same rest.same first.sorts rest.sorts
    (λ up. IsPartitionPoint-from_clause (λ p. ltb p.0 least) rows cut c.partition_point-cut.ensures.partitioned (IsPartitionedBy-ltb number_of rows least up) (λ a r q k. search rules))
