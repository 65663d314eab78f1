use Rattle.std.proofs.lemmas.List.Sorted.{IsNonDecreasingBy-from_sort_by_key}
use Rattle.std.proofs.Common.{rules}
use Rattle.hashbag_run_lib.proofs.OutputLemmas.{four_in_turn}
use Rattle.hashbag_run_lib.proofs.output.print_joins.Goals as goal

pub returns : goal.returns
returns c = record {
  outer = c.sort_unstable_by_key.new.self.items;
  difference = c.sort_unstable_by_key-2.new.self.items;
  signed = c.sort_unstable_by_key-3.new.self.items;
  not_in = c.sort_unstable_by_key-4.new.self.items;
  outer_rises = record { same = c.sort_unstable_by_key.ensures.permutation; order = IsNonDecreasingBy-from_sort_by_key (λ j. j.0) _ c.sort_unstable_by_key.ensures.sorted (λ a r q k. search rules) };
  difference_rises = record { same = c.sort_unstable_by_key-2.ensures.permutation; order = IsNonDecreasingBy-from_sort_by_key (λ e. e.0) _ c.sort_unstable_by_key-2.ensures.sorted (λ a r q k. search rules) };
  signed_rises = record { same = c.sort_unstable_by_key-3.ensures.permutation; order = IsNonDecreasingBy-from_sort_by_key (λ e. e.0) _ c.sort_unstable_by_key-3.ensures.sorted (λ a r q k. search rules) };
  not_in_rises = record { same = c.sort_unstable_by_key-4.ensures.permutation; order = IsNonDecreasingBy-from_sort_by_key (λ e. e.0) _ c.sort_unstable_by_key-4.ensures.sorted (λ a r q k. search rules) };
  text = four_in_turn _ _ _ _ _ _ _ _ _ c.in_ok-print_outer.ensures c.in_ok-print_counts.ensures c.in_ok-print_signed.ensures c.in_ok-print_counts-2.ensures;
}
