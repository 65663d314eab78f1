use Rattle.std.proofs.Common.{map, subst, rules}
use Rattle.std.proofs.lemmas.List.Sorted.{All-permutation, IsNonDecreasingBy-from_sort_by_key, IsPermutation-map}
use Rattle.std.specs.List.Sorted.{IsPermutation}
use Rattle.hashbag_words_lib.specs.Prefix.{bare_row, number_of, HasWord}
use Rattle.hashbag_words_lib.proofs.sorting.sort_by_words.Goals as goal

pub returns-clause-permutation : goal.returns-clause-permutation
returns-clause-permutation c =
    let after = c.sort_unstable_by_key.new.self in
    subst (λ l. IsPermutation l (map bare_row after)) c.put_words.ensures.rows (IsPermutation-map bare_row _ after c.sort_unstable_by_key.ensures.permutation)

pub returns-clause-words : goal.returns-clause-words
returns-clause-words c = All-permutation (HasWord c.args.from) _ _ c.sort_unstable_by_key.ensures.permutation c.put_words.ensures.words

pub returns-clause-rising : goal.returns-clause-rising
returns-clause-rising c = IsNonDecreasingBy-from_sort_by_key number_of _ c.sort_unstable_by_key.ensures.sorted (λ a r q k. search rules)
