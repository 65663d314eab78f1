use Rattle.std.proofs.Common.{◌≡◌, [], ℕ, List, nat_eq, sym, subst}
use borrow.Author.Tests.{eqb-true}
use Rattle.std.specs.Cmp.{nat_eq_equiv}
use Rattle.std.specs.List.Sorted.{IsPermutation}
use Rattle.std.proofs.lemmas.List.Sorted.{IsPermutation-refl}
use Rattle.serde_json.specs.Data.{Data}
use Rattle.hashbag.specs.Occurrences.{IsOneInstanceEach, SameCounts}
use Rattle.hashbag.proofs.OccurrenceLemmas.{count_rearranged}
use Rattle.hashbag_run_lib.specs.Answers.{IsTreeOfNumbers}
use Rattle.hashbag_run_lib.proofs.answers.answers_to.Goals as goal

empty_means : (items : List ℕ) → items ≡ [] → IsPermutation [] items
empty_means items none = subst (λ (l : List ℕ). IsPermutation [] l) (sym none) (IsPermutation-refl [])

-- equal numbers are the same
one_each : (X : List ℕ) → IsOneInstanceEach nat_eq X
one_each X k d below m f lower same = eqb-true _ _ same

-- the tree of a bag that means a list and has a limit
tree_of : (X items : List ℕ) (most limit : ℕ) (d : Data) → ((Y : List ℕ) → IsOneInstanceEach nat_eq Y → SameCounts nat_eq Y items → IsTreeOfNumbers Y most d) → IsPermutation X items → most ≡ limit → IsTreeOfNumbers X limit d
tree_of X items most limit d tree means same =
    subst (λ (n : ℕ). IsTreeOfNumbers X n d) same (tree X (one_each X) (λ v. count_rearranged nat_eq_equiv v X items means))

pub returns-clause-answers : goal.returns-clause-answers
returns-clause-answers c =
    let ran = c.in_ok-joins.ensures in
    let empty_a = empty_means _ c.new-a.ensures.empty in
    let empty_b = empty_means _ c.new-b.ensures.empty in
    let left_a = ran.first [] empty_a in
    let left_b = ran.second [] empty_b in
    record {
      replies_a = rw (c.new-replies_a.ensures.items, c.new-a.ensures.limit) at left_a.replies;
      replies_b = rw (c.new-replies_b.ensures.items, c.new-b.ensures.limit) at left_b.replies;
      outer = rw (c.new-a.ensures.limit, c.new-b.ensures.limit) at (ran.joined.outer [] [] empty_a empty_b);
      difference = rw (c.new-a.ensures.limit, c.new-b.ensures.limit) at (ran.joined.difference [] [] empty_a empty_b);
      signed = rw (c.new-a.ensures.limit, c.new-b.ensures.limit) at (ran.joined.signed [] [] empty_a empty_b);
      not_in = rw (c.new-a.ensures.limit, c.new-b.ensures.limit) at (ran.joined.not_in [] [] empty_a empty_b);
      tree_a = tree_of _ _ _ _ _ c.in_ok-to_value.ensures.tree (rw c.new-a.ensures.limit at left_a.means) (rw c.new-a.ensures.limit at left_a.limit);
      tree_b = tree_of _ _ _ _ _ c.in_ok-to_value-2.ensures.tree (rw c.new-b.ensures.limit at left_b.means) (rw c.new-b.ensures.limit at left_b.limit);
    }
