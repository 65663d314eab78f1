use Rattle.std.proofs.Common.{◌≡◌, ℕ, List, String, Global, Result, Ok, Err, IfOk, length, drop, map, refl, rules, sym, ◌∙◌, ap, subst}
use Rattle.std.specs.Borrow.{Bor}
use Rattle.std.specs.Global.{Vec}
use Rattle.std.specs.List.Sorted.{IsPermutation, IsSorted}
use Rattle.std.proofs.lemmas.List.{take_at}
use Rattle.hashbag_words_lib.specs.Prefix.{bare_row, row_cmp}
use Rattle.hashbag_words_lib.proofs.sorting.sort_rows.Goals as goal

on : {X E : Type 0} (P : X → Type 0) (r : Result X E) (f : (x : X) → P x) → IfOk r P
on P (Ok x) f = f x
on P (Err e) f = tt

-- what is said of the list of the rows is said of the result
of_rows : {E : Type 0} (P : List (Bor (String Global) × ℕ) → Type 0) (rows : List (Bor (String Global) × ℕ)) (r : Result (Vec (Bor (String Global) × ℕ)) E)
    → IfOk r (λ made. made.items ≡ rows) → P rows → IfOk r (λ made. P made.items)
of_rows P rows (Ok made) is holds = subst P (sym is) holds
of_rows P rows (Err e) is holds = tt

pub returns-clause-permutation : goal.returns-clause-permutation
returns-clause-permutation c =
    let after = c.sort_from.new.rows in
    let long : length after ≡ c.in_ok-made.made.len = search rules in
    let kept = take_at after (drop (length after) c.in_ok-made.made.items) c.in_ok-made.made.len long in
    let given : c.as_mut_slice.result.now ≡ c.in_ok-made.made.items = search rules in
    of_rows (IsPermutation c.args.rows.items) _ c.without_numbers.result c.without_numbers.ensures
    (subst (λ l. IsPermutation c.args.rows.items (map bare_row l)) (sym kept) (subst (λ l. IsPermutation l (map bare_row after)) (ap (map bare_row) given ∙ c.in_ok-made.ensures) c.sort_from.ensures.permutation))

-- before the first byte all tokens agree
pub returns-clause-sorted : goal.returns-clause-sorted
returns-clause-sorted c =
    let after = c.sort_from.new.rows in
    of_rows (IsSorted row_cmp) _ c.without_numbers.result c.without_numbers.ensures
    (subst (λ l. IsSorted row_cmp (map bare_row l)) (sym (take_at after (drop (length after) c.in_ok-made.made.items) c.in_ok-made.made.len (search rules))) (c.sort_from.ensures.sorted 0 (λ k d h. refl)))
