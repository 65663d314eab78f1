use Rattle.std.proofs.Common.{◌≡◌, ℕ, List, length, ap, sym, arith}
use Rattle.hashbag_c.specs.Walked.{next_size}
use Rattle.hashbag_c.proofs.WalkedLemmas.{first_of, none_of}
use Rattle.hashbag_c.proofs.text_walks.front_len.Goals as goal

pub returns-in-Some : goal.returns-in-Some
returns-in-Some c =
    let L = c.args.pairs.now.items in let pair = c.in-Some.pair.now in
    let first = first_of L pair c.in-Some.ensures.item.3.0 c.in-Some.ensures.lookup in
    let size : length pair.0 ≡ next_size L = sym (ap (λ (l : List (List ℕ × ℕ)). next_size l) first) in
    omega (arith, ap (λ (l : List ℕ). length l) c.as_slice.ensures)

pub returns-in-None : goal.returns-in-None
returns-in-None c = sym (ap (λ (l : List (List ℕ × ℕ)). next_size l) (none_of c.args.pairs.now.items (let end = c.in-None.ensures.item.3 in omega arith)))
