use Rattle.std.proofs.Common.{◌≡◌, ◌<◌, ◌≤◌, true, false, Option, Some, None, IfSome, IsSome, List, [], ◌∷◌, length, get_or, map, heap_items, heap_len, is_lt, refl, sym, ◌∙◌, ap, subst, arith, rules}
use Rattle.std.specs.List.{AllByRecursion}
use Rattle.std.specs.List.Sorted.{IsPermutation}
use Rattle.std.proofs.lemmas.Bool.{false≢true}
use Rattle.std.proofs.lemmas.List.{length-map}
use Rattle.std.proofs.lemmas.List.Sorted.{IsPermutation-map, length_permutation}
use Rattle.hashbag_ops.specs.Order.{counted_pair, comes_first}
use Rattle.hashbag_ops.proofs.MostCommonFirst.{every_map, first_push, first_skip, first_swap, after_last}
use Rattle.hashbag_ops.proofs.Ranked.{rank_weak}
use Rattle.hashbag_ops.proofs.order.offer.Goals.{Else-len-k, In-Some}
use Rattle.hashbag_ops.proofs.order.offer.Goals as goal

every_of_none : {X : Type 0} (P : X → Type 0) (xs : List X) → length xs ≡ 0 → AllByRecursion P xs
every_of_none P [] none = tt
every_of_none P (x ∷ xs) none = absurd (omega arith)

-- what `pop` took is what `peek` showed
popped : {X : Type 0} (items left : List X) (last : X) (r : Option X) → IsSome r → IfSome r (λ x. x ≡ get_or items 0 x) → IfSome r (λ x. IsPermutation items (x ∷ left)) → last ≡ get_or items 0 last → IsPermutation items (last ∷ left)
popped items left last None some top out shown = absurd (false≢true some)
popped [] left last (Some x) some top out shown = let long = length_permutation [] (x ∷ left) out in absurd (omega arith)
popped (y ∷ items) left last (Some x) some top out shown = subst (λ z. IsPermutation (y ∷ items) (z ∷ left)) (top ∙ sym shown) out

pub returns-then-len-k-clause-first : goal.returns-then-len-k-clause-first
returns-then-len-k-clause-first g c = λ P h.
    let items = heap_items c.args.heap.now in
    let room : length (map counted_pair items) < c.args.k = omega (arith, length-map items counted_pair, c.args.heap.now.data.ok.0, c.len.ensures, c.if-len-k.true) in
    first_push c.args.k P (map counted_pair items) (map counted_pair (heap_items c.push.new.self)) (counted_pair c.args.pair) h room (IsPermutation-map counted_pair (c.args.pair ∷ items) (heap_items c.push.new.self) c.in_ok-push.ensures.permutation)

is_full : (g : _) (c : Else-len-k g) → c.args.k ≤ length (map counted_pair (heap_items c.args.heap.now))
is_full g c = omega (arith, length-map (heap_items c.args.heap.now) counted_pair, c.args.heap.now.data.ok.0, c.len.ensures, c.if-len-k.false)

-- none of the heap's pairs comes after its last
none_after : (g : _) (c : In-Some g) → AllByRecursion (λ y. comes_first g.T.Ord.cmp (counted_pair c.in-Some.last.now) y ≡ false) (map counted_pair (heap_items c.args.heap.now))
none_after g c = every_map counted_pair (λ y. comes_first g.T.Ord.cmp (counted_pair c.in-Some.last.now) y ≡ false) (heap_items c.args.heap.now) (c.in-Some.ensures.greatest c.requires)

pub returns-in_default-clause-first : goal.returns-in_default-clause-first
returns-in_default-clause-first g c = λ P h.
    let items = heap_items c.args.heap.now in
    let nothing : 0 < heap_len c.args.heap.now → ⊥ = λ some. false≢true (c.in_default.ensures.variant.1 some) in
    let none : length (map counted_pair items) ≡ 0 = omega (arith, length-map items counted_pair, c.args.heap.now.data.ok.0, nothing) in
    let full = is_full g (goal.at.returns-in_default-clause-first g c).Else-len-k in
    first_skip c.args.k P (map counted_pair items) (counted_pair c.args.pair) h full (every_of_none _ (map counted_pair items) none)

pub returns-then-not-is_lt-clause-first : goal.returns-then-not-is_lt-clause-first
returns-then-not-is_lt-clause-first g c = λ P h.
    let items = heap_items c.args.heap.now in
    let lt = comes_first g.T.Ord.cmp in
    let last = c.in-Some.last.now in
    let x = counted_pair c.args.pair in
    let full = is_full g (goal.at.returns-then-not-is_lt-clause-first g c).Else-len-k in
    let bound = none_after g (goal.at.returns-then-not-is_lt-clause-first g c).In-Some in
    let answer : c.is_lt.result ≡ false = search rules in
    let late : lt x (counted_pair last) ≡ false = sym (c.is_lt.ensures ∙ ap is_lt c.cmp.ensures) ∙ answer in
    first_skip c.args.k P (map counted_pair items) x h full (after_last (rank_weak g.met.T.Ord.total (λ p. p)) x (counted_pair last) (map counted_pair items) late bound)

pub returns-clause-first : goal.returns-clause-first
returns-clause-first g c = λ P h.
    let items = heap_items c.args.heap.now in
    let left = heap_items c.pop.new.self in
    let lt = comes_first g.T.Ord.cmp in
    let last = c.in-Some.last.now in
    let x = counted_pair c.args.pair in
    let full = is_full g (goal.at.returns-clause-first g c).Else-len-k in
    let bound = none_after g (goal.at.returns-clause-first g c).In-Some in
    let answer : c.is_lt.result ≡ true = search rules in
    let early : lt x (counted_pair last) ≡ true = sym (c.is_lt.ensures ∙ ap is_lt c.cmp.ensures) ∙ answer in
    let out : IsPermutation items (last ∷ left) = popped items left last c.pop.result (c.pop.ensures.variant.1 (c.in-Some.ensures.variant.0 refl)) c.pop.ensures.top c.pop.ensures.permutation c.in-Some.ensures.lookup in
    first_swap (rank_weak g.met.T.Ord.total (λ p. p)) c.args.k P (map counted_pair items) (map counted_pair left) (map counted_pair (heap_items c.push-2.new.self)) x (counted_pair last) h full bound early
    (IsPermutation-map counted_pair items (last ∷ left) out) (IsPermutation-map counted_pair (c.args.pair ∷ left) (heap_items c.push-2.new.self) c.in_ok-push-2.ensures.permutation)
