-- Lists of pairs, sorted by the counts: their order, and the first of them.
use Rattle.std.specs.Prelude.{◌≡◌, ℕ, ◌<◌, ◌≤◌, Bool, false, List, [], ◌∷◌, ◌++◌, length, map, take}
use Rattle.std.specs.BinaryHeap.{heap_items}
use Rattle.std.specs.Borrow.{Bor}
use Rattle.std.specs.List.{AllByRecursion}
use Rattle.std.specs.List.Sorted.{IsPermutation, IsStrictlySortedBy}
use Rattle.std.specs.Ordering.{is_lt, ordering_then, nat_cmp}
use Rattle.std.specs.declared.cmp.Ordering.{Ordering}
use Rattle.std.specs.declared.cmp.Reverse.{Reverse}
use Rattle.std.specs.declared.collections.BinaryHeap.{BinaryHeap}
use Rattle.hashbag_core.specs.Bag.{Bag}
use Rattle.hashbag_core.specs.Walks.{IsSetWalkOf}

-- the order of the most common: the greater count comes first, and among equal counts the lesser value
abbrev pub rank : {T : Type 0} → (T → T → Ordering) → T × ℕ → T × ℕ → Ordering
rank cmp x y = ordering_then (nat_cmp y.1 x.1) (cmp x.0 y.0)

-- P are the first k of a set walk of the bag that is strictly sorted by `rank`, or all of it if it is shorter
abbrev pub IsMostCommon : {T S : Type 0} → (T → T → Bool) → (T → T → Ordering) → ℕ → Bag T S → List (T × ℕ) → Type 0
IsMostCommon {T} eq cmp k bag P = (W : List (T × ℕ)) × IsSetWalkOf eq bag W × IsStrictlySortedBy (rank cmp) W × (P ≡ take k W)

-- whether x comes before y in the order of `rank`
abbrev pub comes_first : {T : Type 0} → (T → T → Ordering) → T × ℕ → T × ℕ → Bool
comes_first cmp x y = is_lt (rank cmp x y)

-- H are k items of P, or all if P has fewer. No other item of P comes before an item of H
pub record IsFirstOf {X : Type 0} (lt : X → X → Bool) (k : ℕ) (P H : List X) : Type 0 where
  pub rest : List X
  pub parts : IsPermutation P (H ++ rest)
  pub at_most : length H ≤ k
  pub full : length H < k → rest ≡ []
  pub first : AllByRecursion (λ r. AllByRecursion (λ h. lt r h ≡ false) H) rest

-- if H are the first k of some pairs, H' are the first k of these pairs and x
abbrev pub KeepsFirst : {X : Type 0} → (X → X → Bool) → ℕ → List X → X → List X → Type 0
KeepsFirst {X} lt k H x H' = (P : List X) → IsFirstOf lt k P H → IsFirstOf lt k (P ++ x ∷ []) H'

-- H are the first k of a set walk of the bag, in this order
abbrev pub IsFirstOfBag : {T S : Type 0} → (T → T → Bool) → (T × ℕ → T × ℕ → Bool) → ℕ → Bag T S → List (T × ℕ) → Type 0
IsFirstOfBag {T} eq lt k bag H = (V : List (T × ℕ)) × IsSetWalkOf eq bag V × IsFirstOf lt k V H

-- the value and the count of a heap's item. The item is a reversed count and a lent value
abbrev pub counted_pair : {T : Type 0} → Reverse ℕ × Bor T → T × ℕ
counted_pair e = (e.1.now, e.0.0)

-- the order of such items: the most common first, and equally common values in their own order
abbrev pub counted_cmp : {T : Type 0} → (T → T → Ordering) → Reverse ℕ × Bor T → Reverse ℕ × Bor T → Ordering
counted_cmp cmp x y = rank cmp (counted_pair x) (counted_pair y)

-- the pairs of a heap
abbrev pub heap_pairs : {T A : Type 0} → BinaryHeap (Reverse ℕ × Bor T) A → List (T × ℕ)
heap_pairs heap = map counted_pair (heap_items heap)

-- `KeepsFirst` for the pairs of a heap, before and after, and the pair of one more item
abbrev pub KeepsFirstInHeap : {T A : Type 0} → (T × ℕ → T × ℕ → Bool) → ℕ → BinaryHeap (Reverse ℕ × Bor T) A → Reverse ℕ × Bor T → BinaryHeap (Reverse ℕ × Bor T) A → Type 0
KeepsFirstInHeap lt k old e new = KeepsFirst lt k (heap_pairs old) (counted_pair e) (heap_pairs new)
