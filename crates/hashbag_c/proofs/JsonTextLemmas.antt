-- The tree of a bag isn't so deep that its text couldn't be read.
use Rattle.std.proofs.Common.{◌≡◌, ℕ, ◌≤◌, nat_eq, Bool, true, false, cond, List, [], ◌∷◌, map, Ordering, refl, sym, subst, arith}
use Rattle.std.specs.Str.{bytes_eq, is_utf8}
use Rattle.std.proofs.lemmas.Slice.Eq.{bytes_eq-Decides}
use borrow.Author.Tests.{eqb-true}
use Rattle.serde_json.specs.Data.{Data, number, string, unsigned, object, member, no_members, depth, items_depth}
use Rattle.serde_json.specs.Read.{max_depth}
use Rattle.serde_json.specs.View.{items_of}
use Rattle.hashbag_core.specs.JsonFaults.{limit_name, pairs_name}
use Rattle.hashbag_core.specs.JsonTrees.{pair_tree, IsBagTree, IsTreeOfCounts}
use Rattle.hashbag_core.specs.Occurrences.{IsOneInstanceEach}
use Rattle.hashbag_c.specs.ByteTrees.{numbers_tree, bytes_tree}
use Rattle.hashbag_c.specs.Json.{number_tree}

written_depth : (b : Bool) (most : ℕ) (p : Data) → depth p ≤ 3 → depth (cond b p (object (member limit_name (number (unsigned most)) (member pairs_name p no_members)))) ≤ 4
written_depth true most p h = omega arith
written_depth false most p h = omega arith

-- equal items are the same, so a list has one instance of each
one_each : {T : Type 0} (eq : T → T → Bool) → ((x y : T) → eq x y ≡ true → x ≡ y) → (X : List T) → IsOneInstanceEach eq X
one_each eq same X k d below m f lower is = same _ _ is

module _ {T : Type 0} (eq : T → T → Bool) (cmp : T → T → Ordering) (tree_of : T → Data) (shallow : (x : T) → depth (tree_of x) ≤ 1) where
  pairs_depth : (pairs : List (T × ℕ)) → items_depth (items_of (map (pair_tree tree_of) pairs)) ≤ 2
  pairs_depth [] = omega arith
  pairs_depth (p ∷ pairs) = let one = shallow p.0 in let more = pairs_depth pairs in omega arith

  bag_tree_depth : (X : List T) (most : ℕ) (d : Data) → IsBagTree eq cmp tree_of X most d → depth d ≤ 4
  bag_tree_depth X most d h =
      let inner = pairs_depth h.array.pairs in
      let array : depth h.pairs ≤ 3 = subst (λ (e : Data). depth e ≤ 3) (sym h.array.is) (omega arith) in
      subst (λ (e : Data). depth e ≤ 4) (sym h.is) (written_depth _ most h.pairs array)

  pub within_depth : ((x y : T) → eq x y ≡ true → x ≡ y) → (X : List T) (most : ℕ) (d : Data) → IsTreeOfCounts eq cmp tree_of X most d → depth d ≤ max_depth
  within_depth same X most d h = let few = bag_tree_depth X most d (h X (one_each eq same X) (λ v. refl)) in omega arith

list_depth : (bs : List ℕ) → items_depth (items_of (map (λ b. number (unsigned b)) bs)) ≤ 0
list_depth [] = omega arith
list_depth (b ∷ bs) = let more = list_depth bs in omega arith

either_depth : (u : Bool) (bs : List ℕ) → depth (cond u (string bs) (numbers_tree bs)) ≤ 1
either_depth true bs = omega arith
either_depth false bs = let more = list_depth bs in omega arith

-- the tree of a byte string
pub shallow : (bs : List ℕ) → depth (bytes_tree bs) ≤ 1
shallow bs = either_depth (is_utf8 bs) bs

-- equal byte strings are the same
pub bytes_same : (x y : List ℕ) → bytes_eq x y ≡ true → x ≡ y
bytes_same x y = (bytes_eq-Decides x y).0

-- the tree of a number, and equal numbers
pub number_shallow : (n : ℕ) → depth (number_tree n) ≤ 1
number_shallow n = omega arith

pub number_same : (m n : ℕ) → nat_eq m n ≡ true → m ≡ n
number_same m n is = eqb-true m n is
