-- Bags as JSON trees: which pairs a tree is read as, and which tree is written.
use Rattle.std.specs.Prelude.{◌≡◌, ◌↔◌, ℕ, ◌==◌, if◌then◌else◌, Bool, true, List, [], ◌∷◌, map, All, Some, Ok}
use Rattle.std.specs.List.{AllZip}
use Rattle.std.specs.List.Sorted.{IsStrictlySortedBy}
use Rattle.std.specs.Map.{keys_of}
use Rattle.std.specs.declared.cmp.Ordering.{Ordering}
use Rattle.serde_json.specs.Data.{Data, number, unsigned, array, object, member, no_members}
use Rattle.serde_json.specs.View.{items_of}
use Rattle.hashbag_core.specs.JsonFaults.{limit_name, pairs_name, opened, pair_of}
use Rattle.hashbag_core.specs.Equality.{same_counts}
use Rattle.hashbag_core.specs.JsonItems.{u64_of}
use Rattle.hashbag_core.specs.Extends.{add_all}
use Rattle.hashbag_core.specs.Bag.{Bag}
use Rattle.hashbag_core.specs.Inserts.{IsMadeOf}
use Rattle.hashbag_core.specs.Occurrences.{greatest_total, IsOneInstanceEach, SameCounts}
use Rattle.hashbag_core.specs.Walks.{IsSetWalk}

-- ---- what a tree is read as

module _ {T : Type 0} (reads : Data → T → Type 0) where
  -- d is an array of two: a tree that is read as the item p.0, and the count p.1
  pub record IsPair (d : Data) (p : T × ℕ) : Type 0 where
    pub tree : Data
    pub number : Data
    pub parts : pair_of d ≡ Some (tree, number)
    pub item : reads tree p.0
    pub count : u64_of number ≡ Some p.1

  -- d has a limit, and is read as these pairs, in this order
  pub record IsReading (d : Data) (pairs : List (T × ℕ)) : Type 0 where
    pub limit : ℕ
    pub trees : List Data
    pub inside : opened d ≡ Ok (limit, trees)
    pub each : AllZip IsPair trees pairs

module _ {T : Type 0} (eq : T → T → Bool) (reads : Data → T → Type 0) where
  -- if d can be read as some pairs, these add up to the counts of X
  abbrev pub ReadsBack : List T → Data → Type 0
  ReadsBack X d = (pairs : List (T × ℕ)) → IsReading reads d pairs → SameCounts eq (add_all eq [] pairs) X

module _ {T S : Type 0} (eq : T → T → Bool) (reads : Data → T → Type 0) where
  -- these trees are read as some pairs, and inserting these pairs in turn into an empty bag leads to `bag`
  abbrev pub IsMadeOfTrees : List Data → Bag T S → Type 0
  IsMadeOfTrees trees bag = (pairs : List (T × ℕ)) × AllZip (IsPair reads) trees pairs × IsMadeOf eq pairs bag

  -- the tree d is read as some pairs, and inserting these pairs in turn into an empty bag leads to `bag`
  abbrev pub IsMadeOfTree : Data → Bag T S → Type 0
  IsMadeOfTree d bag = (pairs : List (T × ℕ)) × IsReading reads d pairs × IsMadeOf eq pairs bag

-- ---- which tree is written

-- the array of an item's tree and its count
abbrev pub pair_tree : {T : Type 0} → (T → Data) → T × ℕ → Data
pair_tree tree_of e = array (items_of (tree_of e.0 ∷ number (unsigned e.1) ∷ []))

-- the tree of a bag with the limit `most` whose pairs are the array p: that array if `most` is the greatest limit, else an
-- object with the limit and the array
abbrev pub written : ℕ → Data → Data
written most p = if most == greatest_total then p else object (member limit_name (number (unsigned most)) (member pairs_name p no_members))

module _ {T : Type 0} (eq : T → T → Bool) (cmp : T → T → Ordering) (tree_of : T → Data) where
  -- d is the array of the pairs of a set walk of X, items in ascending order
  pub record IsTree (X : List T) (d : Data) : Type 0 where
    pub pairs : List (T × ℕ)
    pub walk : IsSetWalk eq X pairs
    pub rising : IsStrictlySortedBy cmp (keys_of pairs)
    pub is : d ≡ array (items_of (map (pair_tree tree_of) pairs))

  -- d is the tree of a bag that means X and has the limit `most`: the array of `IsTree` if that is the greatest limit, else the object of
  -- the limit and the array
  pub record IsBagTree (X : List T) (most : ℕ) (d : Data) : Type 0 where
    pub pairs : Data
    pub array : IsTree X pairs
    pub is : d ≡ written most pairs

  -- d is the tree of every bag that has the counts of X and the limit `most`
  abbrev pub IsTreeOfCounts : List T → ℕ → Data → Type 0
  IsTreeOfCounts X most d = (Y : List T) → IsOneInstanceEach eq Y → SameCounts eq Y X → IsBagTree Y most d

  -- d equals the tree e of a bag exactly if that bag has the counts of X and the limit `most`
  abbrev pub TellsApart : (T → Type 0) → List T → ℕ → Data → Type 0
  TellsApart is_item X most d = (Y : List T) (n : ℕ) (e : Data) → All is_item Y → IsBagTree Y n e → ((same_counts eq X Y ≡ true) × (most ≡ n)) ↔ (d ≡ e)
