-- The values of one bag that another lacks: however they are listed, they are as many.
use Rattle.std.proofs.Common.{◌≡◌, ℕ, suc, ◌≤◌, Bool, true, List, [], ◌∷◌, length, refl, ap, subst, arith}
use Rattle.std.specs.Cmp.{IsEquivalence}
use Rattle.std.specs.List.{IsDistinct, Contains}
use Rattle.std.specs.Map.{keys_of}
use Rattle.std.specs.Set.{is_member}
use Rattle.std.proofs.lemmas.List.{length-map}
use Rattle.std.proofs.lemmas.List.Folds.{Any-from_list_any, list_any-from_Any}
use Rattle.std.proofs.lemmas.Map.Made.{length-le_from_is_member}
use Rattle.hashbag_core.specs.Joins.{IsNotIn}
use Rattle.hashbag_core.specs.JoinsLeft.{lacking}
use Rattle.hashbag_core.proofs.ContainsLemmas.{Contains-map, Contains-map_back}

-- an empty list lacks all
pub lacking_all : {T : Type 0} (eq : T → T → Bool) (W : List (T × ℕ)) → length (lacking eq [] W) ≡ length W
lacking_all eq [] = refl
lacking_all eq (e ∷ W) = ap (λ (n : ℕ). suc n) (lacking_all eq W)

module _ {T : Type 0} {eq : T → T → Bool} (laws : IsEquivalence eq) where
  -- what equals an item of a list equals one of a list that has all of its items
  member_of_more : (xs ys : List T) → ((x : T) → Contains xs x → Contains ys x) → (q : T) → is_member eq xs q ≡ true → is_member eq ys q ≡ true
  member_of_more xs ys onto q there =
      let found = Any-from_list_any (eq q) xs there in
      let at = onto found.1 (found.0, found.2, found.3) in
      list_any-from_Any (eq q) ys (at.0, found.1, at.1, at.2, found.4)

  -- pairs of distinct values that are all in Z are no more than the items of Z
  few_keys : (M : List (T × ℕ)) (Z : List T) → IsDistinct eq (keys_of M) → ((e : T × ℕ) → Contains M e → Contains Z e.0) → length M ≤ length Z
  few_keys M Z once in_Z =
      let onto : (x : T) → Contains (keys_of M) x → Contains Z x = λ x c.
      let e = Contains-map_back (λ (e : T × ℕ). e.0) x M c in
      subst (λ (y : T). Contains Z y) e.2 (in_Z e.0 e.1) in
      let few = length-le_from_is_member laws (keys_of M) Z once (member_of_more (keys_of M) Z onto) in
      let long = length-map M (λ (e : T × ℕ). e.0) in
      omega (arith, few, long)

  pub no_longer : (X Y : List T) (M N : List (T × ℕ)) → IsNotIn eq X Y M → IsNotIn eq X Y N → length M ≤ length N
  no_longer X Y M N m n =
      let few = few_keys M (keys_of N) m.once (λ e c. Contains-map (λ (x : T × ℕ). x.0) e N ((n.exactly e.0 e.1).1 ((m.exactly e.0 e.1).0 c))) in
      let as_many = length-map N (λ (e : T × ℕ). e.0) in
      omega (arith, few, as_many)

  pub as_long : (X Y : List T) (M N : List (T × ℕ)) → IsNotIn eq X Y M → IsNotIn eq X Y N → length M ≡ length N
  as_long X Y M N m n =
      let few = no_longer X Y M N m n in
      let many = no_longer X Y N M n m in
      omega (arith, few, many)

  -- they are no more than the items
  pub no_more : (X Y : List T) (M : List (T × ℕ)) → IsNotIn eq X Y M → length M ≤ length X
  no_more X Y M m = few_keys M X m.once (λ e c. ((m.exactly e.0 e.1).0 c).0)
