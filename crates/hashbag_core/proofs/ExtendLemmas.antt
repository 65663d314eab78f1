-- Adding the items that come, one after another.
use Rattle.std.proofs.Common.{◌≡◌, ℕ, ◌+◌, ◌<◌, ◌≤◌, Bool, List, [], ◌∷◌, ◌++◌, length, sum_by, Result, Ok, Err, IfErr, IsOkAnd, IsErrAnd, refl, sym, ◌∙◌, subst, arith}
use Rattle.std.specs.Cmp.{IsEquivalence}
use Rattle.std.specs.List.{AllZip}
use Rattle.std.proofs.lemmas.List.Sums.{sum_by-cons}
use Rattle.hashbag_core.specs.declared.bag.BagError.{BagError}
use Rattle.hashbag_core.specs.declared.bag.BagError.TheVariants.{Memory, TooMany, BelowTotal}
use Rattle.hashbag_core.specs.Occurrences.{count, add}
use Rattle.hashbag_core.specs.Bag.{Bag}
use Rattle.hashbag_core.specs.Extends.{OkOnce, add_all, MayFailWith, MayFailWithClones}
use Rattle.hashbag_core.specs.Inserts.{Inserts}

-- an error that `?` hands on
pub handed_on : {A E : Type 0} (r : Result A E) (e : E) (Q P : E → Type 0) → ((x : E) → Q x → x ≡ e) → IsErrAnd r Q → P e → IfErr r P
handed_on (Ok a) e Q P same is p = tt
handed_on (Err x) e Q P same is p = subst P (sym (same x is)) p

-- the value of a result went in once, as its pair
pub ok_went : {T S E : Type 0} (eq : T → T → Bool) (item : Result T E) (before after : Bag T S) → IsOkAnd item (λ v. Inserts eq v 1 before after) → (p : T × ℕ) × OkOnce item p × Inserts eq p.0 p.1 before after
ok_went eq (Ok v) before after went = ((v, 1), refl, went)
ok_went eq (Err e) before after went = absurd went

-- ---- how many occurrences items bring

module _ {T A : Type 0} (Goes : A → T × ℕ → Type 0) (number : A → ℕ) (says : (x : A) (p : T × ℕ) → Goes x p → p.1 ≡ number x) where
  pub sum_went : (items : List A) (pairs : List (T × ℕ)) → AllZip Goes items pairs → sum_by (λ p. p.1) pairs ≡ sum_by number items
  sum_went [] [] h = refl
  sum_went [] (p ∷ pairs) h = absurd h
  sum_went (x ∷ items) [] h = absurd h
  sum_went (x ∷ items) (p ∷ pairs) h =
      let first = says x p h.0 in
      let later = sum_went items pairs h.1 in
      let sum = sum_by-cons (λ (p : T × ℕ). p.1) p pairs in
      let numbers = sum_by-cons number x items in
      omega arith

module _ {T A : Type 0} (Goes : A → T × ℕ → Type 0) (says : (x : A) (p : T × ℕ) → Goes x p → p.1 ≡ 1) where
  pub sum_went_once : (items : List A) (pairs : List (T × ℕ)) → AllZip Goes items pairs → sum_by (λ p. p.1) pairs ≡ length items
  sum_went_once items pairs h = sum_went Goes (λ x. 1) says items pairs h ∙ ones items
    where
      ones : (xs : List A) → sum_by (λ x. 1) xs ≡ length xs
      ones [] = refl
      ones (x ∷ xs) = let sum = sum_by-cons (λ (y : A). 1) x xs in let later = ones xs in omega arith

module _ {T : Type 0} {eq : T → T → Bool} (laws : IsEquivalence eq) where
  pub add_all_last : (X : List T) (pairs : List (T × ℕ)) (p : T × ℕ) → add_all eq X (pairs ++ p ∷ []) ≡ add eq p.0 p.1 (add_all eq X pairs)
  add_all_last X [] p = refl
  add_all_last X (q ∷ pairs) p = add_all_last (add eq q.0 q.1 X) pairs p

  -- what an insertion is that may fail with `Memory`
  pub may_fail_memory : (most : ℕ) (X : List T) (v : T) (n : ℕ) (e : BagError) → e ≡ Memory → MayFailWith eq most X v n e → (length X + n ≤ most) × (0 < n) × (count eq v X ≡ 0)
  may_fail_memory most X v n e is h = subst (λ (x : BagError). MayFailWith eq most X v n x) is h

  -- if inserting n of a value may fail with e, inserting n clones may
  pub may_fail_cloning : (most : ℕ) (X : List T) (v : T) (n : ℕ) (e : BagError) → MayFailWith eq most X v n e → MayFailWithClones most X n e
  may_fail_cloning most X v n TooMany over = over
  may_fail_cloning most X v n Memory asks = (asks.0, asks.1)
  may_fail_cloning most X v n BelowTotal never = never
