-- Calls of a closure with the entries of a map, one after another, and how the returned numbers change the map.
use Rattle.std.specs.Prelude.{◌≡◌, ℕ, min, nat_lt, if◌then◌else◌, List, [], ◌∷◌, ◌++◌}
use denote.Ref.{Bor}
use denote.Param.Members.{Mut}
use Rattle.std.specs.Fn.{Called, Takes}
use Rattle.std.specs.List.Sorted.{IsPermutation}

-- each value with the lesser of its count and the returned number. If that is 0, the value is gone
abbrev pub retained_entries : {T : Type 0} → List (T × ℕ) → List ℕ → List (T × ℕ)
retained_entries [] returned = []
retained_entries (e ∷ walk) [] = []
retained_entries (e ∷ walk) (a ∷ returned) = if nat_lt 0 (min a e.1) then (e.0, min a e.1) ∷ retained_entries walk returned else retained_entries walk returned

module _ {F T : Type 0} (g : Mut F (Bor T × (ℕ × Unit {0})) ℕ) where
  -- f may be called with a value and its count
  abbrev pub MayCall : F → T × ℕ → Type 0
  MayCall f e = (value : Bor T) → value.now ≡ e.0 → Takes g f (value, (e.1, tt))

  -- a call of f with a value and its count may return a, and turn the closure into f'
  pub record MayReturn (f : F) (e : T × ℕ) (a : ℕ) (f' : F) : Type 0 where
    pub value : Bor T
    pub shows : value.now ≡ e.0
    pub called : Called g f (value, (e.1, tt)) a f'

  -- calls with each entry in turn, from f on, may return these numbers, and turn the closure into f'. Each call gets the closure as the
  -- previous call left it
  abbrev pub ReturnsInTurn : F → List (T × ℕ) → List ℕ → F → Type 0
  ReturnsInTurn f [] [] f' = f ≡ f'
  ReturnsInTurn f [] (a ∷ returned) f' = ⊥
  ReturnsInTurn f (e ∷ walk) [] f' = ⊥
  ReturnsInTurn f (e ∷ walk) (a ∷ returned) f' = (next : F) × MayReturn f e a next × ReturnsInTurn next walk returned f'

  -- the closure may be called with each entry in turn, from f on, whatever it returned before
  pub record MayCallInTurn (f : F) (walk : List (T × ℕ)) : Type 0 where
    pub at : (before after : List (T × ℕ)) (e : T × ℕ) (returned : List ℕ) (f' : F) → walk ≡ before ++ e ∷ after → ReturnsInTurn f before returned f' → MayCall f' e

  -- f was called with each entry of a map once, in some order, and the map has what the returned numbers left
  pub record Retains (f : F) (es left : List (T × ℕ)) : Type 0 where
    pub walk : List (T × ℕ)
    pub order : IsPermutation es walk
    pub returned : List ℕ
    pub last : F
    pub calls : ReturnsInTurn f walk returned last
    pub retained : IsPermutation (retained_entries walk returned) left
