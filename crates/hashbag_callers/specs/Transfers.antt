-- How transfers, removals, joins and runs change counts.
use Rattle.std.specs.Prelude.{ℕ, ◌+◌, ◌-◌, min, Bool, List, [], ◌∷◌}
use Rattle.hashbag.specs.Bag.{Bag}
use Rattle.hashbag.specs.Held.{Recounts}
use Rattle.hashbag.specs.Occurrences.{count}

-- how often a value occurs in two bags together
abbrev pub count_together : {T S S2 : Type 0} → (T → T → Bool) → T → Bag T S → Bag T S2 → ℕ
count_together eq v a b = count eq v a.items + count eq v b.items

-- the lesser of the counts of a value in two bags
abbrev pub lesser_count : {T S S2 : Type 0} → (T → T → Bool) → T → Bag T S → Bag T S2 → ℕ
lesser_count eq v a b = min (count eq v a.items) (count eq v b.items)

-- in the slots the count of v is less by n, or 0 if it was below n
abbrev pub LowersCount : {T S : Type 0} → (T → T → Bool) → T → ℕ → Bag T S → Bag T S → Type 0
LowersCount eq v n old new = Recounts eq v (count eq v old.items - n) old.tables new.tables

-- a reply with n, and then a reply with n + 1
abbrev pub n_then_one_more : {R : Type 0} → (ℕ → R) → ℕ → List R
n_then_one_more reply n = reply n ∷ reply (n + 1) ∷ []
