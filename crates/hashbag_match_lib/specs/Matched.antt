-- Two lists, matched by the bytes of their articles.
use Rattle.std.specs.Prelude.{◌≡◌, ◌↔◌, ◌⊎◌, ℕ, List}
use Rattle.hashbag_csv.specs.Articles.{same_article}
use Rattle.hashbag_csv.specs.Quantities.{quantity}
use Rattle.hashbag_csv.specs.Readers.{Record}
use Rattle.hashbag_match_lib.specs.Asks.{Lines, delivered_in, ordered_in}
use Rattle.hashbag_match_lib.specs.declared.ask.Ask.{Ask}

-- both lists have the same quantity of each article
abbrev pub HaveSameQuantities : Lines → Lines → Type 0
HaveSameQuantities L M = (v : Record) → quantity same_article v L ≡ quantity same_article v M

-- the exit status of a comparison: 0 exactly if `Agrees` holds, else 1
abbrev pub IsStatusOf : Type 0 → ℕ → Type 0
IsStatusOf Agrees status = (status ≡ 0 ↔ Agrees) × (status ≡ 0 ⊎ status ≡ 1)

-- the status is 0 exactly if the texts of what was ordered and of what was delivered name the same quantity of each article; else it is 1
abbrev pub IsStatusOfTexts : Ask → List ℕ → List ℕ → ℕ → Type 0
IsStatusOfTexts ask ordered delivered status = IsStatusOf (HaveSameQuantities (ordered_in ask ordered) (delivered_in ask delivered)) status
