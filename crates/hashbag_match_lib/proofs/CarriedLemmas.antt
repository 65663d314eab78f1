-- What is carried along, where a map is empty.
use Rattle.std.proofs.Common.{◌≡◌, Bool, List, [], map, String, sym, ◌∙◌, ap}
use Rattle.std.specs.Prelude.{option_map, unwrap_or}
use Rattle.std.specs.Global.{Global, Vec}
use Rattle.std.specs.HashMap.{HashMap, IsEmpty}
use Rattle.std.specs.Map.{lookup}
use Rattle.std.specs.String.{string_bytes}
use Rattle.hashbag_csv.specs.FirstLines.{Carried, HasFirsts, first_of}
use Rattle.hashbag_csv.specs.Readers.{Record}

-- an empty map has what is carried along with no lines
pub none_yet : {A S : Type 0} (eq : A → A → Bool) (fields : A → Record) (m : HashMap A (Vec (String Global)) S) → IsEmpty m → HasFirsts eq fields [] m
none_yet {A} eq fields m empty v = ap (λ (es : List (A × Vec (String Global))). option_map (λ (t : Vec (String Global)). map string_bytes t.items) (lookup (eq v) es)) empty

-- nothing is carried along of lines that left a map empty
pub none_along : {A S : Type 0} (eq : A → A → Bool) (fields : A → Record) (K : List Carried) (m : HashMap A (Vec (String Global)) S) (v : A) → IsEmpty m → HasFirsts eq fields K m → [] ≡ first_of (fields v) K
none_along {A} eq fields K m v empty firsts =
    ap (λ (es : List (A × Vec (String Global))). unwrap_or (option_map (λ (t : Vec (String Global)). map string_bytes t.items) (lookup (eq v) es)) []) (sym empty) ∙ ap (λ o. unwrap_or o []) (firsts v)
