-- How often a text occurs in a list of texts, and each `String` of a text.
use Rattle.std.specs.Prelude.{◌≡◌, ℕ, List, String, count_by, bytes_eq, string_bytes}
use Rattle.std.specs.Global.{Global}
use denote.Ref.{Bor}

-- how many of these texts have the bytes bs
abbrev pub text_count : List ℕ → List (Bor (List ℕ)) → ℕ
text_count bs texts = count_by (λ text. bytes_eq bs text.now) texts

-- P holds of each `String` with these bytes
abbrev pub ForText : List ℕ → (String Global → Type 0) → Type 0
ForText bytes P = (v : String Global) → string_bytes v ≡ bytes → P v
