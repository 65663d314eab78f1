-- A text that goes into a bag of `String`s is one more of those with its bytes.
use Rattle.std.proofs.Common.{◌≡◌, ℕ, ◌+◌, ◌<◌, List, length, take, get_or, String, string_bytes, arith}
use denote.Ref.{Bor}
use Rattle.std.specs.Str.{bytes_eq}
use Rattle.std.specs.String.{string_eq, string_eq_equiv}
use Rattle.hashbag.specs.Bag.{Bag}
use Rattle.hashbag.specs.Keys.{InsertsNamed}
use Rattle.hashbag.specs.Occurrences.{count}
use Rattle.hashbag.proofs.CallerLemmas.{count_inserted_key, count_by_take_next, text_names_one}
use Rattle.hashbag_callers.specs.Texts.{text_count}

module _ {Z S : Type 0} (v : String Z) (texts : List (Bor (List ℕ))) (k : ℕ) (d : Bor (List ℕ)) (before after : Bag (String Z) S) where
  pub next_counted : k < length texts → InsertsNamed string_eq (λ w. bytes_eq (string_bytes w) (get_or texts k d).now) 1 before after
      → count string_eq v before.items ≡ text_count (string_bytes v) (take k texts) → count string_eq v after.items ≡ text_count (string_bytes v) (take (k + 1) texts)
  next_counted below went so_far =
      let text = (get_or texts k d).now in
      let one = count_inserted_key string_eq_equiv before after v (λ w. bytes_eq (string_bytes w) text) 1 (text_names_one text) went in
      let next = count_by_take_next (λ (text : Bor (List ℕ)). bytes_eq (string_bytes v) text.now) texts k d below in
      omega (arith, one, next, so_far)
