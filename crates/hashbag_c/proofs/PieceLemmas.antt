-- Byte strings that are pieces of one list of bytes, inserted one after another.
use Rattle.std.proofs.Common.{◌≡◌, ℕ, ◌+◌, ◌-◌, ◌<◌, ◌≤◌, Bool, true, false, cond, eqb, List, [], ◌∷◌, ◌++◌, length, take, drop, get_or, sym, ◌∙◌, ap, arith}
use Rattle.std.specs.Cmp.Lexicographic.{nat_list_eq_equiv}
use Rattle.std.specs.List.{slice_range}
use Rattle.std.specs.Str.{bytes_eq}
use Rattle.std.proofs.lemmas.List.{length-drop, take_more, drop_more, drop_all, get_or-drop}
use Rattle.std.proofs.lemmas.Bool.{eq-eqb}
use Rattle.std.proofs.lemmas.Bool.Decides.{nat_tests}
use Rattle.std.proofs.lemmas.List.Sums.{sum_by-cons}
use Rattle.hashbag_core.specs.Bag.{Bag}
use Rattle.hashbag_core.specs.Keys.{InsertsNamed}
use Rattle.hashbag_core.specs.Occurrences.{count}
use Rattle.hashbag_core.proofs.CallerLemmas.{count_inserted_key}
use Rattle.hashbag_c.specs.Pieces.{pieces_from, split_from}

-- bytes name one byte string: the law `names_one` of the key `Name`, whose bytes are k
pub bytes_name_one : (k x w : List ℕ) → bytes_eq x k ≡ true → bytes_eq w k ≡ bytes_eq w x
bytes_name_one k x w does =
    nat_list_eq_equiv.symm w k ∙ nat_list_eq_equiv.congr k x w (nat_list_eq_equiv.symm k x ∙ does) ∙ nat_list_eq_equiv.symm x w

one_in_front : (v k : List ℕ) (ks : List (List ℕ)) → count bytes_eq v (k ∷ ks) ≡ cond (bytes_eq v k) 1 0 + count bytes_eq v ks
one_in_front v k ks = sum_by-cons (λ x. cond (bytes_eq v x) 1 0) k ks

module _ {S : Type 0} (before after : Bag (List ℕ) S) (v : List ℕ) where
  -- k was inserted, and was the first of a list: the counts of the bag and of what is left of the list together stay
  pub counts_with_rest : (k : List ℕ) (rest : List (List ℕ)) → InsertsNamed bytes_eq (λ x. bytes_eq x k) 1 before after
      → count bytes_eq v after.items + count bytes_eq v rest ≡ count bytes_eq v before.items + count bytes_eq v (k ∷ rest)
  counts_with_rest k rest h =
      let one = count_inserted_key nat_list_eq_equiv before after v (λ x. bytes_eq x k) 1 (bytes_name_one k) h in
      let more = one_in_front v k rest in
      omega arith

  -- the same of the piece that ends where the next of `ends` says
  pub counts_with_pieces : (bytes ends : List ℕ) (from i : ℕ) → i < length ends → InsertsNamed bytes_eq (λ x. bytes_eq x (slice_range bytes from (get_or ends i 0))) 1 before after
      → count bytes_eq v after.items + count bytes_eq v (pieces_from (get_or ends i 0) bytes (drop (i + 1) ends)) ≡ count bytes_eq v before.items + count bytes_eq v (pieces_from from bytes (drop i ends))
  counts_with_pieces bytes ends from i below h =
      counts_with_rest (slice_range bytes from (get_or ends i 0)) (pieces_from (get_or ends i 0) bytes (drop (i + 1) ends)) h
      ∙ ap (λ (l : List ℕ). count bytes_eq v before.items + count bytes_eq v (pieces_from from bytes l)) (sym (drop_more ends i 0 below))

-- one more byte of a piece
slice_more : (bytes : List ℕ) (from at : ℕ) → from ≤ at → at < length bytes → slice_range bytes from (at + 1) ≡ slice_range bytes from at ++ (get_or bytes at 0 ∷ [])
slice_more bytes from at begun below =
    let len = length-drop from bytes in
    let one : at + 1 - from ≡ at - from + 1 = omega arith in
    let place : from + (at - from) ≡ at = omega arith in
    ap (λ (n : ℕ). take n (drop from bytes)) one ∙ take_more (drop from bytes) (at - from) 0 (omega arith)
    ∙ ap (λ (b : ℕ). take (at - from) (drop from bytes) ++ (b ∷ [])) (get_or-drop from bytes (at - from) 0 ∙ ap (λ (n : ℕ). get_or bytes n 0) place)

-- a piece that hasn't begun
slice_none : (bytes : List ℕ) (at : ℕ) → slice_range bytes at at ≡ []
slice_none bytes at = let none : at - at ≡ 0 = omega arith in ap (λ (n : ℕ). take n (drop at bytes)) none

-- what is left of the bytes at a place, with what the piece has so far: the byte there is no separator, or it is
module _ (separator : ℕ) (bytes : List ℕ) (from at : ℕ) (begun : from ≤ at) (below : at < length bytes) where
  pub split_goes_on : eqb (get_or bytes at 0) separator ≡ false
      → split_from separator (slice_range bytes from at) (drop at bytes) ≡ split_from separator (slice_range bytes from (at + 1)) (drop (at + 1) bytes)
  split_goes_on other =
      let b = get_or bytes at 0 in let rest = drop (at + 1) bytes in let piece = slice_range bytes from at in
      ap (λ (l : List ℕ). split_from separator piece l) (drop_more bytes at 0 below)
      ∙ ap (λ (t : Bool). cond t (piece ∷ split_from separator [] rest) (split_from separator (piece ++ (b ∷ [])) rest)) other
      ∙ ap (λ (l : List ℕ). split_from separator l rest) (sym (slice_more bytes from at begun below))

  pub split_ends : eqb (get_or bytes at 0) separator ≡ true
      → split_from separator (slice_range bytes from at) (drop at bytes) ≡ slice_range bytes from at ∷ split_from separator (slice_range bytes (at + 1) (at + 1)) (drop (at + 1) bytes)
  split_ends same =
      let b = get_or bytes at 0 in let rest = drop (at + 1) bytes in let piece = slice_range bytes from at in
      ap (λ (l : List ℕ). split_from separator piece l) (drop_more bytes at 0 below)
      ∙ ap (λ (t : Bool). cond t (piece ∷ split_from separator [] rest) (split_from separator (piece ++ (b ∷ [])) rest)) same
      ∙ ap (λ (l : List ℕ). piece ∷ split_from separator l rest) (sym (slice_none bytes (at + 1)))

-- at the end of the bytes one piece is left
pub split_last : (separator : ℕ) (bytes : List ℕ) (from at : ℕ) → length bytes ≤ at → at ≤ length bytes → split_from separator (slice_range bytes from at) (drop at bytes) ≡ slice_range bytes from (length bytes) ∷ []
split_last separator bytes from at past within =
    let end : at ≡ length bytes = omega arith in
    ap (λ (l : List ℕ). split_from separator (slice_range bytes from at) l) (drop_all at bytes past)
    ∙ ap (λ (n : ℕ). slice_range bytes from n ∷ []) end

-- a test of two bytes, from what it decides
pub not_equal : (a b : ℕ) → (a ≡ b → ⊥) → eqb a b ≡ false
not_equal a b other = grind (arith, nat_tests)

pub is_equal : (a b : ℕ) → a ≡ b → eqb a b ≡ true
is_equal a b same = eq-eqb a b same
