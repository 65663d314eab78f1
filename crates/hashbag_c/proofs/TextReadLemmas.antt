-- Byte strings of a walk that are written one after another.
use Rattle.std.proofs.Common.{◌≡◌, ℕ, ◌+◌, ◌<◌, ◌≤◌, List, [], ◌∷◌, ◌++◌, length, take, drop, set, flat_map, sym, ◌∙◌, ap, arith}
use Rattle.std.proofs.lemmas.Grind.{flat_map-append}
use Rattle.std.proofs.lemmas.List.{append-nil, length-take-le, take-append-drop, take_more_set}
use Rattle.std.proofs.Math.Seq.{take-append-add, take-append_seam}
use Rattle.std.proofs.lemmas.List.Sums.{sum_by-cons, sum_by-append}
use Rattle.hashbag_c.specs.Reads.{ends_from, size_of}
use Rattle.hashbag_c.proofs.ReadLemmas.{taken_after}

-- one more string at the end of a walk
pub size_more : {C : Type 0} (walk : List (List ℕ × C)) (e : List ℕ × C) → size_of (walk ++ (e ∷ [])) ≡ size_of walk + length e.0
size_more {C} walk e =
    let parts = sum_by-append (λ (e : List ℕ × C). length e.0) walk (e ∷ []) in
    let one = sum_by-cons (λ (e : List ℕ × C). length e.0) e [] in
    omega arith

pub ends_more : {C : Type 0} (at : ℕ) (walk : List (List ℕ × C)) (e : List ℕ × C) → ends_from at (walk ++ (e ∷ [])) ≡ ends_from at walk ++ ((at + size_of walk + length e.0) ∷ [])
ends_more at [] e = let none : at + length e.0 ≡ at + 0 + length e.0 = omega arith in ap (λ (n : ℕ). n ∷ []) none
ends_more {C} at (f ∷ walk) e =
    let one = sum_by-cons (λ (e : List ℕ × C). length e.0) f walk in
    let same : at + length f.0 + size_of walk + length e.0 ≡ at + size_of (f ∷ walk) + length e.0 = omega arith in
    ap (λ (l : List ℕ). (at + length f.0) ∷ l) (ends_more (at + length f.0) walk e ∙ ap (λ (n : ℕ). ends_from (at + length f.0) walk ++ (n ∷ [])) same)

pub bytes_more : {C : Type 0} (walk : List (List ℕ × C)) (e : List ℕ × C) → flat_map (λ (e : List ℕ × C). e.0) (walk ++ (e ∷ [])) ≡ flat_map (λ (e : List ℕ × C). e.0) walk ++ e.0
bytes_more {C} walk e =
    flat_map-append (λ (e : List ℕ × C). e.0) walk (e ∷ []) ∙ ap (λ (l : List ℕ). flat_map (λ (e : List ℕ × C). e.0) walk ++ l) (append-nil e.0)

-- what is before the end of a string that was written at a place
pub put_takes : (from : ℕ) (before piece rest : List ℕ) → length before ≡ from → take (from + length piece) (before ++ (piece ++ rest)) ≡ before ++ piece
put_takes from before piece rest is =
    ap (λ (n : ℕ). take (n + length piece) (before ++ (piece ++ rest))) (sym is) ∙ take-append-add before (piece ++ rest) (length piece)
    ∙ ap (λ (l : List ℕ). before ++ l) (take-append_seam piece rest)

-- a beginning of a walk has no more bytes than the whole
pub size_within : {C : Type 0} (n : ℕ) (walk : List (List ℕ × C)) → size_of (take n walk) ≤ size_of walk
size_within {C} n walk =
    let parts = sum_by-append (λ (e : List ℕ × C). length e.0) (take n walk) (drop n walk) in
    let whole : size_of (take n walk ++ drop n walk) ≡ size_of walk = ap (λ (l : List (List ℕ × C)). size_of l) (take-append-drop n walk) in
    omega arith

-- the next string of the walk W is x, and is written at a place
module _ {C : Type 0} (W rest : List (List ℕ × C)) (i : ℕ) (x : List ℕ × C) (left : drop i W ≡ x ∷ rest) (from : ℕ) where
  pub size_after : from ≡ size_of (take i W) → from + length x.0 ≡ size_of (take (i + 1) W)
  size_after is =
      let more = size_more (take i W) x in
      let same : size_of (take (i + 1) W) ≡ size_of (take i W ++ (x ∷ [])) = ap (λ (l : List (List ℕ × C)). size_of l) (taken_after W rest i x left) in
      omega arith

  pub ends_after : (ends : List ℕ) → i < length ends → from ≡ size_of (take i W) → take i ends ≡ ends_from 0 (take i W) → take (i + 1) (set ends i (from + length x.0)) ≡ ends_from 0 (take (i + 1) W)
  ends_after ends below is same =
      let end : from + length x.0 ≡ 0 + size_of (take i W) + length x.0 = omega arith in
      take_more_set ends i (from + length x.0) below ∙ ap (λ (l : List ℕ). l ++ ((from + length x.0) ∷ [])) same
      ∙ ap (λ (n : ℕ). ends_from 0 (take i W) ++ (n ∷ [])) end ∙ sym (ends_more 0 (take i W) x)
      ∙ ap (λ (l : List (List ℕ × C)). ends_from 0 l) (sym (taken_after W rest i x left))

  pub bytes_after : (bytes : List ℕ) → from ≤ length bytes → take from bytes ≡ flat_map (λ (e : List ℕ × C). e.0) (take i W)
      → take (from + length x.0) (take from bytes ++ (x.0 ++ drop (from + length x.0) bytes)) ≡ flat_map (λ (e : List ℕ × C). e.0) (take (i + 1) W)
  bytes_after bytes within same =
      put_takes from (take from bytes) x.0 (drop (from + length x.0) bytes) (length-take-le from bytes within)
      ∙ ap (λ (l : List ℕ). l ++ x.0) same ∙ sym (bytes_more (take i W) x)
      ∙ ap (λ (l : List (List ℕ × C)). flat_map (λ (e : List ℕ × C). e.0) l) (sym (taken_after W rest i x left))
