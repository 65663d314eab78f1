-- Sixteen tags at once: from a bit for each to the first that passes a test.
use Rattle.std.proofs.Common.{◌≡◌, ℕ, ◌+◌, ◌≤◌, Bool, not, List, length, get_or, cond, eqb, map, ap, ◌∙◌, arith}
use Rattle.std.specs.List.{prefix_len}
use Rattle.std.specs.Int.{w64, trailing_zeros}
use Rattle.std.specs.Simd.Lanes.{chunk, mask_l}
use Rattle.std.specs.Slice.Scan.{IsFirstPlace}
use Rattle.std.proofs.lemmas.Simd.{length-chunk, first_set_mask_l, run_in_chunk_le, run_in_chunk_fails, run_in_chunk_stops}

pub first_in : (p : ℕ → Bool) (ts : List ℕ) (from r bits : ℕ) → from + 16 ≤ length ts → bits ≡ mask_l (map p (chunk from 16 ts)) → r ≡ cond (eqb bits 0) 16 (trailing_zeros w64 bits) → IsFirstPlace (λ k. p (get_or ts k 0)) from (from + 16) (from + r)
first_in p ts from r bits room is first =
    let long = length-chunk from 16 ts room in
    let counted : r ≡ prefix_len (λ x. not (p x)) (chunk from 16 ts) =
    first ∙ ap (λ m. cond (eqb m 0) 16 (trailing_zeros w64 m)) is ∙ first_set_mask_l p (chunk from 16 ts) 16 long (omega arith) in
    let le = run_in_chunk_le p ts from 16 r 0 room counted in
    record {
      low = omega arith;
      high = omega arith;
      before = run_in_chunk_fails p ts from 16 r 0 room counted;
      hit = λ lt. run_in_chunk_stops p ts from 16 r 0 room counted (omega arith);
    }
