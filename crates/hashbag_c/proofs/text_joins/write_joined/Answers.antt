use Rattle.std.proofs.Common.{◌≡◌, ◌+◌, ℕ, List, ◌∷◌, length, take, drop, ◌∙◌, ap, sym, arith}
use Rattle.std.proofs.lemmas.List.{drop-map}
use Rattle.hashbag_c.specs.Reads.{with_firsts}
use Rattle.hashbag_c.proofs.ReadLemmas.{is_within, left_after, written_after, none_left}
use Rattle.hashbag_c.proofs.TextReadLemmas.{size_after, ends_after, bytes_after, size_within}
use Rattle.hashbag_c.proofs.text_joins.write_joined.Goals as goal

-- what is left of a join, and of its strings
strings_left : (J rest : List (List ℕ × ℕ × ℕ)) (i : ℕ) (k : List ℕ) (n m : ℕ) → drop i J ≡ (k, n, m) ∷ rest → drop i (with_firsts J) ≡ (k, n) ∷ with_firsts rest
strings_left J rest i k n m left = drop-map (λ (j : List ℕ × ℕ × ℕ). (j.0, j.1)) i J ∙ ap (λ (l : List (List ℕ × ℕ × ℕ)). with_firsts l) left

pub loop-i-preserved : goal.loop-i-preserved
loop-i-preserved c =
    let J = c.args.walk in let i = c.loop-i.i in let rest = c.next.new.self in let text = c.as_slice-value.result.now in
    let n = c.in-Some.first in let m = c.in-Some.second in
    let x : List ℕ × ℕ × ℕ = (text, n, m) in let y : List ℕ × ℕ = (text, n) in let from = c.loop-i.from in
    let left : drop i J ≡ x ∷ rest = sym c.loop-i.invariant.left ∙ c.in-Some.ensures.steps ∙ ap (λ (k : List ℕ). (k, n, m) ∷ rest) (sym c.as_slice-value.ensures) in
    let W = with_firsts J in let others = with_firsts rest in let strings = strings_left J rest i text n m left in
    record {
      few = let within = is_within J rest i x left in omega arith;
      left = sym (left_after J rest i x left);
      size = size_after W others i y strings from c.loop-i.invariant.size;
      within = omega arith;
      bytes = ap (λ (l : List ℕ). take (from + length text) l) c.put.ensures ∙ bytes_after W others i y strings from c.loop-i.bytes c.loop-i.invariant.within c.loop-i.invariant.bytes;
      ends = ends_after W others i y strings from c.loop-i.ends (omega arith) c.loop-i.invariant.size c.loop-i.invariant.ends;
      firsts = written_after J rest i x left (λ e. e.1) c.loop-i.firsts (omega arith) c.loop-i.invariant.firsts;
      seconds = written_after J rest i x left (λ e. e.2) c.loop-i.seconds (omega arith) c.loop-i.invariant.seconds;
    }

pub returns-in-None-clause-all : goal.returns-in-None-clause-all
returns-in-None-clause-all c = λ ends firsts seconds bytes.
    let end = none_left c.args.walk c.loop-i.i (sym c.loop-i.invariant.left ∙ c.in-None.ensures.steps.0) in
    omega arith

pub returns-then-value-bytes-clause-all : goal.returns-then-value-bytes-clause-all
returns-then-value-bytes-clause-all c = λ ends firsts seconds bytes.
    let J = c.args.walk in let i = c.loop-i.i in let rest = c.next.new.self in let text = c.as_slice-value.result.now in
    let n = c.in-Some.first in let m = c.in-Some.second in
    let y : List ℕ × ℕ = (text, n) in
    let left : drop i J ≡ (text, n, m) ∷ rest = sym c.loop-i.invariant.left ∙ c.in-Some.ensures.steps ∙ ap (λ (k : List ℕ). (k, n, m) ∷ rest) (sym c.as_slice-value.ensures) in
    let size = size_after (with_firsts J) (with_firsts rest) i y (strings_left J rest i text n m left) c.loop-i.from c.loop-i.invariant.size in
    let most = size_within (i + 1) (with_firsts J) in
    absurd (omega arith)
