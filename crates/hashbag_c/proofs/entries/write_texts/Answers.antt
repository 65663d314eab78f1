use Rattle.std.proofs.Common.{◌≡◌, ◌+◌, ℕ, List, ◌∷◌, length, take, drop, ◌∙◌, ap, sym, arith}
use Rattle.hashbag_c.proofs.ReadLemmas.{is_within, left_after, written_after, none_left}
use Rattle.hashbag_c.proofs.TextReadLemmas.{size_after, ends_after, bytes_after, size_within}
use Rattle.hashbag_c.proofs.entries.write_texts.Goals as goal

pub loop-i-preserved : goal.loop-i-preserved
loop-i-preserved g c =
    let W = g.W.Entries.entries c.args.walk in let i = c.loop-i.i in let rest = g.W.Entries.entries c.next_entry.new.self in
    let text = c.as_slice-value.result.now in let n = c.in-Some.count in let x : List ℕ × g.row.C.Denot = (text, n) in let from = c.loop-i.from in
    let left : drop i W ≡ x ∷ rest = sym c.loop-i.invariant.left ∙ c.in-Some.ensures ∙ ap (λ (k : List ℕ). (k, n) ∷ rest) (sym c.as_slice-value.ensures) in
    record {
      few = let within = is_within W rest i x left in omega arith;
      left = sym (left_after W rest i x left);
      size = size_after W rest i x left from c.loop-i.invariant.size;
      within = omega arith;
      bytes = ap (λ (l : List ℕ). take (from + length text) l) c.put.ensures ∙ bytes_after W rest i x left from c.loop-i.bytes c.loop-i.invariant.within c.loop-i.invariant.bytes;
      ends = ends_after W rest i x left from c.loop-i.ends (omega arith) c.loop-i.invariant.size c.loop-i.invariant.ends;
      counts = written_after W rest i x left (λ e. e.1) c.loop-i.counts (omega arith) c.loop-i.invariant.counts;
    }

pub returns-in-None : goal.returns-in-None
returns-in-None g c =
    let W = g.W.Entries.entries c.args.walk in let i = c.loop-i.i in
    let end = none_left W i (sym c.loop-i.invariant.left ∙ c.in-None.ensures.0) in
    record {
      few = c.loop-i.invariant.few;
      bytes_are = ap (λ (n : ℕ). take n c.loop-i.bytes) (sym c.loop-i.invariant.size) ∙ c.loop-i.invariant.bytes;
      ends_are = c.loop-i.invariant.ends;
      counts_are = c.loop-i.invariant.counts;
      most = λ more ends counts. absurd (omega arith);
      all = λ ends counts bytes. omega arith;
    }

pub returns-then-value-bytes : goal.returns-then-value-bytes
returns-then-value-bytes g c =
    let W = g.W.Entries.entries c.args.walk in let i = c.loop-i.i in let rest = g.W.Entries.entries c.next_entry.new.self in
    let text = c.as_slice-value.result.now in let n = c.in-Some.count in let x : List ℕ × g.row.C.Denot = (text, n) in
    let left : drop i W ≡ x ∷ rest = sym c.loop-i.invariant.left ∙ c.in-Some.ensures ∙ ap (λ (k : List ℕ). (k, n) ∷ rest) (sym c.as_slice-value.ensures) in
    let size = size_after W rest i x left c.loop-i.from c.loop-i.invariant.size in let whole = size_within (i + 1) W in
    record {
      few = c.loop-i.invariant.few;
      bytes_are = ap (λ (n : ℕ). take n c.loop-i.bytes) (sym c.loop-i.invariant.size) ∙ c.loop-i.invariant.bytes;
      ends_are = c.loop-i.invariant.ends;
      counts_are = c.loop-i.invariant.counts;
      most = λ more ends counts. omega arith;
      all = λ ends counts bytes. absurd (omega arith);
    }
