use Rattle.std.proofs.Common.{◌≡◌, ℕ, ◌∷◌, drop, ◌∙◌, sym, arith}
use Rattle.hashbag_c.proofs.ReadLemmas.{is_within, left_after, written_after, none_left}
use Rattle.hashbag_c.proofs.entries.write_numbers.Goals as goal

pub loop-i-preserved : goal.loop-i-preserved
loop-i-preserved g c =
    let W = g.W.Entries.entries c.args.walk in let i = c.loop-i.i in let rest = g.W.Entries.entries c.next_entry.new.self in let x : ℕ × g.row.C.Denot = (c.in-Some.value.now, c.in-Some.count) in
    let left : drop i W ≡ x ∷ rest = sym c.loop-i.invariant.left ∙ c.in-Some.ensures in
    record {
      few = let within = is_within W rest i x left in omega arith;
      left = sym (left_after W rest i x left);
      values = written_after W rest i x left (λ e. e.0) c.loop-i.values (omega arith) c.loop-i.invariant.values;
      counts = written_after W rest i x left (λ e. e.1) c.loop-i.counts (omega arith) c.loop-i.invariant.counts;
    }

pub returns-in-None : goal.returns-in-None
returns-in-None g c =
    let end = none_left (g.W.Entries.entries c.args.walk) c.loop-i.i (sym c.loop-i.invariant.left ∙ c.in-None.ensures.0) in
    record { places = omega arith; values_are = c.loop-i.invariant.values; counts_are = c.loop-i.invariant.counts }
