use Rattle.std.proofs.Common.{◌≡◌, ◌-◌, ℕ, min, cond, List, [], get_or, sym, ◌∙◌, ap, arith}
use Rattle.std.specs.Cmp.Lexicographic.{nat_list_eq_equiv}
use Rattle.std.specs.List.{slice_range}
use Rattle.std.specs.Str.{bytes_eq}
use Rattle.hashbag_core.specs.Occurrences.{count}
use Rattle.hashbag_c.specs.Pieces.{pieces_from}
use Rattle.hashbag_c.proofs.QuotaLemmas.{quota_past, allowed_more, count_sets, named_count, piece_at, pieces_len}
use Rattle.hashbag_c.proofs.text_batches.allowed.Goals as goal

pub loop-i-init : goal.loop-i-init
loop-i-init c = record {
  counts = λ v.
      let all = pieces_len c.args.bytes.now c.args.ends.now 0 in
      let none : count bytes_eq v c.with_limit-made.result.items ≡ 0 = ap (λ (X : List (List ℕ)). count bytes_eq v X) c.with_limit-made.ensures.empty in
      let past = quota_past nat_list_eq_equiv v (pieces_from 0 c.args.bytes.now c.args.ends.now) c.args.most.now c.min-i.result (omega (arith, all, c.min-i.ensures)) in
      omega (arith, none, past);
}

pub loop-i-preserved : goal.loop-i-preserved
loop-i-preserved c = record {
  counts = λ v.
      let i = c.loop-i.i - 1 in
      let pieces = pieces_from 0 c.args.bytes.now c.args.ends.now in
      let u = c.in_ok-name.name.bytes.now in
      let all = pieces_len c.args.bytes.now c.args.ends.now 0 in
      let is : get_or pieces i [] ≡ u =
      piece_at c.args.bytes.now c.args.ends.now 0 i [] (omega arith)
      ∙ ap (λ (from : ℕ). slice_range c.args.bytes.now from (get_or c.args.ends.now i 0)) (sym c.start.ensures)
      ∙ sym c.in_ok-name.ensures.0 in
      let n : c.min-n.result ≡ min (get_or c.args.most.now i 0) (count bytes_eq u c.args.bag.now.items) =
      c.min-n.ensures ∙ ap (λ (k : ℕ). min (get_or c.args.most.now i 0) k) (c.contains.ensures.count ∙ named_count u c.args.bag.now.items) in
      let set = count_sets c.loop-i.made c.recount.new.bag u c.min-n.result v c.in_ok-recount.ensures.set
      ∙ ap (λ (k : ℕ). cond (bytes_eq v u) k (count bytes_eq v c.loop-i.made.items)) n in
      allowed_more nat_list_eq_equiv v c.args.bag.now.items pieces c.args.most.now i c.loop-i.i u [] (count bytes_eq v c.recount.new.bag.items) (count bytes_eq v c.loop-i.made.items)
      (omega arith) (omega (arith, all)) (omega arith) is set (c.loop-i.invariant.counts v);
}
