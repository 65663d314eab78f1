use Rattle.std.proofs.Common.{◌≡◌, length, take, List, ℕ, string_bytes, ◌∙◌, ap, arith}
use denote.Ref.{Bor}
use Rattle.std.proofs.Math.Seq.{take-length}
use Rattle.hashbag_callers.specs.Texts.{text_count}
use Rattle.hashbag_callers.proofs.TextLemmas.{next_counted}
use Rattle.hashbag_callers.proofs.text_uses.count_texts.Goals as goal

pub loop-word-preserved : goal.loop-word-preserved
loop-word-preserved c = record {
  len = let long = c.in_ok-insert_key.ensures.len in let before = c.loop-word.invariant.len in omega (arith, long, before);
  counts = λ v. next_counted v c.args.words.now c.loop-word.word-index _ c.loop-word.bag c.insert_key.new.self c.loop-word-test.true c.in_ok-insert_key.ensures.inserted (c.loop-word.invariant.counts v);
}

pub returns-clause-counts : goal.returns-clause-counts
returns-clause-counts c = λ v.
    let end : c.loop-word.word-index ≡ length c.args.words.now = omega arith in
    c.loop-word.invariant.counts v ∙ ap (λ (texts : List (Bor (List ℕ))). text_count (string_bytes v) texts) (ap (λ (k : ℕ). take k c.args.words.now) end ∙ take-length c.args.words.now)
