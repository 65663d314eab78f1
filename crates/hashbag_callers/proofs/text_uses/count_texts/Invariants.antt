use Rattle.std.proofs.Common.{◌≡◌, String, Global, string_bytes, length, take}
use Rattle.std.specs.String.{string_eq}
use Rattle.hashbag.specs.Occurrences.{count}
use Rattle.hashbag_callers.specs.Texts.{text_count}
use Rattle.hashbag_callers.proofs.text_uses.count_texts.Given as goal

-- the words so far are in
abbrev pub invariant-loop-word : goal.invariant-loop-word
invariant-loop-word l = record {
  len : length l.bag.items ≡ l.word-index;
  counts : (v : String Global) → count string_eq v l.bag.items ≡ text_count (string_bytes v) (take l.word-index l.words);
}
