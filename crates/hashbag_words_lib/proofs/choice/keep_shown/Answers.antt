use Rattle.std.proofs.Common.{◌≡◌, ℕ, ◌+◌, min, Bool, true, false, cond, String, Global, string_bytes, string_eq, bytes_eq, refl, sym, ◌∙◌, ap, arith, rules}
use Rattle.std.specs.Cmp.Lexicographic.{bytes_decides, nat_list_eq_equiv}
use Rattle.std.proofs.lemmas.List.{length-map}
use Rattle.std.specs.String.{string_eq_equiv}
use Rattle.hashbag_core.specs.Occurrences.{count}
use Rattle.hashbag_ops.proofs.Lengths.{same_length}
use Rattle.hashbag_ops.proofs.ByCount.{answers_by_count, count_retained_by}
use Rattle.hashbag_words_lib.specs.Choice.{shows, shown_count}
use Rattle.hashbag_words_lib.specs.Counts.{texts_in}
use Rattle.hashbag_words_lib.specs.declared.choice.Choice.{Choice}
use Rattle.hashbag_words_lib.proofs.TextLemmas.{shown_by}
use Rattle.hashbag_words_lib.proofs.choice.keep_shown.Goals as goal

no_more : (b : Bool) (n : ℕ) → min (cond b n 0) n ≡ cond b n 0
no_more true n = omega arith
no_more false n = omega arith

-- the count of a string that is shown, and 0 of another
abbrev kept : Choice → String Global → ℕ → ℕ
kept choice x n = shown_count choice (string_bytes x) n

-- equal strings are shown alike
same_kept : (choice : Choice) (u w : String Global) (n : ℕ) → string_eq u w ≡ true → kept choice u n ≡ kept choice w n
same_kept choice u w n same = ap (λ bytes. shown_count choice bytes n) ((bytes_decides (string_bytes u) (string_bytes w)).0 same)

-- the closure decides by the choice
pub returns-clause-kept : goal.returns-clause-kept
returns-clause-kept g c =
    let choice = c.args.choice in
    let before = c.args.bag.now in
    let done = c.retain.ensures.retained in
    let answers = answers_by_count _ (λ p. p.0.now ≡ choice) (kept choice) (λ p q x n a same t. search rules) _ done.walk done.returned done.last refl done.calls in
    λ texts together text.
    shown_by choice before.items c.retain.new.self.items
    (λ v. let n = count string_eq v before.items in count_retained_by string_eq_equiv (kept choice) (same_kept choice) _ _ before c.retain.new.self done answers v ∙ no_more (shows choice (string_bytes v, n)) n)
    text
    ∙ ap (λ (n : ℕ). shown_count choice text n) (together text)

-- lists with the same counts are equally long
pub returns-clause-total : goal.returns-clause-total
returns-clause-total g c = λ texts together.
    let before = c.args.bag.now in
    c.len-total.ensures.len
    ∙ sym (length-map before.items string_bytes)
    ∙ same_length nat_list_eq_equiv (texts_in before) texts together
