use Rattle.std.proofs.Common.{string_bytes, arith}
use Rattle.std.specs.Str.{bytes_eq}
use Rattle.std.specs.Cmp.Lexicographic.{bytes_decides}
use Rattle.std.specs.String.{string_eq_equiv}
use Rattle.hashbag.proofs.CallerLemmas.{count_of_key, count_removed_key, text_names_one}
use Rattle.hashbag_callers.proofs.text_uses.strike_out.Goals as goal

-- the word names the `String` with its bytes
pub returns-clause-counts : goal.returns-clause-counts
returns-clause-counts g c = λ v same.
    count_removed_key string_eq_equiv c.args.bag.now c.remove_up_to.new.self v (λ w. bytes_eq (string_bytes w) c.args.word.now) c.args.n (text_names_one c.args.word.now) ((bytes_decides (string_bytes v) c.args.word.now).1 same) c.remove_up_to.ensures.fewer.left

pub returns-clause-left : goal.returns-clause-left
returns-clause-left g c = λ v same.
    let names = (bytes_decides (string_bytes v) c.args.word.now).1 same in
    let before = count_of_key string_eq_equiv v (λ w. bytes_eq (string_bytes w) c.args.word.now) (text_names_one c.args.word.now) names c.args.bag.now.items in
    let left = count_removed_key string_eq_equiv c.args.bag.now c.remove_up_to.new.self v (λ w. bytes_eq (string_bytes w) c.args.word.now) c.args.n (text_names_one c.args.word.now) names c.remove_up_to.ensures.fewer.left in
    omega (arith, c.remove_up_to.ensures.after)
