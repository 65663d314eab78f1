use Rattle.std.proofs.Common.{◌≡◌, ℕ, nat_lt, sym, ◌∙◌, ap, subst}
use Rattle.hashbag_words_lib.specs.Choice.{is_excepted}
use Rattle.hashbag_words_lib.proofs.TextLemmas.{times_of-named}
use Rattle.hashbag_words_lib.proofs.choice.is_excepted.Goals as goal

-- the bag has the token as often as it has strings with its bytes
pub returns-in-Some : goal.returns-in-Some
returns-in-Some c =
    subst (λ e. nat_lt 0 c.contains.result ≡ is_excepted e c.args.token.now) (sym c.in-Some.is)
    (ap (λ (n : ℕ). nat_lt 0 n) (c.contains.ensures.count ∙ times_of-named c.args.token.now c.in-Some.bag.now.items))
