use Rattle.std.proofs.Common.{◌≡◌, rules, ℕ, [], ◌∷◌, ◌++◌, refl, sym, ◌∙◌, ap, arith, None, Some, List, append_assoc}
use Rattle.std.proofs.lemmas.List.Elements.{All-append, All-cons, All-nil}
use Rattle.std.proofs.lemmas.Str.Pattern.{strip_prefix_char}
use Rattle.hashbag_words_lib.proofs.UniqLemmas.{not_first}
use Rattle.hashbag_words_lib.proofs.rows.past_spaces.Goals as goal

pub spaces-init : goal.spaces-init
spaces-init c = (search rules, ([], All-nil (λ b. b ≡ 32), refl))

pub spaces-preserved : goal.spaces-preserved
spaces-preserved c =
    let h = c.spaces.invariant.1 in
    let rest = c.spaces.rest.now in
    let is : rest ≡ 32 ∷ c.in-Some.shorter.now = strip_prefix_char 32 rest (Some c.in-Some.shorter) c.in-Some.ensures.cases (omega arith) in (
      search rules,
      (
        h.0 ++ 32 ∷ [],
        All-append (λ b. b ≡ 32) h.0 (32 ∷ []) h.1 (All-cons (λ b. b ≡ 32) 32 [] refl (All-nil (λ b. b ≡ 32))),
        h.2 ∙ ap (λ (l : List ℕ). h.0 ++ l) is ∙ sym (append_assoc h.0 (32 ∷ []) c.in-Some.shorter.now),
      ),
    )

pub returns-clause-first : goal.returns-clause-first
returns-clause-first c = not_first c.spaces.rest.now (strip_prefix_char 32 c.spaces.rest.now None c.in_default.ensures.cases (omega arith))
