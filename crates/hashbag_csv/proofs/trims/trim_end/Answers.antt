use Rattle.std.proofs.Common.{◌≡◌, true, false, [], sym, ◌∙◌, ap}
use Rattle.std.proofs.lemmas.List.{nil_from_length}
use Rattle.hashbag_csv.specs.KeyForms.{end_trimmed, is_blank}
use Rattle.hashbag_csv.proofs.TrimLemmas.{end_kept, end_less}
use Rattle.hashbag_csv.proofs.trims.trim_end.Goals as goal

-- a space or a tab less
pub spaces-preserved : goal.spaces-preserved
spaces-preserved c =
    let blank : is_blank c.in-Some.byte.now ≡ true = cc in
    sym (end_less c.spaces.rest.now c.in-Some.byte.now c.in-Some.before.now c.in-Some.ensures.cases.0 blank) ∙ c.spaces.invariant

-- no space and no tab
pub returns-then-not-is_space : goal.returns-then-not-is_space
returns-then-not-is_space c =
    let other : is_blank c.in-Some.byte.now ≡ false = cc in
    sym (end_kept c.spaces.rest.now c.in-Some.byte.now c.in-Some.before.now c.in-Some.ensures.cases.0 other) ∙ c.spaces.invariant

-- nothing is left
pub returns : goal.returns
returns c =
    let none : c.spaces.rest.now ≡ [] = nil_from_length _ c.in_default.ensures.cases in
    none ∙ sym (ap end_trimmed none) ∙ c.spaces.invariant
