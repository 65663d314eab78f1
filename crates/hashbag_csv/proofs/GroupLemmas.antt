-- Texts without the mark between groups of three digits.
use Rattle.std.proofs.Common.{◌≡◌, ◌≢◌, ℕ, ◌==◌, not, Bool, true, cond, List, [], ◌∷◌, ◌++◌, encode_utf8, encode_utf8_all, map, append-nil, refl, ◌∙◌, ap}
use Rattle.std.specs.List.{list_all}
use Rattle.std.proofs.lemmas.Bool.{and_parts}
use Rattle.std.proofs.lemmas.List.{map-append}
use Rattle.std.proofs.lemmas.Str.{encodes-append}
use Rattle.hashbag_csv.specs.Groups.{read_for, spaced, without}
use Rattle.hashbag_csv.specs.declared.groups.GroupMark.{GroupMark}
use Rattle.hashbag_csv.specs.declared.groups.GroupMark.TheVariants.{Point, Comma, Apostrophe, Space, NoBreak}

-- such a text is as it was
pub none_less : (group : ℕ) (text : List ℕ) → list_all (λ c. not (c == group)) text ≡ true → without group text ≡ text
none_less group [] h = refl
none_less group (c ∷ cs) h =
    let parts = and_parts (not (c == group)) (list_all (λ d. not (d == group)) cs) h in
    ap (λ (t : Bool). cond t (c ∷ without group cs) (without group cs)) parts.0 ∙ ap (λ (l : List ℕ). c ∷ l) (none_less group cs parts.1)

-- only for a no-break space is a text read otherwise than it is
pub read_plain : (group : GroupMark) (text : List ℕ) → group ≢ NoBreak → read_for group text ≡ text
read_plain Point text h = refl
read_plain Comma text h = refl
read_plain Apostrophe text h = refl
read_plain Space text h = refl
read_plain NoBreak text h = absurd (h refl)

-- a character more, with a space in its place if it is a no-break space
pub spaced_more : (cs : List ℕ) (c : ℕ) → encode_utf8_all (map spaced (cs ++ c ∷ [])) ≡ encode_utf8_all (map spaced cs) ++ encode_utf8 (spaced c)
spaced_more cs c = rw (map-append, encodes-append, append-nil) refl
