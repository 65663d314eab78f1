-- What lines are written, by computing.
use Rattle.std.specs.Prelude.{◌≡◌, [], ◌∷◌, ◌++◌, codes, pos, negsuc, refl}
use Rattle.std.specs.Fmt.{digits}
use Rattle.hashbag_script.specs.declared.script.Reply.TheVariants.{Count, Taken, TooMany, BelowTotal}
use Rattle.hashbag_run_lib.specs.Lines.{reply_line, signed_line, join_lines, bad_line, no_memory}

counted : reply_line (codes "a") (Count 3) ≡ codes "a count 3" ++ 10 ∷ []
unfolding digits
counted = refl

taken : reply_line (codes "b") (Taken 9 1) ≡ codes "b taken 9 1" ++ 10 ∷ []
unfolding digits
taken = refl

too_many : reply_line (codes "a") TooMany ≡ codes "a too many" ++ 10 ∷ []
too_many = refl

below_total : reply_line (codes "a") BelowTotal ≡ codes "a below total" ++ 10 ∷ []
below_total = refl

joined : join_lines ((5, 1, 0) ∷ []) ((5, 1) ∷ []) ((5, pos 1) ∷ []) ((5, 1) ∷ []) ≡ codes "outer 5 1 0" ++ 10 ∷ codes "difference 5 1" ++ 10 ∷ codes "signed 5 1" ++ 10 ∷ codes "not_in 5 1" ++ 10 ∷ []
unfolding digits
joined = refl

below_zero : signed_line (4, negsuc 1) ≡ codes "signed 4 -2" ++ 10 ∷ []
unfolding digits
below_zero = refl

bad : bad_line 2 ≡ codes "bad line 2" ++ 10 ∷ []
unfolding digits
bad = refl

refused : no_memory ≡ codes "no memory" ++ 10 ∷ []
refused = refl
