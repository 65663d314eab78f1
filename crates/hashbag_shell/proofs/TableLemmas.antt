-- What lines of a table add to a command.
use Rattle.std.proofs.Common.{◌≡◌, ◌≢◌, ◌<◌, ◌+◌, ◌++◌, ◌∷◌, ◌∙◌, ℕ, Bool, true, false, List, [], Result, Ok, Err}
use Rattle.std.proofs.Common.{IfOk, map, ap, sym, length, drop, get_or, arith, append_assoc, codes}
use Rattle.std.specs.Borrow.{Bor}
use Rattle.std.specs.Str.{bytes_eq}
use Rattle.std.proofs.lemmas.Bool.Decides.{nat_tests}
use Rattle.std.proofs.lemmas.List.{at_drop_more, map-append}
use Rattle.clap.specs.Built.{AddsArg}
use Rattle.clap.specs.Facts.{args_of}
use Rattle.clap.specs.declared.builder.arg.Arg.{Arg}
use Rattle.clap.specs.declared.builder.command.Command.{Command}
use Rattle.hashbag_shell.specs.Tables.{argument_names, declared, declared_by, first_word, is_word_in, rest_of}

-- an argument that is added is the last one, by its name
adds_name : (old new : Command) (a : Arg) → AddsArg old a new → argument_names new ≡ argument_names old ++ a.id.now ∷ []
adds_name old new a adds =
    ap (map (λ (arg : Arg). arg.id.now)) adds.args
    ∙ map-append (λ (arg : Arg). arg.id.now) (args_of old) (adds.arg ∷ [])
    ∙ ap (λ (id : Bor (List ℕ)). argument_names old ++ id.now ∷ []) adds.rules.id

-- a line whose first word isn't a mark declares an argument of this name
declared_name : (line : List ℕ) → length (first_word line) ≢ 1 → declared_by line ≡ first_word line ∷ []
declared_name line other = grind (arith, nat_tests)

-- a command with the argument that a line declares
pub made_names : {E : Type 0} (r : Result Command E) (old : Command) (a : Arg) (line : List ℕ) → a.id.now ≡ first_word line
    → length (first_word line) ≢ 1 → IfOk r (λ new. AddsArg old a new) → IfOk r (λ new. argument_names new ≡ argument_names old ++ declared_by line)
made_names (Ok new) old a line is other adds =
    adds_name old new a adds
    ∙ ap (λ (names : List (List ℕ)). argument_names old ++ names) (ap (λ (name : List ℕ). name ∷ []) is ∙ sym (declared_name line other))
made_names (Err e) old a line is other adds = tt

-- one line more, which says of which subcommands the next ones are
pub lines_at : (xs : List (Bor (List ℕ))) (i : ℕ) (d : Bor (List ℕ)) (job : List ℕ) (b next : Bool) (first rest : List ℕ)
    (before after all : List (List ℕ)) → i < length xs → first ≡ first_word (get_or xs i d).now → rest ≡ rest_of (get_or xs i d).now
    → bytes_eq first (codes "@") ≡ true → next ≡ is_word_in job rest → after ≡ before
    → before ++ declared job b (map (λ line. line.now) (drop i xs)) ≡ all
    → after ++ declared job next (map (λ line. line.now) (drop (i + 1) xs)) ≡ all
lines_at xs i d job b next first rest before after all lt first_is rest_is at next_is same so =
    let line = (get_or xs i d).now in
    let tail : List (List ℕ) = map (λ (l : Bor (List ℕ)). l.now) (drop (i + 1) xs) in
    let mark : bytes_eq (first_word line) (codes "@") ≡ true = ap (λ (w : List ℕ). bytes_eq w (codes "@")) (sym first_is) ∙ at in
    let step : declared job b (map (λ (l : Bor (List ℕ)). l.now) (drop i xs)) ≡ declared job b (line ∷ tail) =
    at_drop_more (λ (ls : List (Bor (List ℕ))). declared job b (map (λ (l : Bor (List ℕ)). l.now) ls)) xs i d lt in
    let read : declared job b (line ∷ tail) ≡ declared job (is_word_in job (rest_of line)) tail = rw mark in
    let same_job : declared job (is_word_in job (rest_of line)) tail ≡ declared job next tail =
    ap (λ (x : Bool). declared job x tail) (ap (is_word_in job) (sym rest_is) ∙ sym next_is) in
    rw same (ap (λ (names : List (List ℕ)). before ++ names) (sym (step ∙ read ∙ same_job)) ∙ so)

-- one line more, which is of the subcommand
pub lines_more : (xs : List (Bor (List ℕ))) (i : ℕ) (d : Bor (List ℕ)) (job : List ℕ) (b next : Bool) (first : List ℕ)
    (before after all : List (List ℕ)) → i < length xs → first ≡ first_word (get_or xs i d).now
    → bytes_eq first (codes "@") ≡ false → next ≡ b → b ≡ true → after ≡ before ++ declared_by (get_or xs i d).now
    → before ++ declared job b (map (λ line. line.now) (drop i xs)) ≡ all
    → after ++ declared job next (map (λ line. line.now) (drop (i + 1) xs)) ≡ all
lines_more xs i d job b next first before after all lt first_is unmarked next_is is_mine more so =
    let line = (get_or xs i d).now in
    let tail : List (List ℕ) = map (λ (l : Bor (List ℕ)). l.now) (drop (i + 1) xs) in
    let mark : bytes_eq (first_word line) (codes "@") ≡ false = ap (λ (w : List ℕ). bytes_eq w (codes "@")) (sym first_is) ∙ unmarked in
    let step : declared job b (map (λ (l : Bor (List ℕ)). l.now) (drop i xs)) ≡ declared job b (line ∷ tail) =
    at_drop_more (λ (ls : List (Bor (List ℕ))). declared job b (map (λ (l : Bor (List ℕ)). l.now) ls)) xs i d lt in
    let read : declared job b (line ∷ tail) ≡ declared_by line ++ declared job b tail = rw (mark, is_mine) in
    rw (more, next_is, append_assoc) (ap (λ (names : List (List ℕ)). before ++ names) (sym (step ∙ read)) ∙ so)

-- one line more, which isn't
pub lines_none : (xs : List (Bor (List ℕ))) (i : ℕ) (d : Bor (List ℕ)) (job : List ℕ) (b next : Bool) (first : List ℕ)
    (before after all : List (List ℕ)) → i < length xs → first ≡ first_word (get_or xs i d).now
    → bytes_eq first (codes "@") ≡ false → next ≡ b → b ≡ false → after ≡ before
    → before ++ declared job b (map (λ line. line.now) (drop i xs)) ≡ all
    → after ++ declared job next (map (λ line. line.now) (drop (i + 1) xs)) ≡ all
lines_none xs i d job b next first before after all lt first_is unmarked next_is other same so =
    let line = (get_or xs i d).now in
    let tail : List (List ℕ) = map (λ (l : Bor (List ℕ)). l.now) (drop (i + 1) xs) in
    let mark : bytes_eq (first_word line) (codes "@") ≡ false = ap (λ (w : List ℕ). bytes_eq w (codes "@")) (sym first_is) ∙ unmarked in
    let step : declared job b (map (λ (l : Bor (List ℕ)). l.now) (drop i xs)) ≡ declared job b (line ∷ tail) =
    at_drop_more (λ (ls : List (Bor (List ℕ))). declared job b (map (λ (l : Bor (List ℕ)). l.now) ls)) xs i d lt in
    let read : declared job b (line ∷ tail) ≡ declared job b tail = rw (mark, other) in
    rw (same, next_is) (ap (λ (names : List (List ℕ)). before ++ names) (sym (step ∙ read)) ∙ so)
