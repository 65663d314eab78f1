-- The inputs that were read so far, and one more.
use Rattle.std.proofs.Common.{◌≡◌, ℕ, ◌+◌, ◌<◌, Bool, false, List, [], ◌∷◌, ◌++◌, length, map, take, get_or, Option, Result, Ok, Err, IfOk, sym, ◌∙◌, ap, subst}
use Rattle.std.specs.Borrow.{Bor}
use Rattle.std.proofs.lemmas.List.{append_assoc, map-append, take_more}
use Rattle.hashbag_ledger_db.specs.Inputs.{IsRead, HasTextOf, name_and_kind}
use Rattle.hashbag_ledger_db.specs.Readings.{encoding_of}
use Rattle.hashbag_ledger_db.specs.declared.job.Job.{Job}
use Rattle.hashbag_ledger_db.specs.declared.movements.Input.{Input}
use Rattle.hashbag_text.specs.declared.encoding.Encoding.{Encoding}

-- a file of movements as a job names it
abbrev of_movements : Bor (List ℕ) → List ℕ × Bool
of_movements file = (file.now, false)

pub one_more : (xs ys : List Input) (x : Input) (start : List (List ℕ × Bool)) (files : List (Bor (List ℕ))) (i : ℕ) (d : Bor (List ℕ)) → i < length files
    → map name_and_kind xs ≡ start ++ map of_movements (take i files) → ys ≡ xs ++ x ∷ [] → name_and_kind x ≡ of_movements (get_or files i d)
    → map name_and_kind ys ≡ start ++ map of_movements (take (i + 1) files)
one_more xs ys x start files i d within before is x_is =
    let file = get_or files i d in
    ap (map name_and_kind) is ∙ map-append name_and_kind xs (x ∷ [])
    ∙ ap (λ (l : List (List ℕ × Bool)). l ++ name_and_kind x ∷ []) before
    ∙ append_assoc start (map of_movements (take i files)) (name_and_kind x ∷ [])
    ∙ ap (λ (e : List ℕ × Bool). start ++ (map of_movements (take i files) ++ e ∷ [])) x_is
    ∙ ap (λ (l : List (List ℕ × Bool)). start ++ l) (sym (map-append of_movements (take i files) (file ∷ [])) ∙ ap (map of_movements) (sym (take_more files i d within)))

-- an input that was made of the bytes of its file was read from it
pub ok_read : {E : Type 0} (r : Result Input E) (gives : List ℕ → List ℕ → Type 0) (job : Job) (name : List ℕ) (is_start : Bool) (bytes : List ℕ) (encoding : Option Encoding)
    → IfOk r (λ x. name_and_kind x ≡ (name, is_start)) → IfOk r (HasTextOf encoding bytes) → gives name bytes → encoding ≡ encoding_of job is_start
    → IfOk r (IsRead gives job)
ok_read (Err e) gives job name is_start bytes encoding is text given same = tt
ok_read (Ok x) gives job name is_start bytes encoding is text given same =
    let Given : List ℕ × Bool → Type 0 = λ n. gives n.0 bytes in
    let Text : List ℕ × Bool → Type 0 = λ n. HasTextOf (encoding_of job n.1) bytes x in
    let InEncoding : Option Encoding → Type 0 = λ e. HasTextOf e bytes x in
    record { bytes = bytes; given = subst Given (sym is) given; text = subst Text (sym is) (subst InEncoding same text) }
