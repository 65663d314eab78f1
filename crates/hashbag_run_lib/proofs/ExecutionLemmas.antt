-- Bytes that are read and written one piece after another.
use Rattle.std.proofs.Common.{◌≡◌, ℕ, List, [], ◌++◌, take, drop, Option, Some, None, sym, ◌∙◌, ap, append_assoc, inl, inr, refl, arith}
use Rattle.std.proofs.lemmas.List.{append-nil, take-append-drop}
use Rattle.std.specs.Prelude.{string_bytes}
use Rattle.std.specs.Io.KnownBytes.{Appends, Consumes, Keeps, IsAtEnd}
use Rattle.hashbag_run_lib.specs.declared.answer.Outcome.{Outcome}
use Rattle.hashbag_run_lib.specs.declared.answer.Outcome.TheVariants.{Done, BadLine, NoMemory}
use Rattle.hashbag_run_lib.specs.Execution.{AppendsPart, IsSent, IsToBeWritten, IsExecution}
use Rattle.hashbag_run_lib.specs.Lines.{no_memory}
use Rattle.hashbag_run_lib.specs.Program.{IsAnswerTo, status_of, text_of}

pub appends_none : (o : Option (List ℕ)) → Appends o o []
appends_none None = tt
appends_none (Some xs) = sym (append-nil xs)

pub appends_more : (a b c : Option (List ℕ)) (xs ys : List ℕ) → Appends a b xs → Appends b c ys → Appends a c (xs ++ ys)
appends_more None b c xs ys first second = tt
appends_more (Some os) None c xs ys first second = absurd first
appends_more (Some os) (Some bs) None xs ys first second = second
appends_more (Some os) (Some bs) (Some cs) xs ys first second = second ∙ ap (λ l. l ++ ys) first ∙ append_assoc os xs ys

pub consumes_none : (o : Option (List ℕ)) → Consumes o o []
consumes_none None = tt
consumes_none (Some xs) = refl

-- the text is a part and what is left of it
pub cut_more : (text part left : List ℕ) (n : ℕ) → text ≡ part ++ left → text ≡ (part ++ take n left) ++ drop n left
cut_more text part left n is = is ∙ ap (λ l. part ++ l) (sym (take-append-drop n left)) ∙ sym (append_assoc part (take n left) (drop n left))

-- a status that is two numbers
clash : {P : Type 0} (s a b : ℕ) → (a ≡ b → ⊥) → s ≡ a → s ≡ b → P
clash s a b apart first second = absurd (apart (sym first ∙ second))

keeps_itself : (o : Option (List ℕ)) → Keeps o o
keeps_itself None = tt
keeps_itself (Some xs) = refl

-- a read failed, and nothing was written
pub unread : (before after o : Option (List ℕ)) → IsExecution before after o o 4
unread before after o = record {
  done = λ is. clash 4 4 0 (λ same. omega (arith, same)) refl is;
  bad_line = λ is. clash 4 4 2 (λ same. omega (arith, same)) refl is;
  memory = λ is. clash 4 4 3 (λ same. omega (arith, same)) refl is;
  failed = λ is. inl (keeps_itself o);
}

-- a write failed
cut_short : (before after old new : Option (List ℕ)) (text : List ℕ) (status : ℕ) → IsToBeWritten before after text → status ≡ 4 → AppendsPart old new text → IsExecution before after old new status
cut_short before after old new text status is four part = record {
  done = λ zero_is. clash status 4 0 (λ same. omega (arith, same)) four zero_is;
  bad_line = λ two. clash status 4 2 (λ same. omega (arith, same)) four two;
  memory = λ three. clash status 4 3 (λ same. omega (arith, same)) four three;
  failed = λ is_four. inr (record { text = text; is = is; written = part });
}

-- there was no memory for the input
pub no_room : (before after old new : Option (List ℕ)) (status : ℕ) → IsSent old new no_memory 3 status → IsExecution before after old new status
no_room before after old new status (inl sent) = record {
  done = λ is. clash status 3 0 (λ same. omega (arith, same)) sent.0 is;
  bad_line = λ is. clash status 3 2 (λ same. omega (arith, same)) sent.0 is;
  memory = λ is. sent.1;
  failed = λ is. clash status 3 4 (λ same. omega (arith, same)) sent.0 is;
}
no_room before after old new status (inr cut) = cut_short before after old new no_memory status (inl refl) cut.0 cut.1

-- the input was read, and its answer sent
pub answered : (before after old new : Option (List ℕ)) (input : List ℕ) (answer : Outcome) (status : ℕ) → Consumes before after input → IsAtEnd after → IsAnswerTo input answer → IsSent old new (text_of answer) (status_of answer) status → IsExecution before after old new status
answered before after old new input (Done text) status read ended is (inl sent) = record {
  done = λ zero_is. record { text = string_bytes text; is = record { input = input; read = read; ended = ended; is = is }; written = sent.1 };
  bad_line = λ two. clash status 0 2 (λ same. omega (arith, same)) sent.0 two;
  memory = λ three. clash status 0 3 (λ same. omega (arith, same)) sent.0 three;
  failed = λ four. clash status 0 4 (λ same. omega (arith, same)) sent.0 four;
}
answered before after old new input (Done text) status read ended is (inr cut) =
    cut_short before after old new (string_bytes text) status (inr (inl (record { input = input; read = read; ended = ended; is = is }))) cut.0 cut.1
answered before after old new input (BadLine text) status read ended is (inl sent) = record {
  done = λ zero_is. clash status 2 0 (λ same. omega (arith, same)) sent.0 zero_is;
  bad_line = λ two. record { text = string_bytes text; is = record { input = input; read = read; ended = ended; is = is }; written = sent.1 };
  memory = λ three. clash status 2 3 (λ same. omega (arith, same)) sent.0 three;
  failed = λ four. clash status 2 4 (λ same. omega (arith, same)) sent.0 four;
}
answered before after old new input (BadLine text) status read ended is (inr cut) =
    cut_short before after old new (string_bytes text) status (inr (inr (record { input = input; read = read; ended = ended; is = is }))) cut.0 cut.1
answered before after old new input NoMemory status read ended is sent = no_room before after old new status sent
