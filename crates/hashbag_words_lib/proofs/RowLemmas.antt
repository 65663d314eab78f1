-- Lines of counts, which are written and read again.
use Rattle.std.proofs.Common.{◌≡◌, ◌≢◌, ℕ, suc, ◌+◌, ◌<◌, ◌^◌, Bool, true, false, cond, eqb, List, [], ◌∷◌, ◌++◌, length, drop, get_or, All, decimal, Option, None, Some, Result, Ok, MatchOption, option_map, option_and_then, refl, sym, ◌∙◌, ap, subst, arith, ne_eqb, append_assoc, drop-cons}
use borrow.Author.Tests.{eqb-true}
use Rattle.memchr.specs.Find.{is_byte3, IsFirstByte, Passes}
use Rattle.std.specs.Borrow.{Bor}
use Rattle.std.specs.Char.{digit_value}
use Rattle.std.specs.Option.{is_some}
use Rattle.std.specs.Str.Parse.{AllDigits, ParsesUnsigned}
use Rattle.std.proofs.lemmas.Fmt.{parse-decimal}
use Rattle.std.proofs.lemmas.List.Elements.{All-nil, All-cons, All-get_or}
use Rattle.std.proofs.lemmas.Option.{same_Some}
use Rattle.std.proofs.lemmas.Str.Pattern.{IsSplitOnceResult, split_after, split_parts}
use Rattle.hashbag_words_lib.specs.Rows.{letter_of, byte_of, shown_as, escaped, row, unescaped, resumed, IsNumber, IsLineOf}

-- ---- one byte more

onto : (token : List ℕ) (b : ℕ) (more : Option (List ℕ)) → option_map (λ m. token ++ m) (option_map (λ t. b ∷ t) more) ≡ option_map (λ m. (token ++ b ∷ []) ++ m) more
onto token b None = refl
onto token b (Some t) = ap Some (sym (append_assoc token (b ∷ []) t))

pub resumed-plain : (token : List ℕ) (b : ℕ) (rest : List ℕ) → b ≢ 92 → resumed token (Some false) (b ∷ rest) ≡ resumed (token ++ b ∷ []) (Some false) rest
resumed-plain token b rest other =
    ap (λ (c : Bool). option_map (λ m. token ++ m) (cond c (unescaped true rest) (option_map (λ t. b ∷ t) (unescaped false rest)))) (ne_eqb b 92 other)
    ∙ onto token b (unescaped false rest)

pub resumed-letter : (token : List ℕ) (letter byte : ℕ) (rest : List ℕ) → byte_of letter ≡ Some byte → resumed token (Some true) (letter ∷ rest) ≡ resumed (token ++ byte ∷ []) (Some false) rest
resumed-letter token letter byte rest is =
    ap (λ (o : Option ℕ). option_map (λ m. token ++ m) (option_and_then (λ c. option_map (λ t. c ∷ t) (unescaped false rest)) o)) is
    ∙ onto token byte (unescaped false rest)

-- ---- what is written as it is

-- what has no backslash is written as it is
pub unescaped-plain : (written : List ℕ) → ((i : ℕ) → i < length written → get_or written i 0 ≢ 92) → unescaped false written ≡ Some written
unescaped-plain [] plain = refl
unescaped-plain (b ∷ bs) plain =
    ap (λ (c : Bool). cond c (unescaped true bs) (option_map (λ t. b ∷ t) (unescaped false bs))) (ne_eqb b 92 (plain 0 (omega arith)))
    ∙ ap (λ (o : Option (List ℕ)). option_map (λ t. b ∷ t) o) (unescaped-plain bs (λ i below. plain (suc i) (omega arith)))

-- a search that finds nothing shows that no byte passes its test
pub none_found : (test : ℕ → Bool) (hay : List ℕ) (r : Option ℕ) → IsFirstByte test hay r → is_some r ≡ false → (i : ℕ) → i < length hay → ¬ Passes test hay i
none_found test hay None first none i below = first i (omega arith) below
none_found test hay (Some k) first none i below = absurd (cc)

-- a byte that is none of these four has no letter
pub no_letter : (b : ℕ) → ¬ (is_byte3 9 10 13 b ≡ true) → b ≢ 92 → letter_of b ≡ None
no_letter b none other =
    let rest : Bool → Bool → Bool → Bool → Option ℕ = λ t n r s. cond t (Some 116) (cond n (Some 110) (cond r (Some 114) (cond s (Some 92) None))) in
    ap (λ t. rest t (eqb b 10) (eqb b 13) (eqb b 92)) (ne_eqb b 9 (λ is. none (subst (λ (x : ℕ). is_byte3 9 10 13 x ≡ true) (sym is) refl)))
    ∙ ap (λ n. rest false n (eqb b 13) (eqb b 92)) (ne_eqb b 10 (λ is. none (subst (λ (x : ℕ). is_byte3 9 10 13 x ≡ true) (sym is) refl)))
    ∙ ap (λ r. rest false false r (eqb b 92)) (ne_eqb b 13 (λ is. none (subst (λ (x : ℕ). is_byte3 9 10 13 x ≡ true) (sym is) refl)))
    ∙ ap (λ s. rest false false false s) (ne_eqb b 92 other)

-- a token whose bytes have no letters
pub escaped-plain : (token : List ℕ) → ((i : ℕ) → i < length token → letter_of (get_or token i 0) ≡ None) → escaped token ≡ token
escaped-plain [] plain = refl
escaped-plain (b ∷ bs) plain =
    ap (λ (o : Option ℕ). shown_as b o ++ escaped bs) (plain 0 (omega arith))
    ∙ ap (λ (l : List ℕ). b ∷ l) (escaped-plain bs (λ i below. plain (suc i) (omega arith)))

-- ---- what is written is read again

letter_at : (b l : ℕ) (t n r s : Bool) → eqb b 9 ≡ t → eqb b 10 ≡ n → eqb b 13 ≡ r → eqb b 92 ≡ s
    → cond t (Some 116) (cond n (Some 110) (cond r (Some 114) (cond s (Some 92) None))) ≡ Some l → byte_of l ≡ Some b
letter_at b l true n r s is9 is10 is13 is92 e = subst (λ (k : ℕ). byte_of k ≡ Some b) (same_Some 116 l e) (ap Some (sym (eqb-true b 9 is9)))
letter_at b l false true r s is9 is10 is13 is92 e = subst (λ (k : ℕ). byte_of k ≡ Some b) (same_Some 110 l e) (ap Some (sym (eqb-true b 10 is10)))
letter_at b l false false true s is9 is10 is13 is92 e = subst (λ (k : ℕ). byte_of k ≡ Some b) (same_Some 114 l e) (ap Some (sym (eqb-true b 13 is13)))
letter_at b l false false false true is9 is10 is13 is92 e = subst (λ (k : ℕ). byte_of k ≡ Some b) (same_Some 92 l e) (ap Some (sym (eqb-true b 92 is92)))
letter_at b l false false false false is9 is10 is13 is92 e = absurd (cc)

-- a letter stands for the byte whose letter it is
pub letter_back : (b l : ℕ) → letter_of b ≡ Some l → byte_of l ≡ Some b
letter_back b l e = letter_at b l (eqb b 9) (eqb b 10) (eqb b 13) (eqb b 92) refl refl refl refl e

pub plain_byte : (b k l : ℕ) → letter_of k ≡ Some l → letter_of b ≡ None → b ≢ k
plain_byte b k l has e is = let both : letter_of b ≡ letter_of k = ap letter_of is in absurd (cc)

letter_not_tab : (b l : ℕ) → letter_of b ≡ Some l → l ≢ 9
letter_not_tab b l e is = let both : byte_of l ≡ byte_of 9 = ap byte_of is in let back = letter_back b l e in absurd (cc)

read_back : (b : ℕ) (bs rest : List ℕ) (o : Option ℕ) → letter_of b ≡ o → unescaped false rest ≡ Some bs → unescaped false (shown_as b o ++ rest) ≡ Some (b ∷ bs)
read_back b bs rest None e later =
    ap (λ (c : Bool). cond c (unescaped true rest) (option_map (λ t. b ∷ t) (unescaped false rest))) (ne_eqb b 92 (plain_byte b 92 92 refl e))
    ∙ ap (λ (o : Option (List ℕ)). option_map (λ t. b ∷ t) o) later
read_back b bs rest (Some letter) e later =
    ap (λ (o : Option ℕ). option_and_then (λ c. option_map (λ t. c ∷ t) (unescaped false rest)) o) (letter_back b letter e)
    ∙ ap (λ (o : Option (List ℕ)). option_map (λ t. b ∷ t) o) later

-- what is escaped is read as it was
pub unescaped-escaped : (token : List ℕ) → unescaped false (escaped token) ≡ Some token
unescaped-escaped [] = refl
unescaped-escaped (b ∷ bs) = read_back b bs (escaped bs) (letter_of b) refl (unescaped-escaped bs)

no_tab_at : (b : ℕ) (rest : List ℕ) (o : Option ℕ) → letter_of b ≡ o → All (λ y. y ≢ 9) rest → All (λ y. y ≢ 9) (shown_as b o ++ rest)
no_tab_at b rest None e later = All-cons (λ y. y ≢ 9) b rest (plain_byte b 9 116 refl e) later
no_tab_at b rest (Some l) e later =
    All-cons (λ y. y ≢ 9) 92 (l ∷ rest) (λ is. absurd (omega arith)) (All-cons (λ y. y ≢ 9) l rest (letter_not_tab b l e) later)

-- an escaped token has no tab
no_tab : (token : List ℕ) → All (λ y. y ≢ 9) (escaped token)
no_tab [] = All-nil (λ y. y ≢ 9)
no_tab (b ∷ bs) = no_tab_at b (escaped bs) (letter_of b) refl (no_tab bs)

-- a row is split at its tab
pub split_row : (r : Option (Bor (List ℕ) × Bor (List ℕ))) (line token : List ℕ) (count : ℕ) → IsSplitOnceResult 9 line r → line ≡ row token count
    → MatchOption r ⊥ (λ x. (x.0.now ≡ escaped token) × (x.1.now ≡ decimal count))
split_row r line token count h is =
    split_after 9 line (escaped token) (decimal count) r h (omega arith) is (λ i below. All-get_or (λ y. y ≢ 9) (escaped token) i 0 below (no_tab token))

-- the number that is read from decimal digits
pub count_read : {E : Type 0} (r : Result ℕ E) (n count : ℕ) (digits : List ℕ) → r ≡ Ok n → count < 2 ^ 64 → digits ≡ decimal count → ParsesUnsigned 64 10 digits r → n ≡ count
count_read {E} r n count digits was fits is h =
    let read : r ≡ Ok count = parse-decimal {E = E} 64 count digits r fits fits is h in
    let both : ◌≡◌ {A = Result ℕ E} (Ok n) (Ok count) = sym was ∙ read in
    cc

-- the number that was read is that of the digits
pub number_read : {E : Type 0} (r : Result ℕ E) (count : ℕ) (digits : List ℕ) → r ≡ Ok count → ParsesUnsigned 64 10 digits r → IsNumber digits count
number_read {E} r count digits was h =
    let both : ParsesUnsigned {E = E} 64 10 digits (Ok count) = subst (λ (q : Result ℕ E). ParsesUnsigned 64 10 digits q) was h in
    record {
      numeral = both.0.0;
      value = sym both.1;
      fits = subst (λ (n : ℕ). n < 2 ^ 64) (sym both.1) both.0.1;
    }

-- digits have no byte that is none
pub no_digit : (k : ℕ) → ¬ (digit_value k < 10) → (ds : List ℕ) → AllDigits 10 ds → All (λ y. y ≢ k) ds
no_digit k other [] all = All-nil (λ y. y ≢ k)
no_digit k other (d ∷ ds) all = All-cons (λ y. y ≢ k) d ds (λ is. other (subst (λ (x : ℕ). digit_value x < 10) is all.0)) (no_digit k other ds all.1)

-- a line that was split at its first tab is read as what the parts are
pub line_read : (line token : List ℕ) (count : ℕ) (written digits : Bor (List ℕ)) → IsSplitOnceResult 9 line (Some (written, digits))
    → unescaped false written.now ≡ Some token → IsNumber digits.now count → IsLineOf line token count
line_read line token count written digits h means number =
    let parts = split_parts 9 line (Some (written, digits)) h (omega arith) in
    record {
      written = written.now;
      digits = digits.now;
      parts = parts.0;
      first = parts.1;
      means = means;
      number = number;
    }

-- the next byte of a list
pub next_byte : (xs : List ℕ) (i : ℕ) → i < length xs → drop i xs ≡ get_or xs i 0 ∷ drop (i + 1) xs
next_byte xs i below = let next : suc i ≡ i + 1 = omega arith in drop-cons xs i 0 below ∙ ap (λ (k : ℕ). get_or xs i 0 ∷ drop k xs) next
