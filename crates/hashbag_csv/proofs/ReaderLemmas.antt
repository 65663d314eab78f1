-- What a reader has left, and what a read takes of it.
use Rattle.std.proofs.Common.{◌≡◌, ◌<◌, ◌≤◌, ◌+◌, ◌-◌, ℕ, zero, suc, Bool, true, false, cond, not, nat_eq, ◌==◌, ◌&&◌, List, [], ◌∷◌, ◌++◌, take, drop, length, get_or, Option, Some, None, MatchOption, Bor, inl, inr, refl, sym, ◌∙◌, ap, arith}
use Rattle.std.specs.Prelude.{option_map, unwrap_or}
use Rattle.std.specs.Io.KnownBytes.{prepend_known}
use Rattle.std.specs.Cmp.Lexicographic.{pointwise}
use Rattle.std.proofs.lemmas.Bool.{cases_Bool}
use Rattle.csv.specs.Machine.{Read, ends_at_end, is_end, next_record, step}
use Rattle.csv.specs.Reading.{Reached, ReadRecord, Ready, has_failed, reader_state, records, records_from, records_next, source_of, strip_bom, took_first}
use Rattle.csv.specs.Records.{field_at}
use Rattle.csv.specs.declared.parser.Config.{Config}
use Rattle.csv.specs.declared.parser.State.{State}
use Rattle.csv.specs.declared.parser.State.TheVariants as st
use Rattle.csv.specs.declared.reader.Reader.{Reader}
use Rattle.csv.proofs.ReadFacts.{rows-end, rows-more}
use Rattle.hashbag_csv.specs.Readers.{IsNext, IsReader, Record, config_of, records_after, records_left}
use Rattle.hashbag_csv.specs.declared.delimiter.Delimiter.{Delimiter}

-- ---- a field by its place

field_or : (fields : List (List ℕ)) (i : ℕ) → unwrap_or (field_at fields i) [] ≡ get_or fields i []
unfolding field_at
field_or [] i = refl
field_or (f ∷ fs) zero = refl
field_or (f ∷ fs) (suc i) = field_or fs i

now_or : (o : Option (Bor (List ℕ))) (d : Bor (List ℕ)) → d.now ≡ [] → (unwrap_or o d).now ≡ unwrap_or (option_map (λ s. s.now) o) []
now_or None d none = none
now_or (Some x) d none = refl

pub bytes_or : (fields : List (List ℕ)) (i : ℕ) (o : Option (Bor (List ℕ))) (d r : Bor (List ℕ)) → d.now ≡ [] → option_map (λ s. s.now) o ≡ field_at fields i → r ≡ unwrap_or o d → r.now ≡ get_or fields i []
bytes_or fields i o d r none is got = ap (λ (x : Bor (List ℕ)). x.now) got ∙ now_or o d none ∙ ap (λ (x : Option (List ℕ)). unwrap_or x []) is ∙ field_or fields i

-- ---- a byte order mark

abbrev mark_of : List ℕ → Bool
mark_of s = pointwise nat_eq (take 3 s) (0xEF ∷ 0xBB ∷ 0xBF ∷ [])

mark_cut : (s : List ℕ) → strip_bom s ≡ cond (mark_of s) (drop 3 s) s
unfolding strip_bom
mark_cut [] = refl
mark_cut (a ∷ []) = elim (cases_Bool (nat_eq a 0xEF)) [ inl y ↦ rw y refl | inr n ↦ rw n refl ]
mark_cut (a ∷ b ∷ []) = elim (cases_Bool (nat_eq a 0xEF)) [
  | inl y ↦ elim (cases_Bool (nat_eq b 0xBB)) [ inl z ↦ rw (y, z) refl | inr m ↦ rw (y, m) refl ]
  | inr n ↦ rw n refl
]
mark_cut (a ∷ b ∷ c ∷ rest) = elim (cases_Bool (nat_eq a 0xEF)) [
  | inl y ↦ elim (cases_Bool (nat_eq b 0xBB)) [
    | inl z ↦ elim (cases_Bool (nat_eq c 0xBF)) [ inl w ↦ rw (y, z, w) refl | inr k ↦ rw (y, z, k) refl ]
    | inr m ↦ rw (y, m) refl
  ]
  | inr n ↦ rw n refl
]

-- a text without the mark, if it begins with one
pub cut_is : (s : List ℕ) (o : Option (Bor (List ℕ))) (d r : Bor (List ℕ)) → d.now ≡ s
    → MatchOption o (mark_of s ≡ false) (λ x. (mark_of s ≡ true) × (x.now ≡ drop 3 s) × (length x.now + 3 ≡ length s))
    → r ≡ unwrap_or o d → r.now ≡ strip_bom s
cut_is s None d r same m got = ap (λ (x : Bor (List ℕ)). x.now) got ∙ same ∙ sym (mark_cut s ∙ ap (λ (b : Bool). cond b (drop 3 s) s) m)
cut_is s (Some x) d r same m got = ap (λ (y : Bor (List ℕ)). y.now) got ∙ m.1 ∙ sym (mark_cut s ∙ ap (λ (b : Bool). cond b (drop 3 s) s) m.0)

-- ---- the records of a text, one by one

-- a record takes at least one byte, if there is one
shorter : (cfg : Config) (s : State) (fields : List (List ℕ)) (field xs : List ℕ) (r : Read) → next_record cfg s fields field xs ≡ Some r → length r.2 ≤ length xs - 1
unfolding next_record
shorter cfg s fields field [] r is = elim (cases_Bool (ends_at_end s)) [
  | inl y ↦ let e = rw y at is in let same : r.2 ≡ [] = cc e in rw same (omega arith)
  | inr n ↦ let e = rw n at is in cc e
]
shorter cfg s fields field (c ∷ rest) r is = elim (cases_Bool (is_end (step cfg s c).1)) [
  | inl y ↦ let e = rw y at is in let same : r.2 ≡ rest = cc e in rw same (omega arith)
  | inr n ↦ let less = shorter cfg (step cfg s c).0 _ _ rest r (rw n at is) in omega (arith, less)
]

-- at the end of a text a record is the last one
last_is : (cfg : Config) (s : State) (r : Read) → next_record cfg s [] [] [] ≡ Some r → (r.1 ≡ st.StartRecord) × (r.2 ≡ [])
unfolding next_record
last_is cfg s r is = elim (cases_Bool (ends_at_end s)) [
  | inl y ↦ let e = rw y at is in (cc e, cc e)
  | inr n ↦ let e = rw n at is in cc e
]

none_left : (cfg : Config) (n : ℕ) → records_from cfg n st.StartRecord [] ≡ []
unfolding records_from next_record
none_left cfg zero = refl
none_left cfg (suc n) = refl

none_after : (cfg : Config) (n : ℕ) (r : Read) → (r.1 ≡ st.StartRecord) × (r.2 ≡ []) → records_from cfg n r.1 r.2 ≡ []
none_after cfg n r last = rw (last.0, last.1) (none_left cfg n)

-- no more turns are needed than there are bytes, and one
turns : (cfg : Config) (n m : ℕ) (s : State) (xs : List ℕ) → length xs < n → length xs < m → records_from cfg n s xs ≡ records_from cfg m s xs
unfolding records_from
turns cfg zero m s xs few more = absurd (omega (arith, few))
turns cfg (suc n) zero s xs few more = absurd (omega (arith, more))
turns cfg (suc n) (suc m) s [] few more = by (next_record cfg s [] [] []) refl
  where
    by : (o : Option Read) → next_record cfg s [] [] [] ≡ o → records_next (records_from cfg n) o ≡ records_next (records_from cfg m) o
    by None is = refl
    by (Some r) is = let last = last_is cfg s r is in ap (λ (l : List Record). r.0 ∷ l) (none_after cfg n r last ∙ sym (none_after cfg m r last))
turns cfg (suc n) (suc m) s (x ∷ xs) few more = by (next_record cfg s [] [] (x ∷ xs)) refl (λ s' ys less. turns cfg n m s' ys (omega (arith, few, less)) (omega (arith, more, less)))
  where
    by : (o : Option Read) → next_record cfg s [] [] (x ∷ xs) ≡ o → ((s' : State) (ys : List ℕ) → length ys ≤ length xs → records_from cfg n s' ys ≡ records_from cfg m s' ys)
        → records_next (records_from cfg n) o ≡ records_next (records_from cfg m) o
    by None is again = refl
    by (Some r) is again = let less = shorter cfg s [] [] (x ∷ xs) r is in ap (λ (l : List Record). r.0 ∷ l) (again r.1 r.2 (omega (arith, less)))

first_of : (cfg : Config) (s : State) (xs : List ℕ) (r : Read) → next_record cfg s [] [] xs ≡ Some r → records_after cfg s (Some xs) ≡ r.0 ∷ records_after cfg r.1 (Some r.2)
unfolding records_from
first_of cfg s [] r is =
    let last = last_is cfg s r is in
    ap (records_next (records_from cfg 0)) is ∙ ap (λ (l : List Record). r.0 ∷ l) (sym (none_after cfg (length r.2 + 1) r last))
first_of cfg s (x ∷ xs) r is =
    let less = shorter cfg s [] [] (x ∷ xs) r is in
    turns cfg (length (x ∷ xs) + 1) (suc (suc (length xs))) s (x ∷ xs) (omega arith) (omega arith)
    ∙ ap (records_next (records_from cfg (suc (length xs)))) is
    ∙ ap (λ (l : List Record). r.0 ∷ l) (turns cfg (suc (length xs)) (length r.2 + 1) r.1 r.2 (omega (arith, less)) (omega arith))

none_of : (cfg : Config) (s : State) (xs : List ℕ) → next_record cfg s [] [] xs ≡ None → records_after cfg s (Some xs) ≡ []
unfolding records_from
none_of cfg s xs is = turns cfg (length xs + 1) (suc (length xs)) s xs (omega arith) (omega arith) ∙ ap (records_next (records_from cfg (length xs))) is

-- ---- a reader over a slice

abbrev slice : Bor (List ℕ) → Option (List ℕ)
slice b = Some b.now

-- what it has left is known
known : (r : Reader (Bor (List ℕ))) → has_failed r ≡ false → (y : List ℕ) × (source_of slice r ≡ Some y)
known r fine = rw fine (by (not r.bom_checked && (r.at == 0) && (r.filled == 0)))
  where
    by : (b : Bool) → (y : List ℕ) × (cond b (option_map strip_bom (slice r.rdr)) (prepend_known (drop r.at (take r.filled r.buffer)) (slice r.rdr)) ≡ Some y)
    by true = (strip_bom r.rdr.now, refl)
    by false = (drop r.at (take r.filled r.buffer) ++ r.rdr.now, refl)

pub read_next : (d : Delimiter) (a b : Reader (Bor (List ℕ))) (found : Bool) (fields : Record) → IsReader d a → has_failed a ≡ false
    → ReadRecord slice a b found fields → IsNext found fields (records_left d a) (records_left d b)
unfolding Reached
read_next d a b true fields reads fine read =
    let (y, left) = known a fine in
    let more = rows-more slice a b fields (config_of d) a.state y y [] reads.0 left (refl, refl) read in
    let (p, is, first, ends) = more.2 in
    ap (records_after (config_of d) a.state) left ∙ first_of (config_of d) a.state y p is
    ∙ (λ i. sym first i ∷ records_after (config_of d) (ends.0 i) (Some (ends.1 i))) ∙ ap (λ (o : Option (List ℕ)). fields ∷ records_after (config_of d) b.state o) (sym more.1)
read_next d a b false fields reads fine read =
    let (y, left) = known a fine in
    ap (records_after (config_of d) a.state) left ∙ none_of (config_of d) a.state y (rows-end slice a b fields (config_of d) y reads.0 left read)

-- after a failed read no record is left
pub failed_next : (d : Delimiter) (a b : Reader (Bor (List ℕ))) (fields : Record) → has_failed a ≡ true → IsNext false fields (records_left d a) (records_left d b)
failed_next d a b fields failed = rw failed refl

pub is_ready : (d : Delimiter) (r : Reader (Bor (List ℕ))) → IsReader d r → Ready r
is_ready d r (config, trim, flexible, named, fresh) = elim (cases_Bool (took_first r)) [
  | inl y ↦ inl y
  | inr n ↦ inr (inr (named, fresh n))
]

-- a reader that has read nothing has all records of its text left
pub unread : (d : Delimiter) (r : Reader (Bor (List ℕ))) (text : List ℕ) → reader_state r ≡ st.StartRecord → source_of slice r ≡ Some text → records_left d r ≡ records (config_of d) text
unread d r text state source = λ i. records_after (config_of d) (state i) (source i)
