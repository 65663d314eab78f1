-- The first bytes of texts as numbers: those of texts in ascending order never descend.
use Rattle.std.proofs.Common.{◌≡◌, ℕ, zero, suc, ◌+◌, ◌-◌, ◌*◌, ◌<◌, ◌≤◌, List, [], ◌∷◌, get_or, drop, Ordering, Less, Equal, Greater, nat_cmp, refl, sym, ◌∙◌, ap, subst, arith}
use Rattle.std.specs.Cmp.{ranks}
use Rattle.std.specs.Cmp.Lexicographic.{slice_cmp}
use Rattle.std.specs.Ordering.{MatchOrdering, ordering_then}
use native.Mathlib.Numerals.{unary_clauses}
use Rattle.hashbag_words_lib.specs.Prefix.{lead, IsPrefixOf}

-- 256 to the power of n
abbrev pub bound : ℕ → ℕ
bound zero = 1
bound (suc n) = bound n * 256

-- the next byte goes to the end of the number
pub lead_next : (i n number : ℕ) (text : List ℕ) → lead number (suc n) (drop i text) ≡ lead (number * 256 + get_or text i 0) n (drop (suc i) text)
lead_next zero n number [] = simp unary_clauses refl
lead_next (suc i) n number [] = simp unary_clauses refl
lead_next zero n number (byte ∷ text) = refl
lead_next (suc i) n number (byte ∷ text) = lead_next i n number text

-- one of eight bytes goes from those that are left to the number
pub byte_moved : (text : List ℕ) (from i number byte : ℕ) → i < 8 → byte ≡ get_or text (from + i) 0 → lead (number * 256 + byte) (8 - (i + 1)) (drop (from + (i + 1)) text) ≡ lead number (8 - i) (drop (from + i) text)
byte_moved text from i number byte low is =
    let few : 8 - i ≡ suc (8 - (i + 1)) = omega arith in
    let next : suc (from + i) ≡ from + (i + 1) = omega arith in
    ap (λ b. lead (number * 256 + b) (8 - (i + 1)) (drop (from + (i + 1)) text)) is
    ∙ ap (λ m. lead (number * 256 + get_or text (from + i) 0) (8 - (i + 1)) (drop m text)) (sym next)
    ∙ sym (lead_next (from + i) (8 - (i + 1)) number text)
    ∙ ap (λ n. lead number n (drop (from + i) text)) (sym few)

pub bound_next : (i number byte : ℕ) → number < bound i → byte < 256 → number * 256 + byte < bound (i + 1)
bound_next i number byte under small = let more : suc i ≡ i + 1 = omega arith in subst (λ m. number * 256 + byte < bound m) more (omega arith)

-- before the eighth byte there is room for one more
pub room : (i : ℕ) → i < 8 → bound i ≤ 72057594037927936
room zero few = omega arith
room (suc zero) few = omega arith
room (suc (suc zero)) few = omega arith
room (suc (suc (suc zero))) few = omega arith
room (suc (suc (suc (suc zero)))) few = omega arith
room (suc (suc (suc (suc (suc zero))))) few = omega arith
room (suc (suc (suc (suc (suc (suc zero)))))) few = omega arith
room (suc (suc (suc (suc (suc (suc (suc zero))))))) few = omega arith
room (suc (suc (suc (suc (suc (suc (suc (suc i)))))))) few = absurd (omega arith)

abbrev pub AreBytes : List ℕ → Type 0
AreBytes text = (k : ℕ) → get_or text k 0 < 256

-- a lesser number stays less, whatever comes behind it
below_later : (n a b : ℕ) (us vs : List ℕ) → AreBytes us → a < b → lead a n us < lead b n vs
below_later zero a b us vs bytes less = less
below_later (suc n) a b [] [] bytes less = below_later n (a * 256) (b * 256) [] [] bytes (omega arith)
below_later (suc n) a b [] (v ∷ vs) bytes less = below_later n (a * 256) (b * 256 + v) [] vs bytes (omega arith)
below_later (suc n) a b (u ∷ us) [] bytes less = let small : u < 256 = bytes 0 in below_later n (a * 256 + u) (b * 256) us [] (λ k. bytes (suc k)) (omega arith)
below_later (suc n) a b (u ∷ us) (v ∷ vs) bytes less = let small : u < 256 = bytes 0 in below_later n (a * 256 + u) (b * 256 + v) us vs (λ k. bytes (suc k)) (omega arith)

-- so does one that isn't greater, if nothing comes behind it
nothing_behind : (n a b : ℕ) (vs : List ℕ) → a ≤ b → lead a n [] ≤ lead b n vs
nothing_behind zero a b vs up = up
nothing_behind (suc n) a b [] up = nothing_behind n (a * 256) (b * 256) [] (omega arith)
nothing_behind (suc n) a b (v ∷ vs) up = nothing_behind n (a * 256) (b * 256 + v) vs (omega arith)

-- a text whose first bytes are less comes before
pub lead_rises : (n number : ℕ) (us vs : List ℕ) → AreBytes vs → lead number n us < lead number n vs → slice_cmp nat_cmp us vs ≡ Less
lead_rises zero number us vs bytes up = absurd (omega arith)
lead_rises (suc n) number [] [] bytes up = absurd (omega arith)
lead_rises (suc n) number [] (v ∷ vs) bytes up = refl
lead_rises (suc n) number (u ∷ us) [] bytes up = let other = nothing_behind n (number * 256) (number * 256 + u) us (omega arith) in absurd (omega arith)
lead_rises (suc n) number (u ∷ us) (v ∷ vs) bytes up =
    by (nat_cmp u v) refl (ranks u v) (λ same. lead_rises n (number * 256 + u) us vs (λ k. bytes (suc k)) (subst (λ byte. lead (number * 256 + u) n us < lead (number * 256 + byte) n vs) (sym same) up))
  where
    by : (r : Ordering) → nat_cmp u v ≡ r → MatchOrdering r (u < v) (u ≡ v) (v < u) → (u ≡ v → slice_cmp nat_cmp us vs ≡ Less) → ordering_then (nat_cmp u v) (slice_cmp nat_cmp us vs) ≡ Less
    by Less e h rest = ap (λ r. ordering_then r (slice_cmp nat_cmp us vs)) e
    by Equal e h rest = ap (λ r. ordering_then r (slice_cmp nat_cmp us vs)) e ∙ rest h
    by Greater e h rest =
        let over : v < u = h in
        let other = below_later n (number * 256 + v) (number * 256 + u) vs us (λ k. bytes (suc k)) (omega arith) in
        absurd (omega arith)

-- of two texts the one whose first bytes are less comes first
pub lesser_prefix : (m n : ℕ) (us vs : List ℕ) → IsPrefixOf m us → IsPrefixOf n vs → m < n → slice_cmp nat_cmp us vs ≡ Less
lesser_prefix m n us vs at_us at_vs less = lead_rises 8 0 us vs at_vs.bytes (subst (λ k. k < lead 0 8 vs) at_us.value (subst (λ k. m < k) at_vs.value less))
