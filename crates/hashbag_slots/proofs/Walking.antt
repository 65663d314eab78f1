-- The entries that are still to come.
use Rattle.std.proofs.Common.{◌≡◌, ◌≢◌, ℕ, zero, suc, ◌+◌, ◌-◌, ◌/◌, ◌%◌, ◌<◌, ◌≤◌, Bool, true, false, cond, leb, nat_eq, List, [], ◌∷◌, ◌++◌, length, drop, map, get_or, Some, refl, ap, subst, ◌∙◌, inl, inr, arith}
use Rattle.std.specs.List.{filter}
use Rattle.std.proofs.lemmas.List.{drop_all}
use Rattle.std.proofs.lemmas.Bool.{cases_lt, le-leb, lt-leb, leb-true, leb-false}
use Rattle.std.proofs.lemmas.Bool.Decides.{eqb_tells}
use Rattle.std.proofs.lemmas.List.Sums.{sum_by-cons}
use Rattle.std.specs.Slice.Scan.{IsFirstPlace}
use Rattle.core.specs.Iterator.{MakesProgress, at_most}
use Rattle.hashbag_slots.specs.declared.live.Course.{Course}
use Rattle.hashbag_slots.specs.declared.slots.Slot.{Slot}
use Rattle.hashbag_slots.specs.declared.slots.Slot.TheVariants.{Empty, Removed, Moved, Live}
use Rattle.hashbag_slots.specs.Columns.{tag_at}
use Rattle.hashbag_slots.specs.Group.{IsMaskOf, from_place_on}
use Rattle.hashbag_slots.specs.Walks.{pass_of, of_turn, live_places, live_places_from, in_pass, turns, places_left, NoneLive, IsNextOn}
use Rattle.hashbag_slots.specs.Slots.{is_live, live_count, entries}

-- an item that was given is one fewer to come
pub one_goes : {A B : Type 0} (before after : List B) (b : B) (x : A) → before ≡ b ∷ after → MakesProgress {A = A} (λ _. Unit {0}) (λ s. at_most (length s)) before (Some x) after
one_goes before after b x h = record { on = λ f. (tt, tt, let l = ap length h in omega arith); keeps = tt; rests = λ f. tt }

pub live_entry : {T : Type 0} (s : Slot T) → is_live s ≡ true → (v : T) × (n : ℕ) × (s ≡ Live v n)
live_entry Empty h = absurd (cc)
live_entry Removed h = absurd (cc)
live_entry Moved h = absurd (cc)
live_entry (Live v n) h = (v, n, refl)

module _ {T : Type 0} where
  pub length-entries_live : (ss : List (Slot T)) → length (entries ss) ≡ live_count ss
  length-entries_live [] = refl
  length-entries_live (s ∷ ss) =
      let more = sum_by-cons (λ x. cond (is_live x) 1 0) s ss in step s (length-entries_live ss) more where
        step : (s : Slot T) → length (entries ss) ≡ live_count ss → live_count (s ∷ ss) ≡ cond (is_live s) 1 0 + live_count ss → length (entries (s ∷ ss)) ≡ live_count (s ∷ ss)
        step Empty e m = omega (arith, e, m)
        step Removed e m = omega (arith, e, m)
        step Moved e m = omega (arith, e, m)
        step (Live v n) e m = omega (arith, e, m)

-- whether the slot at a place is Live
abbrev pub is_fingerprint : List ℕ → ℕ → Bool
is_fingerprint ts p = leb 128 (tag_at ts p)

fingerprints_at : (ts : List ℕ) (m n : ℕ) → live_places m (drop n ts) ≡ cond (leb 128 (get_or ts n 0)) (m ∷ live_places (suc m) (drop (suc n) ts)) (live_places (suc m) (drop (suc n) ts))
fingerprints_at [] m zero = refl
fingerprints_at [] m (suc n) = refl
fingerprints_at (t ∷ ts) m zero = refl
fingerprints_at (t ∷ ts) m (suc n) = fingerprints_at ts m n

pub of_turn-odd : {X : Type 0} (turn : ℕ) (newer older : X) → turn % 2 ≡ 1 → of_turn turn newer older ≡ newer
of_turn-odd turn newer older is = elim (eqb_tells (turn % 2) 1) [
  | inl same ↦ ap (λ b. cond b newer older) same.0
  | inr other ↦ absurd (other.1 is)
]

pub of_turn-even : {X : Type 0} (turn : ℕ) (newer older : X) → turn % 2 ≢ 1 → of_turn turn newer older ≡ older
of_turn-even turn newer older not = elim (eqb_tells (turn % 2) 1) [
  | inl same ↦ absurd (not same.1)
  | inr other ↦ ap (λ b. cond b newer older) other.0
]

pub filter_out : (f : ℕ → Bool) (x : ℕ) (xs : List ℕ) → f x ≡ false → filter f (x ∷ xs) ≡ filter f xs
filter_out f x xs h = ap (λ b. cond b (x ∷ filter f xs) (filter f xs)) h

pub filter_in : (f : ℕ → Bool) (x : ℕ) (xs : List ℕ) → f x ≡ true → filter f (x ∷ xs) ≡ x ∷ filter f xs
filter_in f x xs h = ap (λ b. cond b (x ∷ filter f xs) (filter f xs)) h

-- the slots of 16 that begin at a multiple of 16 are of one pass
pub same_pass : (at p : ℕ) → at % 16 ≡ 0 → at ≤ p → p < at + 16 → pass_of p ≡ pass_of at
same_pass at p sixteen a b = let e : p / 256 ≡ at / 256 = omega arith in ap (λ k. k % 3) e

-- the group after one that doesn't end its block is of the same pass
pub in_block : (at : ℕ) → at % 16 ≡ 0 → (at + 16) % 256 ≢ 0 → pass_of (at + 16) ≡ pass_of at
in_block at sixteen inside = let e : (at + 16) / 256 ≡ at / 256 = omega arith in ap (λ k. k % 3) e

-- after the last group of a block the next one of its pass begins the third block
pub third_block : (at : ℕ) → (at + 16) % 256 ≡ 0 → pass_of (at + 16 + 512) ≡ pass_of at
third_block at ends = omega arith

-- the two blocks between aren't of the pass
pub other_pass : (at p pass : ℕ) → (at + 16) % 256 ≡ 0 → pass_of at ≡ pass → at + 16 ≤ p → p < at + 16 + 512 → pass_of p ≢ pass
other_pass at p pass ends here a b is = omega arith

module _ (ts : List ℕ) (pass : ℕ) where
  skip_one : (n : ℕ) → (pass_of n ≡ pass → tag_at ts n < 128) → in_pass pass (live_places_from n ts) ≡ in_pass pass (live_places_from (suc n) ts)
  skip_one n low =
      let rest = live_places_from (suc n) ts in let f : ℕ → Bool = λ p. nat_eq (pass_of p) pass in
      ap (in_pass pass) (fingerprints_at ts n n) ∙ elim (cases_lt (tag_at ts n) 128) [
        | inl lt ↦ ap (λ b. in_pass pass (cond b (n ∷ rest) rest)) (lt-leb 128 (tag_at ts n) lt)
        | inr ge ↦ ap (λ b. in_pass pass (cond b (n ∷ rest) rest)) (le-leb 128 (tag_at ts n) ge) ∙ elim (eqb_tells (pass_of n) pass) [
          | inl same ↦ absurd (let l = low same.1 in omega arith)
          | inr other ↦ filter_out f n rest other.0
        ]
      ]

  -- slots that are not of the pass or not Live are passed
  pub skip : (k from : ℕ) → ((q : ℕ) → from ≤ q → q < from + k → pass_of q ≡ pass → tag_at ts q < 128) → in_pass pass (live_places_from from ts) ≡ in_pass pass (live_places_from (from + k) ts)
  skip zero from low = let e : from ≡ from + 0 = omega arith in ap (λ n. in_pass pass (live_places_from n ts)) e
  skip (suc k) from low =
      let e : suc from + k ≡ from + suc k = omega arith in
      skip_one from (low from (omega arith) (omega arith)) ∙ skip k (suc from) (λ q a b. low q (omega arith) (omega arith)) ∙ ap (λ n. in_pass pass (live_places_from n ts)) e

  -- a Live slot of the pass comes
  pub comes : (p : ℕ) → 128 ≤ tag_at ts p → pass_of p ≡ pass → in_pass pass (live_places_from p ts) ≡ p ∷ in_pass pass (live_places_from (p + 1) ts)
  comes p live is =
      let rest = live_places_from (suc p) ts in let f : ℕ → Bool = λ q. nat_eq (pass_of q) pass in let e : suc p ≡ p + 1 = omega arith in
      ap (in_pass pass) (fingerprints_at ts p p) ∙ ap (λ b. in_pass pass (cond b (p ∷ rest) rest)) (le-leb 128 (tag_at ts p) live) ∙ elim (eqb_tells (pass_of p) pass) [
        | inl same ↦ filter_in f p rest same.0
        | inr other ↦ absurd (other.1 is)
      ] ∙ ap (λ n. p ∷ in_pass pass (live_places_from n ts)) e

  pub none_comes : (from : ℕ) → NoneLive ts pass from → in_pass pass (live_places_from from ts) ≡ []
  none_comes from none =
      skip (length ts) from (λ q a b. none q a) ∙ ap (λ us. in_pass pass (live_places (from + length ts) us)) (drop_all (from + length ts) ts (omega arith))

module _ (newer older : List ℕ) where
  -- what is left of a turn from `from` on is what is left of it from `to` on, where no slot between is Live
  pub left_skip : (turn from to : ℕ) → from ≤ to → ((q : ℕ) → from ≤ q → q < to → pass_of q ≡ turn / 2 → tag_at (of_turn turn newer older) q < 128) → places_left turn from newer older ≡ places_left turn to newer older
  left_skip turn from to le low =
      let e : from + (to - from) ≡ to = omega arith in
      ap (λ ps. map (λ p. (turn, p)) ps ++ turns turn newer older) (skip (of_turn turn newer older) (turn / 2) (to - from) from (λ q a b. low q a (omega arith)) ∙ ap (λ n. in_pass (turn / 2) (live_places_from n (of_turn turn newer older))) e)

  pub left_comes : (turn p : ℕ) → 128 ≤ tag_at (of_turn turn newer older) p → pass_of p ≡ turn / 2 → places_left turn p newer older ≡ (turn, p) ∷ places_left turn (p + 1) newer older
  left_comes turn p live is = ap (λ ps. map (λ p. (turn, p)) ps ++ turns turn newer older) (comes (of_turn turn newer older) (turn / 2) p live is)

  -- where no slot of a turn is Live, the next turn comes
  pub turn_ends : (turn next from : ℕ) → turn ≡ suc next → NoneLive (of_turn turn newer older) (turn / 2) from → places_left turn from newer older ≡ places_left next 0 newer older
  turn_ends turn next from e none =
      ap (λ ps. map (λ p. (turn, p)) ps ++ turns turn newer older) (none_comes (of_turn turn newer older) (turn / 2) from none) ∙ ap (λ t. turns t newer older) e

  pub last_ends : (turn from : ℕ) → turn ≡ 0 → NoneLive (of_turn turn newer older) (turn / 2) from → places_left turn from newer older ≡ []
  last_ends turn from e none =
      ap (λ ps. map (λ p. (turn, p)) ps ++ turns turn newer older) (none_comes (of_turn turn newer older) (turn / 2) from none) ∙ ap (λ t. turns t newer older) e

  -- a walk comes to a place, of the 16 from `base` on
  pub next_on : (turn next base place rest : ℕ) → base % 16 ≡ 0 → base ≤ next → next ≤ base + 16 → base + 16 ≤ length (of_turn turn newer older) → pass_of base ≡ turn / 2
      → place < base + 16 → IsFirstPlace (is_fingerprint (of_turn turn newer older)) next (base + 16) place → IsMaskOf (from_place_on (is_fingerprint (of_turn turn newer older)) (place + 1)) base (base + 16) rest
      → IsNextOn newer older turn next place (record { turn = turn; next = place + 1; ahead = rest; until = base + 16 })
  next_on turn next base place rest sixteen begun near within is below first tells =
      let ts = of_turn turn newer older in let low = first.low in let live = leb-true 128 (tag_at ts place) (first.hit below) in
      let here = same_pass base place sixteen (omega arith) below ∙ is in
      let back : base ≡ base + 16 - 16 = omega arith in
      record {
        within = omega arith;
        live = live;
        on_pass = here;
        after = refl;
        first = left_skip turn next place low (λ q a b i. leb-false 128 (tag_at ts q) (first.before q a b)) ∙ left_comes turn place live here;
        course = record {
          mask = subst (λ b. IsMaskOf (from_place_on (is_fingerprint ts) (place + 1)) b (base + 16) rest) back tells;
          whole = λ some. omega arith;
          from = omega arith;
          near = omega arith;
          within = within;
          sixteen = omega arith;
          on_pass = λ p a b. same_pass base p sixteen (omega arith) b ∙ is;
          goes_on = λ inside. in_block base sixteen inside ∙ is;
        };
      }

  -- from an earlier place on, where no slot between is Live
  pub next_on_earlier : (earlier turn next from place : ℕ) (c : Course) → places_left earlier next newer older ≡ places_left turn from newer older → IsNextOn newer older turn from place c → IsNextOn newer older earlier next place c
  next_on_earlier earlier turn next from place c same on = record { within = on.within; live = on.live; on_pass = on.on_pass; after = on.after; first = same ∙ on.first; course = on.course }
