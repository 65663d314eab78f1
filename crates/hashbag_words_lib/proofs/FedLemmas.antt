-- A block that is fed line by line to a counter, whatever it counts.
use Rattle.std.proofs.Common.{◌≡◌, ℕ, ◌+◌, ◌-◌, ◌<◌, ◌≤◌, List, [], ◌∷◌, ◌++◌, length, take, drop, Option, Some, refl, sym, ◌∙◌, ap, subst, arith, length-append, append_assoc}
use Rattle.std.proofs.lemmas.List.{append-nil, take_rest}
use Rattle.hashbag_words_lib.specs.Counted.{NoLineFeed}
use Rattle.hashbag_words_lib.proofs.CountedLemmas.{one_found}
use Rattle.memchr.specs.Find.{IsFirstByte, is_byte}

-- ---- the rest of a block

-- the rest behind a line feed at this place
abbrev pub behind : List ℕ → ℕ → List ℕ
behind rest at = take (length rest - (at + 1)) (drop (at + 1) rest)

-- the first line feed is at this place
pub record EndsAt (rest : List ℕ) (at : ℕ) : Type 0 where
  pub none : NoLineFeed (take at rest)
  pub cut : rest ≡ take at rest ++ 10 ∷ behind rest at
  pub within : at < length rest

pub ends_at : {r : Option ℕ} {at : ℕ} (rest : List ℕ) → r ≡ Some at → IsFirstByte (is_byte 10) rest r → EndsAt rest at
ends_at {r} {at} rest is h =
    let found = one_found r at rest is h in
    record { none = found.0; cut = found.1 ∙ ap (λ (l : List ℕ). take at rest ++ 10 ∷ l) (sym (take_rest rest (at + 1))); within = found.2 }

-- ---- a block of which some bytes were fed

-- what was before holds of each text, and what is now of that text and the bytes of the block before the rest
abbrev Eaten : (List ℕ → Type 0) → (List ℕ → Type 0) → List ℕ → List ℕ → Type 0
Eaten Old New block rest = (eaten : List ℕ) × (block ≡ eaten ++ rest) × ((text : List ℕ) → Old text → New (text ++ eaten))

Eaten-more : (P Q R : List ℕ → Type 0) (block rest front left : List ℕ) → rest ≡ front ++ 10 ∷ left → ((text : List ℕ) → Q text → R (text ++ (front ++ 10 ∷ []))) → Eaten P Q block rest → Eaten P R block left
Eaten-more P Q R block rest front left cut step h = (
  h.0 ++ (front ++ 10 ∷ []),
  h.1 ∙ ap (λ (l : List ℕ). h.0 ++ l) (cut ∙ sym (append_assoc front (10 ∷ []) left)) ∙ sym (append_assoc h.0 (front ++ 10 ∷ []) left),
  λ text p. subst R (append_assoc text h.0 (front ++ 10 ∷ [])) (step (text ++ h.0) (h.2 text p)),
)

Eaten-long : (P Q : List ℕ → Type 0) (block rest : List ℕ) → Eaten P Q block rest → length rest ≤ length block
Eaten-long P Q block rest h = let parts : length block ≡ length h.0 + length rest = ap length h.1 ∙ length-append h.0 rest in omega (arith, parts)

-- whatever was counted before: the new counter has the bytes of the block before the rest, too
pub record Feeds {B C : Type 0} (Has : B → C → List ℕ → Type 0) (old now : C) (block rest : List ℕ) : Type 0 where
  pub eats : (before : B) → Eaten (Has before old) (Has before now) block rest

pub feeds_none : {B C : Type 0} (Has : B → C → List ℕ → Type 0) (now : C) (block : List ℕ) → Feeds Has now now block block
feeds_none Has now block = record { eats = λ before. ([], refl, λ text h. subst (Has before now) (sym (append-nil text)) h) }

module _ {B C : Type 0} {Has : B → C → List ℕ → Type 0} {old now : C} {block rest : List ℕ} (feeds : Feeds Has old now block rest) where
  -- the rest is kept
  pub feeds_all : (Q : B → List ℕ → Type 0) → ((before : B) (text : List ℕ) → Has before now text → Q before (text ++ rest))
      → (before : B) (text : List ℕ) → Has before old text → Q before (text ++ block)
  feeds_all Q keeps before text p =
      let h = feeds.eats before in
      subst (Q before) (append_assoc text h.0 rest ∙ ap (λ (l : List ℕ). text ++ l) (sym h.1)) (keeps before (text ++ h.0) (h.2 text p))

  module _ {at : ℕ} (found : EndsAt rest at) where
    -- one line more is counted
    pub feeds_more : (new : C) → ((before : B) (text : List ℕ) → Has before now text → Has before new (text ++ (take at rest ++ 10 ∷ []))) → Feeds Has old new block (behind rest at)
    feeds_more new step = record {
      eats = λ before.
          Eaten-more (Has before old) (Has before now) (Has before new) block rest (take at rest) (behind rest at) found.cut (step before) (feeds.eats before);
    }

    -- the line is within the block
    pub feeds_at : B → at < length block
    feeds_at before =
        let within : length rest ≤ length block = Eaten-long (Has before old) (Has before now) block rest (feeds.eats before) in
        omega (arith, within, found.within)

    -- the line is bad
    pub feeds_bad : {R : Type 0} (Bad : R → List ℕ → Type 0) {was is : R} → is ≡ was
        → ((before : B) (text : List ℕ) → Has before now text → (more : List ℕ) → Bad is ((text ++ (take at rest ++ 10 ∷ [])) ++ more))
        → (before : B) (text : List ℕ) → Has before old text → Bad was (text ++ block)
    feeds_bad Bad {was} same bad before text p =
        let h = feeds.eats before in
        let front = take at rest in
        let left = behind rest at in
        subst (Bad was)
        (append_assoc (text ++ h.0) (front ++ 10 ∷ []) left
        ∙ ap (λ (l : List ℕ). (text ++ h.0) ++ l) (append_assoc front (10 ∷ []) left ∙ sym found.cut)
        ∙ append_assoc text h.0 rest
        ∙ ap (λ (l : List ℕ). text ++ l) (sym h.1))
        (subst (λ r. Bad r (((text ++ h.0) ++ (front ++ 10 ∷ [])) ++ left)) same (bad before (text ++ h.0) (h.2 text p) left))
