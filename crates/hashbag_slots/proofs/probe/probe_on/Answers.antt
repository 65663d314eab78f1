use Rattle.std.proofs.Common.{◌≡◌, ℕ, ◌+◌, ◌<◌, ◌≤◌, ◌⊎◌, List, Option, length, take, get_or, false, sym, ap, subst, ◌∙◌, inl, inr, arith}
use Rattle.std.proofs.lemmas.Bool.{eqb-true}
use Rattle.hashbag_slots.specs.Slots.{path_slot, holds, slot_at, IsFirstFree}
use Rattle.hashbag_slots.specs.Columns.{tag_at, slots_of, Agree}
use Rattle.hashbag_slots.specs.Group.{IsTagMask}
use Rattle.hashbag_slots.proofs.Guards.{length-first, first_tag, of_slot, mask_first}
use Rattle.hashbag_slots.proofs.Paths.{count_bound}
use Rattle.hashbag_slots.proofs.Reading.{first_low}
use Rattle.hashbag_slots.proofs.Strides.{path_ahead, reach, FreeSoFar, free_next, further, other, absent_before, absent_all}
use Rattle.hashbag_slots.proofs.WalkOrder.{sixteens}
use Rattle.hashbag_slots.proofs.probe.probe_on.Goals.{Start, After-match_tag-tagged, After-first_equal-stop, then-at-slots, else-at-slots, then-free-slots, else-free-slots}
use Rattle.hashbag_slots.proofs.probe.probe_on.Goals as goal

-- the slot at a place doesn't hold the value
abbrev Passed : (g : _) (c : goal.Start g) → ℕ → Type 0
Passed g c p = holds (g.Q.Key.names c.args.key) (slot_at (slots_of (take c.args.slots c.args.tags.now) c.args.cells.now) p) ≡ false

-- a place of sixteen that is in the table is among those of the stretch
module _ (n : ℕ) where
  ends : (at r : ℕ) → at + r ≤ n → {A B : Type 0} → (((at + 16 < n) × (r ≡ 16) × A) ⊎ ((n ≤ at + 16) × (at + r ≡ n) × B)) → (p : ℕ) → p < n → p < at + 16 → p < at + r
  ends at r long way p within near = elim way [ inl x ↦ (let e = x.1 in omega arith) | inr x ↦ (let e = x.1 in omega arith) ]

pub sixteens-init : goal.sixteens-init
sixteens-init g c =
    let n : ℕ = c.args.slots in let h : ℕ = c.args.hash in let all = c.args.tags.now in let ts = take n all in let at = c.path_slot-at.result in let is = c.path_slot-at.ensures.value in let bound = c.path_slot-at.ensures.bound in
    let to = reach n h 0 at c.requires.some (sym is) bound in let r = to.0 in let long = to.1.0 in
    let step : 0 + r ≡ r = omega arith in
    let passed : (k : ℕ) → k < 0 + r → Passed g (goal.at.sixteens-init g c).Start (path_slot n h k) =
    further (Passed g (goal.at.sixteens-init g c).Start) n h 0 r (omega arith) (λ k lt. absurd (omega arith)) (λ p a b. c.requires.passed p a (let few = to.1.1 in omega arith)) in (
      0 + r,
      bound,
      elim to.1.2 [ inl x ↦ inl (x.0, x.2) | inr x ↦ inr (x.0, x.2) ],
      passed,
      sixteens n c.requires.slots,
      elim to.1.2 [
        | inl x ↦ inl (let e = x.1 in omega arith)
        | inr x ↦ inr (omega arith, let e = x.2 in omega arith)
      ],
      free_next n h ts 0 at r c.free_among-free.result (sym is) long (λ k lt. absurd (omega arith)) c.free_among-free.ensures.bound
          (λ found. let low = c.free_among-free.ensures.low found in let same = first_tag n all c.requires.guarded c.free_among-free.result found in let less = low.2 in (low.0, ends n at r long to.1.2 c.free_among-free.result found low.1, omega arith))
          (λ p a b before. let within : p < n = omega arith in let same = first_tag n all c.requires.guarded p within in let high = c.free_among-free.ensures.passed p a (let few = to.1.1 in omega arith) before in omega arith),
    )

pub overflow_add-at : goal.overflow_add-at
overflow_add-at g c = let bound = c.sixteens.invariant.1 in let most = count_bound c.args.slots c.requires.slots in record { fits = omega arith }

-- the sixteen that are read begin at the next slot of the path
next : (g : _) (c : goal.After-match_tag-tagged g) → (path_slot c.args.slots c.args.hash c.sixteens.invariant.0 ≡ c.if-at-slots.at) × (c.if-at-slots.at < c.args.slots)
next g c =
    let i = c.sixteens.invariant in let some = c.requires.some in
    elim c.if-at-slots.branch [
      | then-at-slots w ↦
          let ends = w.if-at-slots.true in let is = w.at-is in
          elim i.2 [ inl x ↦ absurd (let short = x.0 in omega arith) | inr x ↦ (let to = x.1 in omega arith, omega arith) ]
      | else-at-slots w ↦
          let goes = w.if-at-slots.false in let is = w.at-is in
          elim i.2 [ inl x ↦ (let to = x.1 in omega arith, omega arith) | inr x ↦ absurd (let long = x.0 in omega arith) ]
    ]

-- the bits tell of the tags of slots
tagged : (g : _) (c : goal.After-match_tag-tagged g) → IsTagMask (take c.args.slots c.args.tags.now) c.fingerprint_of-fingerprint.result c.if-at-slots.at (c.if-at-slots.at + 16) c.match_tag-tagged.result
tagged g c =
    mask_first c.args.slots c.args.tags.now c.requires.guarded c.fingerprint_of-fingerprint.result c.if-at-slots.at (c.if-at-slots.at + 16) c.match_tag-tagged.result
    c.fingerprint_of-fingerprint.ensures.least c.requires.some c.match_tag-tagged.ensures

pub find_tagged-requires-clause-mask : goal.find_tagged-requires-clause-mask
find_tagged-requires-clause-mask g c = (c.if-at-slots.at + 16, omega arith, tagged g (goal.at.find_tagged-requires-clause-mask g c).After-match_tag-tagged)

-- none of the sixteen holds the value
none : (g : _) (c : goal.After-first_equal-stop g) (p : ℕ) → c.if-at-slots.at ≤ p → p < c.if-at-slots.at + 16 → Passed g (goal.at.After-first_equal-stop g c).Start p
none g c p a b =
    other (g.Q.Key.names c.args.key) c.requires.reached.hash c.args.hash c.requires.reached.alike (take c.args.slots c.args.tags.now) c.args.cells.now c.requires.agree c.requires.reached.reached
    c.fingerprint_of-fingerprint.result c.fingerprint_of-fingerprint.ensures.fingerprint p
    (λ same. c.in_default.ensures.absent (c.if-at-slots.at + 16) (tagged g (goal.at.After-first_equal-stop g c).After-match_tag-tagged) p a b same)

-- the first free slot, after these sixteen
free_on : (g : _) (c : goal.After-first_equal-stop g) (r : ℕ) → c.if-at-slots.at + r ≤ c.args.slots → r ≤ 16 → {A B : Type 0} → (((c.if-at-slots.at + 16 < c.args.slots) × (r ≡ 16) × A) ⊎ ((c.args.slots ≤ c.if-at-slots.at + 16) × (c.if-at-slots.at + r ≡ c.args.slots) × B))
    → FreeSoFar c.args.slots c.args.hash (take c.args.slots c.args.tags.now) (c.sixteens.invariant.0 + r) c.if-free-slots.free
free_on g c r long few way =
    let n : ℕ = c.args.slots in let h : ℕ = c.args.hash in let all = c.args.tags.now in let ts = take n all in let i = c.sixteens.invariant in let at = c.if-at-slots.at in
    let here = next g (goal.at.After-first_equal-stop g c).After-match_tag-tagged in
    elim c.if-free-slots.branch [
      | then-free-slots w ↦
          elim i.6 [
            | inl x ↦
                let found = w.free_among-free-then-free-slots.ensures in let p0 = w.free_among-free-then-free-slots.result in
                subst (FreeSoFar n h ts (i.0 + r)) (sym w.free-is)
                (free_next n h ts i.0 at r p0 here.0 long x.1 found.bound
                (λ less. let low = found.low less in let same = first_tag n all c.requires.guarded p0 less in let tag = low.2 in (low.0, ends n at r long way p0 less low.1, omega arith))
                (λ p a b before. let within : p < n = omega arith in let same = first_tag n all c.requires.guarded p within in let high = found.passed p a (omega arith) before in omega arith))
            | inr x ↦ absurd (let none = w.if-free-slots.true in let some = x.0 in omega arith)
          ]
      | else-free-slots w ↦
          elim i.6 [
            | inl x ↦ absurd (w.if-free-slots.false x.0)
            | inr x ↦ subst (FreeSoFar n h ts (i.0 + r)) (sym w.free-is) (inr x)
          ]
    ]

-- a first free slot, in words of slots
is_first : {T : Type 0} (n h : ℕ) (ts : List ℕ) (cs : List (Option (T × ℕ))) → Agree ts cs → length ts ≡ n → (free f : ℕ) → f < n → free ≡ path_slot n h f → tag_at ts free < 128 → ((k : ℕ) → k < f → 128 ≤ tag_at ts (path_slot n h k))
    → IsFirstFree h (slots_of ts cs) free
is_first n h ts cs agree long free f within is low front =
    first_low ts cs agree h free f (omega arith) (is ∙ ap (λ m. path_slot m h f) (sym long)) low (λ k lt. subst (λ m. 128 ≤ tag_at ts (path_slot m h k)) (sym long) (front k lt))

pub returns-then-stop-lt-GROUP_WIDTH-clause-free :
    goal.returns-then-stop-lt-GROUP_WIDTH-clause-free
returns-then-stop-lt-GROUP_WIDTH-clause-free g c =
    let at0 = goal.at.returns-then-stop-lt-GROUP_WIDTH-clause-free g c in
    let n : ℕ = c.args.slots in let h : ℕ = c.args.hash in let all = c.args.tags.now in let ts = take n all in let i = c.sixteens.invariant in
    let at = c.if-at-slots.at in let here = next g at0.After-match_tag-tagged in let is = here.0 in let bound = here.1 in
    let stop = c.first_equal-stop.result in let short = c.if-stop-lt-GROUP_WIDTH.true in
    let empty : get_or all (at + stop) 0 ≡ 0 = eqb-true _ _ (c.first_equal-stop.ensures.first.hit (omega arith)) in
    let within = of_slot n all c.requires.guarded (at + stop) (omega arith) c.requires.some (λ e. absurd (omega arith)) in
    let seen = first_tag n all c.requires.guarded (at + stop) within in
    let there : path_slot n h (i.0 + stop) ≡ at + stop = path_ahead n h i.0 stop (omega arith) ∙ ap (λ p. p + stop) is in
    let to = reach n h i.0 at c.requires.some is bound in let r = to.0 in let long = to.1.0 in let few = to.1.1 in
    let inside = ends n at r long to.1.2 (at + stop) within (omega arith) in
    elim (free_on g at0.After-first_equal-stop r long few to.1.2) [
      | inl x ↦ absurd (let high = x.1 (i.0 + stop) (omega arith) in let same = ap (tag_at ts) there in omega arith)
      | inr x ↦ is_first n h ts c.args.cells.now c.requires.agree (length-first n all c.requires.guarded) c.if-free-slots.free x.1 x.2 x.3 x.4 x.5
    ]

pub returns-then-free-slots-2-clause-full : goal.returns-then-free-slots-2-clause-full
returns-then-free-slots-2-clause-full g c =
    let n : ℕ = c.args.slots in let i = c.sixteens.invariant in let aligned = i.4 in let over = c.sixteens-test.false in let long = length-first n c.args.tags.now c.requires.guarded in
    let all : n ≤ i.0 = elim i.5 [ inl y ↦ omega arith | inr y ↦ let enough = y.0 in omega arith ] in (
      absent_all (g.Q.Key.names c.args.key) c.requires.reached.hash c.args.hash c.requires.reached.alike (take n c.args.tags.now) c.args.cells.now c.requires.agree c.requires.reached.reached
          n long (λ k lt. i.3 k (omega arith)),
      λ k lt.
          elim i.6 [
            | inl x ↦ subst (λ m. 128 ≤ tag_at (take n c.args.tags.now) (path_slot m c.args.hash k)) (sym long) (x.1 k (omega arith))
            | inr x ↦ absurd (let none = c.if-free-slots-2.true in let some = x.0 in omega arith)
          ],
    )

pub returns-clause-free : goal.returns-clause-free
returns-clause-free g c =
    let n : ℕ = c.args.slots in let i = c.sixteens.invariant in
    elim i.6 [
      | inl x ↦ absurd (c.if-free-slots-2.false x.0)
      | inr x ↦ is_first n c.args.hash (take n c.args.tags.now) c.args.cells.now c.requires.agree (length-first n c.args.tags.now c.requires.guarded) c.sixteens.free x.1 x.2 x.3 x.4 x.5
    ]

pub returns-then-stop-lt-GROUP_WIDTH-clause-absent :
    goal.returns-then-stop-lt-GROUP_WIDTH-clause-absent
returns-then-stop-lt-GROUP_WIDTH-clause-absent g c =
    let at0 = goal.at.returns-then-stop-lt-GROUP_WIDTH-clause-absent g c in
    let n : ℕ = c.args.slots in let h : ℕ = c.args.hash in let all = c.args.tags.now in let ts = take n all in let i = c.sixteens.invariant in
    let at = c.if-at-slots.at in let here = next g at0.After-match_tag-tagged in let is = here.0 in let bound = here.1 in
    let stop = c.first_equal-stop.result in let short = c.if-stop-lt-GROUP_WIDTH.true in
    let empty : get_or all (at + stop) 0 ≡ 0 = eqb-true _ _ (c.first_equal-stop.ensures.first.hit (omega arith)) in
    let within = of_slot n all c.requires.guarded (at + stop) (omega arith) c.requires.some (λ e. absurd (omega arith)) in
    let there : path_slot n h (i.0 + stop) ≡ at + stop = path_ahead n h i.0 stop (omega arith) ∙ ap (λ p. p + stop) is in
    absent_before (g.Q.Key.names c.args.key) c.requires.reached.hash h c.requires.reached.alike ts c.args.cells.now c.requires.agree c.requires.reached.reached
    n (length-first n all c.requires.guarded) (i.0 + stop)
    (further (Passed g at0.Start) n h i.0 stop (omega arith) i.3 (λ p a b. none g at0.After-first_equal-stop p (omega arith) (omega arith)))
    (ap (tag_at ts) there ∙ first_tag n all c.requires.guarded (at + stop) within ∙ empty)

pub sixteens-preserved : goal.sixteens-preserved
sixteens-preserved g c =
    let at0 = goal.at.sixteens-preserved g c in
    let n : ℕ = c.args.slots in let h : ℕ = c.args.hash in let i = c.sixteens.invariant in let left : ℕ = c.sixteens.left in
    let at = c.if-at-slots.at in let here = next g at0.After-match_tag-tagged in let is = here.0 in let bound = here.1 in
    let more : 16 ≤ left = c.sixteens-test.true in let aligned = i.4 in let whole = sixteens n c.requires.slots in
    let to = reach n h i.0 at c.requires.some is bound in let r = to.0 in let long = to.1.0 in let few = to.1.1 in (
      i.0 + r,
      bound,
      elim to.1.2 [ inl x ↦ inl (x.0, x.2) | inr x ↦ inr (x.0, x.2) ],
      further (Passed g at0.Start) n h i.0 r (omega arith) i.3 (λ p a b. none g at0.After-first_equal-stop p (omega arith) (omega arith)),
      omega arith,
      elim to.1.2 [
        | inl x ↦
            let goes = x.1 in let then = x.2 in
            elim i.5 [ inl y ↦ inl (omega arith) | inr y ↦ let enough = y.0 in let even = y.1 in inr (omega arith, omega arith) ]
        | inr x ↦
            let ends = x.1 in let then = x.2 in let near = x.0 in
            elim i.5 [ inl y ↦ inr (omega arith, omega arith) | inr y ↦ let enough = y.0 in let even = y.1 in inr (omega arith, omega arith) ]
      ],
      free_on g at0.After-first_equal-stop r long few to.1.2,
    )

pub returns-clause-absent : goal.returns-clause-absent
returns-clause-absent g c =
    let n : ℕ = c.args.slots in let i = c.sixteens.invariant in let aligned = i.4 in let over = c.sixteens-test.false in
    let all : n ≤ i.0 = elim i.5 [ inl y ↦ omega arith | inr y ↦ let enough = y.0 in omega arith ] in
    absent_all (g.Q.Key.names c.args.key) c.requires.reached.hash c.args.hash c.requires.reached.alike (take n c.args.tags.now) c.args.cells.now c.requires.agree c.requires.reached.reached
    n (length-first n c.args.tags.now c.requires.guarded) (λ k lt. i.3 k (omega arith))
