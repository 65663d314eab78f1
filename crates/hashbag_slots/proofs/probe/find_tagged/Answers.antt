use Rattle.std.proofs.Common.{◌≡◌, ℕ, ◌+◌, ◌<◌, Bool, List, eqb, length, false, subst, take, ◌∙◌, inl, inr, arith}
use Rattle.std.proofs.lemmas.Bool.{cases_lt, eqb-true, eqb-false}
use Rattle.std.specs.Slice.Scan.{IsFirstPlace}
use Rattle.hashbag_slots.specs.Slots.{holds, slot_at}
use Rattle.hashbag_slots.specs.Columns.{tag_at, slots_of}
use Rattle.hashbag_slots.proofs.GroupLemmas.{none_told, tells_fresh}
use Rattle.hashbag_slots.proofs.Guards.{tagged_within}
use Rattle.hashbag_slots.proofs.Reading.{length-slots_of, holds_at}
use Rattle.hashbag_slots.proofs.probe.find_tagged.Goals as goal

abbrev is_tagged : List ℕ → ℕ → ℕ → Bool
is_tagged ts fingerprint p = eqb (tag_at ts p) fingerprint

-- a test has one first place
one_first : (test : ℕ → Bool) (at until p q : ℕ) → IsFirstPlace test at until p → IsFirstPlace test at until q → p < until → q < until → p ≡ q
one_first test at until p q a b pin qin = elim (cases_lt p q) [
  | inl less ↦ absurd (let no = b.before p a.low less in let yes = a.hit pin in cc)
  | inr ge ↦ elim (cases_lt q p) [
    | inl more ↦ absurd (let no = a.before q b.low more in let yes = b.hit qin in cc)
    | inr le ↦ omega arith
  ]
]

pub fingerprints-init : goal.fingerprints-init
fingerprints-init g c = (
  c.args.from,
  omega arith,
  λ until tells. tells_fresh (is_tagged (take c.args.slots c.args.tags.now) c.args.fingerprint) c.args.from until c.args.bits tells,
  λ p a b is. absurd (omega arith),
)

pub is_named-requires : goal.is_named-requires
is_named-requires g c =
    let ts = (take c.args.slots c.args.tags.now) in let least = c.requires.fingerprint in let i = c.fingerprints.invariant in let test : ℕ → Bool = is_tagged ts c.args.fingerprint in
    let told = c.lowest-place.ensures in let until : ℕ = c.requires.mask.0 in let tells = i.2 until c.requires.mask.2 in
    let tag = eqb-true _ _ ((told.first test i.0 until i.1 tells).hit (told.before_until test i.0 until tells)) in
    c.requires.agree.filled c.lowest-place.result (omega arith)

pub returns-then-is_named-clause-found : goal.returns-then-is_named-clause-found
returns-then-is_named-clause-found g c =
    let ts = (take c.args.slots c.args.tags.now) in let cs = c.args.cells.now in let place = c.lowest-place.result in let least = c.requires.fingerprint in
    let i = c.fingerprints.invariant in let test : ℕ → Bool = is_tagged ts c.args.fingerprint in let told = c.lowest-place.ensures in
    let until : ℕ = c.requires.mask.0 in let tells = i.2 until c.requires.mask.2 in
    let len = length-slots_of ts cs c.requires.agree.same_length in let room = c.requires.within in let near = c.requires.mask.1 in
    let below = told.before_until test i.0 until tells in
    let tag = eqb-true _ _ ((told.first test i.0 until i.1 tells).hit below) in
    let long = tagged_within ts place (omega arith) in
    let within : place < length (slots_of ts cs) = omega arith in
    let e = c.requires.agree.filled place (omega arith) in
    (within, holds_at ts cs c.requires.agree place (g.Q.Key.names c.args.key) e.0 e.1 ∙ c.is_named.ensures e.0 e.1 ∙ c.if-is_named.true)

pub fingerprints-preserved : goal.fingerprints-preserved
fingerprints-preserved g c =
    let ts = (take c.args.slots c.args.tags.now) in let cs = c.args.cells.now in let place : ℕ = c.lowest-place.result in let least = c.requires.fingerprint in
    let i = c.fingerprints.invariant in let test : ℕ → Bool = is_tagged ts c.args.fingerprint in let told = c.lowest-place.ensures in
    let until : ℕ = c.requires.mask.0 in let tells = i.2 until c.requires.mask.2 in
    let first = told.first test i.0 until i.1 tells in let below = told.before_until test i.0 until tells in
    let tag = eqb-true _ _ (first.hit below) in let low = first.low in let start = i.1 in
    let e = c.requires.agree.filled place (omega arith) in
    let taken : ℕ = c.take_lowest-rest.result.0 in
    let same : taken ≡ place = one_first test i.0 until taken place (c.take_lowest-rest.ensures.first test i.0 until i.1 tells) first (c.take_lowest-rest.ensures.before_until test i.0 until tells) below in (
      taken + 1,
      omega arith,
      λ end tell. c.take_lowest-rest.ensures.rest test i.0 end (i.2 end tell),
      λ p a b is.
          elim (cases_lt p i.0) [
            | inl before ↦ i.3 p a before is
            | inr beyond ↦ elim (cases_lt p place) [
              | inl between ↦ absurd (eqb-false _ _ (first.before p beyond between) is)
              | inr here ↦
                  let there : place ≡ p = omega arith in
                  subst (λ q. holds (g.Q.Key.names c.args.key) (slot_at (slots_of ts cs) q) ≡ false) there
                  (holds_at ts cs c.requires.agree place (g.Q.Key.names c.args.key) e.0 e.1 ∙ c.is_named.ensures e.0 e.1 ∙ c.if-is_named.false)
            ]
          ],
    )

pub fingerprints-smaller : goal.fingerprints-smaller
fingerprints-smaller g c = c.take_lowest-rest.ensures.fewer

pub returns-clause-absent : goal.returns-clause-absent
returns-clause-absent g c until tells p a b is =
    let i = c.fingerprints.invariant in
    elim (cases_lt p i.0) [
      | inl before ↦ i.3 p a before is
      | inr beyond ↦ absurd (eqb-false _ _ (none_told (is_tagged (take c.args.slots c.args.tags.now) c.args.fingerprint) c.args.from i.0 until c.fingerprints.ahead (i.2 until tells) i.1 c.fingerprints-test.false p beyond b) is)
    ]
