use Rattle.std.proofs.Common.{◌≡◌, ℕ, ◌+◌, ◌<◌, ◌≤◌, length, take, get_or, sym, ap, subst, ◌∙◌, true, inl, inr, arith}
use Rattle.std.proofs.lemmas.Bool.{cases_lt, eqb-true, ltb-true, ltb-false}
use Rattle.hashbag_slots.specs.Hashing.{hash_under}
use Rattle.hashbag_slots.specs.Slots.{path_slot}
use Rattle.hashbag_slots.specs.Columns.{tag_at}
use Rattle.hashbag_slots.specs.Group.{IsTagMask}
use Rattle.hashbag_slots.proofs.Guards.{length-first, first_tag, of_slot, mask_first}
use Rattle.hashbag_slots.proofs.Hashing.{hash_named}
use Rattle.hashbag_slots.proofs.Reading.{first_low}
use Rattle.hashbag_slots.proofs.Strides.{path_near, other, absent_near}
use Rattle.hashbag_slots.proofs.probe.probe_path.Goals.{Start, After-match_tag-tagged, Then-first_equal-lt-GROUP_WIDTH}
use Rattle.hashbag_slots.proofs.probe.probe_path.Goals as goal

-- values are found under this hash
abbrev hash : (g : _) (c : goal.Start g) → g.row.T.Denot → ℕ
hash g c = hash_under g.T.Hash.hash_input g.S.BuildHasher g.S.Hasher.Hasher c.args.state.now

-- what the key names has its hash
alike : (g : _) (c : goal.Start g) (v : g.row.T.Denot) → g.Q.Key.names c.args.key v ≡ true → hash g c v ≡ c.args.hash
alike g c = hash_named g.T.Hash.hash_input g.Q.Hash.hash_input g.S.BuildHasher g.S.Hasher.Hasher c.args.state.now c.args.key (g.Q.Key.names c.args.key) (g.met.Q.Key.hashed_alike c.args.key) c.args.hash c.requires.hashed

-- the table has a slot
some : (g : _) (c : goal.After-match_tag-tagged g) → 0 < c.args.slots
some g c = let bound = c.path_slot-first.ensures.bound in omega arith

-- the bits tell of the tags of slots
tagged : (g : _) (c : goal.After-match_tag-tagged g) → IsTagMask (take c.args.slots c.args.tags.now) c.fingerprint_of-fingerprint.result c.path_slot-first.result (c.path_slot-first.result + 16) c.match_tag-tagged.result
tagged g c =
    mask_first c.args.slots c.args.tags.now c.requires.guarded c.fingerprint_of-fingerprint.result c.path_slot-first.result (c.path_slot-first.result + 16) c.match_tag-tagged.result
    c.fingerprint_of-fingerprint.ensures.least (some g c) c.match_tag-tagged.ensures

pub find_tagged-requires-clause-mask : goal.find_tagged-requires-clause-mask
find_tagged-requires-clause-mask g c = (c.path_slot-first.result + 16, omega arith, tagged g (goal.at.find_tagged-requires-clause-mask g c).After-match_tag-tagged)

-- the first Empty tag is that of a slot
empty : (g : _) (c : goal.Then-first_equal-lt-GROUP_WIDTH g) → (c.path_slot-first.result + c.first_equal.result < c.args.slots) × (tag_at (take c.args.slots c.args.tags.now) (c.path_slot-first.result + c.first_equal.result) ≡ 0)
empty g c =
    let stop = c.path_slot-first.result + c.first_equal.result in let short = c.if-first_equal-lt-GROUP_WIDTH.true in
    let is : get_or c.args.tags.now stop 0 ≡ 0 = eqb-true _ _ (c.first_equal.ensures.first.hit (omega arith)) in
    let bound = c.path_slot-first.ensures.bound in
    let within = of_slot c.args.slots c.args.tags.now c.requires.guarded stop (omega arith) (omega arith) (λ e. absurd (omega arith)) in
    (within, first_tag c.args.slots c.args.tags.now c.requires.guarded stop within ∙ is)

pub returns-then-first_equal-lt-GROUP_WIDTH-clause-absent :
    goal.returns-then-first_equal-lt-GROUP_WIDTH-clause-absent
returns-then-first_equal-lt-GROUP_WIDTH-clause-absent g c =
    let ts = take c.args.slots c.args.tags.now in let short = c.if-first_equal-lt-GROUP_WIDTH.true in
    let long = length-first c.args.slots c.args.tags.now c.requires.guarded in let first = c.path_slot-first.result in
    let at = empty g (goal.at.returns-then-first_equal-lt-GROUP_WIDTH-clause-absent g c).Then-first_equal-lt-GROUP_WIDTH in let within = at.0 in
    absent_near (g.Q.Key.names c.args.key) (hash g (goal.at.returns-then-first_equal-lt-GROUP_WIDTH-clause-absent g c).Start) c.args.hash (alike g (goal.at.returns-then-first_equal-lt-GROUP_WIDTH-clause-absent g c).Start) ts c.args.cells.now c.requires.agree c.requires.reached
    c.fingerprint_of-fingerprint.result c.fingerprint_of-fingerprint.ensures.fingerprint
    first c.first_equal.result (c.path_slot-first.ensures.value ∙ ap (λ n. path_slot n c.args.hash 0) (sym long))
    (omega arith) at.1
    (λ p a b same. c.in_default.ensures.absent (first + 16) (tagged g (goal.at.returns-then-first_equal-lt-GROUP_WIDTH-clause-absent g c).After-match_tag-tagged) p a (omega arith) same)

pub returns-then-first_equal-lt-GROUP_WIDTH-clause-free :
    goal.returns-then-first_equal-lt-GROUP_WIDTH-clause-free
returns-then-first_equal-lt-GROUP_WIDTH-clause-free g c =
    let all = c.args.tags.now in let ts = take c.args.slots all in let n = length ts in let h = c.args.hash in
    let long : length ts ≡ c.args.slots = length-first c.args.slots all c.requires.guarded in
    let first = c.path_slot-first.result in let is : first ≡ path_slot n h 0 = c.path_slot-first.ensures.value ∙ ap (λ n. path_slot n h 0) (sym long) in
    let stop = c.first_equal.result in let short = c.if-first_equal-lt-GROUP_WIDTH.true in
    let at = empty g (goal.at.returns-then-first_equal-lt-GROUP_WIDTH-clause-free g c).Then-first_equal-lt-GROUP_WIDTH in let within = at.0 in
    let seen : (p : ℕ) → p < c.args.slots → tag_at ts p ≡ get_or all p 0 = λ p lt. first_tag c.args.slots all c.requires.guarded p lt in
    let none : get_or all (first + stop) 0 ≡ 0 = sym (seen (first + stop) within) ∙ at.1 in
    let lane = c.first_not_live.result in let free = c.first_not_live.ensures.first in
    let few : lane ≤ stop =
    elim (cases_lt stop lane) [
      | inl beyond ↦ absurd (let high = ltb-false _ _ (free.before (first + stop) (omega arith) (omega arith)) in omega arith)
      | inr within ↦ within
    ] in
    let ahead : (k : ℕ) → k ≤ stop → path_slot n h k ≡ first + k = λ k lt. path_near n h k (omega arith) ∙ ap (λ p. p + k) (sym is) in
    let low : get_or all (first + lane) 0 < 128 = ltb-true _ _ (free.hit (omega arith)) in
    let there = seen (first + lane) (omega arith) in
    first_low ts c.args.cells.now c.requires.agree h (first + lane) lane (omega arith) (sym (ahead lane few)) (omega arith)
    (λ k lt.
    let high = ltb-false _ _ (free.before (first + k) (omega arith) (omega arith)) in let same = seen (first + k) (omega arith) in
    subst (λ p. 128 ≤ tag_at ts p) (sym (ahead k (omega arith))) (omega arith))

pub probe_on-requires-clause-reached : goal.probe_on-requires-clause-reached
probe_on-requires-clause-reached g c =
    let at0 = (goal.at.probe_on-requires-clause-reached g c).Start in record { hash = hash g at0; alike = alike g at0; reached = c.requires.reached }

pub probe_on-requires-clause-passed : goal.probe_on-requires-clause-passed
probe_on-requires-clause-passed g c p a b =
    let is = c.path_slot-first.ensures.value in
    other (g.Q.Key.names c.args.key) (hash g (goal.at.probe_on-requires-clause-passed g c).Start) c.args.hash (alike g (goal.at.probe_on-requires-clause-passed g c).Start) (take c.args.slots c.args.tags.now) c.args.cells.now c.requires.agree c.requires.reached
    c.fingerprint_of-fingerprint.result c.fingerprint_of-fingerprint.ensures.fingerprint p
    (λ same. c.in_default.ensures.absent (c.path_slot-first.result + 16) (tagged g (goal.at.probe_on-requires-clause-passed g c).After-match_tag-tagged) p (omega arith) (omega arith) same)
