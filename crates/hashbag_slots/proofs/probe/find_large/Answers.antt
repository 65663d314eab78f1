use Rattle.std.proofs.Common.{◌≡◌, ℕ, ◌+◌, ◌-◌, ◌<◌, ◌≤◌, length, take, get_or, sym, ap, ◌∙◌, arith}
use Rattle.std.proofs.lemmas.Bool.{eqb-true, ltb-true, ltb-false}
use Rattle.hashbag_slots.specs.Group.{IsTagMask}
use Rattle.hashbag_slots.specs.Slots.{path_slot}
use Rattle.hashbag_slots.specs.Columns.{tag_at}
use Rattle.hashbag_slots.proofs.Guards.{length-first, first_tag, of_slot, mask_first}
use Rattle.hashbag_slots.proofs.Strides.{other, absent_near}
use Rattle.hashbag_slots.proofs.probe.find_large.Goals.{After-match_tag_before_empty-tagged}
use Rattle.hashbag_slots.proofs.probe.find_large.Goals as goal

-- the bits tell of the tags of slots
tagged : (g : _) (c : goal.After-match_tag_before_empty-tagged g) → IsTagMask (take c.args.slots c.args.tags.now) c.fingerprint_of-fingerprint.result c.path_slot-first.result c.match_tag_before_empty-tagged.ensures.0 c.match_tag_before_empty-tagged.result.0
tagged g c =
    let e = c.match_tag_before_empty-tagged.ensures in let bound = c.path_slot-first.ensures.bound in
    mask_first c.args.slots c.args.tags.now c.requires.guarded c.fingerprint_of-fingerprint.result c.path_slot-first.result e.0 c.match_tag_before_empty-tagged.result.0
    c.fingerprint_of-fingerprint.ensures.least (omega arith) e.2

pub find_tagged-requires-clause-mask : goal.find_tagged-requires-clause-mask
find_tagged-requires-clause-mask g c =
    let e = c.match_tag_before_empty-tagged.ensures in
    (e.0, e.1.high, tagged g (goal.at.find_tagged-requires-clause-mask g c).After-match_tag_before_empty-tagged)

pub returns-then-ends-clause-absent : goal.returns-then-ends-clause-absent
returns-then-ends-clause-absent g c =
    let n : ℕ = c.args.slots in let all = c.args.tags.now in let ts = take n all in let first = c.path_slot-first.result in let bound = c.path_slot-first.ensures.bound in
    let e = c.match_tag_before_empty-tagged.ensures in let stop : ℕ = e.0 in let low = e.1.low in
    let short : stop < first + 16 = ltb-true _ _ (sym e.3 ∙ c.if-ends.true) in let there : stop ≡ first + (stop - first) = omega arith in
    let empty : get_or all stop 0 ≡ 0 = eqb-true _ _ (e.1.hit short) in
    let within = of_slot n all c.requires.guarded stop (omega arith) (omega arith) (λ e. absurd (omega arith)) in
    let long : length ts ≡ n = length-first n all c.requires.guarded in
    absent_near (g.Q.Key.names c.args.key) c.requires.reached.hash c.args.hash c.requires.reached.alike ts c.args.cells.now c.requires.agree c.requires.reached.reached
    c.fingerprint_of-fingerprint.result c.fingerprint_of-fingerprint.ensures.fingerprint
    first (stop - first) (c.path_slot-first.ensures.value ∙ ap (λ m. path_slot m c.args.hash 0) (sym long))
    (omega arith) (ap (tag_at ts) (sym there) ∙ first_tag n all c.requires.guarded stop within ∙ empty)
    (λ p a b same. c.in_default-find_tagged.ensures.absent stop (tagged g (goal.at.returns-then-ends-clause-absent g c).After-match_tag_before_empty-tagged) p a (omega arith) same)

pub find_on-requires-clause-passed : goal.find_on-requires-clause-passed
find_on-requires-clause-passed g c p a b =
    let e = c.match_tag_before_empty-tagged.ensures in let stop : ℕ = e.0 in let first = c.path_slot-first.result in
    let long : first + 16 ≤ stop = ltb-false _ _ (sym e.3 ∙ c.if-ends.false) in
    let is = c.path_slot-first.ensures.value in
    other (g.Q.Key.names c.args.key) c.requires.reached.hash c.args.hash c.requires.reached.alike (take c.args.slots c.args.tags.now) c.args.cells.now c.requires.agree c.requires.reached.reached
    c.fingerprint_of-fingerprint.result c.fingerprint_of-fingerprint.ensures.fingerprint p
    (λ same. c.in_default-find_tagged.ensures.absent stop (tagged g (goal.at.find_on-requires-clause-passed g c).After-match_tag_before_empty-tagged) p (omega arith) (omega arith) same)
