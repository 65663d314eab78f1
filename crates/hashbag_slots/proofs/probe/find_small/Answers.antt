use Rattle.std.proofs.Common.{◌≡◌, ℕ, ◌+◌, ◌-◌, bit_and, eqb, length, take, get_or, sym, ap, ◌∙◌, arith}
use Rattle.std.proofs.lemmas.Bool.{eqb-true}
use Rattle.hashbag_slots.specs.Slots.{path_slot}
use Rattle.hashbag_slots.specs.Group.{IsTagMask}
use Rattle.hashbag_slots.proofs.GroupLemmas.{some_told}
use Rattle.hashbag_slots.proofs.Guards.{length-first, first_tag, of_slot, mask_first}
use Rattle.hashbag_slots.proofs.Paths.{home_mask}
use Rattle.hashbag_slots.proofs.Strides.{other, absent_near}
use Rattle.hashbag_slots.proofs.probe.find_small.Goals.{Start, After-match_tag-tagged}
use Rattle.hashbag_slots.proofs.probe.find_small.Goals as goal

-- the first place of the path
home : (g : _) (c : goal.Start g) → bit_and c.args.hash c.args.mask ≡ path_slot (c.args.mask + 1) c.args.hash 0
home g c = let less : c.args.mask ≡ c.args.mask + 1 - 1 = omega arith in ap (bit_and c.args.hash) less ∙ home_mask (c.args.mask + 1) c.args.hash c.requires.slots (omega arith)

-- the bits tell of the tags of slots
tagged : (g : _) (c : goal.After-match_tag-tagged g) → IsTagMask (take (c.args.mask + 1) c.args.tags.now) c.fingerprint_of-fingerprint.result (bit_and c.args.hash c.args.mask) (bit_and c.args.hash c.args.mask + 16) c.match_tag-tagged.result
tagged g c =
    mask_first (c.args.mask + 1) c.args.tags.now c.requires.guarded c.fingerprint_of-fingerprint.result (bit_and c.args.hash c.args.mask) (bit_and c.args.hash c.args.mask + 16) c.match_tag-tagged.result
    c.fingerprint_of-fingerprint.ensures.least (omega arith) c.match_tag-tagged.ensures

pub find_tagged-requires-clause-mask : goal.find_tagged-requires-clause-mask
find_tagged-requires-clause-mask g c = (bit_and c.args.hash c.args.mask + 16, omega arith, tagged g (goal.at.find_tagged-requires-clause-mask g c).After-match_tag-tagged)

pub returns-then-match_tag-ne0-clause-absent : goal.returns-then-match_tag-ne0-clause-absent
returns-then-match_tag-ne0-clause-absent g c =
    let at = goal.at.returns-then-match_tag-ne0-clause-absent g c in
    let n = c.args.mask + 1 in let all = c.args.tags.now in let ts = take n all in let first : ℕ = bit_and c.args.hash c.args.mask in
    let some = c.if-match_tag-ne0.true in
    let one = some_told (λ p. eqb (get_or all p 0) 0) first (first + 16) c.match_tag.result c.match_tag.ensures (omega arith) (omega arith) in
    let stop = one.0 in let near = one.1 in let empty : get_or all (first + stop) 0 ≡ 0 = eqb-true _ _ one.2 in
    let long : length ts ≡ n = length-first n all c.requires.guarded in
    let is = home g at.Start in
    let within = of_slot n all c.requires.guarded (first + stop) (omega arith) (omega arith) (λ e. absurd (omega arith)) in
    absent_near (g.Q.Key.names c.args.key) c.requires.reached.hash c.args.hash c.requires.reached.alike ts c.args.cells.now c.requires.agree c.requires.reached.reached
    c.fingerprint_of-fingerprint.result c.fingerprint_of-fingerprint.ensures.fingerprint
    first stop (is ∙ ap (λ m. path_slot m c.args.hash 0) (sym long)) (omega arith) (first_tag n all c.requires.guarded (first + stop) within ∙ empty)
    (λ p a b same. c.in_default.ensures.absent (first + 16) (tagged g at.After-match_tag-tagged) p a (omega arith) same)

pub find_on-requires-clause-passed : goal.find_on-requires-clause-passed
find_on-requires-clause-passed g c p a b =
    let at = goal.at.find_on-requires-clause-passed g c in
    let is = home g at.Start in let first : ℕ = bit_and c.args.hash c.args.mask in
    other (g.Q.Key.names c.args.key) c.requires.reached.hash c.args.hash c.requires.reached.alike (take (c.args.mask + 1) c.args.tags.now) c.args.cells.now c.requires.agree c.requires.reached.reached
    c.fingerprint_of-fingerprint.result c.fingerprint_of-fingerprint.ensures.fingerprint p
    (λ same. c.in_default.ensures.absent (first + 16) (tagged g at.After-match_tag-tagged) p (omega arith) (omega arith) same)
