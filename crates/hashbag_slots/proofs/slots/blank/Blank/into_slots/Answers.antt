use Rattle.std.proofs.Common.{◌≡◌, ℕ, ◌+◌, ◌++◌, ◌-◌, ◌<◌, List, [], length, take, replicate, ap, ◌∙◌, arith}
use Rattle.std.proofs.lemmas.List.{length-replicate, take_all}
use lib.Seq.{take-nil}
use Rattle.hashbag_slots.specs.declared.slots.Slot.TheVariants.{Empty}
use Rattle.hashbag_slots.proofs.Guards.{take_fresh, guarded_fresh}
use Rattle.hashbag_slots.proofs.Writing.{blank_columns, blank_slots, blank_reached}
use Rattle.hashbag_slots.proofs.slots.blank.Blank.into_slots.Goals.{Joined-slots-gt0, then-slots-gt0, else-slots-gt0}
use Rattle.hashbag_slots.proofs.slots.blank.Blank.into_slots.Goals as goal

-- no tags that are lengthened to n are n zeros
lengthened : (n long : ℕ) (before after : List ℕ) → after ≡ take n before ++ replicate (n - long) 0 → before ≡ [] → long ≡ length before → after ≡ replicate n 0
lengthened n long before after went none same =
    let short : long ≡ 0 = same ∙ ap length none in
    let rest : n - long ≡ n = omega (arith, short) in
    went ∙ ap (λ (l : List ℕ). take n l ++ replicate (n - long) 0) none ∙ ap (λ (l : List ℕ). l ++ replicate (n - long) 0) (take-nil n) ∙ ap (λ k. replicate k 0) rest

-- and n zeros that are lengthened by 16 tags of value 2 have those at the end
guarded : (n long : ℕ) (before after : List ℕ) → after ≡ take (n + 16) before ++ replicate (n + 16 - long) 2 → before ≡ replicate n 0 → long ≡ n → after ≡ replicate n 0 ++ replicate 16 2
guarded n long before after went zeros same =
    let rest : n + 16 - long ≡ 16 = omega (arith, same) in
    let size = length-replicate n (let t : ℕ = 0 in t) in
    went ∙ ap (λ (l : List ℕ). take (n + 16) l ++ replicate (n + 16 - long) 2) zeros ∙ ap (λ (l : List ℕ). l ++ replicate (n + 16 - long) 2) (take_all (n + 16) (replicate n 0) (omega arith))
    ∙ ap (λ k. replicate n 0 ++ replicate k 2) rest

tags : (g : _) (c : goal.Joined-slots-gt0 g) → 0 < c.self.inside.slots → c.if-slots-gt0.tags.items ≡ replicate c.self.inside.slots 0 ++ replicate 16 2
tags g c some =
    elim c.if-slots-gt0.branch [
      | then-slots-gt0 w ↦
          let i = c.self.inside in
          let zeros = lengthened i.slots i.tags.len i.tags.items w.resize.new.self.items (rw w.unwrap.ensures at w.resize.ensures.items) c.self.invariant.1 i.tags.ok.0 in
          ap (λ (v : _). v.items) w.tags-is
          ∙ guarded i.slots w.resize.new.self.len w.resize.new.self.items w.resize-then-slots-gt0.new.self.items (rw w.unwrap-then-slots-gt0.ensures at w.resize-then-slots-gt0.ensures.items) zeros (rw w.unwrap.ensures at w.resize.ensures.len)
      | else-slots-gt0 w ↦ absurd (let none = w.if-slots-gt0.false in omega arith)
    ]

pub invariant_of-result : goal.invariant_of-result
invariant_of-result g c =
    let i = c.self.inside in let is = tags g (goal.at.invariant_of-result g c).Joined-slots-gt0 in record {
      shown = blank_columns i.slots (take i.slots c.if-slots-gt0.tags.items) i.cells (take_fresh i.slots c.if-slots-gt0.tags.items is) c.self.invariant.2 g.T.PartialEq.eq c.self.invariant.0;
      guarded = guarded_fresh i.slots c.if-slots-gt0.tags.items is;
    }

pub returns-clause-slots : goal.returns-clause-slots
returns-clause-slots g c =
    let i = c.self.inside in
    blank_slots i.slots (take i.slots c.if-slots-gt0.tags.items) i.cells (take_fresh i.slots c.if-slots-gt0.tags.items (tags g (goal.at.returns-clause-slots g c).Joined-slots-gt0)) c.self.invariant.2 ∙ ap (λ n. replicate n Empty) c.self.view_is

pub returns-clause-reached : goal.returns-clause-reached
returns-clause-reached g c hash =
    let i = c.self.inside in
    blank_reached i.slots (take i.slots c.if-slots-gt0.tags.items) i.cells (take_fresh i.slots c.if-slots-gt0.tags.items (tags g (goal.at.returns-clause-reached g c).Joined-slots-gt0)) c.self.invariant.2 hash
