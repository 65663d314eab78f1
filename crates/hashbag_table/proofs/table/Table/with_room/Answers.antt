use Rattle.std.proofs.Common.{length, drop, refl, sym, ap, subst, ◌∙◌, arith}
use Rattle.std.proofs.lemmas.List.{length-replicate}
use Rattle.hashbag_slots.specs.declared.slots.Slot.TheVariants.{Empty}
use Rattle.hashbag_slots.specs.Hashing.{hash_under}
use Rattle.hashbag_table.specs.Tables.{IsLeast}
use Rattle.hashbag_table.proofs.CarryLemmas.{IsTables-blank, entries_blank}
use Rattle.hashbag_table.proofs.LeastLemmas.{least_none, least_bound}
use Rattle.hashbag_table.proofs.PackedLemmas.{packed_fresh, fresh_length}
use Rattle.hashbag_table.proofs.HintLemmas.{hints_new}
use Rattle.hashbag_table.proofs.table.Table.with_room.Goals as goal

pub invariant_of-result : goal.invariant_of-result
invariant_of-result g c =
    record {
      kept = IsTables-blank g.T.PartialEq.eq (hash_under g.T.Hash.hash_input g.S.BuildHasher g.S.Hasher.Hasher c.args.hasher) c.in_ok-newer.newer c.no_slots-older.result c.in_ok-slots.slots
          c.in_ok-newer.ensures.slots c.no_slots-older.ensures.slots (c.in_ok-newer.ensures.reached _) (c.no_slots-older.ensures.reached _);
      hints = hints_new c.in_ok-newer.newer.slots c.no_slots-older.result.slots 0 c.quick_of.result
          (λ small. let is = c.quick_of.ensures.small small in (ap length c.in_ok-newer.ensures.slots ∙ length-replicate c.in_ok-slots.slots Empty ∙ is.0, ap length c.no_slots-older.ensures.slots));
    }

pub with_slots-requires : goal.with_slots-requires
with_slots-requires g c = c.in_ok-slots.ensures.least.count

pub returns-in_err-newer-clause-none : goal.returns-in_err-newer-clause-none
returns-in_err-newer-clause-none g c none =
    let least = subst (λ k. IsLeast 0 k c.in_ok-slots.slots) none c.in_ok-slots.ensures.least in
    absurd (let h = c.in_err-newer.ensures.none (least_none c.in_ok-slots.slots least) in cc)

pub returns-in_err-slots-clause-none : goal.returns-in_err-slots-clause-none
returns-in_err-slots-clause-none g c none = absurd (let h = c.in_err-slots.ensures.past_most refl in omega (arith, h, none))

pub returns-clause-empty : goal.returns-clause-empty
returns-clause-empty g c = entries_blank c.in_ok-newer.newer.slots c.no_slots-older.result.slots c.in_ok-slots.slots c.in_ok-newer.ensures.slots c.no_slots-older.ensures.slots

pub returns-clause-past_most : goal.returns-clause-past_most
returns-clause-past_most g c more = absurd (let b = least_bound 0 c.args.n c.in_ok-slots.slots c.in_ok-slots.ensures.least in omega (arith, b, more))

pub returns-clause-fresh : goal.returns-clause-fresh
returns-clause-fresh g c = fresh_length c.in_ok-newer.newer.slots c.in_ok-slots.slots c.in_ok-newer.ensures.slots

pub returns-clause-least : goal.returns-clause-least
returns-clause-least g c =
    subst (IsLeast 0 c.args.n) (sym (ap length c.in_ok-newer.ensures.slots ∙ length-replicate c.in_ok-slots.slots Empty)) c.in_ok-slots.ensures.least

pub returns-clause-packed : goal.returns-clause-packed
returns-clause-packed g c = packed_fresh c.in_ok-newer.newer.slots (drop 0 c.no_slots-older.result.slots) c.in_ok-slots.slots _ _ c.in_ok-newer.ensures.slots c.no_slots-older.ensures.slots

pub returns-clause-built : goal.returns-clause-built
returns-clause-built g c = c.first.ensures ∙ sym (ap length c.in_ok-newer.ensures.slots ∙ length-replicate c.in_ok-slots.slots Empty)
