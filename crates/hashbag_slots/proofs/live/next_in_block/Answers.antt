use Rattle.std.proofs.Common.{◌+◌, ◌∙◌, inl, inr, arith}
use Rattle.std.proofs.lemmas.Bool.{cases_lt, leb-false}
use Rattle.hashbag_slots.proofs.GroupLemmas.{none_told, tells_fresh}
use Rattle.hashbag_slots.proofs.Walking.{is_fingerprint, in_block}
use Rattle.hashbag_slots.proofs.live.next_in_block.Goals as goal

pub groups-preserved : goal.groups-preserved
groups-preserved c =
    let live = is_fingerprint c.args.tags.now in let at = c.groups.at in let bits = c.match_live-ahead.result in
    let none = none_told live at at (at + 16) bits (tells_fresh live at (at + 16) bits c.match_live-ahead.ensures) (omega arith) c.if-ahead-ne0.false in
    let begun = c.groups.invariant.0 in let room = c.groups-test.true in let sixteen = c.groups.invariant.2 in let here = c.groups.invariant.3 in (
      omega arith,
      omega arith,
      omega arith,
      in_block at sixteen c.if-at-eq0.false ∙ here,
      λ q a b is.
          elim (cases_lt q at) [
            | inl before ↦ c.groups.invariant.4 q a before is
            | inr beyond ↦ leb-false _ _ (none q beyond b)
          ],
    )
