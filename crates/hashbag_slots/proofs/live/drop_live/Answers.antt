use Rattle.std.proofs.Common.{◌≡◌, ◌+◌, ◌*◌, subst, arith}
use Rattle.hashbag_slots.specs.Columns.{AgreeFrom}
use Rattle.hashbag_slots.proofs.Dropping.{agree_from_first, none_left}
use Rattle.hashbag_slots.proofs.live.drop_live.Goals as goal

pub groups-init : goal.groups-init
groups-init g c = record {
  within = omega arith;
  agree = agree_from_first c.args.tags.now c.args.cells.now c.requires.agree;
}

pub groups-preserved : goal.groups-preserved
groups-preserved g c = record {
  within = let t = c.groups-test.true in omega arith;
  agree =
      let next : c.groups.group * 16 + 16 ≡ (c.groups.group + 1) * 16 = omega arith in
      subst (λ n. AgreeFrom n c.args.tags.now c.drop_group.new.cells) next c.drop_group.ensures;
}

pub returns : goal.returns
returns g c =
    none_left c.args.tags.now c.groups.cells (c.groups.group * 16) c.groups.invariant.agree
    (let n = c.requires.sixteens in let t = c.groups-test.false in omega arith)
