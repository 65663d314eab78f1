use Rattle.std.proofs.Common.{◌≡◌, length, sym, ap, subst, ◌∙◌, arith}
use Rattle.hashbag_slots.specs.Slots.{IsFirstFree, is_live, slot_at, path_slot}
use Rattle.hashbag_table.proofs.CarryLemmas.{stays_live}
use Rattle.hashbag_table.proofs.table.Table.carry_past.Goals as goal

-- the slots of the path that were Live are Live still, so the first free one is the place or comes after it
pub returns-clause-free : goal.returns-clause-free
returns-clause-free g c hash first =
    let before = c.args.self.now.tables.newer in let after = c.carry.new.self.tables.newer in let fills = c.carry.ensures.carried.fills in
    let is : c.self-2.inside.newer.slots ≡ after = ap (λ t. t.tables.newer) c.self-2.view_is in
    let same : length c.self-2.inside.newer.slots ≡ length before = ap length is ∙ fills.same_length in let within = first.within in
    subst (λ ss. IsFirstFree hash ss c.free_from.result) is
    (c.free_from.ensures.free hash first.step (omega arith) (first.on_path ∙ ap (λ n. path_slot n hash first.step) (sym same))
    (λ b lt.
    ap (λ ss. is_live (slot_at ss (path_slot (length ss) hash b))) is ∙ ap (λ n. is_live (slot_at after (path_slot n hash b))) fills.same_length
    ∙ stays_live 16 before after fills (path_slot (length before) hash b) (first.front b lt)))
