use Rattle.std.proofs.Common.{◌≡◌, ◌∷◌, [], true, refl, sym, ap, ◌∙◌, drop, length, subst, slice_set}
use Rattle.std.proofs.lemmas.List.{get_or-drop}
use Rattle.hashbag_slots.specs.declared.slots.Slot.TheVariants.{Empty, Live}
use Rattle.hashbag_slots.specs.Columns.{IsReached}
use Rattle.hashbag_slots.specs.Hashing.{hash_under}
use Rattle.hashbag_slots.specs.Slots.{is_live, holds, slot_entry}
use Rattle.hashbag_slots.proofs.Hashing.{hash_alike}
use Rattle.hashbag_table.specs.Tables.{entries_of, Swaps, Writes}
use Rattle.hashbag_table.proofs.SpotLemmas.{at_newer, at_waiting, put_newer_at, put_newer_tables, put_waiting_at, put_waiting_tables, put_waiting_slots}
use Rattle.hashbag_table.proofs.HintLemmas.{hints_written, hints_waiting}
use Rattle.hashbag_table.proofs.table.Table.put_spot.Goals as goal

-- the former instance equals the new one, and values are found after the write
equal_newer : (g : _) (c : goal.After-store_once-former g) → g.T.PartialEq.eq c.store_once-former.result c.args.value ≡ true
equal_newer g c =
    let same = holds (g.T.PartialEq.eq c.args.value) in
    g.met.T.Eq.laws.symm _ _ ∙ sym (ap same c.store_once-former.ensures.former) ∙ ap same (at_newer (ap (λ t. t.tables) c.self.view_is) c.in-Newer.is) ∙ c.requires.equal

reached_newer : (g : _) (c : goal.After-store_once-former g) → IsReached (hash_under g.T.Hash.hash_input g.S.BuildHasher g.S.Hasher.Hasher c.self.inside.hasher) c.store_once-former.new.slots
reached_newer g c = c.store_once-former.ensures.reached _ (λ a b e. hash_alike _ _ _ _ a b (g.met.T.Hash.respects_eq a b e)) c.self.invariant.kept.tables.newer_reached

equal_waiting : (g : _) (c : goal.After-store_once-former-in-Waiting g) → g.T.PartialEq.eq c.store_once-former-in-Waiting.result c.args.value ≡ true
equal_waiting g c =
    let same = holds (g.T.PartialEq.eq c.args.value) in
    g.met.T.Eq.laws.symm _ _ ∙ sym (ap same c.store_once-former-in-Waiting.ensures.former) ∙ sym (ap same (get_or-drop c.self.inside.carried_to c.self.inside.older.slots c.in-Waiting.place Empty))
    ∙ ap same (at_waiting (ap (λ t. t.tables) c.self.view_is) c.in-Waiting.is) ∙ c.requires.equal

reached_waiting : (g : _) (c : goal.After-store_once-former-in-Waiting g) → IsReached (hash_under g.T.Hash.hash_input g.S.BuildHasher g.S.Hasher.Hasher c.self.inside.hasher) c.store_once-former-in-Waiting.new.slots
reached_waiting g c = c.store_once-former-in-Waiting.ensures.reached _ (λ a b e. hash_alike _ _ _ _ a b (g.met.T.Hash.respects_eq a b e)) c.self.invariant.kept.tables.older_reached

pub invariant_of-self : goal.invariant_of-self
invariant_of-self g c =
    let put = c.store_once-former in
    record {
      kept = put_newer_tables g.T.PartialEq.eq g.met.T.Eq.laws _ _ (equal_newer g c) _ _ _ _ c.self.invariant.kept c.in-Newer.place _ put.new.slots put.ensures.former put.ensures.after (reached_newer g c);
      hints = hints_written c.self.invariant.hints put.new.slots.slots c.in-Newer.place _ put.ensures.after (ap is_live put.ensures.former) refl;
    }

pub returns-in-Newer-clause-map : goal.returns-in-Newer-clause-map
returns-in-Newer-clause-map g c e h =
    let put = c.store_once-former in
    subst (λ t. Swaps t.entries (entries_of put.new.slots.slots (drop c.self.inside.carried_to c.self.inside.older.slots)) e ((c.args.value, 1) ∷ [])) c.self.view_is
    (put_newer_at g.T.PartialEq.eq g.met.T.Eq.laws _ _ (equal_newer g c) _ _ _ _ c.self.invariant.kept c.in-Newer.place _ put.new.slots put.ensures.former put.ensures.after (reached_newer g c) e
    (ap slot_entry (at_newer (ap (λ t. t.tables) c.self.view_is) c.in-Newer.is) ∙ h))

pub returns-in-Newer-clause-counted : goal.returns-in-Newer-clause-counted
returns-in-Newer-clause-counted g c = (invariant_of-self g c).kept.counted

pub invariant_of-self-in-Waiting : goal.invariant_of-self-in-Waiting
invariant_of-self-in-Waiting g c =
    let put = c.store_once-former-in-Waiting in
    record {
      kept = put_waiting_tables g.T.PartialEq.eq g.met.T.Eq.laws _ _ (equal_waiting g c) _ _ _ _ c.self.invariant.kept c.in-Waiting.place _ put.new.slots put.ensures.former put.ensures.after (reached_waiting g c);
      hints = hints_waiting c.self.invariant.hints put.new.slots.slots c.in-Waiting.place _ put.ensures.after;
    }

pub returns-in-Waiting-clause-map : goal.returns-in-Waiting-clause-map
returns-in-Waiting-clause-map g c e h =
    let put = c.store_once-former-in-Waiting in
    subst (λ t. Swaps t.entries (entries_of c.self.inside.newer.slots (drop c.self.inside.carried_to put.new.slots.slots)) e ((c.args.value, 1) ∷ [])) c.self.view_is
    (put_waiting_at g.T.PartialEq.eq g.met.T.Eq.laws _ _ (equal_waiting g c) _ _ _ _ c.self.invariant.kept c.in-Waiting.place _ put.new.slots put.ensures.former put.ensures.after (reached_waiting g c) e
    (ap slot_entry (at_waiting (ap (λ t. t.tables) c.self.view_is) c.in-Waiting.is) ∙ h))

pub returns-in-Waiting-clause-after : goal.returns-in-Waiting-clause-after
returns-in-Waiting-clause-after g c =
    let put = c.store_once-former-in-Waiting in let new = put.new.slots.slots in let i = c.self.inside in let p = c.in-Waiting.place in
    subst (λ q. Writes q (Live c.args.value 1) c.args.self.now.tables (record { newer = i.newer.slots; waiting = drop i.carried_to new; older = length new; built = i.built })) (sym c.in-Waiting.is)
    (ap (λ t. t.tables.newer) c.self.view_is, put_waiting_slots g.T.PartialEq.eq g.met.T.Eq.laws _ _ (equal_waiting g c) _ _ _ _ c.self.invariant.kept p _ put.new.slots put.ensures.former put.ensures.after (reached_waiting g c) ∙ ap (λ t. slice_set t.tables.waiting p (Live c.args.value 1)) c.self.view_is, ap (λ t. t.tables.built) c.self.view_is)

pub returns-in-Waiting-clause-counted : goal.returns-in-Waiting-clause-counted
returns-in-Waiting-clause-counted g c = (invariant_of-self-in-Waiting g c).kept.counted
