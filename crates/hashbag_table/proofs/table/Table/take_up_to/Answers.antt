use Rattle.std.proofs.Common.{◌≡◌, ℕ, ◌-◌, ◌∷◌, [], Some, refl, sym, ap, ◌∙◌, subst, arith}
use Rattle.hashbag_slots.specs.Slots.{slot_entry, recounted}
use Rattle.hashbag_slots.specs.declared.slots.Slot.TheVariants.{Removed}
use Rattle.hashbag_table.specs.Named.{named_entry}
use Rattle.hashbag_table.specs.Tables.{Swaps, slot_in}
use Rattle.hashbag_table.proofs.KeyLemmas.{named_present, named_absent, named_found, named_positive}
use Rattle.hashbag_table.proofs.RoomKeptLemmas.{kept_Rewrites}
use Rattle.hashbag_table.proofs.SpotLemmas.{held_entry, fewer_swapped, gone_swapped, fewer_absent}
use Rattle.hashbag_table.proofs.table.Table.take_up_to.Goals.{In-Some, After-take_spot-former}
use Rattle.hashbag_table.proofs.table.Table.take_up_to.Goals as goal

-- the entry at the spot, which is that of the named value
held_at : (g : _) (c : In-Some g) → (e : g.row.T.Denot × ℕ) × (slot_entry (slot_in c.args.self.now.tables c.in-Some.spot) ≡ Some e)
held_at g c = held_entry (g.Q.Key.names c.args.key) c.args.self.now.tables c.in-Some.spot c.in-Some.ensures.held

found_at : (g : _) (c : After-take_spot-former g) → named_entry (g.Q.Key.names c.args.key) c.args.self.now.entries ≡ Some (c.take_spot-former.result.0, c.take_spot-former.result.1)
found_at g c = sym c.in-Some.ensures.map ∙ ap slot_entry c.take_spot-former.ensures.taken

pub returns-then-n-before-clause-before : goal.returns-then-n-before-clause-before
returns-then-n-before-clause-before g c =
    let names = g.Q.Key.names c.args.key in let es = c.args.self.now.entries in let held = held_at g (goal.at.returns-then-n-before-clause-before g c).In-Some in
    let found : named_entry names es ≡ Some held.0 = sym c.in-Some.ensures.map ∙ held.1 in
    c.count_at-before.ensures.count held.0 held.1 ∙ sym (named_present names es held.0 found)

pub returns-then-n-before-clause-taken : goal.returns-then-n-before-clause-taken
returns-then-n-before-clause-taken g c v does =
    let eq = g.T.PartialEq.eq in let names = g.Q.Key.names c.args.key in let es = c.args.self.now.entries in let held = held_at g (goal.at.returns-then-n-before-clause-taken g c).In-Some in
    let e = held.0 in
    let found = sym (named_found eq g.met.T.Eq.laws names (g.met.Q.Key.names_one c.args.key) v does es) ∙ sym c.in-Some.ensures.map ∙ held.1 in
    let count : c.count_at-before.result ≡ e.1 = c.count_at-before.ensures.count e held.1 in
    let more = c.if-n-before.true in
    record {
      means = fewer_swapped eq v es g.met.T.Eq.laws c.args.n c.set_spot.new.self.entries e c.in-Some.ensures.counted found (omega (arith, more, count))
          (subst (λ b. Swaps es c.set_spot.new.self.entries e ((e.0, b - c.args.n) ∷ [])) count (c.set_spot.ensures.map e held.1));
      hasher = c.set_spot.ensures.hasher;
      counted = c.set_spot.ensures.counted;
    }

pub returns-in-Some-clause-before : goal.returns-in-Some-clause-before
returns-in-Some-clause-before g c =
    let r = c.take_spot-former.result in
    sym (named_present (g.Q.Key.names c.args.key) c.args.self.now.entries (r.0, r.1) (found_at g (goal.at.returns-in-Some-clause-before g c).After-take_spot-former))

pub returns-in-Some-clause-taken : goal.returns-in-Some-clause-taken
returns-in-Some-clause-taken g c v does =
    let eq = g.T.PartialEq.eq in let names = g.Q.Key.names c.args.key in let es = c.args.self.now.entries in let r = c.take_spot-former.result in
    let at = ap slot_entry c.take_spot-former.ensures.taken in
    let found = sym (named_found eq g.met.T.Eq.laws names (g.met.Q.Key.names_one c.args.key) v does es) ∙ sym c.in-Some.ensures.map ∙ at in
    let count : c.count_at-before.result ≡ r.1 = c.count_at-before.ensures.count (r.0, r.1) at in
    let few = c.if-n-before.false in
    record {
      means = gone_swapped eq v es g.met.T.Eq.laws c.args.n c.take_spot-former.new.self.entries (r.0, r.1) c.in-Some.ensures.counted found (omega (arith, few, count)) c.take_spot-former.ensures.map;
      hasher = c.take_spot-former.ensures.hasher;
      counted = c.take_spot-former.ensures.counted;
    }

pub returns-in-Some-clause-none : goal.returns-in-Some-clause-none
returns-in-Some-clause-none g c none =
    let r = c.take_spot-former.result in let found = found_at g (goal.at.returns-in-Some-clause-none g c).After-take_spot-former in
    let pos = named_positive g.T.PartialEq.eq g.met.T.Eq.laws (g.Q.Key.names c.args.key) (g.met.Q.Key.names_one c.args.key) c.args.self.now.entries (r.0, r.1) c.in-Some.ensures.counted found in absurd (omega (arith, pos, none))

pub returns-clause-before : goal.returns-clause-before
returns-clause-before g c = sym (named_absent (g.Q.Key.names c.args.key) c.args.self.now.entries (sym c.in_default.ensures.map))

pub returns-clause-taken : goal.returns-clause-taken
returns-clause-taken g c v does =
    record {
      means = fewer_absent g.T.PartialEq.eq v c.args.self.now.entries c.args.n (sym (c.in_default.ensures.map ∙ named_found g.T.PartialEq.eq g.met.T.Eq.laws (g.Q.Key.names c.args.key) (g.met.Q.Key.names_one c.args.key) v does c.args.self.now.entries));
      hasher = refl;
      counted = c.in_default.ensures.counted;
    }

pub returns-in-Some-clause-room : goal.returns-in-Some-clause-room
returns-in-Some-clause-room g c =
    kept_Rewrites (g.Q.Key.names c.args.key) (λ _. Removed) c.args.self.now.tables c.take_spot-former.new.self.tables (λ v n. refl)
    (record { spot = c.in-Some.spot; held = c.in-Some.ensures.held; after = c.take_spot-former.ensures.after })

pub returns-then-n-before-clause-room : goal.returns-then-n-before-clause-room
returns-then-n-before-clause-room g c =
    kept_Rewrites (g.Q.Key.names c.args.key) (recounted (c.count_at-before.result - c.args.n)) c.args.self.now.tables c.set_spot.new.self.tables (λ v n. refl)
    (record { spot = c.in-Some.spot; held = c.in-Some.ensures.held; after = c.set_spot.ensures.after })
