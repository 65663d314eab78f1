use Rattle.std.proofs.Common.{◌≡◌, ℕ, ◌-◌, refl, ◌∷◌, [], Some, sym, ap, ◌∙◌, subst, arith}
use Rattle.hashbag_slots.specs.declared.slots.Slot.TheVariants.{Removed}
use Rattle.hashbag_slots.specs.Slots.{slot_entry, recounted}
use Rattle.hashbag_table.specs.Named.{named_entry}
use Rattle.hashbag_table.specs.Tables.{Swaps, slot_in}
use Rattle.hashbag_table.proofs.KeyLemmas.{named_present, named_absent, named_found, named_positive}
use Rattle.hashbag_table.proofs.RoomKeptLemmas.{kept_Rewrites}
use Rattle.hashbag_table.proofs.SpotLemmas.{held_entry, fewer_swapped, gone_swapped, fewer_absent}
use Rattle.hashbag_table.proofs.table.Table.take_one.Goals.{In-Some, After-take_spot-former}
use Rattle.hashbag_table.proofs.table.Table.take_one.Goals as goal

-- the entry at the spot, and the one that was taken from it
held_at : (g : _) (c : In-Some g) → (e : g.row.T.Denot × ℕ) × (slot_entry (slot_in c.args.self.now.tables c.in-Some.spot) ≡ Some e)
held_at g c = held_entry (g.Q.Key.names c.args.key) c.args.self.now.tables c.in-Some.spot c.in-Some.ensures.held

taken_at : (g : _) (c : After-take_spot-former g) → (slot_entry (slot_in c.args.self.now.tables c.in-Some.spot) ≡ Some (c.take_spot-former.result.0, c.take_spot-former.result.1)) × (c.count_at-before.result ≡ c.take_spot-former.result.1)
taken_at g c = let at = ap slot_entry c.take_spot-former.ensures.taken in (at, c.count_at-before.ensures.count _ at)

pub returns-then-before-gt1-clause-others : goal.returns-then-before-gt1-clause-others
returns-then-before-gt1-clause-others g c =
    let names = g.Q.Key.names c.args.key in let es = c.args.self.now.entries in let held = held_at g (goal.at.returns-then-before-gt1-clause-others g c).In-Some in
    let e = held.0 in
    let found : named_entry names es ≡ Some e = sym c.in-Some.ensures.map ∙ held.1 in
    let more = c.if-before-gt1.true in
    (c.count_at-before.ensures.count e held.1 ∙ sym (named_present names es e found), λ one. absurd (omega (arith, more, one)))

pub returns-then-before-gt1-clause-taken : goal.returns-then-before-gt1-clause-taken
returns-then-before-gt1-clause-taken g c v does =
    let eq = g.T.PartialEq.eq in let names = g.Q.Key.names c.args.key in let es = c.args.self.now.entries in let held = held_at g (goal.at.returns-then-before-gt1-clause-taken g c).In-Some in
    let e = held.0 in
    let found = sym (named_found eq g.met.T.Eq.laws names (g.met.Q.Key.names_one c.args.key) v does es) ∙ sym c.in-Some.ensures.map ∙ held.1 in
    let count : c.count_at-before.result ≡ e.1 = c.count_at-before.ensures.count e held.1 in
    let more = c.if-before-gt1.true in
    record {
      means = fewer_swapped eq v es g.met.T.Eq.laws 1 c.set_spot.new.self.entries e c.in-Some.ensures.counted found (omega (arith, more, count))
          (subst (λ (b : ℕ). Swaps es c.set_spot.new.self.entries e ((e.0, b - 1) ∷ [])) count (c.set_spot.ensures.map e held.1));
      hasher = c.set_spot.ensures.hasher;
      counted = c.set_spot.ensures.counted;
    }

pub returns-then-before-gt1-clause-fewer : goal.returns-then-before-gt1-clause-fewer
returns-then-before-gt1-clause-fewer g c = λ some. record { spot = c.in-Some.spot; held = c.in-Some.ensures.held; after = c.set_spot.ensures.after }

pub returns-then-before-gt1-clause-absent : goal.returns-then-before-gt1-clause-absent
returns-then-before-gt1-clause-absent g c = λ none. let more = c.if-before-gt1.true in absurd (omega (arith, more, none))

pub returns-in-Some-clause-last : goal.returns-in-Some-clause-last
returns-in-Some-clause-last g c =
    let names = g.Q.Key.names c.args.key in let es = c.args.self.now.entries in let r = c.take_spot-former.result in
    let taken = taken_at g (goal.at.returns-in-Some-clause-last g c).After-take_spot-former in let at = taken.0 in let count = taken.1 in
    let found : named_entry names es ≡ Some (r.0, r.1) = sym c.in-Some.ensures.map ∙ at in
    let few = c.if-before-gt1.false in
    let some = named_positive g.T.PartialEq.eq g.met.T.Eq.laws names (g.met.Q.Key.names_one c.args.key) es (r.0, r.1) c.in-Some.ensures.counted found in
    let one : r.1 ≡ 1 = omega (arith, count, few, some) in
    found ∙ ap (λ (n : ℕ). Some (r.0, n)) one

pub returns-in-Some-clause-taken : goal.returns-in-Some-clause-taken
returns-in-Some-clause-taken g c v does =
    let eq = g.T.PartialEq.eq in let names = g.Q.Key.names c.args.key in let es = c.args.self.now.entries in let r = c.take_spot-former.result in
    let taken = taken_at g (goal.at.returns-in-Some-clause-taken g c).After-take_spot-former in let at = taken.0 in let count = taken.1 in
    let found = sym (named_found eq g.met.T.Eq.laws names (g.met.Q.Key.names_one c.args.key) v does es) ∙ sym c.in-Some.ensures.map ∙ at in
    let few = c.if-before-gt1.false in
    record {
      means = gone_swapped eq v es g.met.T.Eq.laws 1 c.take_spot-former.new.self.entries (r.0, r.1) c.in-Some.ensures.counted found (omega (arith, few, count)) c.take_spot-former.ensures.map;
      hasher = c.take_spot-former.ensures.hasher;
      counted = c.take_spot-former.ensures.counted;
    }

pub returns-in-Some-clause-gone : goal.returns-in-Some-clause-gone
returns-in-Some-clause-gone g c = record { spot = c.in-Some.spot; held = c.in-Some.ensures.held; after = c.take_spot-former.ensures.after }

pub returns-clause-others : goal.returns-clause-others
returns-clause-others g c = (sym (named_absent (g.Q.Key.names c.args.key) c.args.self.now.entries (sym c.in_default.ensures.map)), λ one. absurd (omega (arith, one)))

pub returns-clause-taken : goal.returns-clause-taken
returns-clause-taken g c v does =
    record {
      means = fewer_absent g.T.PartialEq.eq v c.args.self.now.entries 1 (sym (c.in_default.ensures.map ∙ named_found g.T.PartialEq.eq g.met.T.Eq.laws (g.Q.Key.names c.args.key) (g.met.Q.Key.names_one c.args.key) v does c.args.self.now.entries));
      hasher = refl;
      counted = c.in_default.ensures.counted;
    }

pub returns-in-Some-clause-room : goal.returns-in-Some-clause-room
returns-in-Some-clause-room g c =
    kept_Rewrites (g.Q.Key.names c.args.key) (λ _. Removed) c.args.self.now.tables c.take_spot-former.new.self.tables (λ v n. refl)
    (record { spot = c.in-Some.spot; held = c.in-Some.ensures.held; after = c.take_spot-former.ensures.after })

pub returns-then-before-gt1-clause-room : goal.returns-then-before-gt1-clause-room
returns-then-before-gt1-clause-room g c =
    kept_Rewrites (g.Q.Key.names c.args.key) (recounted (c.count_at-before.result - 1)) c.args.self.now.tables c.set_spot.new.self.tables (λ v n. refl)
    (record { spot = c.in-Some.spot; held = c.in-Some.ensures.held; after = c.set_spot.ensures.after })
