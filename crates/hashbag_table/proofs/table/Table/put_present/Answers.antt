use Rattle.std.proofs.Common.{◌≡◌, ℕ, ◌<◌, refl, Some, None, sym, ◌∙◌, arith}
use Rattle.std.specs.Map.{lookup_entry}
use Rattle.hashbag_table.specs.Tables.{Rewrites, slot_in}
use Rattle.hashbag_table.proofs.SpotLemmas.{held_entry, count_present, put_swapped}
use Rattle.hashbag_slots.specs.Slots.{slot_entry}
use Rattle.hashbag_slots.specs.Hashing.{hash_under}
use Rattle.hashbag_slots.specs.declared.slots.Slot.TheVariants.{Live}
use Rattle.hashbag_table.proofs.KeyLemmas.{named_positive}
use Rattle.hashbag_table.proofs.RoomKeptLemmas.{kept_Rewrites, keeps_more}
use Rattle.hashbag_table.proofs.table.Table.put_present.Goals.{In-Some}
use Rattle.hashbag_table.proofs.table.Table.put_present.Goals as goal

pub spot_of-requires : goal.spot_of-requires
unfolding hash_under
spot_of-requires g c = record { hashed = c.hash-hash.ensures }

-- the entry at the spot
held_at : (g : _) (c : In-Some g) → (e : g.row.T.Denot × ℕ) × (slot_entry (slot_in c.args.self.now.tables c.in-Some.spot) ≡ Some e)
held_at g c = held_entry (g.T.PartialEq.eq c.args.value) c.args.self.now.tables c.in-Some.spot c.in-Some.ensures.held

pub returns-in-Some-clause-before : goal.returns-in-Some-clause-before
returns-in-Some-clause-before g c =
    let held = held_at g (goal.at.returns-in-Some-clause-before g c).In-Some in
    let is = c.count_at-before.ensures.count held.0 held.1 in let found = sym c.in-Some.ensures.map ∙ held.1 in
    let positive : 0 < held.0.1 = named_positive g.T.PartialEq.eq g.met.T.Eq.laws (g.T.PartialEq.eq c.args.value) (λ v w yes. g.met.T.Eq.laws.congr c.args.value v w yes ∙ g.met.T.Eq.laws.symm v w) c.args.self.now.entries held.0 c.in-Some.ensures.counted found in
    (is ∙ sym (count_present g.T.PartialEq.eq c.args.value c.args.self.now.entries held.0 found), omega (arith, positive, is))

pub returns-in-Some-clause-stored : goal.returns-in-Some-clause-stored
returns-in-Some-clause-stored g c =
    let eq = g.T.PartialEq.eq in let v = c.args.value in let es = c.args.self.now.entries in
    let held = held_at g (goal.at.returns-in-Some-clause-stored g c).In-Some in
    let e = held.0 in
    let found : lookup_entry (eq v) es ≡ Some e = sym c.in-Some.ensures.map ∙ held.1 in
    let slot : Rewrites (eq v) (λ _. Live v 1) c.args.self.now.tables c.put_spot-replaced.new.self.tables = record { spot = c.in-Some.spot; held = c.in-Some.ensures.held; after = c.put_spot-replaced.ensures.after } in
    let kept = kept_Rewrites (eq v) (λ _. Live v 1) c.args.self.now.tables c.put_spot-replaced.new.self.tables (λ w n. refl) slot in
    record {
      map = record {
        means = put_swapped eq g.met.T.Eq.laws v es c.put_spot-replaced.new.self.entries e c.in-Some.ensures.counted found (c.put_spot-replaced.ensures.map e held.1);
        hasher = c.put_spot-replaced.ensures.hasher;
        counted = c.put_spot-replaced.ensures.counted;
      };
      new_set = λ none. let no : Some e ≡ None = sym found ∙ none in absurd (cc);
      slot = λ _. slot;
      arrives = λ none. let no : Some e ≡ None = sym found ∙ none in absurd (cc);
      room = λ _. keeps_more 1 _ _ kept;
      same_room = λ _. kept;
    }
