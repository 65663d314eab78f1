use Rattle.std.proofs.Common.{◌≡◌, ◌++◌, ℕ, [], List, length, drop, refl, ap, sym, subst, ◌∙◌, arith}
use Rattle.std.specs.List.Sorted.{IsPermutation}
use Rattle.hashbag_slots.specs.declared.slots.Slot.{Slot}
use Rattle.hashbag_slots.specs.Columns.{IsReached}
use Rattle.hashbag_slots.specs.Hashing.{hash_under}
use Rattle.hashbag_slots.specs.Slots.{entries}
use Rattle.hashbag_table.specs.DrainWalk.{emptied}
use Rattle.hashbag_table.specs.Entries.{IsCounted}
use Rattle.hashbag_table.specs.Table.{Table}
use Rattle.hashbag_table.specs.Tables.{entries_of}
use Rattle.hashbag_table.proofs.CarryLemmas.{IsTables-none}
use Rattle.hashbag_table.proofs.HintLemmas.{hints_new}
use Rattle.hashbag_table.proofs.SlotLemmas.{entries-drop}
use Rattle.hashbag_table.proofs.table.Table.drain.Goals as goal

-- what contracts see of a table of no slots
none_left : {T S : Type 0} (h : S) (newer older : List (Slot T)) (built : ℕ) → newer ≡ [] → older ≡ [] → (let t : Table T S = record { entries = entries_of newer older; hasher = h; tables = record { newer = newer; waiting = older; older = length older; built = built } } in t) ≡ record { entries = []; hasher = h; tables = record { newer = []; waiting = []; older = 0; built = built } }
none_left h newer older built e f i = record { entries = entries_of (e i) (f i); hasher = h; tables = record { newer = e i; waiting = f i; older = length (f i); built = built } }

-- both tables have no slots
pub invariant_of-self-lent : goal.invariant_of-self-lent
invariant_of-self-lent g c = λ w.
    let hash = hash_under g.T.Hash.hash_input g.S.BuildHasher g.S.Hasher.Hasher c.self.inside.hasher in
    record {
      kept = IsTables-none g.T.PartialEq.eq hash c.replace-newer.new.dest c.replace-older.new.dest
          (ap (λ (s : _). s.slots) c.replace-newer.ensures.after ∙ c.no_slots.ensures.slots) (ap (λ (s : _). s.slots) c.replace-older.ensures.after ∙ c.no_slots-2.ensures.slots)
          (subst (IsReached hash) (sym c.replace-newer.ensures.after) (c.no_slots.ensures.reached hash)) (subst (IsReached hash) (sym c.replace-older.ensures.after) (c.no_slots-2.ensures.reached hash));
      hints = hints_new c.replace-newer.new.dest.slots c.replace-older.new.dest.slots 0 _ (λ small. absurd (omega arith));
    }

pub returns : goal.returns
returns g c =
    let i = c.self.inside in let t = c.self.invariant.kept.tables in
    let e = ap (λ (s : _). s.slots) c.replace-newer.ensures.after ∙ c.no_slots.ensures.slots in
    let f = ap (λ (s : _). s.slots) c.replace-older.ensures.after ∙ c.no_slots-2.ensures.slots in
    let all : IsPermutation (entries_of i.newer.slots i.older.slots) c.into_walk.result = subst (λ (s : _). IsPermutation (entries s.slots ++ entries i.older.slots) c.into_walk.result) c.replace-newer.ensures.value
    (subst (λ (s : _). IsPermutation (entries c.replace-newer.result.slots ++ entries s.slots) c.into_walk.result) c.replace-older.ensures.value c.into_walk.ensures.entries) in
    let same : entries_of i.newer.slots (drop i.carried_to i.older.slots) ≡ entries_of i.newer.slots i.older.slots =
    ap (λ es. entries i.newer.slots ++ es) (entries-drop i.older.slots i.carried_to t.carried_within t.carried_not_live) in (
      (refl, λ w. none_left i.hasher _ _ i.built e f ∙ ap emptied c.self.view_is),
      record {
        ends_empty = tt;
        entries = subst (λ m. IsPermutation m.entries c.into_walk.result) c.self.view_is (subst (λ es. IsPermutation es c.into_walk.result) (sym same) all);
        counted = subst (λ m. IsCounted g.T.PartialEq.eq m.entries) c.self.view_is c.self.invariant.kept.counted;
        fits = c.into_walk.ensures.fits;
      },
    )
