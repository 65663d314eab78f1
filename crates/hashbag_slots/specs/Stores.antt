-- The memory in which a row of cells lies.
use Rattle.std.specs.Prelude.{◌≡◌, List, [], replicate, Option, None, ⊤}
use Rattle.std.specs.declared.alloc.Global.{Global}
use Rattle.hashbag_slots.specs.declared.cells.Store.{Store}
use Rattle.hashbag_slots.specs.declared.cells.Store.TheVariants.{Nothing, Unwritten, Written}

module _ {T : Type 0} where
  -- the cells that a store stands for
  abbrev pub cells_of : Store T → List (Option T)
  cells_of Nothing = []
  cells_of (Unwritten block deed) = replicate block.len None
  cells_of (Written row) = row

  -- the memory of a store can be freed at this allocator. A block needs its deed, which is the right to free that block there. A row has its deed
  -- within, as the row's own invariant says
  abbrev pub IsStore : Global → Store T → Type 0
  IsStore alloc Nothing = ⊤
  IsStore alloc (Unwritten block deed) = (deed.at ≡ block.ptr) × (deed.len ≡ block.len) × (deed.alloc ≡ alloc)
  IsStore alloc (Written row) = ⊤
