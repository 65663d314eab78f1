-- Names of slots and spots, and `MOST_VALUES`, to import from one file. `hashbag` re-exports them for the clauses of its callers.
pub use Rattle.hashbag_slots.specs.declared.slots.Slot.{Slot}
pub use Rattle.hashbag_slots.specs.declared.slots.Slot.TheVariants.{Empty, Removed, Moved, Live}
pub use Rattle.hashbag_table.specs.declared.table.Spot.{Spot}
pub use Rattle.hashbag_table.specs.declared.table.Spot.TheVariants.{Newer, Waiting}
pub use Rattle.hashbag_table.specs.declared.table.TheConstants.{MOST_VALUES}
