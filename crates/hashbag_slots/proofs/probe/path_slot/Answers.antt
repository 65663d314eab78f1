use Rattle.hashbag_slots.proofs.Paths.{path_mask}
use Rattle.hashbag_slots.proofs.probe.path_slot.Goals as goal

pub returns-clause-value : goal.returns-clause-value
returns-clause-value c = path_mask _ _ _ c.requires.slots c.requires.step
