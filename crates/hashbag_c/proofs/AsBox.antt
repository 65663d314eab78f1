-- The boxes that the handle of a bag and that of a walk have.
use mir.Syntax.{impl, tnil, dnil}
use mathlib.Core.List.{[]}
use denote.Param.Laws.{Laws}
use denote.RattleType.{RattleType}
use denote.Signature.{Slot, plain}
use Rattle.std_alloc.proofs.BoxSteps.Form.{Bx}
use Rattle.std_heap.specs.contracts.Global as Heap
use Rattle.std_heap.specs.contracts.GlobalAllocator.TheImpl.{ghosts, dict}
use Rattle.std_heap.proofs.Global.TheLaws as heap
use Rattle.hashbag_c.specs.contracts.held.Held as Held
use Rattle.hashbag_c.proofs.held.Held.TheLaws as held
use Rattle.hashbag_c.specs.contracts.held.Left as Left
use Rattle.hashbag_c.proofs.held.Left.TheLaws as left
use Rattle.hashbag_c.specs.contracts.raw_box.RawBox as RawBox
use Rattle.hashbag_c.proofs.RawBoxWords.{box_of}

abbrev box : (Y : RattleType) → Laws Y → Bx
box Y L = box_of Y Heap.the_row L heap.the_row_laws ghosts dict (impl [] tnil dnil)

abbrev pub E : Bx
E = box Held.the_row held.the_row_laws

abbrev pub LeftE : Bx
LeftE = box Left.the_row left.the_row_laws

-- the two words of a box, as the argument of a function
abbrev pub words : RattleType → Slot 0
words Y = plain (λ _. RawBox.the_row Y Heap.the_row ghosts)
