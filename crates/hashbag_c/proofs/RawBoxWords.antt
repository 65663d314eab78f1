-- The box behind two words, under the type parameters of a walk.
use mir.Syntax.{Dict}
use denote.RattleType.{RattleType}
use denote.Param.Laws.{Laws}
use Rattle.core.specs.declared.alloc.Allocator.{Ghosts}
use Rattle.std_alloc.proofs.BoxSteps.Form.{Bx, R, P}
use Rattle.hashbag_c.specs.contracts.raw_box.RawBox as RawBox

-- a box of X over an allocator Z
abbrev pub box_of : (X Z : RattleType) → Laws X → Laws Z → Ghosts Z.Denot → Dict → Dict → Bx
box_of X Z LX LZ g d dd = record { row = X; laws = LX; al = record { row = Z; laws = LZ; g = g; d = d; drops = dd } }

-- its two words
abbrev pub Words : Bx → RattleType
Words E = RawBox.the_row (R E) (P E) E.al.g
