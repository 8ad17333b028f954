-- The first fault and the models of texts that the tests read too, computed from the definitions.
use Rattle.std.specs.Prelude.{◌≡◌, false, [], ◌∷◌, Some, None, codes, refl}
use Rattle.blif_read.specs.blif_lines.sec_base.Init.TheVariants as init
use Rattle.blif_read.specs.blif_lines.sec_base.Edge.TheVariants as edge
use Rattle.blif_read.specs.blif_lines.Lines.{cut_line, going_on}
use Rattle.blif_read.specs.declared.error.ReadKind.TheVariants as kind
use Rattle.blif_read.specs.declared.design.Statement.TheVariants.{Names, Latch}
use Rattle.blif_read.specs.Heads.{head_of}
use Rattle.blif_read.specs.Fault.{fault_of}
use Rattle.blif_read.specs.Reading.{first_fault, spelled}

-- no model is open, before the number of tokens is looked at
closed_end : first_fault (codes ".model m\n.end\n.end m") ≡ Some (record { line = 3; kind = kind.NoModel })
unfolding fault_of head_of cut_line going_on
closed_end = refl

-- a carriage return inside of a line is a control byte
inner_return : first_fault (codes ".model m\n.inputs a\rb") ≡ Some (record { line = 2; kind = kind.ControlByte })
unfolding fault_of head_of cut_line going_on
inner_return = refl

-- the rows of a joined `.names`, parted by a comment and an empty line
mixed_rows : first_fault (codes ".model m\n.names a \\\nb y # \\\n11 1\n\n# 1\n1- 0") ≡ Some (record { line = 7; kind = kind.MixedCover })
unfolding fault_of head_of cut_line going_on
mixed_rows = refl

-- a latch without a control, and two models of which the second has no `.end`
two_ends : spelled (codes ".model m\n.latch d q fe NIL\n.end\n.model n\n.names y\n0") ≡
    record { name = codes "m"; inputs = []; outputs = []; clocks = []; statements = Latch 2 (codes "d") (codes "q") (Some edge.Falling) None init.Unknown ∷ [] }
    ∷ record { name = codes "n"; inputs = []; outputs = []; clocks = []; statements = Names 5 [] (codes "y") (record { width = 0; rows = [] ∷ []; on = false }) ∷ [] } ∷ []
unfolding head_of cut_line going_on
two_ends = refl
