-- What a BLIF text spells, and its first fault.
use Rattle.std.specs.Prelude.{◌≡◌, ℕ, true, false, List, [], ◌∷◌, Option, Some, None, Result, Ok, Err, codes, refl}
use Rattle.circuit_theory.specs.Interface.{◌or_else◌}
use Rattle.blif_read.specs.blif_lines.sec_base.Init.TheVariants as init
use Rattle.blif_read.specs.blif_lines.sec_base.Edge.TheVariants as edge
use Rattle.blif_read.specs.blif_lines.Lines.{cut_line, going_on}
use Rattle.blif_read.specs.declared.error.ReadKind.{ReadKind}
use Rattle.blif_read.specs.declared.error.ReadKind.TheVariants as kind
use Rattle.blif_read.specs.declared.design.BlifModel.{BlifModel}
use Rattle.blif_read.specs.declared.design.Design.{Design}
use Rattle.blif_read.specs.declared.error.ReadError.{ReadError}
use Rattle.blif_read.specs.declared.error.ReadError.TheVariants as read
use Rattle.blif_read.specs.declared.design.Statement.TheVariants.{Names, Latch, Subckt}
use Rattle.blif_read.specs.Heads.{Line, lines_of, head_of}
use Rattle.blif_read.specs.Spelled.{models_of}
use Rattle.blif_read.specs.Fault.{fault_of}

-- the number of a faulty line, and what is wrong with it
pub record FaultAt : Type 0 where
  pub line : ℕ
  pub kind : ReadKind

abbrev pub fault_at : ℕ → Option ReadKind → Option FaultAt → Option FaultAt
fault_at number None later = later
fault_at number (Some k) later = Some (record { line = number; kind = k })

-- the first faulty line, after the lines before, of which the latest is first
abbrev pub first_fault_after : List Line → List Line → Option FaultAt
first_fault_after before [] = None
first_fault_after before (line ∷ lines) = fault_at line.number (fault_of before line) (first_fault_after (line ∷ before) lines)

-- the lines, the latest first, on top of the lines before
abbrev pub back_over : List Line → List Line → List Line
back_over before [] = before
back_over before (line ∷ lines) = back_over (line ∷ before) lines

-- the models that a text spells
abbrev pub spelled : List ℕ → List BlifModel
spelled text = models_of (back_over [] (lines_of text))

abbrev pub fault_without_model : List BlifModel → Option FaultAt
fault_without_model [] = Some (record { line = 0; kind = kind.NoModel })
fault_without_model (m ∷ ms) = None

-- the first faulty line, or line 0 of a text without a model
abbrev pub first_fault : List ℕ → Option FaultAt
first_fault text = first_fault_after [] (lines_of text) or_else fault_without_model (spelled text)

-- Ok is the design that the text spells, and a refusal is its first fault
abbrev pub Reads : List ℕ → Result Design ReadError → Type 0
Reads text (Ok design) = (first_fault text ≡ None) × (design.models ≡ spelled text)
Reads text (Err read.NoMemory) = Unit {0}
Reads text (Err (read.At line kind)) = first_fault text ≡ Some (record { line = line; kind = kind })

-- and, on the on-set
andon_is_sound : first_fault (codes ".model m\n.inputs a b\n.outputs y\n.names a b y\n11 1\n.end\n") ≡ None
unfolding fault_of head_of cut_line going_on
andon_is_sound = refl

andon_spells : spelled (codes ".model m\n.inputs a b\n.outputs y\n.names a b y\n11 1\n.end\n") ≡
    record {
      name = codes "m";
      inputs = codes "a" ∷ codes "b" ∷ [];
      outputs = codes "y" ∷ [];
      clocks = [];
      statements = Names 4 (codes "a" ∷ codes "b" ∷ []) (codes "y") (record { width = 2; rows = codes "11" ∷ []; on = true }) ∷ [];
    } ∷ []
unfolding head_of cut_line going_on
andon_spells = refl

-- two models; a clock name that is repeated counts once; the off-set, a pair and a full latch
two_models : spelled (codes ".model t\n.clock c c\n.clock d c\n.subckt g u=a \\\n v=b=c\n.latch n y re c 2\n.model g\n.inputs u v\n.outputs w\n.names u v w\n0- 0\n-0 0") ≡
    record {
      name = codes "t";
      inputs = [];
      outputs = [];
      clocks = codes "c" ∷ codes "d" ∷ [];
      statements = Subckt 4 (codes "g") (record { formal = codes "u"; actual = codes "a" } ∷ record { formal = codes "v"; actual = codes "b=c" } ∷ [])
          ∷ Latch 6 (codes "n") (codes "y") (Some edge.Rising) (Some (codes "c")) init.DontCare ∷ [];
    }
    ∷ record {
      name = codes "g";
      inputs = codes "u" ∷ codes "v" ∷ [];
      outputs = codes "w" ∷ [];
      clocks = [];
      statements = Names 10 (codes "u" ∷ codes "v" ∷ []) (codes "w") (record { width = 2; rows = codes "0-" ∷ codes "-0" ∷ []; on = false }) ∷ [];
    } ∷ []
unfolding head_of cut_line going_on
two_models = refl

-- cut after the first byte of its row
cut_row : first_fault (codes ".model m\n.inputs a b\n.outputs y\n.names a b y\n1") ≡ Some (record { line = 5; kind = kind.BadRow })
unfolding fault_of head_of cut_line going_on
cut_row = refl

-- an output twice
twice : first_fault (codes ".model m\n.inputs a b\n.outputs y y\n.names a b y\n11 1\n.end\n") ≡ Some (record { line = 3; kind = kind.DuplicatePort })
unfolding fault_of head_of cut_line going_on
twice = refl

-- a cell of a library
cell : first_fault (codes ".model m\n.inputs a b\n.outputs y\n.gate and2 A=a B=b O=y\n.end\n") ≡ Some (record { line = 4; kind = kind.Unsupported (codes ".gate") })
unfolding fault_of head_of cut_line going_on
cell = refl

nothing : first_fault [] ≡ Some (record { line = 0; kind = kind.NoModel })
unfolding fault_of head_of cut_line going_on
nothing = refl

-- after `.end` no model is open; a row after a latch is stray
after_end : first_fault (codes ".model m\n.end\n.inputs a") ≡ Some (record { line = 3; kind = kind.NoModel })
unfolding fault_of head_of cut_line going_on
after_end = refl

stray : first_fault (codes ".model m\n.names y\n.latch y q\n1") ≡ Some (record { line = 4; kind = kind.StrayRow })
unfolding fault_of head_of cut_line going_on
stray = refl
