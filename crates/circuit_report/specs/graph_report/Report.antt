-- The report of a circuit: how many inputs, outputs and latches it has, the sequential depths of latches and outputs, what each
-- latch is, and a cycle of latches.
use Rattle.std.specs.Prelude.{◌≡◌, ℕ, List, [], ◌∷◌, ◌++◌, map, length, codes, Option, Some, None, MatchOption, All, Contains}
use Rattle.std.specs.Fmt.{decimal}
use Rattle.std.specs.List.{flat_map}
use Rattle.circuit_theory.specs.declared.Mode.{Mode}
use Rattle.circuit_theory.specs.Circuit.{Circuit, Named}
use Rattle.circuit_theory.specs.Agree.{EnabledIn}
use Rattle.circuit_theory.specs.Depth.{IsDepth, HasNoDepth, HasCycle, IsCycle, BeginsWithLeast}
use Rattle.flat_net.specs.declared.parts.LatchAt.{LatchAt}
use Rattle.flat_net.specs.View.{NetView, named, circuit_of}
use Rattle.signal_graph.specs.declared.inner_cone.latch_cone.kinds.LatchKind.{LatchKind}
use Rattle.signal_graph.specs.declared.inner_cone.latch_cone.kinds.LatchKind.TheVariants as kind
use Rattle.signal_graph.specs.inner_cone.latch_cone.Kinds.{IsKindIn}
use Rattle.witness_report.specs.Text.{names_text}

-- a signal with its sequential depth, or without one
pub record Measured : Type 0 where
  pub signal : Named ℕ
  pub depth : Option ℕ

-- it is the greatest number of latches on a chain from the signal, or there is no greatest, over the enabled latches of the mode
abbrev pub IsMeasured : Mode → Circuit ℕ → Measured → Type 0
IsMeasured mode c m = MatchOption m.depth (HasNoDepth c (EnabledIn mode c) m.signal.place) (λ d. IsDepth c (EnabledIn mode c) m.signal.place d)

-- a latch's signal with its depth, and what the latch is
pub record MeasuredLatch : Type 0 where
  pub measured : Measured
  pub kind : LatchKind

abbrev pub IsMeasuredLatch : Mode → Circuit ℕ → MeasuredLatch → Type 0
IsMeasuredLatch mode c l = IsMeasured mode c l.measured × IsKindIn mode c l.measured.signal.place l.kind

-- items that tell of these signals in their order, each of them right
pub record TellOf {X : Type 0} (signal_of : X → Named ℕ) (Right : X → Type 0) (signals : List (Named ℕ)) (items : List X) : Type 0 where
  pub signals_are : map signal_of items ≡ signals
  pub right : All Right items

-- a latch as its signal, under its name
abbrev pub latch_signal : LatchAt → Named ℕ
latch_signal l = record { name = l.name; place = l.out.0 }

-- latches of the net on a cycle, of which none has a name before the first one's; or there is no cycle
abbrev pub IsFound : Mode → NetView → Option (List LatchAt) → Type 0
IsFound mode n None = HasCycle (circuit_of n) (EnabledIn mode (circuit_of n)) [] → ⊥
IsFound mode n (Some latches) =
    All (Contains n.latches) latches × IsCycle (circuit_of n) (EnabledIn mode (circuit_of n)) [] (map (λ (l : LatchAt). l.out.0) latches)
    × BeginsWithLeast (circuit_of n) (map (λ (l : LatchAt). l.out.0) latches)

-- a dash where there is no depth
abbrev pub depth_text : Option ℕ → List ℕ
depth_text None = 45 ∷ []
depth_text (Some d) = decimal d

abbrev pub kind_word : LatchKind → List ℕ
kind_word kind.Plain = codes "plain"
kind_word kind.Enabled = codes "enabled"
kind_word kind.NotUnate = codes "not-unate"

-- the line of a latch
abbrev pub latch_text : List ℕ → Option ℕ → LatchKind → List ℕ
latch_text name depth k = codes "latch " ++ name ++ codes " depth " ++ depth_text depth ++ 32 ∷ [] ++ kind_word k ++ 10 ∷ []

abbrev pub latch_line : MeasuredLatch → List ℕ
latch_line l = latch_text l.measured.signal.name l.measured.depth l.kind

-- the line of an output
abbrev pub output_text : List ℕ → Option ℕ → List ℕ
output_text name depth = codes "output " ++ name ++ codes " depth " ++ depth_text depth ++ 10 ∷ []

abbrev pub output_line : Measured → List ℕ
output_line m = output_text m.signal.name m.depth

-- the line of the cycle's names, or that there is none
abbrev pub cycle_line : Option (List LatchAt) → List ℕ
cycle_line None = codes "acyclic\n"
cycle_line (Some latches) = codes "cycle" ++ names_text (map (λ (l : LatchAt). l.name) latches) ++ 10 ∷ []

-- the lines of the counts
abbrev pub counts_text : NetView → List ℕ
counts_text n = codes "inputs " ++ decimal (length n.inputs) ++ codes "\noutputs " ++ decimal (length n.outputs) ++ codes "\nlatches " ++ decimal (length n.latches) ++ 10 ∷ []

-- The text is the report of the net in the mode.
pub record IsGraphReport (mode : Mode) (n : NetView) (text : List ℕ) : Type 0 where
  pub latches : List MeasuredLatch
  pub outputs : List Measured
  pub cycle : Option (List LatchAt)
  pub latches_are : TellOf (λ (l : MeasuredLatch). l.measured.signal) (IsMeasuredLatch mode (circuit_of n)) (map latch_signal n.latches) latches
  pub outputs_are : TellOf (λ (m : Measured). m.signal) (IsMeasured mode (circuit_of n)) (map named n.outputs) outputs
  pub cycle_is : IsFound mode n cycle
  pub text_is : text ≡ counts_text n ++ flat_map latch_line latches ++ flat_map output_line outputs ++ cycle_line cycle
