-- Texts with a latch behind an enable, and with one that toggles, in the event mode.
use Rattle.std.specs.Prelude.{◌≡◌, ℕ, true, List, [], ◌∷◌, Some, None, codes}
use Rattle.circuit_theory.specs.declared.Mode.TheVariants.{Event}
use Rattle.circuit_theory.specs.Cover.{Cover}
use Rattle.sec_base.specs.declared.basics.Init.TheVariants as init
use Rattle.blif_read.specs.declared.design.BlifModel.{BlifModel}
use Rattle.blif_read.specs.declared.design.Statement.TheVariants.{Names, Latch}
use Rattle.flat_net.specs.View.{NetView}
use Rattle.signal_graph.specs.declared.inner_cone.latch_cone.kinds.LatchKind.{LatchKind}
use Rattle.signal_graph.specs.declared.inner_cone.latch_cone.kinds.LatchKind.TheVariants as kind
use Rattle.signal_graph.specs.inner_cone.latch_cone.Kinds.{AreKindsIn}
use Rattle.job_base.specs.sec_files.Loading.{Loads}
use Rattle.job_circuit.specs.Reports.{CanBeTold, CanBeRun}
use Rattle.pair_texts.specs.design_rows.Designs.{one_model}
use Rattle.pair_texts.specs.design_rows.Texts.{toggle}

-- `if (en) q <= d;` as Yosys writes it: a latch behind a multiplexer of itself and the data
abbrev pub held : List ℕ
held = codes ".model m\n.inputs d en\n.outputs q\n.names q d en n\n1-0 1\n-11 1\n.latch n q\n.end\n"

-- the second input where the third is 1, else the first
abbrev pub mux_cover : Cover
mux_cover = record { width = 3; rows = codes "1-0" ∷ codes "-11" ∷ []; on = true }

-- the design that the text spells
abbrev pub held_design : List BlifModel
held_design = one_model (codes "d" ∷ codes "en" ∷ []) (codes "q" ∷ []) (Names 4 (codes "q" ∷ codes "d" ∷ codes "en" ∷ []) (codes "n") mux_cover ∷ Latch 7 (codes "n") (codes "q") None None init.Unknown ∷ [])

-- its data and its enable in two cycles: it loads 1, and keeps it
abbrev pub two_cycles : List ℕ
two_cycles = codes "inputs d en\n11\n00\n"

-- in the event mode these are the kinds of the latches of the text's nets, and no others
abbrev pub HasKinds : List ℕ → List LatchKind → Type 0
HasKinds text kinds = (net : NetView) → Loads text net → (found : List LatchKind) → AreKindsIn Event net found → found ≡ kinds

-- The latch behind an enable is enabled and the one that toggles isn't; both can be told, and the first can be run, without a power
-- word and with one.
pub record EnablesMeetPremises : Type 0 where
  pub held_is_enabled : HasKinds held (kind.Enabled ∷ [])
  pub toggle_is_not_unate : HasKinds toggle (kind.NotUnate ∷ [])
  pub held_can_be_told : CanBeTold Event held
  pub toggle_can_be_told : CanBeTold Event toggle
  pub held_can_be_run : CanBeRun Event held two_cycles None
  pub held_can_be_powered : CanBeRun Event held two_cycles (Some (codes "1"))
