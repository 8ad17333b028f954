-- The first fault of a design, from the faults that the parts of the flattening tell.
use Rattle.std.proofs.Common.{◌≢◌, ℕ, List, sym, ◌∙◌, subst}
use Rattle.std.proofs.lemmas.Option.{none-some}
use Rattle.blif_read.specs.declared.design.BlifModel.{BlifModel}
use Rattle.elaborate.specs.declared.flat.Flat.{Flat}
use Rattle.elaborate.specs.declared.error.FlatError.{FlatError}
use Rattle.elaborate.specs.declared.error.FlatError.TheVariants as fault
use Rattle.elaborate.specs.Flat.{FlatDesign, named, name_at, view_of, flat_design_of}
use Rattle.elaborate.specs.Walked.{IsWalked}
use Rattle.flatten.specs.connectivity.Faults.{IsWireFault}
use Rattle.flatten.specs.connectivity.Wired.{IsTold, IsFaultless}
use Rattle.flatten.specs.Loops.{IsLoop}
use Rattle.flatten.specs.DesignFaults.{IsLoopFault, DesignFault, IsSoundDesign}

module _ (models : List BlifModel) (flat : Flat) (walked : IsWalked models flat) where
  -- a fault of drivers or clocks
  pub wire_fault : (e : FlatError) → e ≢ fault.NoMemory → IsTold flat e → DesignFault models e
  wire_fault e some told = DesignFault.wires walked.faultless (subst (λ (d : FlatDesign (List ℕ)). IsWireFault d e) walked.same (told some models))

  -- there is none
  pub no_wire_fault : IsFaultless flat → (e : FlatError) → IsWireFault (flat_design_of models) e → ⊥
  no_wire_fault none e h = none models e (subst (λ (d : FlatDesign (List ℕ)). IsWireFault d e) (sym walked.same) h)

  -- a loop
  pub loop_fault : IsFaultless flat → (e : FlatError) → IsLoopFault (named (name_at flat.names) (view_of models flat)) e → DesignFault models e
  loop_fault none e h = DesignFault.loops walked.faultless (no_wire_fault none) (subst (λ (d : FlatDesign (List ℕ)). IsLoopFault d e) walked.same h)

  no_loop_fault : ((names : List (List ℕ)) → IsLoop (flat_design_of models) names → ⊥) → (e : FlatError) → IsLoopFault (flat_design_of models) e → ⊥
  no_loop_fault none (fault.UnknownModel n) h = h
  no_loop_fault none (fault.Recursive n) h = h
  no_loop_fault none (fault.UnknownFormal n) h = h
  no_loop_fault none (fault.FormalTwice n) h = h
  no_loop_fault none (fault.OpenInput n) h = h
  no_loop_fault none (fault.TwoDrivers n) h = h
  no_loop_fault none (fault.Undriven n) h = h
  no_loop_fault none (fault.TwoClocks n) h = h
  no_loop_fault none (fault.TwoEdges n) h = h
  no_loop_fault none (fault.GatedClock n) h = h
  no_loop_fault none (fault.ClockRead n) h = h
  no_loop_fault none (fault.Loop names) h = none names h
  no_loop_fault none (fault.TooDeep n) h = h
  no_loop_fault none fault.TooMany h = h
  no_loop_fault none fault.LongName h = h
  no_loop_fault none fault.NoMemory h = h

  -- a design in which none of the parts tells a fault is sound
  pub is_sound : IsFaultless flat → ((ms : List BlifModel) (names : List (List ℕ)) → IsLoop (named (name_at flat.names) (view_of ms flat)) names → ⊥) → IsSoundDesign models
  is_sound none no_loop e (DesignFault.walks h) = none-some e (sym walked.faultless ∙ h)
  is_sound none no_loop e (DesignFault.wires clean h) = no_wire_fault none e h
  is_sound none no_loop e (DesignFault.loops clean wired h) =
      no_loop_fault (λ names l. no_loop models names (subst (λ (d : FlatDesign (List ℕ)). IsLoop d names) (sym walked.same) l)) e h
