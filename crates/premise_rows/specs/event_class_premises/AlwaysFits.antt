-- A latch that reads itself and yet loads in each cycle: it is of class 0.
use Rattle.std.specs.Prelude.{◌≡◌, ℕ, true, [], ◌∷◌, None, codes}
use Rattle.circuit_theory.specs.Classes.{classes_of}
use Rattle.circuit_theory.specs.Joined.{Left}
use Rattle.circuit_laws.specs.event_laws.ClassSteps.{IsFirstFit}
use Rattle.sec_base.specs.declared.basics.Init.TheVariants as init
use Rattle.flat_net.specs.declared.parts.Driver.TheVariants as driver
use Rattle.flat_net.specs.declared.parts.LatchAt.{LatchAt}
use Rattle.event_nodes.specs.View.{EventCircuitView}
use Rattle.edbf_unfold.specs.class_queries.Enables.{both_of, IsEnableFunction}
use Rattle.edbf_unfold.specs.class_queries.Laws.{AreKept}
use Rattle.class_search.specs.declared.compare.Enable.{Enable}
use Rattle.class_search.specs.declared.search.Fit.TheVariants as fit
use Rattle.class_search.specs.Search.{IsFit}
use Rattle.class_search.specs.class_fits.Members.{HaveMembers}
use Rattle.call_rows.specs.circuit_samples.event_samples.Always.{first_cover}
use Rattle.premise_rows.specs.event_pair_premises.Differing.{at_root}
use Rattle.premise_rows.specs.event_class_premises.ClassMap.{b_of, at_tag}

-- 0 a; 1 q; 2 what q takes over, a, though it reads q too
abbrev pub always_loads : EventCircuitView
always_loads = record {
  net = record {
    inputs = record { name = codes "a"; signal = record { 0 = 0 } } ∷ [];
    outputs = record { name = codes "y"; signal = record { 0 = 1 } } ∷ [];
    gates = record { fanins = record { 0 = 0 } ∷ record { 0 = 1 } ∷ []; cover = 0; out = record { 0 = 2 } } ∷ [];
    latches = record { name = codes "q"; next = record { 0 = 2 }; out = record { 0 = 1 }; init = init.Unknown } ∷ [];
    covers = first_cover ∷ [];
    drivers = driver.Input 0 ∷ driver.Latch 0 ∷ driver.Gate 0 ∷ [];
    names = codes "a" ∷ codes "q" ∷ codes "n" ∷ [];
    clock = None;
  };
  enabled = true ∷ [];
  order = 0 ∷ [];
  classes = 0 ∷ [];
}

abbrev pub loading_latch : LatchAt
loading_latch = record { name = codes "q"; next = record { 0 = 2 }; out = record { 0 = 1 }; init = init.Unknown }

-- 1, over the variable that the latch takes over
abbrev pub one_enable : Enable
one_enable = record { value = record { 0 = 1 }; care = record { 0 = 1 }; vars = 0 ∷ [] }

-- No class was founded. The enable is the literal 1, so that the latch is as `always`, and class 0 is its first fit.
pub record AlwaysMeetsPremises : Type 0 where
  pub kept : AreKept always_loads (b_of 0) at_root
  pub number : classes_of (both_of always_loads (b_of 0)) [] ≡ 0
  pub members : HaveMembers (both_of always_loads (b_of 0)) at_root at_tag [] []
  pub enable : IsEnableFunction (both_of always_loads (b_of 0)) at_root (Left 1) 1 1
  pub fit : (conflicts : ℕ) → IsFit at_root at_root [] one_enable conflicts fit.Always
  pub first : IsFirstFit (both_of always_loads (b_of 0)) [] (Left 1) 0
