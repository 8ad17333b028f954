-- What every net of a small design is.
use Rattle.std.specs.Prelude.{◌≡◌, ℕ, ◌<◌, List, [], ◌∷◌, ◌++◌, map, None, codes}
use Rattle.circuit_theory.specs.Agree.{cut}
use Rattle.circuit_theory.specs.Depth.{HasCycle}
use Rattle.circuit_theory.specs.Flattened.{latch_names}
use Rattle.circuit_theory.specs.Run.{NoneEnabled}
use Rattle.circuit_theory.specs.Sizes.{IsOver}
use Rattle.blif_read.specs.declared.design.BlifModel.{BlifModel}
use Rattle.flat_net.specs.View.{NetView, circuit_of, ports_of}
use Rattle.flatten.specs.DesignFaults.{IsSoundDesign, IsFlatOf}
use Rattle.pair_texts.specs.design_rows.Designs.{on_and, off_and, late, early, toggle, two, idle, ring, hier, nested}

-- the names of the ports and latches, which latches are to be cut open, and what the unfolding of the rest weighs
pub record Small : Type 0 where
  pub inputs : List (List ℕ)
  pub outputs : List (List ℕ)
  pub latches : List (List ℕ)
  pub removed : List (List ℕ)
  pub weight : ℕ

-- The net has no clock, and these ports and latches. Without the latches that are to be cut open, and any more, no cycle is left. With
-- these cut out no more than the weight is unfolded.
pub record IsSmall (s : Small) (net : NetView) : Type 0 where
  pub unclocked : net.clock ≡ None
  pub inputs : (ports_of net).inputs ≡ s.inputs
  pub outputs : (ports_of net).outputs ≡ s.outputs
  pub latches : latch_names (circuit_of net).equations ≡ s.latches
  pub counted : map (λ l. l.name) net.latches ≡ s.latches
  pub acyclic : (more : List (List ℕ)) → HasCycle (circuit_of net) NoneEnabled (s.removed ++ more) → ⊥
  pub light : (cap : ℕ) → IsOver (cut s.removed (circuit_of net)) (map (λ o. o.place) (cut s.removed (circuit_of net)).outputs) cap → cap < s.weight

-- the design has no fault, and all of its nets are small
abbrev pub AreSmall : List BlifModel → Small → Type 0
AreSmall models s = IsSoundDesign models × ((net : NetView) → IsFlatOf models net → IsSmall s net)

abbrev pub small_and : Small
small_and = record { inputs = codes "a" ∷ codes "b" ∷ []; outputs = codes "y" ∷ []; latches = []; removed = []; weight = 6 }

abbrev pub OnAndIsSmall : Type 0
OnAndIsSmall = AreSmall on_and small_and

abbrev pub OffAndIsSmall : Type 0
OffAndIsSmall = AreSmall off_and (record small_and { weight = 9 })

abbrev pub small_late : Small
small_late = record { inputs = codes "a" ∷ codes "b" ∷ []; outputs = codes "y" ∷ []; latches = codes "y" ∷ []; removed = []; weight = 7 }

abbrev pub LateIsSmall : Type 0
LateIsSmall = AreSmall late small_late

abbrev pub small_early : Small
small_early = record { inputs = codes "a" ∷ codes "b" ∷ []; outputs = codes "y" ∷ []; latches = codes "p" ∷ codes "q" ∷ []; removed = []; weight = 8 }

abbrev pub EarlyIsSmall : Type 0
EarlyIsSmall = AreSmall early small_early

abbrev pub HierIsSmall : Type 0
HierIsSmall = AreSmall hier small_late

abbrev pub small_two : Small
small_two = record { inputs = codes "a" ∷ []; outputs = codes "y" ∷ []; latches = codes "p" ∷ codes "y" ∷ []; removed = []; weight = 3 }

abbrev pub TwoIsSmall : Type 0
TwoIsSmall = AreSmall two small_two

abbrev pub small_idle : Small
small_idle = record { inputs = codes "a" ∷ []; outputs = codes "y" ∷ []; latches = codes "q" ∷ []; removed = []; weight = 4 }

abbrev pub IdleIsSmall : Type 0
IdleIsSmall = AreSmall idle small_idle

-- a ring with one of its two latches cut open
abbrev pub small_ring : List ℕ → ℕ → Small
small_ring name weight = record { inputs = []; outputs = codes "y" ∷ []; latches = codes "p" ∷ codes "q" ∷ []; removed = name ∷ []; weight = weight }

-- either latch of the ring breaks it
abbrev pub RingIsSmall : Type 0
RingIsSmall = AreSmall ring (small_ring (codes "p") 6) × AreSmall ring (small_ring (codes "q") 5)

abbrev pub small_toggle : Small
small_toggle = record { inputs = []; outputs = codes "y" ∷ []; latches = codes "q" ∷ []; removed = codes "q" ∷ []; weight = 7 }

-- its latch lies on a cycle while it isn't cut open
abbrev pub ToggleIsSmall : Type 0
ToggleIsSmall = AreSmall toggle small_toggle × ((net : NetView) → IsFlatOf toggle net → HasCycle (circuit_of net) NoneEnabled [])

abbrev pub small_nested : Small
small_nested = record { inputs = codes "a" ∷ []; outputs = codes "y" ∷ []; latches = codes "cell#0#q" ∷ codes "y" ∷ []; removed = codes "cell#0#q" ∷ []; weight = 14 }

-- the latch inside of the instance breaks the one cycle
abbrev pub NestedIsSmall : Type 0
NestedIsSmall = AreSmall nested small_nested
