-- What is found out about the latches of a net, one after the other.
use Rattle.std.specs.Prelude.{◌≡◌, ℕ, ◌<◌, List, length, Result, Ok, Err}
use Rattle.circuit_theory.specs.Run.{IsEnabled}
use Rattle.circuit_theory.specs.declared.Mode.{Mode}
use Rattle.circuit_theory.specs.declared.Mode.TheVariants.{Plain, Event}
use Rattle.flat_net.specs.Cut.{latch_at}
use Rattle.flat_net.specs.View.{NetView, circuit_of}
use Rattle.signal_graph.specs.declared.inner_cone.latch_cone.kinds.LatchKind.{LatchKind}
use Rattle.signal_graph.specs.declared.inner_cone.latch_cone.kinds.LatchKind.TheVariants as kind
use Rattle.signal_graph.specs.inner_cone.latch_cone.Kinds.{AreKindsIn}
use Rattle.latch_kinds.specs.unate_enable.pair_decide.Proof.{Proof}
use Rattle.latch_kinds.specs.unate_enable.Cones.{out_of_latch}
use Rattle.latch_kinds.specs.unate_enable.Recovery.{HasSelfEdge, IsAsked, IsEnabledAt, IsUndecided, IsLight, IsTooLarge}
use Rattle.latch_kinds.specs.declared.kinds.KindsError.{KindsError}
use Rattle.latch_kinds.specs.declared.kinds.KindsError.TheVariants as refused

-- The latch is of this kind. One that is in its own cone is asked for, and its cone isn't too large.
abbrev pub IsDecided : NetView → ℕ → LatchKind → Type 0
IsDecided n j kind.Plain = HasSelfEdge n j → ⊥
IsDecided n j kind.Enabled = IsAsked n j × IsEnabledAt n j
IsDecided n j kind.NotUnate = IsAsked n j × (IsEnabled (circuit_of n) (out_of_latch n j) → ⊥)

-- the query of the latch, which has this name, has met the limit
pub record IsLimitAt (n : NetView) (j conflicts : ℕ) (name : List ℕ) (proof : Proof) : Type 0 where
  pub named : name ≡ (latch_at n j).name
  pub asked : IsAsked n j
  pub undecided : IsUndecided n j conflicts proof

-- what is found out about a latch
abbrev pub FoundAt : NetView → ℕ → ℕ → Result LatchKind KindsError → Type 0
FoundAt n j conflicts (Ok kind) = IsDecided n j kind
FoundAt n j conflicts (Err refused.TooLarge) = IsTooLarge n j
FoundAt n j conflicts (Err (refused.Limit name proof)) = IsLimitAt n j conflicts name proof
FoundAt n j conflicts (Err refused.NoMemory) = Unit {0}

-- of each latch before it is known what it is
abbrev pub AreDecidedBefore : NetView → ℕ → Type 0
AreDecidedBefore n j = (i : ℕ) → i < j → (kind : LatchKind) × IsDecided n i kind

-- a latch that is in its own cone, which is too large; those before it are decided
pub record HasTooLarge (n : NetView) : Type 0 where
  pub latch : ℕ
  pub within : latch < length n.latches
  pub large : IsTooLarge n latch
  pub before : AreDecidedBefore n latch

-- a latch of this name whose query has met the limit; those before it are decided
pub record HasLimit (n : NetView) (conflicts : ℕ) (name : List ℕ) (proof : Proof) : Type 0 where
  pub latch : ℕ
  pub within : latch < length n.latches
  pub limit : IsLimitAt n latch conflicts name proof
  pub before : AreDecidedBefore n latch

-- no latch that is in its own cone has a cone that is too large
abbrev pub AreLight : NetView → Type 0
AreLight n = (j : ℕ) → j < length n.latches → HasSelfEdge n j → IsLight n j

-- what is found out about all latches in the event mode
abbrev pub AreFound : NetView → ℕ → Result (List LatchKind) KindsError → Type 0
AreFound n conflicts (Ok kinds) = AreKindsIn Event n kinds × AreLight n
AreFound n conflicts (Err refused.TooLarge) = HasTooLarge n
AreFound n conflicts (Err (refused.Limit name proof)) = HasLimit n conflicts name proof
AreFound n conflicts (Err refused.NoMemory) = Unit {0}

-- the same in a mode; in the plain mode nothing has to be found out
abbrev pub FoundIn : Mode → NetView → ℕ → Result (List LatchKind) KindsError → Type 0
FoundIn Plain n conflicts (Ok kinds) = AreKindsIn Plain n kinds
FoundIn Plain n conflicts (Err refused.TooLarge) = ⊥
FoundIn Plain n conflicts (Err (refused.Limit name proof)) = ⊥
FoundIn Plain n conflicts (Err refused.NoMemory) = Unit {0}
FoundIn Event n conflicts found = AreFound n conflicts found
