-- What a cut net has of the net: its enabled latches are those that are left, and it has no cycle where the cut is minimal.
use Rattle.std.proofs.Common.{◌≡◌, ◌≢◌, ℕ, List, [], length, Some, slice_get}
use Rattle.std.specs.List.{AllPairs}
use Rattle.circuit_theory.specs.declared.Mode.TheVariants.{Event}
use Rattle.circuit_theory.specs.Agree.{cut, IsMinimalCut}
use Rattle.circuit_theory.specs.Circuit.{Circuit, IsLatch}
use Rattle.circuit_theory.specs.Depth.{HasCycle}
use Rattle.circuit_theory.specs.Run.{IsEnabled}
use Rattle.circuit_laws.proofs.event_laws.CutNets.{cut_names_apart}
use Rattle.circuit_laws.proofs.event_laws.CutParts.{enabled_cut, enabled_uncut}
use Rattle.circuit_laws.proofs.event_laws.SideParts.{cut_is_net_again}
use Rattle.flat_net.specs.declared.parts.LatchAt.{LatchAt}
use Rattle.flat_net.specs.Cut.{IsCutCircuit}
use Rattle.flat_net.specs.Sound.{IsSound}
use Rattle.flat_net.specs.View.{NetView, circuit_of}
use Rattle.flat_net.proofs.Nets.{latch_stands, sound_is_net, sound_names}
use Rattle.sec_setup.proofs.CutNets.{same_as_cut}
use Rattle.sec_setup.proofs.SameEquations.{AreSame, turned, same_equation}
use Rattle.event_setup.specs.Choosing.{IsAcyclic}
use Rattle.event_setup.proofs.SameCircuits.{same_enabled, same_cycle}

module _ (n m : NetView) (sound : IsSound n) (names : List (List ℕ)) (is : IsCutCircuit names (circuit_of n) (circuit_of m)) where
  abbrev c : Circuit ℕ
  c = circuit_of n

  abbrev d : Circuit ℕ
  d = circuit_of m

  same : AreSame d (cut names c)
  same = same_as_cut names c d is

  -- a latch of the cut net is enabled there where it is in the net
  pub enabled_stays : (j : ℕ) (l : LatchAt) → slice_get m.latches j ≡ Some l → IsEnabled c l.out.0 → IsEnabled d l.out.0
  enabled_stays j l at en =
      let latch : IsLatch (cut names c) l.name l.out.0 l.next.0 = same_equation d (cut names c) same _ (latch_stands m j l at) in
      same_enabled (cut names c) d (turned d (cut names c) same) l.out.0 (enabled_cut names c (sound_is_net n sound).single (sound_names n sound) l.out.0 en l.name l.next.0 latch)

  -- and nowhere else
  pub enabled_before : (u : ℕ) → IsEnabled d u → IsEnabled c u
  enabled_before u en = enabled_uncut names c (sound_is_net n sound).single (sound_names n sound) u (same_enabled d (cut names c) same u en)

  -- a cycle of the cut net is one of the net without these latches
  pub cycle_before : AllPairs (λ x y. x ≢ y) names → HasCycle d (IsEnabled d) [] → HasCycle c (IsEnabled c) names
  cycle_before apart cycle = (cut_is_net_again c (length n.drivers) names (sound_is_net n sound) (sound_names n sound) apart).2 Event (same_cycle d (cut names c) same cycle)

-- so no cycle is left in either net with the latches of a minimal cut cut out
pub left_acyclic : (a b m : NetView) (names : List (List ℕ)) → IsSound a → IsMinimalCut Event (circuit_of a) (circuit_of b) names → IsCutCircuit names (circuit_of a) (circuit_of m) → IsAcyclic m
left_acyclic a b m names sound minimal is cycle = minimal.left_free (cycle_before a m sound names is (cut_names_apart Event (circuit_of a) (circuit_of b) names minimal) cycle)

pub right_acyclic : (a b k : NetView) (names : List (List ℕ)) → IsSound b → IsMinimalCut Event (circuit_of a) (circuit_of b) names → IsCutCircuit names (circuit_of b) (circuit_of k) → IsAcyclic k
right_acyclic a b k names sound minimal is cycle = minimal.right_free (cycle_before b k sound names is (cut_names_apart Event (circuit_of a) (circuit_of b) names minimal) cycle)
