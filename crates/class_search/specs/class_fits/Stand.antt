-- How far a class map has come.
use Rattle.std.specs.Prelude.{◌≡◌, ℕ, List, length}
use Rattle.circuit_theory.specs.Joined.{Either}
use Rattle.circuit_theory.specs.Classes.{classes_of}
use Rattle.circuit_theory.specs.EventTotals.{IsMapSoFar}
use Rattle.sec_base.specs.declared.basics.Tag.{Tag}
use Rattle.event_nodes.specs.Nodes.{EventGraphView}
use Rattle.event_nodes.specs.View.{EventCircuitView}
use Rattle.edbf_unfold.specs.class_queries.Enables.{both_of}
use Rattle.class_search.specs.class_fits.class_joining.Joining.{AreKnownEnables}
use Rattle.class_search.specs.declared.class.Class.{Class}
use Rattle.class_search.specs.Search.{AreReadyClasses}
use Rattle.class_search.specs.class_fits.Members.{HaveMembers}

-- Of the enabled latches of both circuits, in their order, these have their classes: the classes are so many, the table has the enables of
-- the latches that were taken, and each class has its members.
pub record IsStand (a b : EventCircuitView) (w : EventGraphView) (place : Tag → Either ℕ ℕ) (taken rest : List (Either ℕ ℕ)) (table : List ((ℕ × ℕ) × ℕ)) (classes : List Class) : Type 0 where
  pub so_far : IsMapSoFar (both_of a b) taken rest
  pub number : classes_of (both_of a b) taken ≡ length classes
  pub known : AreKnownEnables (both_of a b) w taken table
  pub members : HaveMembers (both_of a b) w place taken classes
  pub ready : AreReadyClasses w classes
