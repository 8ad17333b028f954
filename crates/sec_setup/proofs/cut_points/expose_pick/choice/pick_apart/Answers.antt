-- The readings of a latch graph are what a contract sees of it.
use Rattle.std.proofs.Common.{◌<◌, length, subst, sym, ℕ, List, Option}
use Rattle.std.specs.List.{All}
use Rattle.latch_graph.specs.Graph.{GraphView}
use Rattle.latch_graph.specs.minimal_cut.Chosen.{IsFree, IsMinimalChoice}
use Rattle.std.specs.Prelude.{IfNone, IfSome}
use Rattle.sec_setup.specs.cut_points.expose_pick.Pairs.{IsLeft}
use Rattle.sec_setup.proofs.cut_points.expose_pick.choice.pick_apart.Goals as goal

pub chosen-requires-clause-left : goal.chosen-requires-clause-left
chosen-requires-clause-left c = subst (λ (g : GraphView). All (λ j. j < length g.latches) c.args.lefts.now) (sym c.signals.ensures) c.requires.left

pub chosen-requires-clause-right : goal.chosen-requires-clause-right
chosen-requires-clause-right c = subst (λ (g : GraphView). All (λ j. j < length g.latches) c.args.rights.now) (sym c.signals-2.ensures) c.requires.right

pub returns-clause-minimal : goal.returns-clause-minimal
returns-clause-minimal c =
    subst (λ (g : GraphView). IsMinimalChoice g c.args.b.now c.args.lefts.now c.args.rights.now c.in_ok-places.places) c.signals.ensures
    (subst (λ (g : GraphView). IsMinimalChoice c.signals.result.now g c.args.lefts.now c.args.rights.now c.in_ok-places.places) c.signals-2.ensures c.in_ok-places.ensures)

pub returns-in-Some-clause-unpaired : goal.returns-in-Some-clause-unpaired
returns-in-Some-clause-unpaired c = subst (λ (o : Option (List ℕ)). IfSome o (IsLeft c.args.a.now c.args.lefts.now)) c.in-Some.is c.in_ok-cycle.ensures.some

pub returns-in-Some-2-clause-unpaired : goal.returns-in-Some-2-clause-unpaired
returns-in-Some-2-clause-unpaired c = (
  subst (λ (o : Option (List ℕ)). IfNone o (IsFree c.args.a.now c.args.lefts.now)) c.in_default.is c.in_ok-cycle.ensures.none,
  subst (λ (o : Option (List ℕ)). IfSome o (IsLeft c.args.b.now c.args.rights.now)) c.in-Some-2.is c.in_ok-cycle-2.ensures.some,
)

pub cycle_left-requires-2 : goal.cycle_left-requires-2
cycle_left-requires-2 c = c.requires.right

pub cycle_left-requires : goal.cycle_left-requires
cycle_left-requires c = c.requires.left

pub returns-clause-left_paired : goal.returns-clause-left_paired
returns-clause-left_paired c = subst (λ (o : Option (List ℕ)). IfNone o (IsFree c.args.a.now c.args.lefts.now)) c.in_default.is c.in_ok-cycle.ensures.none

pub returns-clause-right_paired : goal.returns-clause-right_paired
returns-clause-right_paired c = subst (λ (o : Option (List ℕ)). IfNone o (IsFree c.args.b.now c.args.rights.now)) c.in_default-2.is c.in_ok-cycle-2.ensures.none

pub chosen-requires-clause-left_free : goal.chosen-requires-clause-left_free
chosen-requires-clause-left_free c = subst (λ (g : GraphView). IsFree g c.args.lefts.now) (sym c.signals.ensures) (subst (λ (o : Option (List ℕ)). IfNone o (IsFree c.args.a.now c.args.lefts.now)) c.in_default.is c.in_ok-cycle.ensures.none)

pub chosen-requires-clause-pairs : goal.chosen-requires-clause-pairs
chosen-requires-clause-pairs c = c.requires.pairs

pub chosen-requires-clause-left_once : goal.chosen-requires-clause-left_once
chosen-requires-clause-left_once c = c.requires.left_once

pub chosen-requires-clause-right_free : goal.chosen-requires-clause-right_free
chosen-requires-clause-right_free c = subst (λ (g : GraphView). IsFree g c.args.rights.now) (sym c.signals-2.ensures) (subst (λ (o : Option (List ℕ)). IfNone o (IsFree c.args.b.now c.args.rights.now)) c.in_default-2.is c.in_ok-cycle-2.ensures.none)

pub chosen-requires-clause-right_once : goal.chosen-requires-clause-right_once
chosen-requires-clause-right_once c = c.requires.right_once
