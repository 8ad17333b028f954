-- One literal after the other.
use Rattle.std.proofs.Common.{◌*◌, ◌<◌, ◌+◌, ℕ, List, length, subst, arith}
use Rattle.std.proofs.lemmas.List.{take_all}
use Rattle.std.proofs.lemmas.List.Elements.{All-weaker}
use Rattle.event_nodes.proofs.Growth.{Grows-length}
use Rattle.edbf_unfold.specs.Care.{IsAndOfThese}
use Rattle.edbf_unfold.proofs.Caring.{and_none}
use Rattle.edbf_unfold.proofs.event_literals.Going.{grown_trans}
use Rattle.edbf_unfold.proofs.event_literals.Lits.{grown_none}
use Rattle.edbf_unfold.proofs.unfolder.care.and_all.Goals as goal

pub loop-i-init : goal.loop-i-init
loop-i-init c = record { grown = grown_none c.args.events.now 0; all = and_none c.args.events.now.graph c.keeps.ensures.events.is_graph }

pub and_next-requires-clause-within : goal.and_next-requires-clause-within
and_next-requires-clause-within c =
    let more = Grows-length _ _ c.loop-i.invariant.grown.grows.graph in
    All-weaker (λ y. y < 2 * length c.args.events.now.graph) (λ y. y < 2 * length c.loop-i.events.graph) (λ y h. omega (arith, h, more)) c.args.lits.now c.requires.within

pub and_next-requires-clause-room : goal.and_next-requires-clause-room
and_next-requires-clause-room c = omega (arith, c.requires.room, c.loop-i.invariant.grown.nodes, c.loop-i-test.true)

pub loop-i-preserved : goal.loop-i-preserved
loop-i-preserved c = record {
  grown = grown_trans c.args.events.now c.loop-i.events c.and_next.new.events c.loop-i.i 1 (c.loop-i.i + 1) c.loop-i.invariant.grown c.and_next.ensures.grown (omega arith);
  all = c.in_ok-care.ensures.here;
}

pub returns-clause-here : goal.returns-clause-here
returns-clause-here c = subst (λ (ls : List ℕ). IsAndOfThese c.loop-i.events.graph ls c.loop-i.care.0) (take_all c.loop-i.i c.args.lits.now (omega (arith, c.loop-i-test.false))) c.loop-i.invariant.all
