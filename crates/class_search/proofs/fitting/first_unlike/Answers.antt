-- Each member in its turn.
use Rattle.std.proofs.Common.{◌∙◌, Some, refl, sym, ap, subst, arith}
use Rattle.std.specs.Prelude.{Option, IfNone, IfSome}
use Rattle.std.proofs.lemmas.Option.{slice_get-get_or, slice_get_within}
use Rattle.circuit_theory.proofs.Lists.{All-from_each, at_of}
use Rattle.event_nodes.proofs.event_variables.flat_net.Places.{All-at}
use Rattle.event_nodes.specs.Nodes.{EventGraphView}
use Rattle.event_nodes.proofs.Growing.{grows_refl, grows_trans}
use Rattle.class_search.specs.declared.compare.Enable.{Enable}
use Rattle.class_search.specs.declared.compare.Compared.{Compared}
use Rattle.class_search.specs.Comparing.{IsReadyEnable}
use Rattle.class_search.specs.Fitting.{AreSameEnables, IsUnlike}
use Rattle.class_search.proofs.Agreeing.{same_later, same_next}
use Rattle.class_search.proofs.fitting.first_unlike.Goals as goal

pub loop-member-init : goal.loop-member-init
loop-member-init c = record { same = λ i x below. absurd (omega (arith, below)); ready = λ x h. h; grows = grows_refl c.args.events.now; few = omega arith; rest = refl }

pub ask_member-requires-clause-member : goal.ask_member-requires-clause-member
ask_member-requires-clause-member c = (c.loop-member.invariant.ready c.index-members-member.result (All-at (IsReadyEnable c.args.events.now) c.args.members.now c.loop-member.member c.index-members-member.result (slice_get-get_or c.args.members.now c.loop-member.member c.index-members-member.result (omega (arith, c.loop-member-test.true)) ∙ ap Some (sym c.index-members-member.is)) c.requires.members))

pub ask_member-requires-clause-latch : goal.ask_member-requires-clause-latch
ask_member-requires-clause-latch c = c.loop-member.invariant.ready c.args.latch.now c.requires.latch

pub ask_member-requires-clause-room : goal.ask_member-requires-clause-room
ask_member-requires-clause-room c = omega (arith, c.loop-member-test.true, c.loop-member.invariant.few, c.requires.room)

pub loop-member-preserved : goal.loop-member-preserved
loop-member-preserved c = record {
  same = same_next c.loop-member.events c.ask_member.new.events c.ask_member.ensures.grows c.args.members.now c.args.latch.now (λ i x at. c.loop-member.invariant.ready x (All-at (IsReadyEnable c.args.events.now) c.args.members.now i x at c.requires.members)) (c.loop-member.invariant.ready c.args.latch.now c.requires.latch) c.loop-member.member c.index-members-member.result (slice_get-get_or c.args.members.now c.loop-member.member c.index-members-member.result (omega (arith, c.loop-member-test.true)) ∙ ap Some (sym c.index-members-member.is)) c.loop-member.invariant.same
      (subst (λ (found : Option Compared). IfNone found (AreSameEnables c.ask_member.new.events c.index-members-member.result c.args.latch.now)) c.in_default.is c.in_ok-found.ensures.same);
  ready = λ x h. c.ask_member.ensures.ready x (c.loop-member.invariant.ready x h);
  grows = grows_trans c.args.events.now c.loop-member.events c.ask_member.new.events c.loop-member.invariant.grows c.ask_member.ensures.grows;
  few = omega (arith, c.loop-member.invariant.few, c.ask_member.ensures.few);
  rest = c.ask_member.ensures.rest ∙ ap (λ (w : EventGraphView). record w { graph = c.ask_member.new.events.graph }) c.loop-member.invariant.rest;
}

pub returns-in_err-found-clause-ready : goal.returns-in_err-found-clause-ready
returns-in_err-found-clause-ready c = λ x h. c.ask_member.ensures.ready x (c.loop-member.invariant.ready x h)

pub returns-in_err-found-clause-grows : goal.returns-in_err-found-clause-grows
returns-in_err-found-clause-grows c = grows_trans c.args.events.now c.loop-member.events c.ask_member.new.events c.loop-member.invariant.grows c.ask_member.ensures.grows

pub returns-in_err-found-clause-few : goal.returns-in_err-found-clause-few
returns-in_err-found-clause-few c = omega (arith, c.loop-member-test.true, c.loop-member.invariant.few, c.ask_member.ensures.few)

pub returns-in_err-found-clause-rest : goal.returns-in_err-found-clause-rest
returns-in_err-found-clause-rest c = c.ask_member.ensures.rest ∙ ap (λ (w : EventGraphView). record w { graph = c.ask_member.new.events.graph }) c.loop-member.invariant.rest

pub returns-in-Some-clause-ready : goal.returns-in-Some-clause-ready
returns-in-Some-clause-ready c = λ x h. c.ask_member.ensures.ready x (c.loop-member.invariant.ready x h)

pub returns-in-Some-clause-grows : goal.returns-in-Some-clause-grows
returns-in-Some-clause-grows c = grows_trans c.args.events.now c.loop-member.events c.ask_member.new.events c.loop-member.invariant.grows c.ask_member.ensures.grows

pub returns-in-Some-clause-few : goal.returns-in-Some-clause-few
returns-in-Some-clause-few c = omega (arith, c.loop-member-test.true, c.loop-member.invariant.few, c.ask_member.ensures.few)

pub returns-in-Some-clause-rest : goal.returns-in-Some-clause-rest
returns-in-Some-clause-rest c = c.ask_member.ensures.rest ∙ ap (λ (w : EventGraphView). record w { graph = c.ask_member.new.events.graph }) c.loop-member.invariant.rest

pub returns-in-Some-clause-unlike : goal.returns-in-Some-clause-unlike
returns-in-Some-clause-unlike c = let found = subst (λ (o : Option Compared). IfSome o (IsUnlike c.ask_member.new.events c.index-members-member.result c.args.latch.now c.args.conflicts)) c.in-Some.is c.in_ok-found.ensures.unlike in record {
  enable = c.index-members-member.result;
  at = (slice_get-get_or c.args.members.now c.loop-member.member c.index-members-member.result (omega (arith, c.loop-member-test.true)) ∙ ap Some (sym c.index-members-member.is));
  before = λ i x below at_i. same_later c.loop-member.events c.ask_member.new.events c.ask_member.ensures.grows x c.args.latch.now (c.loop-member.invariant.ready x (All-at (IsReadyEnable c.args.events.now) c.args.members.now i x at_i c.requires.members)) (c.loop-member.invariant.ready c.args.latch.now c.requires.latch) (c.loop-member.invariant.same i x below at_i);
  compared = found.compared;
  unlike = found.unlike;
}

pub returns-clause-same : goal.returns-clause-same
returns-clause-same c =
    All-from_each (λ (x : Enable). AreSameEnables c.loop-member.events x c.args.latch.now) c.args.members.now
    (λ x h. let i = at_of c.args.members.now x h in let inside = slice_get_within c.args.members.now i.0 x i.1 in c.loop-member.invariant.same i.0 x (omega (arith, inside, c.loop-member-test.false)) i.1)
