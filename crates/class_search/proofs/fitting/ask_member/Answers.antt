-- Enables of one value agree; the others are asked about.
use Rattle.std.proofs.Common.{ap}
use Rattle.event_nodes.specs.event_variables.aig.Values.{value}
use Rattle.class_search.proofs.Agreeing.{compared_same}
use Rattle.class_search.proofs.Queries.{ready_next}
use Rattle.class_search.proofs.fitting.ask_member.Goals as goal

pub and-requires-clause-left : goal.and-requires-clause-left
and-requires-clause-left c = c.requires.member.care_within

pub and-requires-clause-right : goal.and-requires-clause-right
and-requires-clause-right c = c.requires.latch.care_within

pub returns-in_err-_care-clause-ready : goal.returns-in_err-_care-clause-ready
returns-in_err-_care-clause-ready c = λ x h. ready_next c.args.events.now c.and.new.self c.keeps.ensures.events c.and.ensures.grows c.and.ensures.same x h

pub returns-then-member-latch-clause-ready : goal.returns-then-member-latch-clause-ready
returns-then-member-latch-clause-ready c = λ x h. ready_next c.args.events.now c.and.new.self c.keeps.ensures.events c.and.ensures.grows c.and.ensures.same x h

pub returns-in-Same-clause-same : goal.returns-in-Same-clause-same
returns-in-Same-clause-same c = compared_same c.compare_enables.new.events c.args.member.now c.args.latch.now c.args.conflicts c.in_ok-compared.compared c.in-Same.field-0 c.in_ok-compared.ensures.compared c.in-Same.is

pub returns-then-member-latch-clause-same : goal.returns-then-member-latch-clause-same
returns-then-member-latch-clause-same c = record {
  care = c.in_ok-_care._care.0;
  both = c.in_ok-_care.ensures.here;
  within = c.in_ok-_care.ensures.within;
  same = λ a on. ap (value c.and.new.self.graph a) c.if-member-latch.true;
}
