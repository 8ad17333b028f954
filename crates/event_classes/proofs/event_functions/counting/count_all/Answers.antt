-- Each place in its turn.
use Rattle.std.proofs.Common.{◌≡◌, ◌<◌, ℕ, length, refl, sym, subst, arith}
use Rattle.std.specs.List.{Contains}
use Rattle.std.proofs.lemmas.Option.{slice_get_within}
use Rattle.circuit_theory.proofs.Lists.{All-from_each, at_of, of_at}
use Rattle.event_nodes.proofs.event_variables.flat_net.Places.{All-at}
use Rattle.event_nodes.proofs.Lists.{adds_none, adds_trans, adds_weaker}
use Rattle.event_classes.proofs.event_functions.Totaling.{counted_next}
use Rattle.event_classes.proofs.event_functions.counting.count_all.Goals as goal

pub loop-number-init : goal.loop-number-init
loop-number-init c = record { adds = adds_none (Contains c.args.visits.now.places) c.args.total.now.places c.args.total.now.places refl; done = λ i q below. absurd (omega (arith, below)); weighed = c.requires.weighed }

pub count_one-requires-clause-signal : goal.count_one-requires-clause-signal
count_one-requires-clause-signal c = All-at (λ (p : ℕ × ℕ). p.1 < length c.args.net.now.drivers) c.args.visits.now.places c.loop-number.number c.place.result c.place.ensures c.requires.signals

pub loop-number-preserved : goal.loop-number-preserved
loop-number-preserved c = record {
  adds = adds_trans (Contains c.args.visits.now.places) c.args.total.now.places c.loop-number.total.places c.count_one.new.total.places c.loop-number.invariant.adds
      (adds_weaker (λ (q : ℕ × ℕ). q ≡ c.place.result) (Contains c.args.visits.now.places) c.loop-number.total.places c.count_one.new.total.places (λ q e. subst (Contains c.args.visits.now.places) (sym e) (of_at c.args.visits.now.places c.loop-number.number c.place.result c.place.ensures)) c.count_one.ensures.adds);
  done = counted_next c.args.visits.now.places c.loop-number.total.places c.count_one.new.total.places c.loop-number.number c.place.result c.place.ensures c.count_one.ensures.adds c.in_ok-count_one.ensures.here c.loop-number.invariant.done;
  weighed = c.in_ok-count_one.ensures.weighed;
}

pub returns-in_err-count_one-clause-adds : goal.returns-in_err-count_one-clause-adds
returns-in_err-count_one-clause-adds c =
    adds_trans (Contains c.args.visits.now.places) c.args.total.now.places c.loop-number.total.places c.count_one.new.total.places c.loop-number.invariant.adds
    (adds_weaker (λ (q : ℕ × ℕ). q ≡ c.place.result) (Contains c.args.visits.now.places) c.loop-number.total.places c.count_one.new.total.places (λ q e. subst (Contains c.args.visits.now.places) (sym e) (of_at c.args.visits.now.places c.loop-number.number c.place.result c.place.ensures)) c.count_one.ensures.adds)

pub returns-clause-all : goal.returns-clause-all
returns-clause-all c =
    All-from_each (Contains c.loop-number.total.places) c.args.visits.now.places
    (λ p h. let i = at_of c.args.visits.now.places p h in let inside = slice_get_within c.args.visits.now.places i.0 p i.1 in c.loop-number.invariant.done i.0 p (omega (arith, inside, c.loop-number-test.false, c.len-number-end.ensures)) i.1)
