-- One signal more has its literal, and the others keep theirs.
use Rattle.std.proofs.Common.{◌∙◌, ◌+◌, ◌<◌, ◌++◌, List, length, map, take, get_or, sym, ap, subst, rules}
use Rattle.std.specs.List.{AllZip, Contains}
use Rattle.std.proofs.lemmas.List.{take_all, append-nil}
use Rattle.std.proofs.lemmas.List.Elements.{All-get_or}
use Rattle.flat_net.specs.declared.signals.Signal.{Signal}
use Rattle.flat_net.specs.View.{NetView}
use Rattle.aig.specs.declared.node.Lit.{Lit}
use Rattle.cbf_unfold.proofs.unfold_places.Lists.{not_both}
use Rattle.cbf_unfold.proofs.Going.{later_none, later_trans, room_later}
use Rattle.cbf_unfold.proofs.Finish.{done_more, roots_more, over_some}
use Rattle.cbf_unfold.proofs.unfolder.Unfolder.roots.Goals as goal

pub loop-s-init : goal.loop-s-init
loop-s-init c = record {
  here = search rules;
  fits = c.requires.fits;
  done = sym (append-nil c.args.self.now.done);
  later = later_none c.args.self.now c.args.aig.now c.args.places.now c.requires.room.small;
}

pub root-requires-clause-signal : goal.root-requires-clause-signal
root-requires-clause-signal c =
    subst (λ (n : NetView). (get_or c.args.signals.now c.loop-s.s-index (record { 0 = 0 })).0 < length n.drivers) (sym c.loop-s.invariant.later.net) (All-get_or (λ (s : Signal). s.0 < length c.args.self.now.net.drivers) c.args.signals.now c.loop-s.s-index (record { 0 = 0 }) c.loop-s-test.true c.requires.signals)

pub root-requires-clause-room : goal.root-requires-clause-room
root-requires-clause-room c = room_later c.args.self.now c.loop-s.self c.args.aig.now c.loop-s.aig c.args.places.now c.loop-s.places c.requires.room c.loop-s.invariant.later

pub returns-in_err-lit-clause-over : goal.returns-in_err-lit-clause-over
returns-in_err-lit-clause-over c = λ e.
    over_some c.args.signals.now c.loop-s.s-index (record { 0 = 0 }) c.loop-s-test.true c.args.self.now c.loop-s.self c.loop-s.invariant.later.net c.loop-s.invariant.done (c.root.ensures.over (search rules))

pub returns-in_err-lit-clause-later : goal.returns-in_err-lit-clause-later
returns-in_err-lit-clause-later c =
    later_trans c.args.self.now c.loop-s.self c.root.new.self c.args.aig.now c.loop-s.aig c.root.new.aig c.args.places.now c.loop-s.places c.root.new.places c.loop-s.invariant.later c.root.ensures.later

pub returns-in_err-push-clause-later : goal.returns-in_err-push-clause-later
returns-in_err-push-clause-later c =
    later_trans c.args.self.now c.loop-s.self c.root.new.self c.args.aig.now c.loop-s.aig c.root.new.aig c.args.places.now c.loop-s.places c.root.new.places c.loop-s.invariant.later c.root.ensures.later

pub loop-s-preserved : goal.loop-s-preserved
loop-s-preserved c = record {
  here = subst (λ (l : List Lit). AllZip (λ (s : Signal) (x : Lit). Contains c.root.new.self.memo ((c.root.new.self.cap, s.0), x)) (take (c.loop-s.s-index + 1) c.args.signals.now) l) (sym c.in_ok-push.ensures.items)
      (roots_more c.args.signals.now c.loop-s.s-index (record { 0 = 0 }) c.loop-s-test.true c.loop-s.self c.root.new.self c.loop-s.aig c.root.new.aig c.loop-s.places c.root.new.places c.loop-s.lits.items c.in_ok-lit.lit c.root.ensures.later c.loop-s.invariant.here c.in_ok-lit.ensures.here);
  fits = c.in_ok-lit.ensures.fits;
  done = done_more c.args.signals.now c.loop-s.s-index (record { 0 = 0 }) c.loop-s-test.true c.args.self.now.done c.loop-s.self.done c.root.new.self.done c.loop-s.invariant.done c.in_ok-lit.ensures.done;
  later = later_trans c.args.self.now c.loop-s.self c.root.new.self c.args.aig.now c.loop-s.aig c.root.new.aig c.args.places.now c.loop-s.places c.root.new.places c.loop-s.invariant.later c.root.ensures.later;
}

pub returns-clause-here : goal.returns-clause-here
returns-clause-here c =
    subst (λ (ss : List Signal). AllZip (λ (s : Signal) (x : Lit). Contains c.loop-s.self.memo ((c.loop-s.self.cap, s.0), x)) ss c.loop-s.lits.items) (take_all c.loop-s.s-index c.args.signals.now c.loop-s-test.false) c.loop-s.invariant.here

pub returns-clause-done : goal.returns-clause-done
returns-clause-done c = c.loop-s.invariant.done ∙ ap (λ (ss : List Signal). c.args.self.now.done ++ map (λ (s : Signal). s.0) ss) (take_all c.loop-s.s-index c.args.signals.now c.loop-s-test.false)

pub returns-clause-over : goal.returns-clause-over
returns-clause-over c = λ e. absurd (not_both e)
