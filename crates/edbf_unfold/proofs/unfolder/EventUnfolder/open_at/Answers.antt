-- It is open where it isn't put.
use Rattle.std.proofs.Common.{subst}
use Rattle.circuit_theory.specs.Frame.{NotPut}
use Rattle.edbf_unfold.proofs.event_literals.Places.{one_at}
use Rattle.event_nodes.proofs.flat_net.Drivers.{driven_latch, latch_equation_stands}
use Rattle.edbf_unfold.specs.declared.event_literals.event_walk.frames.Frame.{Frame}
use Rattle.edbf_unfold.specs.event_literals.event_walk.Ready.{put_of}
use Rattle.edbf_unfold.proofs.Caring.{put_not_free}
use Rattle.edbf_unfold.proofs.event_literals.event_walk.Lent.{sound_of}
use Rattle.std.proofs.lemmas.Option.{slice_get_within}
use Rattle.edbf_unfold.proofs.unfolder.EventUnfolder.open_at.Goals as goal

pub returns-in-Some-clause-none : goal.returns-in-Some-clause-none
returns-in-Some-clause-none c = λ o.
    let at = c.frame-frame.ensures in
    put_not_free c.args.place c.frame-frame.result c.in-Some.field-0 c.in-Some.ensures.here (subst (λ (g : Frame). NotPut (put_of g.put) c.args.place.1) (one_at c.args.self.now.frames c.args.place.0 o.frame c.frame-frame.result o.at at) o.free)

pub returns-in-None-clause-here : goal.returns-in-None-clause-here
returns-in-None-clause-here c =
    let u = c.args.self.now in
    let sound = sound_of u.circuit c.circuit-circuit.result.now c.circuit-circuit.ensures c.keeps.ensures.sound in
    let l = driven_latch u.circuit.net sound c.args.place.1 c.args.j c.requires.latch in (
      c.requires.latch,
      record {
        frame = c.frame-frame.result;
        at = c.frame-frame.ensures;
        free = c.in-None.ensures.free;
        latch = (l.0.name, l.0.next.0, latch_equation_stands u.circuit.net sound c.args.place.1 c.args.j c.requires.latch l.0 l.1);
      },
    )

pub frame-frame-requires : goal.frame-frame-requires
frame-frame-requires c = slice_get_within c.args.self.now.frames c.args.place.0 c.requires.framed.0 c.requires.framed.1
