-- Each fan-in stands in the frame, or in the one without a latch put.
use Rattle.std.proofs.Common.{◌≡◌, ◌+◌, ◌≤◌, length, slice_get, Some, refl, sym, ap, subst}
use Rattle.std.specs.List.{All}
use Rattle.std.proofs.lemmas.Option.{slice_get_within}
use Rattle.event_nodes.proofs.flat_net.Places.{one_at}
use Rattle.event_nodes.specs.Adds.{Adds}
use Rattle.event_nodes.specs.View.{EventCircuitView}
use Rattle.event_nodes.proofs.Lists.{adds_none}
use Rattle.edbf_unfold.specs.declared.event_literals.event_walk.frames.Frame.{Frame}
use Rattle.edbf_unfold.specs.event_literals.event_walk.Ready.{EventWalkerView}
use Rattle.edbf_unfold.specs.event_literals.event_walk.Walk.{IsReadAt, IsReadIn, AreReadIn, IsReadPlace}
use Rattle.edbf_unfold.proofs.event_literals.event_walk.Reading.{read_places, read_in}
use Rattle.edbf_unfold.proofs.event_literals.event_walk.walker.EventWalker.expand_gate.Goals as goal

pub frame-frame-requires : goal.frame-frame-requires
frame-frame-requires c = slice_get_within c.args.self.now.frames c.args.place.0 c.requires.framed.0 c.requires.framed.1

pub free_frame-requires-clause-framed : goal.free_frame-requires-clause-framed
free_frame-requires-clause-framed c = subst (λ (k : EventWalkerView). slice_get k.frames c.args.place.0 ≡ Some c.frame-frame.result) (sym c.self.view_is) c.frame-frame.ensures

pub returns-clause-all : goal.returns-clause-all
returns-clause-all c = λ f at.
    let net : c.self.inside.circuit.now ≡ c.args.self.now.circuit = ap (λ (k : EventWalkerView). k.circuit) c.self.view_is in
    let same : c.frame-frame.result ≡ f = one_at c.args.self.now.frames c.args.place.0 c.frame-frame.result f c.frame-frame.ensures at in
    subst (λ (g : Frame). AreReadIn c.args.self.now.circuit.net c.free_frame.new.frames g c.args.place.0 c.in_ok-free.free c.add_reads.new.table c.args.fanins.now) same
    (read_in c.args.self.now.circuit.net c.free_frame.new.frames c.frame-frame.result c.args.place.0 c.in_ok-free.free c.in_ok-free.ensures.at c.args.fanins.now c.add_reads.new.table
    (subst (λ (e : EventCircuitView). All (IsReadIn e.net c.frame-frame.result.put c.args.place.0 c.in_ok-free.free c.add_reads.new.table) c.args.fanins.now) net c.in_ok-add_reads.ensures.all))

pub returns-in_err-free-clause-adds : goal.returns-in_err-free-clause-adds
returns-in_err-free-clause-adds c = λ f at. adds_none _ _ _ refl

pub returns-in_err-free-clause-frames : goal.returns-in_err-free-clause-frames
returns-in_err-free-clause-frames c = subst (λ (k : EventWalkerView). Adds (λ (g : Frame). Unit {0}) k.frames c.free_frame.new.frames) c.self.view_is c.free_frame.ensures.frames

pub returns-in_err-free-clause-few_frames : goal.returns-in_err-free-clause-few_frames
returns-in_err-free-clause-few_frames c = subst (λ (k : EventWalkerView). length c.free_frame.new.frames ≤ length k.frames + 1) c.self.view_is c.free_frame.ensures.few_frames

pub returns-in_err-free-clause-same : goal.returns-in_err-free-clause-same
returns-in_err-free-clause-same c = ap (λ (k : EventWalkerView). record k { frames = c.free_frame.new.frames }) c.self.view_is

pub returns-in_err-add_reads-clause-adds : goal.returns-in_err-add_reads-clause-adds
returns-in_err-add_reads-clause-adds c = λ f at.
    let net : c.self.inside.circuit.now ≡ c.args.self.now.circuit = ap (λ (k : EventWalkerView). k.circuit) c.self.view_is in
    let same : c.frame-frame.result ≡ f = one_at c.args.self.now.frames c.args.place.0 c.frame-frame.result f c.frame-frame.ensures at in
    subst (λ (g : Frame). Adds (IsReadPlace c.args.self.now.circuit.net c.free_frame.new.frames g c.args.place.0 c.args.fanins.now) c.args.table.now c.add_reads.new.table) same
    (read_places c.args.self.now.circuit.net c.free_frame.new.frames c.frame-frame.result c.args.place.0 c.in_ok-free.free c.in_ok-free.ensures.at c.args.fanins.now c.args.table.now c.add_reads.new.table
    (subst (λ (e : EventCircuitView). Adds (IsReadAt e.net c.frame-frame.result.put c.args.place.0 c.in_ok-free.free c.args.fanins.now) c.args.table.now c.add_reads.new.table) net c.add_reads.ensures.adds))

pub returns-in_err-add_reads-clause-frames : goal.returns-in_err-add_reads-clause-frames
returns-in_err-add_reads-clause-frames c = subst (λ (k : EventWalkerView). Adds (λ (g : Frame). Unit {0}) k.frames c.free_frame.new.frames) c.self.view_is c.free_frame.ensures.frames

pub returns-in_err-add_reads-clause-few_frames : goal.returns-in_err-add_reads-clause-few_frames
returns-in_err-add_reads-clause-few_frames c = subst (λ (k : EventWalkerView). length c.free_frame.new.frames ≤ length k.frames + 1) c.self.view_is c.free_frame.ensures.few_frames

pub returns-in_err-add_reads-clause-same : goal.returns-in_err-add_reads-clause-same
returns-in_err-add_reads-clause-same c = ap (λ (k : EventWalkerView). record k { frames = c.free_frame.new.frames }) c.self.view_is

pub returns-clause-adds : goal.returns-clause-adds
returns-clause-adds c = λ f at.
    let net : c.self.inside.circuit.now ≡ c.args.self.now.circuit = ap (λ (k : EventWalkerView). k.circuit) c.self.view_is in
    let same : c.frame-frame.result ≡ f = one_at c.args.self.now.frames c.args.place.0 c.frame-frame.result f c.frame-frame.ensures at in
    subst (λ (g : Frame). Adds (IsReadPlace c.args.self.now.circuit.net c.free_frame.new.frames g c.args.place.0 c.args.fanins.now) c.args.table.now c.add_reads.new.table) same
    (read_places c.args.self.now.circuit.net c.free_frame.new.frames c.frame-frame.result c.args.place.0 c.in_ok-free.free c.in_ok-free.ensures.at c.args.fanins.now c.args.table.now c.add_reads.new.table
    (subst (λ (e : EventCircuitView). Adds (IsReadAt e.net c.frame-frame.result.put c.args.place.0 c.in_ok-free.free c.args.fanins.now) c.args.table.now c.add_reads.new.table) net c.add_reads.ensures.adds))

pub returns-clause-frames : goal.returns-clause-frames
returns-clause-frames c = subst (λ (k : EventWalkerView). Adds (λ (g : Frame). Unit {0}) k.frames c.free_frame.new.frames) c.self.view_is c.free_frame.ensures.frames

pub returns-clause-few_frames : goal.returns-clause-few_frames
returns-clause-few_frames c = subst (λ (k : EventWalkerView). length c.free_frame.new.frames ≤ length k.frames + 1) c.self.view_is c.free_frame.ensures.few_frames

pub returns-clause-same : goal.returns-clause-same
returns-clause-same c = ap (λ (k : EventWalkerView). record k { frames = c.free_frame.new.frames }) c.self.view_is
