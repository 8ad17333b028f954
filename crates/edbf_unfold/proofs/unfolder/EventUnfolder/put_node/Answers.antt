-- The node where an open latch takes over its data.
use Rattle.std.proofs.Common.{refl, inl, inr}
use Rattle.std.proofs.lemmas.Option.{slice_get_within}
use Rattle.edbf_unfold.proofs.unfolder.EventUnfolder.put_node.Goals as goal

pub open_latch-requires-clause-framed : goal.open_latch-requires-clause-framed
open_latch-requires-clause-framed c = c.requires.framed

pub open_latch-requires-clause-signal : goal.open_latch-requires-clause-signal
open_latch-requires-clause-signal c = c.requires.signal

pub frame-requires : goal.frame-requires
frame-requires c =
    let f = c.requires.onward c.in-Some.ensures.here.1 in
    slice_get_within c.args.self.now.frames c.args.ways.onward f.0 f.1

pub returns-in_ok-push-in-Some : goal.returns-in_ok-push-in-Some
returns-in_ok-push-in-Some c = inr (c.in-Some.ensures.here.1, (c.frame.result, c.frame.ensures, c.in_ok-push-in-Some.ensures.items))

pub returns-in-None : goal.returns-in-None
returns-in-None c = inl (c.in-None.ensures.none, refl)
