-- An enabled latch is entered twice, a plain one once.
use Rattle.std.proofs.Common.{◌≡◌, slice_get, Some, refl, subst, inl, inr}
use Rattle.event_nodes.specs.flat_net.View.{NetView}
use Rattle.event_nodes.proofs.flat_net.Places.{one_at}
use Rattle.event_nodes.proofs.Lists.{adds_trans}
use Rattle.edbf_unfold.specs.declared.event_literals.event_walk.frames.Frame.{Frame}
use Rattle.edbf_unfold.specs.declared.event_literals.event_walk.frames.Put.TheVariants.{Free, Low, High}
use Rattle.edbf_unfold.specs.event_literals.event_walk.Walk.{IsEntry}
use Rattle.edbf_unfold.proofs.event_literals.event_walk.InFrames.{entries, entries_later, plain_ways, held_ways}
use Rattle.edbf_unfold.proofs.event_literals.event_walk.entering.enter_latch.Goals as goal

pub returns-in_err-onward-clause-adds : goal.returns-in_err-onward-clause-adds
returns-in_err-onward-clause-adds c = λ l at.
    let e = c.args.circuit.now in
    let m = c.latch_of-latch.result.now in
    let own : slice_get e.net.latches c.args.j ≡ Some m = subst (λ (n : NetView). slice_get n.latches c.args.j ≡ Some m) c.net.ensures c.latch_of-latch.ensures.there in
    let same : m ≡ l = one_at e.net.latches c.args.j m l own at in
    let on = c.is_enabled.ensures.yes m own c.if-is_enabled.true in
    entries e c.enter.new.frames c.args.child l m (Low m.out.0) c.args.table.now c.enter.new.table same (inl (on, inl refl)) c.enter.ensures.adds

pub returns-in_err-high-clause-frames : goal.returns-in_err-high-clause-frames
returns-in_err-high-clause-frames c = adds_trans (λ (f : Frame). Unit {0}) c.args.frames.now c.enter.new.frames c.enter-then-is_enabled.new.frames c.enter.ensures.frames c.enter-then-is_enabled.ensures.frames

pub returns-in_err-high-clause-adds : goal.returns-in_err-high-clause-adds
returns-in_err-high-clause-adds c = λ l at.
    let e = c.args.circuit.now in
    let m = c.latch_of-latch.result.now in
    let own : slice_get e.net.latches c.args.j ≡ Some m = subst (λ (n : NetView). slice_get n.latches c.args.j ≡ Some m) c.net.ensures c.latch_of-latch.ensures.there in
    let same : m ≡ l = one_at e.net.latches c.args.j m l own at in
    let on = c.is_enabled.ensures.yes m own c.if-is_enabled.true in
    adds_trans (IsEntry e c.enter-then-is_enabled.new.frames c.args.child l) c.args.table.now c.enter.new.table c.enter-then-is_enabled.new.table (entries_later e c.enter.new.frames c.enter-then-is_enabled.new.frames c.args.child l c.args.table.now c.enter.new.table c.enter-then-is_enabled.ensures.frames (entries e c.enter.new.frames c.args.child l m (Low m.out.0) c.args.table.now c.enter.new.table same (inl (on, inl refl)) c.enter.ensures.adds)) (entries e c.enter-then-is_enabled.new.frames c.args.child l m (High m.out.0) c.enter.new.table c.enter-then-is_enabled.new.table same (inl (on, inr refl)) c.enter-then-is_enabled.ensures.adds)

pub returns-in_err-onward-2-clause-adds : goal.returns-in_err-onward-2-clause-adds
returns-in_err-onward-2-clause-adds c = λ l at.
    let e = c.args.circuit.now in
    let m = c.latch_of-latch.result.now in
    let own : slice_get e.net.latches c.args.j ≡ Some m = subst (λ (n : NetView). slice_get n.latches c.args.j ≡ Some m) c.net.ensures c.latch_of-latch.ensures.there in
    let same : m ≡ l = one_at e.net.latches c.args.j m l own at in
    let off = c.is_enabled.ensures.no m own c.if-is_enabled.false in
    entries e c.enter-else-is_enabled.new.frames c.args.child l m Free c.args.table.now c.enter-else-is_enabled.new.table same (inr (off, refl)) c.enter-else-is_enabled.ensures.adds

pub returns-in_ok-high-clause-ways : goal.returns-in_ok-high-clause-ways
returns-in_ok-high-clause-ways c = λ l at.
    let e = c.args.circuit.now in
    let m = c.latch_of-latch.result.now in
    let own : slice_get e.net.latches c.args.j ≡ Some m = subst (λ (n : NetView). slice_get n.latches c.args.j ≡ Some m) c.net.ensures c.latch_of-latch.ensures.there in
    let same : m ≡ l = one_at e.net.latches c.args.j m l own at in
    let on = c.is_enabled.ensures.yes m own c.if-is_enabled.true in
    held_ways e c.enter.new.frames c.enter-then-is_enabled.new.frames c.enter.new.table c.enter-then-is_enabled.new.table c.args.child c.in_ok-onward.onward c.in_ok-high.high l m (λ q. (slice_get c.enter-then-is_enabled.new.frames q.0 ≡ Some (record { node = c.args.child; put = High m.out.0 })) × (q.1 ≡ m.next.0)) same on c.in_ok-onward.ensures.at
    c.enter-then-is_enabled.ensures.frames c.in_ok-onward.ensures.met c.enter-then-is_enabled.ensures.adds c.in_ok-high.ensures.at c.in_ok-high.ensures.met

pub returns-in_ok-high-clause-frames : goal.returns-in_ok-high-clause-frames
returns-in_ok-high-clause-frames c = adds_trans (λ (f : Frame). Unit {0}) c.args.frames.now c.enter.new.frames c.enter-then-is_enabled.new.frames c.enter.ensures.frames c.enter-then-is_enabled.ensures.frames

pub returns-in_ok-high-clause-adds : goal.returns-in_ok-high-clause-adds
returns-in_ok-high-clause-adds c = λ l at.
    let e = c.args.circuit.now in
    let m = c.latch_of-latch.result.now in
    let own : slice_get e.net.latches c.args.j ≡ Some m = subst (λ (n : NetView). slice_get n.latches c.args.j ≡ Some m) c.net.ensures c.latch_of-latch.ensures.there in
    let same : m ≡ l = one_at e.net.latches c.args.j m l own at in
    let on = c.is_enabled.ensures.yes m own c.if-is_enabled.true in
    adds_trans (IsEntry e c.enter-then-is_enabled.new.frames c.args.child l) c.args.table.now c.enter.new.table c.enter-then-is_enabled.new.table (entries_later e c.enter.new.frames c.enter-then-is_enabled.new.frames c.args.child l c.args.table.now c.enter.new.table c.enter-then-is_enabled.ensures.frames (entries e c.enter.new.frames c.args.child l m (Low m.out.0) c.args.table.now c.enter.new.table same (inl (on, inl refl)) c.enter.ensures.adds)) (entries e c.enter-then-is_enabled.new.frames c.args.child l m (High m.out.0) c.enter.new.table c.enter-then-is_enabled.new.table same (inl (on, inr refl)) c.enter-then-is_enabled.ensures.adds)

pub returns-in_ok-onward-2-clause-ways : goal.returns-in_ok-onward-2-clause-ways
returns-in_ok-onward-2-clause-ways c = λ l at.
    let e = c.args.circuit.now in
    let m = c.latch_of-latch.result.now in
    let own : slice_get e.net.latches c.args.j ≡ Some m = subst (λ (n : NetView). slice_get n.latches c.args.j ≡ Some m) c.net.ensures c.latch_of-latch.ensures.there in
    let same : m ≡ l = one_at e.net.latches c.args.j m l own at in
    let off = c.is_enabled.ensures.no m own c.if-is_enabled.false in
    plain_ways e c.enter-else-is_enabled.new.frames c.enter-else-is_enabled.new.table c.args.child c.in_ok-onward-2.onward l m same off c.in_ok-onward-2.ensures.at c.in_ok-onward-2.ensures.met

pub returns-in_ok-onward-2-clause-adds : goal.returns-in_ok-onward-2-clause-adds
returns-in_ok-onward-2-clause-adds c = λ l at.
    let e = c.args.circuit.now in
    let m = c.latch_of-latch.result.now in
    let own : slice_get e.net.latches c.args.j ≡ Some m = subst (λ (n : NetView). slice_get n.latches c.args.j ≡ Some m) c.net.ensures c.latch_of-latch.ensures.there in
    let same : m ≡ l = one_at e.net.latches c.args.j m l own at in
    let off = c.is_enabled.ensures.no m own c.if-is_enabled.false in
    entries e c.enter-else-is_enabled.new.frames c.args.child l m Free c.args.table.now c.enter-else-is_enabled.new.table same (inr (off, refl)) c.enter-else-is_enabled.ensures.adds
