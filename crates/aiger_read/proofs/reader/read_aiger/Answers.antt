use Rattle.aiger_read.proofs.Answered.{planned, reads_net, reads_loop}
use Rattle.aiger_read.proofs.reader.read_aiger.Goals as goal

pub make-requires : goal.make-requires
make-requires c =
    planned c.args.bytes.now c.in_ok-file.file c.in-Some.ordered.graph.items c.deref.result.now c.in-Some.ordered.order c.as_slice.result.now c.in_ok-file.ensures.kept c.in_ok-file.ensures.file
    (rw c.in-Some.is at c.in_ok-ordered.ensures.ordered) c.deref.ensures.value c.as_slice.ensures

pub returns-in_default : goal.returns-in_default
returns-in_default c = reads_loop c.args.bytes.now c.in_ok-file.file c.in_ok-file.ensures.file (rw c.in_default.is at c.in_ok-ordered.ensures.looped)

pub returns : goal.returns
returns c =
    reads_net c.args.bytes.now c.in_ok-file.file c.in-Some.ordered.graph.items c.in-Some.ordered.order c.in_ok-net.net c.in_ok-file.ensures.file (rw c.in-Some.is at c.in_ok-ordered.ensures.ordered) c.in_ok-net.ensures
