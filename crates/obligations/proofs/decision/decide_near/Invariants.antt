use Rattle.std.proofs.Common.{◌≡◌, length, take}
use Rattle.obligations.specs.Asked.{queries_of}
use Rattle.obligations.specs.Decided.{HaveDecided}
use Rattle.obligations.proofs.decision.decide_near.Given as goal

abbrev pub invariant-loop-i : goal.invariant-loop-i
invariant-loop-i l = record {
  decided : HaveDecided l.aig l.conflicts (take l.i l.asked) l.decided;
  place_is : l.place ≡ length (queries_of (take l.i l.asked));
}
