-- One latch more is decided, or it is the first that isn't.
use Rattle.std.proofs.Common.{◌≡◌, ◌∙◌, ◌<◌, ◌++◌, [], ◌∷◌, length, List, Err, subst, sym, ap, arith, rules}
use Rattle.latch_kinds.specs.Found.{AreFound}
use Rattle.latch_kinds.proofs.Decided.{none_decided, decided_more, length_more, all_found, first_unknown}
use Rattle.latch_kinds.proofs.kinds.recovered.Goals as goal

pub overflow_cast-j : goal.overflow_cast-j
overflow_cast-j c = let s = c.keeps.ensures.sound in omega (arith, c.loop-j-test.true, ap length c.latches-j-end.ensures, s.few_latches, s.few)

pub loop-j-init : goal.loop-j-init
loop-j-init c = record { size = ap length c.new-kinds.ensures; decided = none_decided c.args.net.now _ c.new-kinds.ensures }

pub loop-j-preserved : goal.loop-j-preserved
loop-j-preserved c =
    let n = c.args.net.now in
    let grown : c.push.new.self ≡ c.loop-j.kinds ++ c.in_ok-kind.kind ∷ [] = c.in_ok-push.ensures.ok in
    record {
      size = length_more c.loop-j.kinds c.push.new.self c.loop-j.j c.in_ok-kind.kind grown c.loop-j.invariant.size;
      decided = decided_more n c.loop-j.kinds c.push.new.self c.loop-j.j c.in_ok-kind.kind grown c.loop-j.invariant.size c.in_ok-kind.ensures c.loop-j.invariant.decided;
    }

pub returns-in_err-kind : goal.returns-in_err-kind
returns-in_err-kind c =
    let n = c.args.net.now in
    let same : c.from_residual-in_err-kind.result ≡ Err c.in_err-kind.field-0.0 = search rules in
    let low : c.loop-j.j < length n.latches = omega (arith, c.loop-j-test.true, ap length c.latches-j-end.ensures) in
    subst (AreFound n c.args.conflicts) (sym same) (first_unknown n c.args.conflicts c.loop-j.kinds c.loop-j.j low c.loop-j.invariant.size c.loop-j.invariant.decided c.in_err-kind.field-0.0 c.in_err-kind.ensures)

pub returns : goal.returns
returns c =
    let n = c.args.net.now in
    let e = ap length c.latches-j-end.ensures in
    all_found n c.keeps.ensures.sound c.loop-j.kinds (omega (arith, e, c.loop-j.invariant.size, c.loop-j-test.false, c.loop-j.auto.j-end)) c.loop-j.invariant.decided
