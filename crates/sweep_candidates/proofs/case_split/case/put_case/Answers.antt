-- What is known of both nodes gives the case.
use Rattle.std.proofs.Common.{sym, subst}
use Rattle.sweep_candidates.specs.case_split.Under.{AreUnder}
use Rattle.sweep_candidates.proofs.case_split.case.put_case.Goals as goal

pub returns : goal.returns
returns c = λ yes.
    let graph = c.in_ok-part.part.graph in
    let known : AreUnder c.args.graph.now c.args.var c.args.bit graph c.as_slice-known.result.now =
    subst (AreUnder c.args.graph.now c.args.var c.args.bit graph) (sym c.as_slice-known.ensures.value) c.in_ok-part.ensures in
    record {
      case = record { graph = graph; left = c.in-Some-Some.left; right = c.in-Some-Some.right; before = c.args.before };
      stands = record {
        left = c.in-Some-Some.ensures c.args.var c.args.bit c.args.graph.now graph known;
        right = c.in-Some-Some.ensures' c.args.var c.args.bit c.args.graph.now graph known;
      };
      behind = c.in_ok-push.ensures.items;
    }
