-- The bits of the assignment are a difference of the query.
use Rattle.std.proofs.Common.{◌<◌, ◌≡◌, ◌∙◌, ℕ, List, length, sym, ap, subst, arith}
use Rattle.swept_queries.specs.sweep.pair_decide.Answers.{IsDifference}
use Rattle.swept_queries.specs.Lanes.{lane_bits}
use Rattle.swept_queries.proofs.ToldApart.{lane-difference}
use Rattle.swept_queries.proofs.Stand.{itself}
use Rattle.swept_queries.proofs.queries.SweptQueries.decide_apart.Goals as goal

pub returns : goal.returns
returns c =
    let g = c.args.aig.now in
    let q = c.args.query.now in
    let words = c.args.self.now.words.items in
    let bits : c.in_ok-bits.bits ≡ lane_bits words q.vars c.args.lane =
    c.in_ok-bits.ensures ∙ (ap (λ (ws : List ℕ). lane_bits ws c.as_slice-vars.result.now c.args.lane) c.as_slice.ensures.value ∙ ap (λ (vs : List ℕ). lane_bits words vs c.args.lane) c.as_slice-vars.ensures) in
    let many : 16 < length q.vars = omega (arith, c.if-vars-le-MAX_TABLE_VARIABLES.false, ap length c.as_slice-vars.ensures) in
    record {
      graph = g;
      asked = q;
      stands = itself g q c.keeps.ensures.graph c.requires.query;
      decides = subst (IsDifference g q) (sym bits) (lane-difference g q words c.args.lane c.keeps.ensures.graph c.requires.query many c.requires.apart);
    }
