use Rattle.std.proofs.Common.{◌≡◌, ℕ, List, sym, subst}
use Rattle.aig.specs.declared.node.Lit.{Lit}
use Rattle.aig.specs.declared.node.Node.{Node}
use Rattle.swept_queries.specs.node_agreement.Standing.{AreLocal}
use Rattle.pair_decide.proofs.Read.{IfOk-then}
use Rattle.swept_queries.proofs.node_agreement.Told.{answer-told}
use Rattle.swept_queries.proofs.node_agreement.proof.try_small.Goals as goal

-- the same lists under other names
local-by : (g : List Node) (numbers numbers' : List ℕ) (small : List Node) (lits lits' : List Lit) → numbers' ≡ numbers → lits' ≡ lits → AreLocal g numbers small lits → AreLocal g numbers' small lits'
local-by g numbers numbers' small lits lits' d e are = subst (λ (ns : List ℕ). AreLocal g ns small lits') (sym d) (subst (AreLocal g numbers small) (sym e) are)

pub care_of-requires-clause-local : goal.care_of-requires-clause-local
care_of-requires-clause-local c =
    subst (λ (ns : List ℕ). AreLocal c.args.graph.now ns c.in_ok-small.small.graph c.in_ok-small.small.lits.items) c.as_slice-numbers.ensures.value c.in_ok-small.ensures

pub ask-requires-clause-left : goal.ask-requires-clause-left
ask-requires-clause-left c =
    let small = c.care_of.new.small in
    let are = local-by c.args.graph.now c.args.part.now.numbers.items c.as_slice-numbers.result.now small.graph small.lits.items c.as_slice-lits.result.now c.as_slice-numbers.ensures.value c.as_slice-lits.ensures.value c.in_ok-care.ensures.local in
    (c.in-Some-Some.ensures c.args.graph.now small.graph are).within

pub ask-requires-clause-right : goal.ask-requires-clause-right
ask-requires-clause-right c =
    let small = c.care_of.new.small in
    let are = local-by c.args.graph.now c.args.part.now.numbers.items c.as_slice-numbers.result.now small.graph small.lits.items c.as_slice-lits.result.now c.as_slice-numbers.ensures.value c.as_slice-lits.ensures.value c.in_ok-care.ensures.local in
    (c.in-Some-Some.ensures' c.args.graph.now small.graph are).within

pub ask-requires-clause-care : goal.ask-requires-clause-care
ask-requires-clause-care c = c.in_ok-care.ensures.care.within

pub returns : goal.returns
returns c =
    let small = c.care_of.new.small in
    let are = local-by c.args.graph.now c.args.part.now.numbers.items c.as_slice-numbers.result.now small.graph small.lits.items c.as_slice-lits.result.now c.as_slice-numbers.ensures.value c.as_slice-lits.ensures.value c.in_ok-care.ensures.local in
    IfOk-then c.ask.result _ _
    (answer-told c.args.graph.now small.graph c.keeps.ensures.graph c.keeps-2.ensures.graph c.args.x.0 c.args.k.0 c.in-Some-Some.left.0 c.in-Some-Some.right.0 c.in_ok-care.care.0
    (c.in-Some-Some.ensures c.args.graph.now small.graph are) (c.in-Some-Some.ensures' c.args.graph.now small.graph are) c.in_ok-care.ensures.care)
    c.ask.ensures
