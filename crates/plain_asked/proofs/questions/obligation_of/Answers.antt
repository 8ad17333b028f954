-- The functions of the pair stand at its place.
use Rattle.std.proofs.Common.{◌≡◌, slice_get, Some, sym, subst, arith}
use Rattle.std.proofs.lemmas.Result.{IfOk-weaker}
use Rattle.sec_setup.specs.declared.ports.pairs.SignalPair.{SignalPair}
use Rattle.plain_asked.specs.Asked.{AskedOf, AsksWith, IsOnlyQuery}
use Rattle.plain_asked.proofs.PairAt.{element, left_within, right_within, left_variables, right_variables, left_here, right_here}
use Rattle.plain_asked.proofs.questions.obligation_of.Goals as goal

pub index-requires : goal.index-requires
index-requires c =
    let s = c.args.setup.now in
    let f = c.args.functions.now in
    let p = element s.pairs c.args.i c.requires.place in
    let h = left_within s.left.now s.right.now s.pairs c.args.i p.0 p.1 s.orders.left s.orders.right f c.requires.functions in
    omega (arith, h, f.left.ok.0)

pub index-requires-2 : goal.index-requires-2
index-requires-2 c =
    let s = c.args.setup.now in
    let f = c.args.functions.now in
    let p = element s.pairs c.args.i c.requires.place in
    let h = right_within s.left.now s.right.now s.pairs c.args.i p.0 p.1 s.orders.left s.orders.right f c.requires.functions in
    omega (arith, h, f.right.ok.0)

pub queries_of-requires-clause-left : goal.queries_of-requires-clause-left
queries_of-requires-clause-left c =
    let s = c.args.setup.now in
    let p = element s.pairs c.args.i c.requires.place in
    left_variables s.left.now s.right.now s.pairs c.args.i p.0 p.1 s.orders.left s.orders.right c.args.functions.now c.requires.functions c.index.result.now c.index.ensures

pub queries_of-requires-clause-right : goal.queries_of-requires-clause-right
queries_of-requires-clause-right c =
    let s = c.args.setup.now in
    let p = element s.pairs c.args.i c.requires.place in
    right_variables s.left.now s.right.now s.pairs c.args.i p.0 p.1 s.orders.left s.orders.right c.args.functions.now c.requires.functions c.index-2.result.now c.index-2.ensures

pub returns : goal.returns
returns c =
    let s = c.args.setup.now in
    let f = c.args.functions.now in
    IfOk-weaker c.obligation_with.result (λ o. (p : SignalPair) → slice_get s.pairs c.args.i ≡ Some p → AsksWith s p c.in_ok-queries.queries o) (λ o. (p : SignalPair) → slice_get s.pairs c.args.i ≡ Some p → AskedOf s f p o)
    (λ o asks p at.
    let w = asks p at in
    record {
      name_is = w.name_is;
      size_is = w.size_is;
      decisive_is = w.decisive_is;
      left_function = c.index.result.now;
      right_function = c.index-2.result.now;
      left_is = left_here s.left.now s.right.now s.pairs c.args.i p at s.orders.left s.orders.right f c.requires.functions c.index.result.now c.index.ensures;
      right_is = right_here s.left.now s.right.now s.pairs c.args.i p at s.orders.left s.orders.right f c.requires.functions c.index-2.result.now c.index-2.ensures;
      queries_are = subst (IsOnlyQuery f.places c.index.result.now c.index-2.result.now) (sym w.queries_are) c.in_ok-queries.ensures;
    }) c.obligation_with.ensures
