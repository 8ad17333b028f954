-- The functions of the pair stand at its place, or there are none.
use Rattle.std.proofs.Common.{◌≡◌, ◌∙◌, slice_get, Some, refl, sym, subst, arith}
use Rattle.std.proofs.lemmas.Option.{same_Some, slice_get_within}
use Rattle.std.proofs.lemmas.Result.{IfOk-weaker}
use Rattle.sec_setup.specs.declared.ports.pairs.SignalPair.{SignalPair}
use Rattle.plain_asked.specs.Apart.{IsPairAt}
use Rattle.plain_asked.specs.Asked.{AskedApart, AsksWith}
use Rattle.plain_asked.proofs.AskedPairs.{stand_at, asked_apart}
use Rattle.plain_asked.proofs.PairAt.{element}
use Rattle.cbf_unfold.proofs.shift_variables.Reading.{item_at}
use Rattle.plain_asked.proofs.questions.obligation_apart.Goals as goal

pub index-requires : goal.index-requires
index-requires c =
    let f = c.args.functions.now in
    let p = element c.args.setup.now.pairs c.args.i c.requires.place in
    let k = c.requires.functions c.args.i p.0 p.1 in
    let h = slice_get_within f.at.items c.args.i k.0 k.1 in
    omega (arith, h, f.at.ok.0)

pub queries_at-requires : goal.queries_at-requires
queries_at-requires c =
    let s = c.args.setup.now in
    let f = c.args.functions.now in
    let place = c.index.result.now in
    let p = element s.pairs c.args.i c.requires.place in
    let k = c.requires.functions c.args.i p.0 p.1 in
    let at : slice_get f.at.items c.args.i ≡ Some place = item_at f.at.items f.at.items c.args.i place refl (slice_get_within f.at.items c.args.i k.0 k.1) c.index.ensures in
    let same : k.0 ≡ place = same_Some k.0 place (sym k.1 ∙ at) in
    stand_at s f.functions p.0 place (subst (IsPairAt s.left.now s.right.now s.orders.left s.orders.right f.functions p.0) same k.2)

pub returns : goal.returns
returns c =
    let s = c.args.setup.now in
    let f = c.args.functions.now in
    let place = c.index.result.now in
    IfOk-weaker c.obligation_with.result (λ o. (p : SignalPair) → slice_get s.pairs c.args.i ≡ Some p → AsksWith s p c.in_ok-queries.queries o) (λ o. (p : SignalPair) → slice_get s.pairs c.args.i ≡ Some p → AskedApart s f.functions p o)
    (λ o asks p there.
    let k = c.requires.functions c.args.i p there in
    let at : slice_get f.at.items c.args.i ≡ Some place = item_at f.at.items f.at.items c.args.i place refl (slice_get_within f.at.items c.args.i k.0 k.1) c.index.ensures in
    let same : k.0 ≡ place = same_Some k.0 place (sym k.1 ∙ at) in
    asked_apart s f.functions p place c.in_ok-queries.queries o (subst (IsPairAt s.left.now s.right.now s.orders.left s.orders.right f.functions p) same k.2) c.in_ok-queries.ensures (asks p there)) c.obligation_with.ensures
