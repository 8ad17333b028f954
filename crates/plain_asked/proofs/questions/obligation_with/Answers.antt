-- The signals of the pair are outputs.
use Rattle.std.proofs.Common.{◌≡◌, ◌<◌, List, length, slice_get, Some, refl, sym, ◌∙◌, ap, subst}
use Rattle.std.specs.Prelude.{not}
use Rattle.std.proofs.lemmas.Option.{same_Some}
use Rattle.sec_setup.specs.declared.ports.pairs.SignalPair.{SignalPair}
use Rattle.plain_asked.specs.Asked.{AsksWith}
use Rattle.plain_asked.proofs.PairAt.{left_shown, right_shown, output_within}
use Rattle.cbf_unfold.proofs.shift_variables.Reading.{item_at}
use Rattle.plain_asked.proofs.questions.obligation_with.Goals as goal

pub pair_depth-size-requires-clause-left : goal.pair_depth-size-requires-clause-left
pair_depth-size-requires-clause-left c =
    let s = c.args.setup.now in
    let p : SignalPair = c.index-as_slice-i.result in
    let at : slice_get s.pairs c.args.i ≡ Some p = item_at s.pairs c.as_slice.result.now c.args.i p c.as_slice.ensures (subst (λ (ps : List SignalPair). c.args.i < length ps) (sym c.as_slice.ensures) c.requires.place) c.index-as_slice-i.is in
    output_within s.left.now c.keeps.ensures.sound p.left.0 (left_shown s.left.now s.right.now s.pairs c.args.i p at c.requires.setup.pairs)

pub pair_depth-size-requires-clause-right : goal.pair_depth-size-requires-clause-right
pair_depth-size-requires-clause-right c =
    let s = c.args.setup.now in
    let p : SignalPair = c.index-as_slice-i.result in
    let at : slice_get s.pairs c.args.i ≡ Some p = item_at s.pairs c.as_slice.result.now c.args.i p c.as_slice.ensures (subst (λ (ps : List SignalPair). c.args.i < length ps) (sym c.as_slice.ensures) c.requires.place) c.index-as_slice-i.is in
    output_within s.right.now c.keeps-2.ensures.sound p.right.0 (right_shown s.left.now s.right.now s.pairs c.args.i p at c.requires.setup.pairs)

pub returns : goal.returns
returns c = λ q there.
    let s = c.args.setup.now in
    let p : SignalPair = c.index-as_slice-i.result in
    let at : slice_get s.pairs c.args.i ≡ Some p = item_at s.pairs c.as_slice.result.now c.args.i p c.as_slice.ensures (subst (λ (ps : List SignalPair). c.args.i < length ps) (sym c.as_slice.ensures) c.requires.place) c.index-as_slice-i.is in
    let same : p ≡ q = same_Some p q (sym at ∙ there) in
    subst (λ (x : SignalPair). AsksWith s x c.args.queries (record { name = c.in_ok-name.name; size = c.pair_depth-size.result; decisive = not c.is_cut.result; queries = c.args.queries })) same (record {
      name_is = c.in_ok-name.ensures;
      size_is = c.pair_depth-size.ensures;
      decisive_is = ap not c.is_cut.ensures;
      queries_are = refl;
    })
