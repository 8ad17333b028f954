-- The signals of the pair are outputs, and its functions stand at its place.
use Rattle.std.proofs.Common.{◌≡◌, ◌∙◌, ◌<◌, true, List, length, slice_get, Some, refl, sym, ap, subst, arith}
use Rattle.std.specs.List.{All}
use Rattle.std.proofs.lemmas.Option.{same_Some}
use Rattle.circuit_theory.proofs.Lists.{of_at}
use Rattle.cbf_unfold.specs.declared.unfold_places.signal_function.Unfolded.{Unfolded}
use Rattle.sec_setup.specs.declared.ports.pairs.SignalPair.{SignalPair}
use Rattle.cbf_unfold.proofs.shift_variables.Reading.{item_at}
use Rattle.cbf_unfold.specs.shift_variables.cycle_variables.Cycles.{AreInCycles}
use Rattle.reset_form.specs.reset_asked.Asked.{AskedOf, AreCycleQueries}
use Rattle.reset_form.specs.reset_functions.Pairs.{AreCyclesOf}
use Rattle.reset_form.proofs.reset_functions.OwnPairs.{own_pairs, output_within}
use Rattle.reset_form.proofs.reset_asked.PairAt.{cycles_within, cycles_here, all_in_order}
use Rattle.reset_form.proofs.reset_asked.questions.obligation_of.Goals as goal

pub pair_depth-size-requires-clause-left : goal.pair_depth-size-requires-clause-left
pair_depth-size-requires-clause-left c =
    let s = c.args.setup.now in
    let b = c.args.bases in
    let f = c.args.functions.now in
    let h = c.requires.functions in
    let p : SignalPair = c.index-as_slice-i.result in
    let at : slice_get s.pairs c.args.i ≡ Some p = item_at s.pairs c.as_slice.result.now c.args.i p c.as_slice.ensures (subst (λ (ps : List SignalPair). c.args.i < length ps) (sym c.as_slice.ensures) c.requires.place) c.index-as_slice-i.is in
    output_within s.left.now c.keeps.ensures.sound p.left.0 ((own_pairs s c.requires.setup).left p (of_at s.pairs c.args.i p at))

pub pair_depth-size-requires-clause-right : goal.pair_depth-size-requires-clause-right
pair_depth-size-requires-clause-right c =
    let s = c.args.setup.now in
    let b = c.args.bases in
    let f = c.args.functions.now in
    let h = c.requires.functions in
    let p : SignalPair = c.index-as_slice-i.result in
    let at : slice_get s.pairs c.args.i ≡ Some p = item_at s.pairs c.as_slice.result.now c.args.i p c.as_slice.ensures (subst (λ (ps : List SignalPair). c.args.i < length ps) (sym c.as_slice.ensures) c.requires.place) c.index-as_slice-i.is in
    output_within s.right.now c.keeps-2.ensures.sound p.right.0 ((own_pairs s c.requires.setup).right p (of_at s.pairs c.args.i p at))

pub index-requires : goal.index-requires
index-requires c =
    let s = c.args.setup.now in
    let b = c.args.bases in
    let f = c.args.functions.now in
    let h = c.requires.functions in
    let p : SignalPair = c.index-as_slice-i.result in
    let at : slice_get s.pairs c.args.i ≡ Some p = item_at s.pairs c.as_slice.result.now c.args.i p c.as_slice.ensures (subst (λ (ps : List SignalPair). c.args.i < length ps) (sym c.as_slice.ensures) c.requires.place) c.index-as_slice-i.is in
    let k = cycles_within s (λ (x : SignalPair). x.left.0) s.left.now s.orders.left b.left f.aig f.places s.pairs h.tops.left.items f.left.items h.are_tops.left h.left_are c.args.i p at in
    omega (arith, k, f.left.ok.0)

pub index-requires-2 : goal.index-requires-2
index-requires-2 c =
    let s = c.args.setup.now in
    let b = c.args.bases in
    let f = c.args.functions.now in
    let h = c.requires.functions in
    let p : SignalPair = c.index-as_slice-i.result in
    let at : slice_get s.pairs c.args.i ≡ Some p = item_at s.pairs c.as_slice.result.now c.args.i p c.as_slice.ensures (subst (λ (ps : List SignalPair). c.args.i < length ps) (sym c.as_slice.ensures) c.requires.place) c.index-as_slice-i.is in
    let k = cycles_within s (λ (x : SignalPair). x.right.0) s.right.now s.orders.right b.right f.aig f.places s.pairs h.tops.right.items f.right.items h.are_tops.right h.right_are c.args.i p at in
    omega (arith, k, f.right.ok.0)

pub queries_of-requires : goal.queries_of-requires
queries_of-requires c =
    let s = c.args.setup.now in
    let b = c.args.bases in
    let f = c.args.functions.now in
    let h = c.requires.functions in
    let p : SignalPair = c.index-as_slice-i.result in
    let at : slice_get s.pairs c.args.i ≡ Some p = item_at s.pairs c.as_slice.result.now c.args.i p c.as_slice.ensures (subst (λ (ps : List SignalPair). c.args.i < length ps) (sym c.as_slice.ensures) c.requires.place) c.index-as_slice-i.is in
    let within_l = cycles_within s (λ (x : SignalPair). x.left.0) s.left.now s.orders.left b.left f.aig f.places s.pairs h.tops.left.items f.left.items h.are_tops.left h.left_are c.args.i p at in
    let within_r = cycles_within s (λ (x : SignalPair). x.right.0) s.right.now s.orders.right b.right f.aig f.places s.pairs h.tops.right.items f.right.items h.are_tops.right h.right_are c.args.i p at in
    let ls : List Unfolded = c.index.result.now in
    let rs : List Unfolded = c.index-2.result.now in
    let left : AreCyclesOf s.left.now s.orders.left b.left f.aig f.places (c.pair_depth-size.result, p.left.0) ls =
    cycles_here s (λ (x : SignalPair). x.left.0) s.left.now s.orders.left b.left f.aig f.places s.pairs h.tops.left.items f.left.items h.are_tops.left h.left_are c.args.i p at c.pair_depth-size.result c.pair_depth-size.ensures ls (item_at f.left.items f.left.items c.args.i ls refl within_l c.index.ensures) in
    let right : AreCyclesOf s.right.now s.orders.right b.right f.aig f.places (c.pair_depth-size.result, p.right.0) rs =
    cycles_here s (λ (x : SignalPair). x.right.0) s.right.now s.orders.right b.right f.aig f.places s.pairs h.tops.right.items f.right.items h.are_tops.right h.right_are c.args.i p at c.pair_depth-size.result c.pair_depth-size.ensures rs (item_at f.right.items f.right.items c.args.i rs refl within_r c.index-2.ensures) in
    record {
      each = ap length c.as_slice-3.ensures ∙ (right.each ∙ (sym left.each ∙ ap length (sym c.as_slice-2.ensures)));
      left = subst (All (λ (u : Unfolded). AreInCycles f.places u.vars)) (sym c.as_slice-2.ensures) (all_in_order s.left.now s.orders.left b.left f.aig f.places (c.pair_depth-size.result, p.left.0) ls left);
      right = subst (All (λ (u : Unfolded). AreInCycles f.places u.vars)) (sym c.as_slice-3.ensures) (all_in_order s.right.now s.orders.right b.right f.aig f.places (c.pair_depth-size.result, p.right.0) rs right);
    }

pub returns : goal.returns
returns c = λ q there.
    let s = c.args.setup.now in
    let b = c.args.bases in
    let f = c.args.functions.now in
    let h = c.requires.functions in
    let p : SignalPair = c.index-as_slice-i.result in
    let at : slice_get s.pairs c.args.i ≡ Some p = item_at s.pairs c.as_slice.result.now c.args.i p c.as_slice.ensures (subst (λ (ps : List SignalPair). c.args.i < length ps) (sym c.as_slice.ensures) c.requires.place) c.index-as_slice-i.is in
    let within_l = cycles_within s (λ (x : SignalPair). x.left.0) s.left.now s.orders.left b.left f.aig f.places s.pairs h.tops.left.items f.left.items h.are_tops.left h.left_are c.args.i p at in
    let within_r = cycles_within s (λ (x : SignalPair). x.right.0) s.right.now s.orders.right b.right f.aig f.places s.pairs h.tops.right.items f.right.items h.are_tops.right h.right_are c.args.i p at in
    let ls : List Unfolded = c.index.result.now in
    let rs : List Unfolded = c.index-2.result.now in
    let left : AreCyclesOf s.left.now s.orders.left b.left f.aig f.places (c.pair_depth-size.result, p.left.0) ls =
    cycles_here s (λ (x : SignalPair). x.left.0) s.left.now s.orders.left b.left f.aig f.places s.pairs h.tops.left.items f.left.items h.are_tops.left h.left_are c.args.i p at c.pair_depth-size.result c.pair_depth-size.ensures ls (item_at f.left.items f.left.items c.args.i ls refl within_l c.index.ensures) in
    let right : AreCyclesOf s.right.now s.orders.right b.right f.aig f.places (c.pair_depth-size.result, p.right.0) rs =
    cycles_here s (λ (x : SignalPair). x.right.0) s.right.now s.orders.right b.right f.aig f.places s.pairs h.tops.right.items f.right.items h.are_tops.right h.right_are c.args.i p at c.pair_depth-size.result c.pair_depth-size.ensures rs (item_at f.right.items f.right.items c.args.i rs refl within_r c.index-2.ensures) in
    let same : p ≡ q = same_Some p q (sym at ∙ there) in
    subst (λ (x : SignalPair). AskedOf s b f x (record { name = c.in_ok-name.name; size = c.pair_depth-size.result; decisive = true; queries = c.in_ok-queries.queries })) same (record {
      name_is = c.in_ok-name.ensures;
      size_is = c.pair_depth-size.ensures;
      decisive_is = refl;
      left_cycles = ls;
      right_cycles = rs;
      left_are = left;
      right_are = right;
      queries_are = subst (λ (l : List Unfolded). AreCycleQueries f.places l rs c.in_ok-queries.queries) c.as_slice-2.ensures (subst (λ (r : List Unfolded). AreCycleQueries f.places c.as_slice-2.result.now r c.in_ok-queries.queries) c.as_slice-3.ensures c.in_ok-queries.ensures);
    })
