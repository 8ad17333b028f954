-- One obligation more is under the assumption.
use Rattle.std.proofs.Common.{◌≡◌, ◌∙◌, ◌+◌, ◌*◌, ◌<◌, ◌≤◌, List, [], ◌++◌, drop, length, take, refl, sym, ap, subst, arith, add-one}
use Rattle.std.specs.List.{AllZip, sum_by}
use Rattle.std.proofs.lemmas.List.{take_all, length-append}
use Rattle.std.proofs.lemmas.List.Elements.{All-weaker}
use Rattle.circuit_theory.proofs.Lists.{zip_length}
use Rattle.aig.proofs.Growth.{Grows-refl, Grows-trans, Grows-length}
use Rattle.pair_decide.specs.declared.query.Query.{Query}
use Rattle.cbf_unfold.specs.declared.unfold_places.signal_function.Unfolded.{Unfolded}
use Rattle.obligations.specs.declared.obligation.Obligation.{Obligation}
use Rattle.obligations.specs.Asked.{queries_of}
use Rattle.obligations.proofs.Listed.{item-at, queries-more, queries-within}
use Rattle.assume_queries.specs.Parted.{HasParts, IsObligationMade}
use Rattle.assume_queries.proofs.Parting.{parts_from, own_from, obligation_from, obligations_more}
use Rattle.assume_queries.proofs.map.obligations_under.Goals as goal

pub loop-i-init : goal.loop-i-init
loop-i-init c = record {
  made = λ found own. subst (λ (us : List Obligation). AllZip (IsObligationMade c.args.order c.args.table.now c.args.aig.now found c.args.parts.now c.args.aig.now) [] us) (sym c.new-made.ensures.items) tt;
  graph = c.keeps.ensures.graph;
  place_is = refl;
  grows = Grows-refl c.args.aig.now;
  few = omega arith;
}

pub obligation_under-requires : goal.obligation_under-requires
obligation_under-requires c =
    let asked = c.args.asked.now in
    let i = c.loop-i.i in
    let parts = c.args.parts.now in
    let o : Obligation = c.index-asked-i.result in
    let at = item-at asked i o (let h : i < length asked = omega arith in h) c.index-asked-i.is in
    let long = Grows-length c.args.aig.now c.loop-i.aig c.loop-i.invariant.grows in
    record {
      parts = parts_from c.args.order c.args.table.now parts asked i c.loop-i.place o c.requires.parts at c.loop-i.invariant.place_is;
      literals = All-weaker (λ (u : Unfolded). u.lit.0 < 2 * length c.args.aig.now) (λ (u : Unfolded). u.lit.0 < 2 * length c.loop-i.aig) (λ u h. omega (arith, h, long)) parts.functions.items c.requires.literals;
      room = omega (arith, c.loop-i.invariant.few, c.requires.room);
    }

pub overflow_add-place : goal.overflow_add-place
overflow_add-place c =
    let asked = c.args.asked.now in
    let parts = c.args.parts.now in
    let o : Obligation = c.index-asked-i.result in
    let at = item-at asked c.loop-i.i o (let h : c.loop-i.i < length asked = omega arith in h) c.index-asked-i.is in
    let within = queries-within asked c.loop-i.i o at in
    let same = zip_length (HasParts c.args.order c.args.table.now parts.functions.items) (queries_of asked) parts.own.items c.requires.parts in
    omega (arith, within, same, parts.own.ok.0, c.loop-i.invariant.place_is, c.len-place.ensures)

pub loop-i-preserved : goal.loop-i-preserved
loop-i-preserved c =
    let o = c.args.order in
    let table = c.args.table.now in
    let parts = c.args.parts.now in
    let asked = c.args.asked.now in
    let i = c.loop-i.i in
    let f = c.args.aig.now in
    let g = c.loop-i.aig in
    let h = c.obligation_under.new.aig in
    let u : Obligation = c.index-asked-i.result in
    let at = item-at asked i u (let inside : i < length asked = omega arith in inside) c.index-asked-i.is in
    let more : queries_of (take (i + 1) asked) ≡ queries_of (take i asked) ++ u.queries = ap (λ n. queries_of (take n asked)) (add-one i) ∙ queries-more asked i u at in
    let next : c.loop-i.place + c.len-place.result ≡ length (queries_of (take (i + 1) asked)) = omega (arith, c.loop-i.invariant.place_is, c.len-place.ensures, ap (λ (qs : List Query). length qs) more, length-append (queries_of (take i asked)) u.queries) in
    let few = ap (λ k. sum_by length (drop (c.loop-i.place + k) parts.own.items)) c.len-place.ensures in
    record {
      made = λ found own.
          obligations_more o table parts found f g h c.loop-i.invariant.graph c.keeps-in-loop-i.ensures.graph c.loop-i.invariant.grows c.in_ok-under.ensures.grows asked c.loop-i.made.items c.push.new.self.items i u c.in_ok-under.under at
          (obligation_from o table parts found f g h c.loop-i.invariant.graph c.loop-i.invariant.grows c.requires.literals u c.in_ok-under.under
          (c.in_ok-under.ensures.made found (own_from o table parts found asked i c.loop-i.place u own at c.loop-i.invariant.place_is)))
          c.in_ok-push.ensures.items (c.loop-i.invariant.made found own);
      graph = c.keeps-in-loop-i.ensures.graph;
      place_is = next;
      grows = Grows-trans f g h c.loop-i.invariant.grows c.in_ok-under.ensures.grows;
      few = omega (arith, c.loop-i.invariant.few, c.in_ok-under.ensures.few, few);
    }

pub returns-clause-made : goal.returns-clause-made
returns-clause-made c = λ found own.
    subst (λ (us : List Obligation). AllZip (IsObligationMade c.args.order c.args.table.now c.args.aig.now found c.args.parts.now c.loop-i.aig) us c.loop-i.made.items)
    (take_all c.loop-i.i c.args.asked.now (let h : length c.args.asked.now ≤ c.loop-i.i = omega (arith, c.loop-i-test.false) in h)) (c.loop-i.invariant.made found own)
