-- The parts fit together.
use Rattle.std.proofs.Common.{length, refl, arith}
use Rattle.std.proofs.lemmas.List.Elements.{All-contains}
use Rattle.circuit_theory.proofs.Lists.{zip_weaker}
use Rattle.aig.proofs.Growth.{Grows-trans}
use Rattle.pair_decide.specs.declared.query.Query.{Query}
use Rattle.obligations.specs.Asked.{queries_of}
use Rattle.assume_laws.specs.assume_shape.Shape.{assumption_of}
use Rattle.assume_queries.proofs.assume_functions.assume_places.Gathering.{is_over, is_light}
use Rattle.assume_queries.specs.assume_answers.Order.{AreOrdered}
use Rattle.assume_queries.specs.Parted.{IsObligationMade}
use Rattle.assume_queries.specs.assume_answers.Under.{IsObligationUnder}
use Rattle.assume_queries.proofs.Mapped.{all_have_places, can_be_put, weight_light, ordered_later, all_own, all_parts, put_within, obligation_under}
use Rattle.assume_queries.proofs.map.asked_under.Goals as goal

pub places_of_all-requires : goal.places_of_all-requires
places_of_all-requires c = record { queries = all_have_places c.args.order c.args.table.now (queries_of c.args.asked.now) c.requires.queries; room = omega (arith, c.requires.entries) }

pub is_over-requires : goal.is_over-requires
is_over-requires c = record { weight = weight_light c.args.own.now c.args.weight c.requires.own; count = c.in_ok-found.ensures.count }

pub returns-then-is_over-clause-over : goal.returns-then-is_over-clause-over
returns-then-is_over-clause-over c = λ e. is_over c.args.table.now (queries_of c.args.asked.now) c.in_ok-found.found c.args.weight c.in_ok-found.ensures (c.is_over.ensures.over c.if-is_over.true)

pub functions_at-requires : goal.functions_at-requires
functions_at-requires c =
    let light = c.is_over.ensures.light c.if-is_over.false in
    record { own = can_be_put c.args.own.now c.args.weight (length c.in_ok-found.found.table) c.requires.own (omega (arith, light)); nodes = c.requires.nodes; entries = c.requires.entries }

pub obligations_under-requires : goal.obligations_under-requires
obligations_under-requires c =
    let w = c.requires.own in
    let o = c.args.order in
    let qs = queries_of c.args.asked.now in
    let old = c.args.table.now in
    let table = c.functions_at.new.table in
    let g = c.functions_at.new.aig in
    let found = c.in_ok-found.found in
    let functions = c.in_ok-functions.functions.items in
    let adds = c.in_ok-functions.ensures.adds in
    let put = c.in_ok-functions.ensures.put w.net w.inputs w.output w.function w.assumption.gates in
    let light = c.is_over.ensures.light c.if-is_over.false in
    record {
      parts =
          all_parts w.net w.inputs w.output g table found.table functions put o qs found.own.items (λ q h. ordered_later old table adds o q.vars (All-contains (λ (q : Query). AreOrdered o old q.vars) qs q c.requires.queries h))
          (all_own old table adds o found.table qs found.own.items c.requires.queries c.in_ok-found.ensures.each);
      literals = put_within w.net w.inputs w.output g table found.table functions put;
      room = omega (arith, light, c.in_ok-functions.ensures.nodes, c.requires.nodes);
    }

pub returns-clause-under : goal.returns-clause-under
returns-clause-under c = λ n inputs s size own is.
    let o = c.args.order in
    let qs = queries_of c.args.asked.now in
    let old = c.args.table.now in
    let table = c.functions_at.new.table in
    let g = c.functions_at.new.aig in
    let h = c.obligations_under.new.aig in
    let found = c.in_ok-found.found in
    let functions = c.in_ok-functions.functions.items in
    let put = c.in_ok-functions.ensures.put n inputs s own is.gates in
    let made = c.in_ok-made.ensures.made found.table (all_own old table c.in_ok-functions.ensures.adds o found.table qs found.own.items c.requires.queries c.in_ok-found.ensures.each) in
    zip_weaker (IsObligationMade o table g found.table (record { own = found.own; functions = c.in_ok-functions.functions }) h) (IsObligationUnder o (assumption_of n inputs s) h table)
    (λ u v m. obligation_under n inputs s g table found.table functions put size is o h (record { own = found.own; functions = c.in_ok-functions.functions }) refl u v m) c.args.asked.now c.in_ok-made.made.items made

pub returns-clause-light : goal.returns-clause-light
returns-clause-light c = is_light c.args.table.now (queries_of c.args.asked.now) c.in_ok-found.found c.args.weight c.in_ok-found.ensures (c.is_over.ensures.light c.if-is_over.false)

pub returns-clause-grows : goal.returns-clause-grows
returns-clause-grows c = Grows-trans c.args.aig.now c.functions_at.new.aig c.obligations_under.new.aig c.in_ok-functions.ensures.grows c.in_ok-made.ensures.grows

pub returns-clause-small : goal.returns-clause-small
returns-clause-small c = let light = c.is_over.ensures.light c.if-is_over.false in omega (arith, light, c.in_ok-functions.ensures.nodes, c.in_ok-made.ensures.few)
