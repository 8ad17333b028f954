-- The parts fit together.
use Rattle.std.proofs.Common.{◌≡◌, ◌∙◌, ◌*◌, ◌<◌, ℕ, List, length, sym, ap, subst, rules}
use Rattle.std.specs.List.{All}
use Rattle.aig.specs.declared.node.Lit.{Lit}
use Rattle.aig.specs.declared.node.Node.{Node}
use Rattle.cbf_unfold.specs.unfold_places.Reach.{Adds}
use Rattle.pair_decide.specs.declared.query.Query.{Query}
use Rattle.obligations.specs.declared.obligation.Obligation.{Obligation}
use Rattle.obligations.specs.Asked.{queries_of}
use Rattle.edbf_unfold.specs.class_queries.Enables.{both_of}
use Rattle.assume_laws.specs.assume_shape.Shape.{assumption_of}
use Rattle.assume_queries.specs.assume_functions.assume_places.Gathered.{IsOverUnder, IsLightUnder}
use Rattle.assume_queries.specs.declared.assume_answers.order.VariableOrder.TheVariants as order
use Rattle.assume_queries.specs.assume_answers.Order.{AreOrdered}
use Rattle.aig.specs.graph_copy.graph_clone.Twins.{AreTwins}
use Rattle.event_nodes.specs.event_variables.ranked_nodes.Named.{ranked_in}
use Rattle.event_under.specs.event_asked_under.Sides.{AreAligned, AreWithSides}
use Rattle.event_under.proofs.event_asked_under.Paths.{named_apart}
use Rattle.event_under.proofs.event_asked_under.Sums.{over_at_nodes, light_at_nodes}
use Rattle.event_under.proofs.event_asked_under.Tables.{HaveRanks, AreApart}
use Rattle.event_under.proofs.event_asked_under.Together.{ranks_have, ranks_apart, adds_itself, all_ordered, lits_within, are_aligned, all_asked}
use Rattle.event_under.proofs.event_asked_under.asked.ask_under.Goals as goal

pub ranked_places-requires : goal.ranked_places-requires
ranked_places-requires c =
    let children = c.args.events.now.children in
    let r = c.in_ok-ranked.ranked in
    record {
      each = subst (λ (ranks : List ℕ). HaveRanks ranks (length children)) (sym c.as_slice.ensures.value) (ranks_have children r c.in_ok-ranked.ensures);
      apart = subst (λ (ranks : List ℕ). AreApart ranks (length children)) (sym c.as_slice.ensures.value) (ranks_apart children r c.in_ok-ranked.ensures);
    }

pub asked_under-requires-clause-queries : goal.asked_under-requires-clause-queries
asked_under-requires-clause-queries c =
    let w = c.args.events.now in
    let r = c.in_ok-ranked.ranked in
    let start : c.in_ok-places.places ≡ ranked_in r.ranks.items w.places = c.in_ok-places.ensures ∙ ap (λ (ranks : List ℕ). ranked_in ranks w.places) c.as_slice.ensures.value in
    subst (λ (table : List (ℕ × ℕ)). All (λ (q : Query). AreOrdered order.Cycles table q.vars) (queries_of c.args.asked.now)) (sym start) (all_ordered w c.keeps.ensures.events r c.in_ok-ranked.ensures c.args.asked.now c.requires.asked)

pub returns-in_err-under-clause-over : goal.returns-in_err-under-clause-over
returns-in_err-under-clause-over c = λ e a b cut pairs kept are.
    let w = c.args.events.now in
    let r = c.in_ok-ranked.ranked in
    let start : c.in_ok-places.places ≡ ranked_in r.ranks.items w.places = c.in_ok-places.ensures ∙ ap (λ (ranks : List ℕ). ranked_in ranks w.places) c.as_slice.ensures.value in
    over_at_nodes (both_of a b) w kept.events r c.in_ok-ranked.ensures (ranked_in r.ranks.items w.places) (adds_itself (ranked_in r.ranks.items w.places)) cut pairs c.args.asked.now are c.args.weight
    (subst (λ (table : List (ℕ × ℕ)). IsOverUnder c.args.weight table (queries_of c.args.asked.now)) start (c.asked_under.ensures.over (search rules)))

pub with_sides-requires-clause-aligned : goal.with_sides-requires-clause-aligned
with_sides-requires-clause-aligned c =
    let o = c.requires.own in
    let g = c.asked_under.new.aig in
    let lits = c.in_ok-copy.copy.lits.items in
    let asked = c.args.asked.now in
    let made = c.in_ok-under.under.items in
    let aligned = are_aligned (assumption_of o.net o.inputs o.output) c.args.events.now g c.asked_under.new.table lits (c.in_ok-copy.ensures.each ∙ ap length c.aig.ensures) asked made c.requires.asked
    (c.in_ok-under.ensures.under o.net o.inputs o.output o.size o.function o.assumption) in
    subst (λ (us : List Obligation). AreAligned (length c.as_slice-2.result.now) (length g) asked us) (sym c.as_slice-3.ensures.value)
    (subst (λ (ls : List Lit). AreAligned (length ls) (length g) asked made) (sym c.as_slice-2.ensures.value) aligned)

pub with_sides-requires-clause-literals : goal.with_sides-requires-clause-literals
with_sides-requires-clause-literals c =
    subst (λ (ls : List Lit). All (λ (l : Lit). l.0 < 2 * length c.asked_under.new.aig) ls) (sym c.as_slice-2.ensures.value)
    (lits_within c.aig.result.now c.in_ok-copy.copy.aig c.asked_under.new.aig c.in_ok-copy.copy.lits.items c.in_ok-copy.ensures.twins c.in_ok-under.ensures.grows)

pub returns-clause-under : goal.returns-clause-under
returns-clause-under c = λ n inputs s size own assumes a b cut pairs kept are.
    let w = c.args.events.now in
    let r = c.in_ok-ranked.ranked in
    let table = c.asked_under.new.table in
    let f = c.in_ok-copy.copy.aig in
    let h = c.with_sides.new.aig in
    let lits = c.in_ok-copy.copy.lits.items in
    let asked = c.args.asked.now in
    let made = c.in_ok-under.under.items in
    let start : c.in_ok-places.places ≡ ranked_in r.ranks.items w.places = c.in_ok-places.ensures ∙ ap (λ (ranks : List ℕ). ranked_in ranks w.places) c.as_slice.ensures.value in
    let adds : Adds (λ p. Unit {0}) (ranked_in r.ranks.items w.places) table = subst (λ (t : List (ℕ × ℕ)). Adds (λ p. Unit {0}) t table) start c.in_ok-under.ensures.adds in
    let twins : AreTwins w.graph f lits = subst (λ (g : List Node). AreTwins g f lits) c.aig.ensures c.in_ok-copy.ensures.twins in
    let sides : AreWithSides lits h asked made c.in_ok-made.made.items =
    subst (λ (us : List Obligation). AreWithSides lits h asked us c.in_ok-made.made.items) c.as_slice-3.ensures.value
    (subst (λ (ls : List Lit). AreWithSides ls h asked c.as_slice-3.result.now c.in_ok-made.made.items) c.as_slice-2.ensures.value c.in_ok-made.ensures.made) in
    all_asked (assumption_of n inputs s) a b w kept r c.in_ok-ranked.ensures table adds f c.asked_under.new.aig h lits c.keeps-2.ensures.graph c.in_ok-under.ensures.grows c.in_ok-made.ensures.grows twins (c.in_ok-copy.ensures.each ∙ ap length c.aig.ensures) cut pairs asked made
    c.in_ok-made.made.items are (c.in_ok-under.ensures.under n inputs s size own assumes) sides

pub returns-clause-distinct : goal.returns-clause-distinct
returns-clause-distinct c = named_apart c.args.events.now.children c.in_ok-ranked.ranked c.in_ok-ranked.ensures c.keeps.ensures.events.is_tree c.keeps.ensures.events.once c.asked_under.new.table c.keeps-3.ensures

pub returns-clause-light : goal.returns-clause-light
returns-clause-light c = λ a b cut pairs kept are.
    let w = c.args.events.now in
    let r = c.in_ok-ranked.ranked in
    let start : c.in_ok-places.places ≡ ranked_in r.ranks.items w.places = c.in_ok-places.ensures ∙ ap (λ (ranks : List ℕ). ranked_in ranks w.places) c.as_slice.ensures.value in
    light_at_nodes (both_of a b) w kept.events r c.in_ok-ranked.ensures (ranked_in r.ranks.items w.places) (adds_itself (ranked_in r.ranks.items w.places)) cut pairs c.args.asked.now are c.args.weight
    (subst (λ (table : List (ℕ × ℕ)). IsLightUnder c.args.weight table (queries_of c.args.asked.now)) start c.in_ok-under.ensures.light)
