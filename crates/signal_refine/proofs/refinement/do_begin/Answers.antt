-- The ties hold at first.
use Rattle.std.proofs.Common.{◌≡◌, ◌∙◌, ◌*◌, ◌<◌, ℕ, Bool, true, List, length, sym, subst}
use Rattle.std.specs.Prelude.{IsTrue}
use Rattle.std.specs.List.{All}
use Rattle.aig.specs.declared.node.Lit.{Lit}
use Rattle.aig.specs.Values.{value}
use Rattle.signal_refine.specs.Asking.{AreShown}
use Rattle.signal_refine.specs.Assuming.{IsMet}
use Rattle.signal_refine.specs.Copies.{HaveAt}
use Rattle.signal_refine.specs.Showing.{Begins}
use Rattle.aig.proofs.Growth.{Grows-trans}
use Rattle.signal_refine.proofs.Framing.{within_grows, nothing_within}
use Rattle.signal_refine.proofs.Knowing.{known_grows}
use Rattle.signal_refine.proofs.Results.{ok_map}
use Rattle.signal_refine.proofs.Showing.{begins_where_shown}
use Rattle.signal_refine.proofs.refinement.do_begin.Goals as goal

pub met_literal-requires-clause-leaves : goal.met_literal-requires-clause-leaves
met_literal-requires-clause-leaves c = subst (All (λ (x : Lit). x.0 < 2 * length c.leaves_of.new.aig)) (sym c.deref.ensures.value) c.in_ok-leaves.ensures.within

pub are_settled-requires-clause-known : goal.are_settled-requires-clause-known
are_settled-requires-clause-known c =
    let g0 = c.args.facts.now.aig in
    let g1 = c.leaves_of.new.aig in
    let g2 = c.met_literal.new.aig in
    known_grows g0 g2 (Grows-trans g0 g1 g2 c.in_ok-leaves.ensures.grows c.in_ok-care.ensures.grows) c.args.facts.now.kept.items c.requires.known

pub are_settled-requires-clause-held : goal.are_settled-requires-clause-held
are_settled-requires-clause-held c =
    (c.in_ok-care.ensures.within, nothing_within c.met_literal.new.aig c.new-before.result.own.items c.new-before.ensures.own, nothing_within c.met_literal.new.aig c.new-before.result.read.items c.new-before.ensures.read)

pub are_settled-requires-clause-leaves : goal.are_settled-requires-clause-leaves
are_settled-requires-clause-leaves c =
    subst (All (λ (x : Lit). x.0 < 2 * length c.met_literal.new.aig)) (sym c.deref-2.ensures.value) (within_grows c.leaves_of.new.aig c.met_literal.new.aig c.in_ok-care.ensures.grows c.in_ok-leaves.leaves.items c.in_ok-leaves.ensures.within)

pub returns-clause-begins : goal.returns-clause-begins
returns-clause-begins c =
    let n = c.args.round.now.nets in
    let w = c.args.round.now.assumed in
    let first = c.args.round.now.first in
    let base = c.args.round.now.base.now in
    let nodes = c.args.nodes.now in
    let leaves = c.in_ok-leaves.leaves.items in
    let h = c.leaves_of.new.aig in
    let k = c.met_literal.new.aig in
    let care = c.in_ok-care.care in
    let none = c.new-before.result in
    ok_map (λ (same : Bool). IsTrue same → AreShown base c.deref-2.result.now care none nodes k) (λ (begun : Bool). IsTrue begun → Begins (IsMet w n) n first base nodes) c.are_settled.result
    (λ same shown yes.
    begins_where_shown n first c.requires.first base nodes w c.args.facts.now.aig h k c.count.result leaves c.in_ok-leaves.ensures c.in_ok-care.ensures.grows care
    (λ a m have. c.in_ok-care.ensures.value a m (subst (HaveAt m h a) (sym c.deref.ensures.value) have)) none c.new-before.ensures.own
    (subst (λ (l : List Lit). AreShown base l care none nodes k) c.deref-2.ensures.value (shown yes)))
    c.are_settled.ensures.shown
