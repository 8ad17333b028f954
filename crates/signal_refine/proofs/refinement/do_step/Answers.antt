-- The ties hold in the next cycle.
use Rattle.std.proofs.Common.{◌≡◌, ◌∙◌, ◌+◌, ◌*◌, ◌^◌, ◌<◌, ◌≤◌, ℕ, Bool, List, length, ap, subst, sym, arith}
use Rattle.std.specs.Prelude.{IsTrue}
use Rattle.std.specs.List.{All}
use Rattle.std.proofs.lemmas.List.Elements.{All-weaker}
use Rattle.aig.specs.declared.node.Lit.{Lit}
use Rattle.aig.proofs.Growth.{Grows-trans}
use Rattle.signal_refine.specs.Asking.{AreShown}
use Rattle.signal_refine.specs.Assuming.{IsMet, IsStepCare}
use Rattle.signal_refine.specs.Places.{places_of}
use Rattle.signal_refine.specs.Copies.{HaveAt, IsCopy, AreCarried}
use Rattle.signal_refine.specs.Showing.{Steps}
use Rattle.signal_refine.proofs.Framing.{within_grows}
use Rattle.signal_refine.proofs.Knowing.{known_grows}
use Rattle.signal_refine.proofs.Results.{ok_map}
use Rattle.signal_refine.proofs.Showing.{steps_where_shown}
use Rattle.signal_refine.proofs.refinement.do_step.Goals as goal

pub leaves_of-requires-2-clause-fit : goal.leaves_of-requires-2-clause-fit
leaves_of-requires-2-clause-fit c =
    let n = c.args.round.now.nets in
    let first = c.args.round.now.first in
    let g = c.copy_of.new.aig in
    let small = c.requires.first.small in
    let few = c.requires.ready.few in
    let limit = c.places.ensures in
    record {
      left_long = c.requires.ready.left_long;
      right_long = c.requires.ready.right_long;
      left_small = All-weaker (λ (i : ℕ). i < 2 ^ 30) (λ (i : ℕ). first + c.places.result + i + 1 < 2 ^ 32) (λ i l. omega (arith, l, small, few, limit)) n.orders.now.left c.requires.ready.left_small;
      right_small = All-weaker (λ (i : ℕ). i < 2 ^ 30) (λ (i : ℕ). first + c.places.result + i + 1 < 2 ^ 32) (λ i l. omega (arith, l, small, few, limit)) n.orders.now.right c.requires.ready.right_small;
      latches_small = omega (arith, small, few);
      carried = (
        ap length c.deref-3.ensures.value ∙ (c.in_ok-before.ensures.each ∙ c.requires.lits.1),
        subst (All (λ (x : Lit). x.0 < 2 * length g)) (sym c.deref-3.ensures.value)
            (c.in_ok-before.ensures.within (length g) (subst (All (λ (x : Lit). x.0 < 2 * length g)) (sym c.deref-2.ensures.value) c.in_ok-now.ensures.read_within)),
      );
    }

pub step_care-requires-clause-leaves : goal.step_care-requires-clause-leaves
step_care-requires-clause-leaves c =
    let g1 = c.leaves_of.new.aig in
    let g2 = c.copy_of.new.aig in
    let g3 = c.leaves_of-2.new.aig in
    subst (All (λ (x : Lit). x.0 < 2 * length g3)) (sym c.deref-4.ensures.value) (within_grows g1 g3 (Grows-trans g1 g2 g3 c.in_ok-now.ensures.grows c.in_ok-next.ensures.grows) c.in_ok-leaves.leaves.items c.in_ok-leaves.ensures.within)

pub step_care-requires-clause-next : goal.step_care-requires-clause-next
step_care-requires-clause-next c = subst (All (λ (x : Lit). x.0 < 2 * length c.leaves_of-2.new.aig)) (sym c.deref-5.ensures.value) c.in_ok-next.ensures.within

pub are_settled-requires-clause-known : goal.are_settled-requires-clause-known
are_settled-requires-clause-known c =
    let g0 = c.args.facts.now.aig in
    let g1 = c.leaves_of.new.aig in
    let g2 = c.copy_of.new.aig in
    let g3 = c.leaves_of-2.new.aig in
    let g4 = c.step_care.new.aig in
    let grows = Grows-trans g0 g1 g4 c.in_ok-leaves.ensures.grows (Grows-trans g1 g2 g4 c.in_ok-now.ensures.grows (Grows-trans g2 g3 g4 c.in_ok-next.ensures.grows c.in_ok-care.ensures.grows)) in
    known_grows g0 g4 grows c.args.facts.now.kept.items c.requires.known

pub are_settled-requires-clause-held : goal.are_settled-requires-clause-held
are_settled-requires-clause-held c =
    let g2 = c.copy_of.new.aig in
    let g4 = c.step_care.new.aig in
    let grows = Grows-trans g2 c.leaves_of-2.new.aig g4 c.in_ok-next.ensures.grows c.in_ok-care.ensures.grows in
    (c.in_ok-care.ensures.within, within_grows g2 g4 grows c.in_ok-now.now.own.items c.in_ok-now.ensures.own_within, within_grows g2 g4 grows c.in_ok-now.now.read.items c.in_ok-now.ensures.read_within)

pub are_settled-requires-clause-leaves : goal.are_settled-requires-clause-leaves
are_settled-requires-clause-leaves c =
    subst (All (λ (x : Lit). x.0 < 2 * length c.step_care.new.aig)) (sym c.deref-6.ensures.value) (within_grows c.leaves_of-2.new.aig c.step_care.new.aig c.in_ok-care.ensures.grows c.in_ok-next.next.items c.in_ok-next.ensures.within)

pub returns-clause-steps : goal.returns-clause-steps
returns-clause-steps c =
    let n = c.args.round.now.nets in
    let w = c.args.round.now.assumed in
    let first = c.args.round.now.first in
    let base = c.args.round.now.base.now in
    let lits = c.args.round.now.lits.now in
    let nodes = c.args.nodes.now in
    let g0 = c.args.facts.now.aig in
    let g1 = c.leaves_of.new.aig in
    let g2 = c.copy_of.new.aig in
    let g3 = c.leaves_of-2.new.aig in
    let g4 = c.step_care.new.aig in
    let care = c.in_ok-care.care in
    let now = c.in_ok-now.now in
    ok_map (λ (same : Bool). IsTrue same → AreShown base c.deref-6.result.now care now nodes g4) (λ (kept : Bool). IsTrue kept → Steps (IsMet w n) n first base nodes) c.are_settled.result
    (λ same shown yes.
    steps_where_shown n first c.requires.first base nodes w (first + c.places.result) (ap (λ k. first + k) c.places.ensures) lits c.requires.lits g0 g1 g2 g3 g4 c.count.result (length base) c.count-2.result
    c.in_ok-leaves.leaves.items c.in_ok-next.next.items c.deref-3.result now c.in_ok-leaves.ensures (subst (λ (l : List Lit). IsCopy base l nodes g1 g2 (length base) now) c.deref.ensures.value c.in_ok-now.ensures) c.in_ok-before.before.items
    (subst (λ (l : List Lit). AreCarried l lits c.in_ok-before.before.items) c.deref-2.ensures.value c.in_ok-before.ensures) (λ v g a have. subst (HaveAt v g a) (sym c.deref-3.ensures.value) have) c.in_ok-next.ensures c.in_ok-care.ensures.grows care
    (subst (λ (l : List Lit). IsStepCare w l c.in_ok-next.next.items g3 g4 care) c.deref-4.ensures.value (subst (λ (l : List Lit). IsStepCare w c.deref-4.result.now l g3 g4 care) c.deref-5.ensures.value c.in_ok-care.ensures.care))
    (subst (λ (l : List Lit). AreShown base l care now nodes g4) c.deref-6.ensures.value (shown yes)))
    c.are_settled.ensures.shown
