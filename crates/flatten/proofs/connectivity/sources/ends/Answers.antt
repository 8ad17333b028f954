use Rattle.std.proofs.Common.{◌≡◌, ◌+◌, ◌<◌, ◌≤◌, ℕ, List, Vec, Global, Option, length, map, subst, sym, ap, ◌∙◌, arith}
use Rattle.std.specs.Prelude.{slice_index, All}
use Rattle.std.specs.List.{count_by}
use Rattle.std.proofs.lemmas.Result.{IfOk-weaker}
use Rattle.flatten.specs.connectivity.Steps.{is_open, IsBackBy, net_at, AreEnds}
use Rattle.flatten.proofs.connectivity.StepTables.{all_within, all_within_itself, twice_back, settled}
use Rattle.flatten.proofs.connectivity.sources.ends.Goals as goal

-- the table of twice as far
further : (froms : List (Option ℕ)) (k : ℕ) (at seen next : List ℕ) → IsBackBy froms k at → seen ≡ at → next ≡ map (slice_index seen) seen → IsBackBy froms (k + k) next
further froms k at seen next b same is = subst (IsBackBy froms (k + k)) (sym (is ∙ ap (λ zs. map (slice_index zs) zs) same)) (twice_back froms k at b)

pub still_open-left-requires : goal.still_open-left-requires
still_open-left-requires c =
    let k = c.loop-at.invariant.steps.0 in
    let b = further c.args.froms.now k c.loop-at.at.items c.deref-in-loop-at.result.now c.in_ok-further.further.items c.loop-at.invariant.steps.2 c.deref-in-loop-at.ensures.value c.in_ok-further.ensures in
    subst (λ zs. All (λ m. m < length c.args.froms.now) zs) (sym c.deref-in-loop-at-2.ensures.value) (all_within c.args.froms.now (k + k) c.in_ok-further.further.items b)

pub ended-requires : goal.ended-requires
ended-requires c =
    let k = c.loop-at.invariant.steps.0 in
    let b = further c.args.froms.now k c.loop-at.at.items c.deref-in-loop-at.result.now c.in_ok-further.further.items c.loop-at.invariant.steps.2 c.deref-in-loop-at.ensures.value c.in_ok-further.ensures in
    subst (λ zs. All (λ m. m < length c.args.froms.now) zs) (sym c.deref-then-left-open.ensures.value) (all_within c.args.froms.now (k + k) c.in_ok-further.further.items b)

pub returns-then-left-open : goal.returns-then-left-open
returns-then-left-open c =
    let k = c.loop-at.invariant.steps.0 in
    let froms = c.args.froms.now in
    let b = further froms k c.loop-at.at.items c.deref-in-loop-at.result.now c.in_ok-further.further.items c.loop-at.invariant.steps.2 c.deref-in-loop-at.ensures.value c.in_ok-further.ensures in
    let count : count_by (is_open froms) c.loop-at.at.items ≤ count_by (is_open froms) c.in_ok-further.further.items =
    omega (arith, c.if-left-open.true, c.loop-at.invariant.count, c.still_open-left.ensures ∙ ap (λ zs. count_by (is_open froms) zs) c.deref-in-loop-at-2.ensures.value) in
    let whole = settled froms k c.loop-at.at.items c.in_ok-further.further.items c.loop-at.invariant.steps.1 c.loop-at.invariant.steps.2 b c.requires.within count in
    IfOk-weaker c.ended.result (λ (nets : Vec (Option ℕ) Global). nets.items ≡ map (net_at froms) c.deref-then-left-open.result.now) (λ (nets : Vec (Option ℕ) Global). AreEnds froms nets.items) (λ nets made. subst (AreEnds froms) (sym (made ∙ ap (map (net_at froms)) c.deref-then-left-open.ensures.value)) whole) c.ended.ensures

pub loop-at-preserved : goal.loop-at-preserved
loop-at-preserved c =
    let k = c.loop-at.invariant.steps.0 in
    let b = further c.args.froms.now k c.loop-at.at.items c.deref-in-loop-at.result.now c.in_ok-further.further.items c.loop-at.invariant.steps.2 c.deref-in-loop-at.ensures.value c.in_ok-further.ensures in
    record {
      steps = (k + k, omega (arith, c.loop-at.invariant.steps.1), b);
      count = c.still_open-left.ensures ∙ ap (λ zs. count_by (is_open c.args.froms.now) zs) c.deref-in-loop-at-2.ensures.value;
    }

pub twice-requires : goal.twice-requires
twice-requires c =
    subst (λ (zs : List ℕ). All (λ m. m < length zs) zs) (sym c.deref-in-loop-at.ensures.value) (all_within_itself c.args.froms.now c.loop-at.invariant.steps.0 c.loop-at.at.items c.loop-at.invariant.steps.2)

pub still_open-open-requires : goal.still_open-open-requires
still_open-open-requires c = subst (λ (zs : List ℕ). All (λ m. m < length c.args.froms.now) zs) (sym c.deref.ensures.value) (all_within c.args.froms.now 1 c.in_ok-at.at.items c.in_ok-at.ensures)

pub loop-at-init : goal.loop-at-init
loop-at-init c = record {
  steps = (1, omega arith, c.in_ok-at.ensures);
  count = c.still_open-open.ensures ∙ ap (λ (zs : List ℕ). count_by (is_open c.args.froms.now) zs) c.deref.ensures.value;
}
