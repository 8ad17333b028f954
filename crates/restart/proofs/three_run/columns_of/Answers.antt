use Rattle.std.proofs.Common.{◌≡◌, ℕ, List, [], ◌∷◌, ◌++◌, length, slice_get, sym, ◌∙◌, ap, subst, arith, length-append}
use Rattle.flat_net.specs.declared.parts.Port.{Port}
use Rattle.std.proofs.lemmas.Option.{none-some}
use Rattle.cycle_sim.proofs.Lists.{item_at}
use Rattle.cycle_sim.proofs.pair_runs.Places.{each_more}
use Rattle.restart.specs.Behind.{IsColumnOf}
use Rattle.restart.proofs.three_run.columns_of.Goals as goal

pub loop-port-preserved : goal.loop-port-preserved
loop-port-preserved c =
    let inputs = c.args.net.now.inputs in
    let columns = c.loop-port.columns.items in
    let column = c.column_of.result in
    let port = c.port-item.result in
    let at = item_at inputs _ c.loop-port.port-index port c.inputs-port-items.ensures c.loop-port-test.true c.port-item.is in
    let named : IsColumnOf c.args.names.now port.name column = subst (λ (name : List ℕ). IsColumnOf c.args.names.now name column) c.as_slice.ensures c.column_of.ensures in
    let grown : c.push.new.self.items ≡ columns ++ column ∷ [] = c.in_ok-push.ensures.items in
    let size = ap length grown in (
      omega (arith, size, length-append columns (column ∷ []), c.loop-port.invariant.0),
      λ i k p at_p at_k. each_more (λ (j : ℕ) (p : Port) (q : ℕ). IsColumnOf c.args.names.now p.name q) inputs columns port column (ap (slice_get inputs) c.loop-port.invariant.0 ∙ at) named
          (λ j p q x y. c.loop-port.invariant.1 j q p x y) i p k at_p (sym (ap (λ (cs : List ℕ). slice_get cs i) grown) ∙ at_k),
    )

pub returns : goal.returns
returns c =
    let all : length c.loop-port.columns.items ≡ length c.args.net.now.inputs = omega (arith, c.loop-port.invariant.0, c.loop-port-test.false, c.loop-port.auto.port-index-end, ap length c.inputs-port-items.ensures) in
    record { size = all; each = c.loop-port.invariant.1 }

pub loop-port-init : goal.loop-port-init
loop-port-init c = (
  ap length c.new-columns.ensures.items,
  λ i k port at there. absurd (none-some k (sym (ap (λ (cs : List ℕ). slice_get cs i) c.new-columns.ensures.items) ∙ there)),
)
