-- The bits of the row are fed in the order of the inputs.
use Rattle.std.proofs.Common.{◌≡◌, ◌∙◌, List, Bool, Option, [], ◌∷◌, ◌++◌, ℕ, length, refl, sym, ap, subst, arith}
use Rattle.std.specs.Vec.{with_items}
use Rattle.std.proofs.lemmas.List.{with_items_is}
use Rattle.circuit_theory.proofs.Lists.{length-map}
use Rattle.cycle_sim.specs.View.{HasMarkedRun}
use Rattle.cycle_sim.specs.pair_runs.Feeding.{bit_of, reordered}
use Rattle.cycle_sim.proofs.pair_runs.feed.Feed.step.Goals as goal

pub returns : goal.returns
returns c =
    let f = c.args.self.now in
    let row = c.args.row.now in
    let size : length c.reorder.new.bits ≡ f.bits.len = omega (arith, c.reorder.auto.bits, c.deref_mut.ensures.len) in
    let written : (with_items f.bits c.reorder.new.bits).items ≡ c.reorder.new.bits = with_items_is f.bits c.reorder.new.bits size in
    let bits : c.reorder.new.bits ≡ reordered f.columns.items row = c.reorder.ensures ∙ ap (λ (columns : List (Option ℕ)). reordered columns row) c.deref.ensures.value in
    let fed : c.deref-2.result.now ≡ reordered f.columns.items row = c.deref-2.ensures.value ∙ (written ∙ bits) in
    record {
      net = c.step.ensures.net;
      bits = c.step.ensures.enabled;
      cycles = c.step.ensures.cycles;
      columns = refl;
      space = ap length (written ∙ bits) ∙ (length-map (bit_of row) f.columns.items ∙ sym c.requires.space);
      run = λ power rows have. subst (λ (r : List Bool). HasMarkedRun c.step.new.self power (rows ++ r ∷ [])) fed (c.step.ensures.run power rows have);
    }
