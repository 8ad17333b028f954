-- The literal that goes behind is the one for the literal at its place.
use Rattle.std.proofs.Common.{◌≡◌, ◌∙◌, ℕ, List, get_or, slice_get, Some, ap, subst, arith, inl, inr}
use Rattle.std.proofs.lemmas.Option.{get_or_from_slice_get}
use Rattle.aig.specs.declared.node.Lit.{Lit}
use Rattle.aig.proofs.Insert.{push-cases}
use Rattle.swept_queries.specs.node_agreement.Standing.{literal_in}
use Rattle.swept_queries.proofs.sweep.graph.literals_for.Goals as goal

pub literal_for-requires : goal.literal_for-requires
literal_for-requires c = c.requires c.loop-i.i (record { 0 = 0 }) c.loop-i-test.true

pub loop-i-preserved : goal.loop-i-preserved
loop-i-preserved c =
    let leads = c.args.leads.now in
    let made = c.loop-i.made.items in
    let lead : (j : ℕ) (x : Lit) → slice_get leads j ≡ Some x → j ≡ c.loop-i.i → get_or leads c.loop-i.i (record { 0 = 0 }) ≡ x =
    λ j x at same. get_or_from_slice_get leads c.loop-i.i x (record { 0 = 0 }) (subst (λ (n : ℕ). slice_get leads n ≡ Some x) same at) in
    record {
      each = omega (arith, c.in_ok-push.ensures.len, c.loop-i.invariant.each);
      is = λ j x y at here. elim (push-cases made c.literal_for.result j y (subst (λ (ys : List Lit). slice_get ys j ≡ Some y) c.in_ok-push.ensures.items here)) [
        | inl old ↦ c.loop-i.invariant.is j x y at old
        | inr k ↦ ap (λ (l : Lit). l.0) k.1 ∙ c.literal_for.ensures.is ∙ ap (λ (l : Lit). literal_in c.args.map.now l.0) (lead j x at (k.0 ∙ c.loop-i.invariant.each))
      ];
    }

pub returns : goal.returns
returns c = record { each = omega (arith, c.loop-i.invariant.each, c.loop-i.auto.i-end, c.loop-i-test.false); is = c.loop-i.invariant.is }
