-- The literal that goes behind stands for the one at its place.
use Rattle.std.proofs.Common.{◌≡◌, ◌∙◌, ℕ, List, get_or, slice_get, Some, sym, subst, arith, inl, inr}
use Rattle.std.proofs.lemmas.Option.{get_or_from_slice_get}
use Rattle.aig.specs.declared.node.Lit.{Lit}
use Rattle.aig.proofs.Insert.{push-cases}
use Rattle.swept_queries.specs.node_agreement.Standing.{StandsFor, plainly}
use Rattle.obligations.proofs.carries.moved.Goals as goal

pub literal_for-requires : goal.literal_for-requires
literal_for-requires c = c.requires c.loop-i.i (record { 0 = 0 }) c.loop-i-test.true

pub loop-i-preserved : goal.loop-i-preserved
loop-i-preserved c =
    let word = c.args.word.now in
    let made = c.loop-i.made.items in
    let there : (j : ℕ) (x : Lit) → slice_get word j ≡ Some x → j ≡ c.loop-i.i → get_or word c.loop-i.i (record { 0 = 0 }) ≡ x =
    λ j x at same. get_or_from_slice_get word c.loop-i.i x (record { 0 = 0 }) (subst (λ (n : ℕ). slice_get word n ≡ Some x) same at) in
    record {
      each = omega (arith, c.in_ok-push.ensures.len, c.loop-i.invariant.each);
      stand = λ g h are j x y at here. elim (push-cases made c.literal_for.result j y (subst (λ (ys : List Lit). slice_get ys j ≡ Some y) c.in_ok-push.ensures.items here)) [
        | inl old ↦ c.loop-i.invariant.stand g h are j x y at old
        | inr k ↦ subst (λ (z : Lit). StandsFor plainly g h x.0 z.0) (sym k.1) (subst (λ (w : Lit). StandsFor plainly g h w.0 c.literal_for.result.0) (there j x at (k.0 ∙ c.loop-i.invariant.each)) (c.literal_for.ensures g h are))
      ];
    }

pub returns : goal.returns
returns c = λ g h are. record { each = omega (arith, c.loop-i.invariant.each, c.loop-i.auto.i-end, c.loop-i-test.false); stand = c.loop-i.invariant.stand g h are }
