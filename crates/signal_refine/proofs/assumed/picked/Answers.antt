-- One literal more.
use Rattle.std.proofs.Common.{◌≡◌, ◌∙◌, ◌+◌, ◌*◌, ◌<◌, ℕ, Bool, List, [], ◌∷◌, length, get_or, sym, ap, subst, arith}
use Rattle.std.specs.List.{All}
use Rattle.std.proofs.lemmas.List.Elements.{All-append, All-cons, All-nil}
use Rattle.aig.specs.declared.node.Lit.{Lit}
use Rattle.aig.specs.declared.node.Node.{Node}
use Rattle.aig.specs.graph_copy.Copy.{renamed}
use Rattle.signal_refine.specs.Copies.{HaveAt}
use Rattle.signal_refine.proofs.Framing.{values_push, length_push, nothing_has}
use Rattle.signal_refine.proofs.assumed.picked.Goals as goal

pub loop-i-init : goal.loop-i-init
loop-i-init c = record {
  each = ap length c.new-made.ensures.items;
  within = λ n all. subst (All (λ (x : Lit). x.0 < 2 * n)) (sym c.new-made.ensures.items) (All-nil (λ (x : Lit). x.0 < 2 * n));
  values = λ g a d have. nothing_has (renamed c.args.numbers.now d) g a _ c.new-made.ensures.items;
}

pub loop-i-preserved : goal.loop-i-preserved
loop-i-preserved c =
    let old = c.loop-i.made.items in
    let x = c.in_ok-leaf_at.field-0 in
    let items = c.in_ok-push.ensures.items in
    record {
      each = ap length items ∙ length_push old x c.loop-i.i c.loop-i.invariant.each;
      within = λ n all.
          subst (All (λ (y : Lit). y.0 < 2 * n)) (sym items)
          (All-append (λ (y : Lit). y.0 < 2 * n) old (x ∷ []) (c.loop-i.invariant.within n all) (All-cons (λ (y : Lit). y.0 < 2 * n) x [] (c.in_ok-leaf_at.ensures.within n all) (All-nil (λ (y : Lit). y.0 < 2 * n))));
      values = λ g a d have.
          subst (HaveAt (renamed c.args.numbers.now d) g a) (sym items)
          (values_push (renamed c.args.numbers.now d) g a old x (c.loop-i.invariant.values g a d have) (c.in_ok-leaf_at.ensures.value g a d have ∙ ap (renamed c.args.numbers.now d) (sym c.loop-i.invariant.each)));
    }

pub returns : goal.returns
returns c = record { each = c.loop-i.invariant.each ∙ (omega (arith, c.loop-i-test.false, c.loop-i.auto.i-end)); within = c.loop-i.invariant.within; values = c.loop-i.invariant.values }
