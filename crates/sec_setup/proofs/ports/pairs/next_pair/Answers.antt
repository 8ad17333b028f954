-- Both lists of positions are as long as the names.
use Rattle.std.proofs.Common.{◌≡◌, ℕ, length, ap, refl, subst, arith, Some}
use Rattle.std.specs.Prelude.{IfSome, Option}
use Rattle.std.proofs.lemmas.Option.{slice_get-get_or}
use Rattle.circuit_theory.proofs.Lists.{length-map}
use Rattle.flat_net.specs.Cut.{latch_at}
use Rattle.flat_net.specs.declared.signals.Signal.{Signal}
use Rattle.flat_net.specs.View.{NetView}
use Rattle.flat_net.proofs.Nets.{some_at}
use Rattle.sec_setup.proofs.ports.pairs.next_pair.Goals as goal

next_is : (n : NetView) (s : Signal) (o : Option ℕ) (i : ℕ) → o ≡ Some i → IfSome o (λ j. s ≡ (latch_at n j).next) → s ≡ (latch_at n i).next
next_is n s o i e h = subst (λ (p : Option ℕ). IfSome p (λ j. s ≡ (latch_at n j).next)) e h

pub returns : goal.returns
returns c =
    let a = c.args.a.now in
    let b = c.args.b.now in
    let k = c.args.k in
    let left = length-map (λ j. (latch_at a j).name) c.args.left.now in
    let right = length-map (λ j. (latch_at b j).name) c.args.right.now in
    let i = some_at c.args.left.now k (omega (arith, c.requires.place, left, ap length c.requires.left_named.named)) in
    let j = some_at c.args.right.now k (omega (arith, c.requires.place, right, ap length c.requires.right_named.named)) in
    record {
      name = c.in_ok-copy.field-0;
      i = i.0;
      j = j.0;
      name_at = grind (arith, slice_get-get_or c.args.names.now k c.index-as_slice-k.result c.requires.place, c.index-as_slice-k.is, c.in_ok-copy.ensures, c.as_slice.ensures);
      left_at = i.1;
      right_at = j.1;
      is = record {
        name_is = refl;
        left_is = next_is a c.next_at.result _ i.0 i.1 c.next_at.ensures;
        right_is = next_is b c.next_at-2.result _ j.0 j.1 c.next_at-2.ensures;
      };
    }
