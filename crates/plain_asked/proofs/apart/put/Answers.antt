-- The literals are one, or both signals stand behind the others.
use Rattle.std.proofs.Common.{◌≡◌, ◌∙◌, ◌+◌, ◌++◌, ◌∷◌, [], ℕ, List, length, slice_get, Some, None, sym, ap, subst, arith, rules}
use Rattle.std.proofs.lemmas.List.{append-nil}
use Rattle.std.proofs.Math.ListN.{length-append}
use Rattle.circuit_theory.proofs.Lists.{only}
use Rattle.flat_net.specs.declared.signals.Signal.{Signal}
use Rattle.plain_asked.proofs.Choosing.{at_end}
use Rattle.plain_asked.proofs.apart.put.Goals as goal

pub returns-then-eq : goal.returns-then-eq
returns-then-eq c =
    let same : c.args.x ≡ c.args.y = search rules in
    record {
      place = None;
      at_is = c.in_ok-push.ensures.items;
      lefts = [];
      rights = [];
      left_is = sym (append-nil c.args.chosen.now.left.items);
      right_is = sym (append-nil c.args.chosen.now.right.items);
      alike = c.requires;
      left_own = λ z h. absurd (omega (arith, h.1));
      right_own = λ z h. absurd (omega (arith, h.1));
      is = same;
    }

pub returns : goal.returns
returns c =
    let old = c.args.chosen.now in
    let s = c.args.left in
    let t = c.args.right in
    let k = c.len.result in
    let first : k ≡ length old.left.items = omega (arith, c.len.ensures, old.left.ok.0) in
    let second : k ≡ length old.right.items = omega (arith, first, c.requires) in
    let long : length c.push-3.new.self.items ≡ length old.left.items + 1 = ap length c.in_ok-push-3.ensures.items ∙ length-append old.left.items (s ∷ []) in
    let wide : length c.push-4.new.self.items ≡ length old.right.items + 1 = ap length c.in_ok-push-4.ensures.items ∙ length-append old.right.items (t ∷ []) in
    record {
      place = Some k;
      at_is = c.in_ok-push-2.ensures.items;
      lefts = s ∷ [];
      rights = t ∷ [];
      left_is = c.in_ok-push-3.ensures.items;
      right_is = c.in_ok-push-4.ensures.items;
      alike = omega (arith, long, wide, c.requires);
      left_own = λ z h. sym (only s z h);
      right_own = λ z h. sym (only t z h);
      is = (
        subst (λ (l : List Signal). slice_get l k ≡ Some s) (sym c.in_ok-push-3.ensures.items)
            (subst (λ (n : ℕ). slice_get (old.left.items ++ s ∷ []) n ≡ Some s) (sym first) (at_end old.left.items s [])),
        subst (λ (l : List Signal). slice_get l k ≡ Some t) (sym c.in_ok-push-4.ensures.items)
            (subst (λ (n : ℕ). slice_get (old.right.items ++ t ∷ []) n ≡ Some t) (sym second) (at_end old.right.items t [])),
      );
    }
