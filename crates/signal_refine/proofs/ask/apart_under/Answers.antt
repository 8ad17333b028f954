-- Nothing tells the two apart.
use Rattle.std.proofs.Common.{◌≡◌, ◌∙◌, ◌*◌, ◌<◌, ◌≤◌, ℕ, Bool, true, false, not, List, length, sym, ap, subst, arith}
use Rattle.std.specs.Prelude.{◌&&◌}
use Rattle.std.specs.List.{All}
use Rattle.aig.specs.declared.node.Lit.{Lit}
use Rattle.aig.specs.Values.{value}
use Rattle.aig.proofs.Growth.{Grows-length, Grows-trans}
use Rattle.aig.proofs.Meaning.{value-grows}
use Rattle.signal_refine.specs.Asking.{IsCare, IsOneWhere, same_bit}
use Rattle.signal_refine.proofs.Caring.{one_after}
use Rattle.signal_refine.proofs.Equals.{same_from}
use Rattle.signal_refine.proofs.Results.{ok_map, on_ok}
use Rattle.signal_refine.proofs.ask.apart_under.Goals as goal

pub care_of-requires-clause-own : goal.care_of-requires-clause-own
care_of-requires-clause-own c = subst (All (λ (x : Lit). x.0 < 2 * length c.args.aig.now)) (sym c.deref.ensures.value) c.requires.held.1

pub care_of-requires-clause-read : goal.care_of-requires-clause-read
care_of-requires-clause-read c = subst (All (λ (x : Lit). x.0 < 2 * length c.args.aig.now)) (sym c.deref-2.ensures.value) c.requires.held.2

pub and_both-requires-clause-left : goal.and_both-requires-clause-left
and_both-requires-clause-left c = let more = Grows-length c.args.aig.now c.care_of.new.aig c.in_ok-equal_before.ensures.grows in let less = c.requires.held.0 in omega (arith, more, less)

pub equal-requires-clause-left : goal.equal-requires-clause-left
equal-requires-clause-left c =
    let more = Grows-length c.args.aig.now c.care_of.new.aig c.in_ok-equal_before.ensures.grows in
    let again = Grows-length c.care_of.new.aig c.and_both.new.aig c.in_ok-care.ensures.grows in
    omega (arith, more, again, c.requires.left)

pub equal-requires-clause-right : goal.equal-requires-clause-right
equal-requires-clause-right c =
    let more = Grows-length c.args.aig.now c.care_of.new.aig c.in_ok-equal_before.ensures.grows in
    let again = Grows-length c.care_of.new.aig c.and_both.new.aig c.in_ok-care.ensures.grows in
    omega (arith, more, again, c.requires.right)

pub and-requires-clause-left : goal.and-requires-clause-left
and-requires-clause-left c = let more = Grows-length c.and_both.new.aig c.equal.new.aig c.in_ok-same.ensures.grows in omega (arith, more, c.in_ok-care.ensures.within)

pub and-requires-clause-right : goal.and-requires-clause-right
and-requires-clause-right c = c.not.ensures.within (length c.equal.new.aig) c.in_ok-same.ensures.within

pub returns-clause-apart : goal.returns-clause-apart
returns-clause-apart c =
    let w = c.args.asked.now in
    let own = w.before.now.own.items in
    let read = w.before.now.read.items in
    let g0 = c.args.aig.now in
    let g1 = c.care_of.new.aig in
    let g2 = c.and_both.new.aig in
    let g3 = c.equal.new.aig in
    let g4 = c.and.new.self in
    let l = c.args.l in
    let r = c.args.r in
    let more = Grows-trans g0 g1 g2 c.in_ok-equal_before.ensures.grows c.in_ok-care.ensures.grows in
    let cares : IsCare own read g1 c.in_ok-equal_before.equal_before =
    subst (λ (x : List Lit). IsCare x read g1 c.in_ok-equal_before.equal_before) c.deref.ensures.value (subst (λ (x : List Lit). IsCare c.deref.result.now x g1 c.in_ok-equal_before.equal_before) c.deref-2.ensures.value c.in_ok-equal_before.ensures.care) in
    ok_map (λ (x : Lit). (a : ℕ → Bool) → value g4 a x.0 ≡ (value g3 a c.in_ok-care.care.0 && value g3 a c.not.result.0)) (λ (x : Lit). ((a : ℕ → Bool) → value g4 a x.0 ≡ false) → IsOneWhere w.care w.before.now g0 l r) c.and.result
    (λ x h never a held.
    let before : value g1 a c.in_ok-equal_before.equal_before.0 ≡ true = cares a (one_after g0 g1 c.in_ok-equal_before.ensures.grows own read c.requires.held.1 c.requires.held.2 a held.1) in
    let on : value g2 a c.in_ok-care.care.0 ≡ true = c.in_ok-care.ensures.value a (value-grows g0 g1 c.in_ok-equal_before.ensures.grows a w.care.0 c.requires.held.0 ∙ held.0) before in
    let left : value g2 a l.0 ≡ value g0 a l.0 = value-grows g0 g2 more a l.0 c.requires.left in
    let right : value g2 a r.0 ≡ value g0 a r.0 = value-grows g0 g2 more a r.0 c.requires.right in
    sym left
    ∙ (same_from (value g2 a l.0) (value g2 a r.0) (value g3 a c.in_ok-care.care.0) (value-grows g2 g3 c.in_ok-same.ensures.grows a c.in_ok-care.care.0 c.in_ok-care.ensures.within ∙ on)
    (sym (ap (λ b. value g3 a c.in_ok-care.care.0 && b) (c.not.ensures.value g3 a ∙ ap not (c.in_ok-same.ensures.value a))) ∙ (sym (h a) ∙ never a))
    ∙ right))
    c.and.ensures.value

pub returns-clause-grows : goal.returns-clause-grows
returns-clause-grows c =
    let g0 = c.args.aig.now in
    let g1 = c.care_of.new.aig in
    let g2 = c.and_both.new.aig in
    let g3 = c.equal.new.aig in
    let g4 = c.and.new.self in
    on_ok c.and.result (Grows-trans g0 g1 g4 c.in_ok-equal_before.ensures.grows (Grows-trans g1 g2 g4 c.in_ok-care.ensures.grows (Grows-trans g2 g3 g4 c.in_ok-same.ensures.grows c.and.ensures.grows)))
