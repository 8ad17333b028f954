-- Two ands and their and.
use Rattle.std.proofs.Common.{◌≡◌, ◌∙◌, ◌*◌, ◌<◌, ◌≤◌, ℕ, Bool, not, length, sym, ap, arith}
use Rattle.std.specs.Prelude.{◌&&◌}
use Rattle.aig.specs.declared.node.Lit.{Lit}
use Rattle.aig.specs.Values.{value}
use Rattle.aig.proofs.Growth.{Grows-length, Grows-trans}
use Rattle.aig.proofs.Meaning.{value-grows}
use Rattle.signal_refine.specs.Asking.{same_bit}
use Rattle.signal_refine.proofs.Equals.{equal_is}
use Rattle.signal_refine.proofs.Results.{ok_map}
use Rattle.signal_refine.proofs.ask.equal.Goals as goal

pub and-requires-clause-right : goal.and-requires-clause-right
and-requires-clause-right c = c.not.ensures.within (length c.args.aig.now) c.requires.right

pub and-requires-2-clause-left : goal.and-requires-2-clause-left
and-requires-2-clause-left c =
    let more = Grows-length c.args.aig.now c.and.new.self c.and.ensures.grows in
    c.not-2.ensures.within (length c.and.new.self) (omega (arith, more, c.requires.left))

pub and-requires-3-clause-left : goal.and-requires-3-clause-left
and-requires-3-clause-left c =
    let more = Grows-length c.and.new.self c.and-2.new.self c.and-2.ensures.grows in
    c.not-3.ensures.within (length c.and-2.new.self) (omega (arith, more, c.in_ok-one.ensures.within))

pub and-requires-3-clause-right : goal.and-requires-3-clause-right
and-requires-3-clause-right c = c.not-4.ensures.within (length c.and-2.new.self) c.in_ok-other.ensures.within

pub returns-clause-value : goal.returns-clause-value
returns-clause-value c =
    let g = c.args.aig.now in
    let g1 = c.and.new.self in
    let g2 = c.and-2.new.self in
    let l = c.args.l in
    let r = c.args.r in
    ok_map (λ (x : Lit). (a : ℕ → Bool) → value c.and-3.new.self a x.0 ≡ (value g2 a c.not-3.result.0 && value g2 a c.not-4.result.0)) (λ (x : Lit). (a : ℕ → Bool) → value c.and-3.new.self a x.0 ≡ same_bit (value g a l.0) (value g a r.0)) c.and-3.result
    (λ x h a.
    let one : value g2 a c.in_ok-one.one.0 ≡ (value g a l.0 && not (value g a r.0)) =
    value-grows g1 g2 c.and-2.ensures.grows a c.in_ok-one.one.0 c.in_ok-one.ensures.within ∙ (c.in_ok-one.ensures.value a ∙ ap (λ b. value g a l.0 && b) (c.not.ensures.value g a)) in
    let left : value g1 a l.0 ≡ value g a l.0 = value-grows g g1 c.and.ensures.grows a l.0 c.requires.left in
    let right : value g1 a r.0 ≡ value g a r.0 = value-grows g g1 c.and.ensures.grows a r.0 c.requires.right in
    let other : value g2 a c.in_ok-other.other.0 ≡ (not (value g a l.0) && value g a r.0) =
    c.in_ok-other.ensures.value a ∙ (ap (λ b. b && value g1 a r.0) (c.not-2.ensures.value g1 a ∙ ap not left) ∙ ap (λ b. not (value g a l.0) && b) right) in
    h a
    ∙ (ap (λ b. b && value g2 a c.not-4.result.0) (c.not-3.ensures.value g2 a ∙ ap not one)
    ∙ (ap (λ b. not (value g a l.0 && not (value g a r.0)) && b) (c.not-4.ensures.value g2 a ∙ ap not other) ∙ equal_is (value g a l.0) (value g a r.0))))
    c.and-3.ensures.value
