use Rattle.std.proofs.Common.{◌≡◌, ◌∙◌, ℕ, Bool, true, sym, ap}
use Rattle.std.specs.Prelude.{◌&&◌}
use Rattle.aig.specs.declared.node.Lit.{Lit}
use Rattle.aig.specs.Values.{value}
use Rattle.aig.proofs.Meaning.{value-grows}
use Rattle.signal_refine.proofs.Equals.{is_same}
use Rattle.signal_refine.proofs.Results.{ok_map}
use Rattle.signal_refine.proofs.ask.narrowed.Goals as goal

pub returns-clause-value : goal.returns-clause-value
returns-clause-value c =
    let g = c.args.aig.now in
    let g1 = c.equal.new.aig in
    let care = c.args.care in
    ok_map (λ (x : Lit). (a : ℕ → Bool) → value c.and.new.self a x.0 ≡ (value g1 a care.0 && value g1 a c.in_ok-same.same.0))
    (λ (x : Lit). (a : ℕ → Bool) → value g a care.0 ≡ true → value g a c.args.l.0 ≡ value g a c.args.r.0 → value c.and.new.self a x.0 ≡ true) c.and.result
    (λ x h a on one.
    h a
    ∙ (ap (λ b. b && value g1 a c.in_ok-same.same.0) (value-grows g g1 c.in_ok-same.ensures.grows a care.0 c.requires.care ∙ on)
    ∙ (c.in_ok-same.ensures.value a ∙ is_same (value g a c.args.l.0) (value g a c.args.r.0) one)))
    c.and.ensures.value
