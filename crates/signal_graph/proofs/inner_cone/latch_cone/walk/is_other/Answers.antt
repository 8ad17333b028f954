use Rattle.std.proofs.Common.{◌≡◌, true, false, sym, ap, ◌∙◌, Bool, nat_eq}
use Rattle.flat_net.proofs.circuit_theory.Inputs.{test_refl}
use Rattle.signal_graph.proofs.inner_cone.latch_cone.walk.is_other.Goals as goal

pub returns-in-Latch-clause-yes : goal.returns-in-Latch-clause-yes
returns-in-Latch-clause-yes c = λ e.
    let d = c.keeps.ensures.sound.drivers c.args.signal.0 _ c.in-Latch.ensures in
    record { position = c.in-Latch.field-0; latch = d.0; here = d.1; out = d.2; apart = λ q. differ (sym (ap (λ z. not_of (nat_eq z c.args.own.0)) q ∙ ap not_of (test_refl c.args.own.0)) ∙ e) }
  where
    not_of : Bool → Bool
    not_of true = false
    not_of false = true

    differ : false ≡ true → ⊥
    differ q = cc
