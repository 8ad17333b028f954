-- The enabled latches of a design are those of its flat circuit.
use Rattle.std.proofs.Common.{◌≡◌, ◌∙◌, ◌<◌, ℕ, Bool, true, false, List, sym, ap, subst, arith, inl, inr}
use Rattle.std.specs.List.{Contains}
use Rattle.circuit_theory.specs.Circuit.{Circuit, Named, IsLatch, IsSource, Meets}
use Rattle.circuit_theory.specs.Joined.{moved_name}
use Rattle.circuit_theory.specs.Run.{ExtendsWith, IsEnabled}
use Rattle.circuit_theory.proofs.Lists.{Contains-map_from}
use Rattle.net_assembly.proofs.net_alike.Ends.{input_home}
use Rattle.job_base.proofs.design_laws.FlatCycles.{reaches_along, reaches_down, reaches_up, source_down}
use Rattle.job_base.proofs.design_laws.FlatParts.{FlatDesign, along, input_up, latch_down, latch_stays, latch_up, run_down, run_up}

module _ {P : Type 0} {d : Circuit P} {net : Circuit ℕ} {clocked : P → Type 0} (f : FlatDesign d net clocked) where
  -- an input or a latch of the design stands where its signal is driven
  pub source_stays : (p : P) → IsSource d p → f.origin (f.signal p) ≡ p
  source_stays p (inl h) = input_home d net f.size clocked f.origin f.signal f.single f.circuit h.0 p h.1
  source_stays p (inr h) = latch_stays f h.0 p h.1 h.2

  input_signal : (name : List ℕ) (i : ℕ) → Contains net.inputs (record { name = name; place = i }) → f.signal (f.origin i) ≡ i
  input_signal name i h =
      let x = Contains-map_from (moved_name f.signal) d.inputs (record { name = name; place = i }) (subst (λ (is : List (Named ℕ)). Contains is (record { name = name; place = i })) f.circuit.inputs h) in
      let place_is : f.signal x.0.place ≡ i = ap (λ (n : Named ℕ). n.place) x.2 in
      f.circuit.back i (subst (λ k. k < f.size) place_is (f.circuit.entered x.0.name x.0.place x.1).within)

  -- one of the net is one of the design, where it is driven
  pub source_up : (i : ℕ) → IsSource net i → IsSource d (f.origin i) × (f.signal (f.origin i) ≡ i)
  source_up i (inl h) = (inl (h.0, input_up f h.0 i h.1), input_signal h.0 i h.1)
  source_up i (inr h) = let x = latch_up f h.0 i h.1 h.2 in (inr (h.0, x.takes, x.latch), x.signal)

  -- values that meet the equations of the one meet those of the other
  meets_down : (v : P → Bool) → Meets d v → Meets net (λ i. v (f.origin i))
  meets_down v m = (run_down f 1 (λ t. v) (record { meets = λ t h. m; carries = λ t h. absurd (omega (arith, h)) })).meets 0 (omega arith)

  meets_up : (v : ℕ → Bool) → Meets net v → Meets d (λ p. v (f.signal p))
  meets_up v m = (run_up f 1 (λ t. v) (record { meets = λ t h. m; carries = λ t h. absurd (omega (arith, h)) })).meets 0 (omega arith)

  -- so do values with one latch put to a bit
  pub extends_down : (i : ℕ) → f.signal (f.origin i) ≡ i → (bit : Bool) (x v : P → Bool) → ExtendsWith d (f.origin i) bit x v → ExtendsWith net i bit (λ k. x (f.origin k)) (λ k. v (f.origin k))
  extends_down i home bit x v e = record {
    meets = meets_down v e.meets;
    sources = λ j s other. e.sources (f.origin j) (source_up j s).0 (λ same. other (sym (source_up j s).1 ∙ ap f.signal same ∙ home));
    put = e.put;
  }

  extends_up : (u : P) → f.origin (f.signal u) ≡ u → (bit : Bool) (x v : ℕ → Bool) → ExtendsWith net (f.signal u) bit x v → ExtendsWith d u bit (λ p. x (f.signal p)) (λ p. v (f.signal p))
  extends_up u stays bit x v e = record {
    meets = meets_up v e.meets;
    sources = λ p s other. e.sources (f.signal p) (source_down f p s) (λ same. other (sym (source_stays p s) ∙ ap f.origin same ∙ stays));
    put = e.put;
  }

  -- an enabled latch of the design is one of the net
  pub enabled_down : (u : P) → IsEnabled d u → IsEnabled net (f.signal u)
  enabled_down u on =
      let stays = latch_stays f on.name u on.next on.latch in
      record {
        name = on.name;
        next = f.signal on.next;
        latch = latch_down f on.name u on.next on.latch;
        self_edge = (source_down f u on.self_edge.0, reaches_down f on.self_edge.1);
        rises = λ x low high at_low at_high. on.rises (λ p. x (f.signal p)) (λ p. low (f.signal p)) (λ p. high (f.signal p)) (extends_up u stays false x low at_low) (extends_up u stays true x high at_high);
      }

  -- and the other way round
  pub enabled_up : (i : ℕ) → IsEnabled net i → IsEnabled d (f.origin i)
  enabled_up i on =
      let y = latch_up f on.name i on.next on.latch in
      record {
        name = on.name;
        next = y.takes;
        latch = y.latch;
        self_edge = (inr (on.name, y.takes, y.latch), reaches_along f y.follows (reaches_up f on.self_edge.1));
        rises = λ x low high at_low at_high one.
            along d high at_high.meets y.follows
            ∙ on.rises (λ k. x (f.origin k)) (λ k. low (f.origin k)) (λ k. high (f.origin k)) (extends_down i y.signal false x low at_low) (extends_down i y.signal true x high at_high)
            (sym (along d low at_low.meets y.follows) ∙ one);
      }

  -- a latch of the design is enabled where its signal's is
  pub enabled_at : (name : List ℕ) (u next : P) → IsLatch d name u next → IsEnabled net (f.signal u) → IsEnabled d u
  enabled_at name u next h on = subst (IsEnabled d) (latch_stays f name u next h) (enabled_up (f.signal u) on)
