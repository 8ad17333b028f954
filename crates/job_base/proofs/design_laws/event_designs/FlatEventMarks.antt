-- What is settled in a design in the event mode is settled in its flat circuit.
use Rattle.std.proofs.Common.{◌∙◌, ℕ, Bool, true, false, List, map, sym, ap, subst}
use Rattle.std.specs.Prelude.{◌≢◌}
use Rattle.std.specs.List.{Contains}
use Rattle.circuit_theory.specs.Circuit.{Circuit, IsLatch, InCone}
use Rattle.circuit_theory.specs.Flattened.{Follows}
use Rattle.circuit_theory.specs.Run.{ExtendsWith, IsEnabled, Loads, Marked}
use Rattle.circuit_theory.proofs.Lists.{Contains-map_from}
use Rattle.job_base.proofs.design_laws.FlatCycles.{reaches_along, reaches_up}
use Rattle.job_base.proofs.design_laws.FlatParts.{FlatDesign, along, input_down, latch_down, latch_stays}
use Rattle.job_base.proofs.design_laws.event_designs.FlatEnabled.{enabled_at, enabled_down, extends_down, source_up}

module _ {P : Type 0} {d : Circuit P} {net : Circuit ℕ} {clocked : P → Type 0} (f : FlatDesign d net clocked) (run : ℕ → P → Bool) where
  -- the same run of the net
  abbrev down : ℕ → ℕ → Bool
  down t i = run t (f.origin i)

  module _ (name : List ℕ) (out next : P) (latch : IsLatch d name out next) (t : ℕ) where
    takes : Follows d next (f.origin (f.signal next))
    takes = (f.circuit.taken name out next latch).1.follows

    -- a latch that loads does
    loads_down : Loads d (run t) out next → Loads net (down t) (f.signal out) (f.signal next)
    loads_down l =
        let stays = latch_stays f name out next latch in
        let put : (bit : Bool) (v : P → Bool) → ExtendsWith d out bit (run t) v → ExtendsWith net (f.signal out) bit (down t) (λ i. v (f.origin i)) =
        λ bit v e. extends_down f (f.signal out) (ap f.signal stays) bit (run t) v (subst (λ (z : P). ExtendsWith d z bit (run t) v) (sym stays) e) in
        record {
          low = λ i. l.low (f.origin i);
          high = λ i. l.high (f.origin i);
          low_is = put false l.low l.low_is;
          high_is = put true l.high l.high_is;
          same = sym (along d l.low l.low_is.meets takes) ∙ l.same ∙ along d l.high l.high_is.meets takes;
        }

    -- the others that it reads are settled
    others_down : ((u : P) → InCone d next u → u ≢ out → Marked net (IsEnabled net) down t (f.signal u)) → (i : ℕ) → InCone net (f.signal next) i → i ≢ f.signal out → Marked net (IsEnabled net) down t i
    others_down of i c apart =
        let home = source_up f i c.0 in
        subst (λ (k : ℕ). Marked net (IsEnabled net) down t k) home.1 (of (f.origin i) (home.0, reaches_along f takes (reaches_up f c.1)) (λ same. apart (sym home.1 ∙ ap f.signal same)))

  pub mark_down : {t : ℕ} {p : P} → Marked d (IsEnabled d) run t p → Marked net (IsEnabled net) down t (f.signal p)
  mark_down (Marked.input {p = p} i) = Marked.input (i.0, input_down f i.0 p i.1)
  mark_down (Marked.gate {t = t} {out = out} {fanins = fanins} {cover = cover} h each) = Marked.gate {fanins = map f.signal fanins} {cover = cover} (f.circuit.gate out fanins cover h) (by (λ p k. mark_down (each p k)))
    where
      by : ((p : P) → Contains fanins p → Marked net (IsEnabled net) down t (f.signal p)) → (i : ℕ) → Contains (map f.signal fanins) i → Marked net (IsEnabled net) down t i
      by of i k = let found = Contains-map_from f.signal fanins i k in subst (λ (j : ℕ). Marked net (IsEnabled net) down t j) found.2 (of found.0 found.1)
  mark_down (Marked.port {t = t} {out = out} {from = from} h rest) = subst (λ (i : ℕ). Marked net (IsEnabled net) down t i) (sym (f.circuit.port out from h)) (mark_down rest)
  mark_down (Marked.plain {name = name} {out = out} {next = next} h free rest) =
      Marked.plain {name = name} (latch_down f name out next h) (λ on. free (enabled_at f name out next h on)) (mark_down rest)
  mark_down (Marked.loads {t = t} {name = name} {out = out} {next = next} h on others loads) =
      Marked.loads {name = name} (latch_down f name out next h) (enabled_down f out on) (others_down name out next h t (λ u c apart. mark_down (others u c apart))) (loads_down name out next h t loads)
  mark_down (Marked.keeps {t = t} {name = name} {out = out} {next = next} h on others kept) =
      Marked.keeps {name = name} (latch_down f name out next h) (enabled_down f out on) (others_down name out next h t (λ u c apart. mark_down (others u c apart))) (mark_down kept)
