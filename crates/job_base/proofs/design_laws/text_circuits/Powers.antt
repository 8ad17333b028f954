-- What sequences and power-ups show of flat nets they show of the circuits that the nets come from.
use Rattle.std.proofs.Common.{◌≡◌, ◌∙◌, ℕ, ◌<◌, Bool, List, [], ◌∷◌, map, length, zero, suc, refl, sym, ap, subst, Some, None, slice_get}
use Rattle.std.specs.List.{Contains, filter_map}
use Rattle.circuit_theory.specs.Circuit.{Circuit, Equation, Gate, Latch, Port, Started}
use Rattle.circuit_theory.specs.Cone.{latch_place, latches_of}
use Rattle.circuit_theory.specs.Joined.{moved, moved_start}
use Rattle.circuit_theory.specs.Run.{IsRun, IsResetRun}
use Rattle.circuit_theory.proofs.Lists.{Contains-head, Contains-tail, Contains-map_from, length-map}
use Rattle.job_base.proofs.design_laws.FlatParts.{FlatDesign, latch_stays, run_down}
use Rattle.net_assembly.specs.net_alike.Renumbered.{latch_rows}
use Rattle.circuit_laws.specs.reset_laws.Reset.{TakesPower}
use Rattle.witness_report.specs.declared.stimulus.Stimulus.{Stimulus}
use Rattle.witness_report.specs.Shown.{Obeys}
use Rattle.job_base.proofs.design_laws.text_circuits.Designs.{obeys_down}
use Rattle.job_base.proofs.design_laws.text_circuits.Resets.{output_value}

-- the latches of a circuit are those of its rows
rows_latches : {P : Type 0} (es : List (Equation P)) → filter_map latch_place (latch_rows es) ≡ filter_map latch_place es
rows_latches [] = refl
rows_latches (Gate out fanins cover ∷ es) = rows_latches es
rows_latches (Latch name out next ∷ es) = ap (λ us. out ∷ us) (rows_latches es)
rows_latches (Port out from ∷ es) = rows_latches es

moved_latches : {P Q : Type 0} (f : P → Q) (es : List (Equation P)) → filter_map latch_place (map (moved f) es) ≡ map f (filter_map latch_place es)
moved_latches f [] = refl
moved_latches f (Gate out fanins cover ∷ es) = moved_latches f es
moved_latches f (Latch name out next ∷ es) = ap (λ us. f out ∷ us) (moved_latches f es)
moved_latches f (Port out from ∷ es) = moved_latches f es

-- what stands among the latches is one
latch_at : {P : Type 0} (es : List (Equation P)) (j : ℕ) (u : P) → slice_get (filter_map latch_place es) j ≡ Some u → (name : List ℕ) × (next : P) × Contains es (Latch name u next)
latch_at {P} [] j u h = absurd (nothing h)
  where
    nothing : None ≡ Some u → ⊥
    nothing q = cc
latch_at (Gate out fanins cover ∷ es) j u h = let l = latch_at es j u h in (l.0, l.1, Contains-tail _ _ es l.2)
latch_at (Port out from ∷ es) j u h = let l = latch_at es j u h in (l.0, l.1, Contains-tail _ _ es l.2)
latch_at (Latch name out next ∷ es) zero u h = (name, next, subst (λ v. Contains (Latch name out next ∷ es) (Latch name v next)) (unwrap h) (Contains-head _ es))
  where
    unwrap : Some out ≡ Some u → out ≡ u
    unwrap q = cc
latch_at (Latch name out next ∷ es) (suc j) u h = let l = latch_at es j u h in (l.0, l.1, Contains-tail _ _ es l.2)

-- what stands at a place of a mapped list comes from the list's there
mapped_at : {X Y : Type 0} (f : X → Y) (xs : List X) (j : ℕ) (y : Y) → slice_get (map f xs) j ≡ Some y → (x : X) × (slice_get xs j ≡ Some x) × (f x ≡ y)
mapped_at {X} {Y} f [] j y h = absurd (nothing h)
  where
    nothing : None ≡ Some y → ⊥
    nothing q = cc
mapped_at f (x ∷ xs) zero y h = (x, refl, unwrap h)
  where
    unwrap : Some (f x) ≡ Some y → f x ≡ y
    unwrap q = cc
mapped_at f (x ∷ xs) (suc j) y h = mapped_at f xs j y h

module _ {P : Type 0} {d : Circuit P} {net : Circuit ℕ} {clocked : P → Type 0} (f : FlatDesign d net clocked) where
  -- the latches of the net are those of the design, in their order
  net_latches : latches_of net ≡ map f.signal (latches_of d)
  net_latches =
      sym (rows_latches net.equations) ∙ (ap (filter_map latch_place) f.circuit.latches ∙ (moved_latches f.signal (latch_rows d.equations) ∙ ap (map f.signal) (rows_latches d.equations)))

  pub net_latches_long : length (latches_of net) ≡ length (latches_of d)
  net_latches_long = ap length net_latches ∙ length-map f.signal (latches_of d)

  -- a run of the design that powers up so is a run of the net that does
  pub power_down : (power : List Bool) (run : ℕ → P → Bool) → TakesPower d power run → TakesPower net power (λ t s. run t (f.origin s))
  power_down power run takes j u at =
      let x = mapped_at f.signal (latches_of d) j u (ap (λ (us : List ℕ). slice_get us j) (sym net_latches) ∙ at) in
      let l = latch_at d.equations j x.0 x.1 in
      ap (λ (s : ℕ). run 0 (f.origin s)) (sym x.2) ∙ (ap (run 0) (latch_stays f l.0 x.0 l.1 l.2) ∙ takes j x.0 x.1)

  -- runs that power up so begin with the initial values of the design where those of the net do
  pub begins_up : (power : List Bool) → ((n : ℕ) (run : ℕ → ℕ → Bool) → IsRun net n run → TakesPower net power run → IsResetRun net n run) →
      (n : ℕ) (run : ℕ → P → Bool) → IsRun d n run → TakesPower d power run → IsResetRun d n run
  begins_up power begins n run is takes = record {
    is_run = is;
    starts = λ p bit h.
        let x = Contains-map_from (moved_start f.origin) net.starts (record { place = p; bit = bit }) (subst (λ (ss : List (Started P)). Contains ss (record { place = p; bit = bit })) (sym f.circuit.started) h) in
        let reset = begins n (λ t s. run t (f.origin s)) (run_down f n run is) (power_down power run takes) in
        ap (run 0) (sym (ap (λ (s : Started P). s.place) x.2)) ∙ (reset.starts x.0.place x.0.bit x.1 ∙ ap (λ (s : Started P). s.bit) x.2);
  }

  -- one side of what a sequence and a power-up show
  pub side_shown : (stimulus : Stimulus) (power : List Bool) (cycle : ℕ) (name : List ℕ) (p : P) (s : ℕ) (bit : Bool) → Contains d.outputs (record { name = name; place = p }) → f.signal p ≡ s →
      ((n : ℕ) (run : ℕ → ℕ → Bool) → cycle < n → IsRun net n run → TakesPower net power run → Obeys net stimulus n run → run cycle s ≡ bit) →
      (n : ℕ) (run : ℕ → P → Bool) → cycle < n → IsRun d n run → TakesPower d power run → Obeys d stimulus n run → run cycle p ≡ bit
  side_shown stimulus power cycle name p s bit output signal shows n run low is takes obeys =
      output_value f n run is name p output cycle low
      ∙ (ap (λ (k : ℕ). run cycle (f.origin k)) signal
      ∙ shows n (λ t k. run t (f.origin k)) low (run_down f n run is) (power_down power run takes) (obeys_down f stimulus n run obeys))
