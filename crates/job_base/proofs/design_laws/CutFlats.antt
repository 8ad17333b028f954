-- The flat circuit of a design with latches cut out.
use Rattle.std.proofs.Common.{◌≡◌, ◌∙◌, ℕ, Bool, true, List, [], ◌∷◌, ◌++◌, map, length, filter, filter_map, Option, Some, None, refl, sym, ap, ap₂, subst, inl, inr}
use Rattle.std.specs.Prelude.{◌⊎◌}
use Rattle.std.specs.List.{Contains}
use Rattle.std.proofs.lemmas.List.{map-append}
use Rattle.std.proofs.lemmas.List.Elements.{Contains-append_cases}
use Rattle.std.proofs.lemmas.Option.{none-some, same_Some}
use Rattle.circuit_theory.specs.Cover.{Cover}
use Rattle.circuit_theory.specs.Agree.{cut, latch_named, is_kept, named_at, first_of_pair, second_of_pair}
use Rattle.circuit_theory.specs.Circuit.{Circuit, Equation, Gate, Latch, Port, Named, IsLatch, IsSingleDriven}
use Rattle.circuit_theory.specs.Joined.{moved, moved_name}
use Rattle.circuit_theory.specs.Flattened.{Follows}
use Rattle.circuit_laws.proofs.CutLaws.{cut_single}
use Rattle.circuit_theory.proofs.Lists.{Contains-filter, filter_map-from, filter_test}
use Rattle.circuit_laws.proofs.Onward.{latch_named-found}
use Rattle.blif_read.specs.Design.{circuit_of_design}
use Rattle.flat_net.specs.View.{circuit_of}
use Rattle.net_assembly.specs.net_alike.FlatCircuit.{HasSignal, IsFlatCircuit}
use Rattle.net_assembly.proofs.net_alike.Bounding.{closed_bounds}
use Rattle.net_assembly.proofs.net_alike.Cutting.{filter_in, kept_moved, firsts, seconds, rows_kept, place_uncut}
use Rattle.flatten.specs.DesignFaults.{IsClocked}
use Rattle.flatten.proofs.OneNets.{single_driven}
use Rattle.job_base.specs.design_laws.Laws.{ClosedCutsBound}
use Rattle.job_base.proofs.design_laws.FlatParts.{FlatDesign}

module _ {P : Type 0} (names : List (List ℕ)) (d : Circuit P) (net : Circuit ℕ) (size : ℕ) (clocked : P → Type 0) (o : ℕ → P) (s : P → ℕ) (flat : IsFlatCircuit d net size clocked o s) where
  abbrev kept : Equation P → Bool
  kept e = is_kept names e

  -- ports stay
  pub follows : {p q : P} → Follows d p q → Follows (cut names d) p q
  unfolding cut
  follows Follows.here = Follows.here
  follows (Follows.there {p = p} {from = from} h rest) = Follows.there (filter_in kept d.equations (Port p from) h refl) (follows rest)

  signal_of : (p : P) → HasSignal d size o p (s p) → HasSignal (cut names d) size o p (s p)
  signal_of p h = record { within = h.within; follows = follows h.follows }

  gate_there : (out : P) (fanins : List P) (cover : Cover) → Contains (cut names d).equations (Gate out fanins cover) → Contains (cut names net).equations (Gate (s out) (map s fanins) cover)
  unfolding cut
  gate_there out fanins cover h = filter_in (is_kept names) net.equations (Gate (s out) (map s fanins) cover) (flat.gate out fanins cover (Contains-filter kept d.equations (Gate out fanins cover) h)) refl

  only_there : (e : Equation ℕ) → Contains (cut names net).equations e → (x : Equation P) × Contains (cut names d).equations x × (moved s x ≡ e)
  unfolding cut
  only_there e h =
      let x = flat.only e (Contains-filter (is_kept names) net.equations e h) in
      let stays : is_kept names x.0 ≡ true = sym (kept_moved names s x.0) ∙ ap (is_kept names) x.2 ∙ filter_test (is_kept names) net.equations e h in
      (x.0, filter_in kept d.equations x.0 x.1 stays, x.2)

  entered_there : (name : List ℕ) (p : P) → Contains (cut names d).inputs (record { name = name; place = p }) → HasSignal (cut names d) size o p (s p)
  unfolding cut
  entered_there name p h = by (Contains-append_cases d.inputs (filter_map (λ n. named_at n (first_of_pair (latch_named d.equations n))) names) (record { name = name; place = p }) h)
    where
      at_latch : (n : List ℕ) (x : Option (P × P)) → latch_named d.equations n ≡ x → named_at n (first_of_pair x) ≡ Some (record { name = name; place = p }) → HasSignal (cut names d) size o p (s p)
      at_latch n None is e = absurd (none-some (record { name = name; place = p }) e)
      at_latch n (Some x) is e =
          let own : x.0 ≡ p = ap (λ (z : Named P). z.place) (same_Some (record { name = n; place = x.0 }) (record { name = name; place = p }) e) in
          subst (λ (q : P). HasSignal (cut names d) size o q (s q)) own (signal_of x.0 (flat.taken n x.0 x.1 (latch_named-found d.equations n x.0 x.1 is)).0)

      by : Contains d.inputs (record { name = name; place = p }) ⊎ Contains (filter_map (λ n. named_at n (first_of_pair (latch_named d.equations n))) names) (record { name = name; place = p }) → HasSignal (cut names d) size o p (s p)
      by (inl k) = signal_of p (flat.entered name p k)
      by (inr k) =
          let f = filter_map-from (λ n. named_at n (first_of_pair (latch_named d.equations n))) names (record { name = name; place = p }) k in
          at_latch f.0 (latch_named d.equations f.0) refl f.2

  shown_there : (name : List ℕ) (p : P) → Contains (cut names d).outputs (record { name = name; place = p }) → HasSignal (cut names d) size o p (s p)
  unfolding cut
  shown_there name p h = by (Contains-append_cases d.outputs (filter_map (λ n. named_at n (second_of_pair (latch_named d.equations n))) names) (record { name = name; place = p }) h)
    where
      at_latch : (n : List ℕ) (x : Option (P × P)) → latch_named d.equations n ≡ x → named_at n (second_of_pair x) ≡ Some (record { name = name; place = p }) → HasSignal (cut names d) size o p (s p)
      at_latch n None is e = absurd (none-some (record { name = name; place = p }) e)
      at_latch n (Some x) is e =
          let own : x.1 ≡ p = ap (λ (z : Named P). z.place) (same_Some (record { name = n; place = x.1 }) (record { name = name; place = p }) e) in
          subst (λ (q : P). HasSignal (cut names d) size o q (s q)) own (signal_of x.1 (flat.taken n x.0 x.1 (latch_named-found d.equations n x.0 x.1 is)).1)

      by : Contains d.outputs (record { name = name; place = p }) ⊎ Contains (filter_map (λ n. named_at n (second_of_pair (latch_named d.equations n))) names) (record { name = name; place = p }) → HasSignal (cut names d) size o p (s p)
      by (inl k) = signal_of p (flat.shown name p k)
      by (inr k) =
          let f = filter_map-from (λ n. named_at n (second_of_pair (latch_named d.equations n))) names (record { name = name; place = p }) k in
          at_latch f.0 (latch_named d.equations f.0) refl f.2

  pub cut_flat : IsFlatCircuit (cut names d) (cut names net) size clocked o s
  unfolding cut
  cut_flat = record {
    inputs = ap₂ (λ (xs ys : List (Named ℕ)). xs ++ ys) flat.inputs (sym (firsts s d.equations net.equations (sym flat.latches) names))
        ∙ sym (map-append (moved_name s) d.inputs (filter_map (λ n. named_at n (first_of_pair (latch_named d.equations n))) names));
    outputs = ap₂ (λ (xs ys : List (Named ℕ)). xs ++ ys) flat.outputs (sym (seconds s d.equations net.equations (sym flat.latches) names))
        ∙ sym (map-append (moved_name s) d.outputs (filter_map (λ n. named_at n (second_of_pair (latch_named d.equations n))) names));
    latches = sym (rows_kept s d.equations net.equations (sym flat.latches) names);
    starts = flat.starts;
    gate = gate_there;
    only = only_there;
    no_port = λ out from h. flat.no_port out from (Contains-filter (is_kept names) net.equations (Port out from) h);
    port = λ out from h. flat.port out from (Contains-filter kept d.equations (Port out from) h);
    back = flat.back;
    entered = entered_there;
    shown = shown_there;
    read = λ out fanins cover h.
        (let r = flat.read out fanins cover (Contains-filter kept d.equations (Gate out fanins cover) h) in (signal_of out r.0, λ p k. signal_of p (r.1 p k)));
    taken = λ name out next h.
        (let r = flat.taken name out next (Contains-filter kept d.equations (Latch name out next) h) in (signal_of out r.0, signal_of next r.1));
    started = flat.started;
    placed = λ p h free. signal_of p (flat.placed p (place_uncut names d p h) free);
  }

-- the flat circuit of a design is cut as the design is
abbrev pub cut_design : {P : Type 0} {d : Circuit P} {net : Circuit ℕ} {clocked : P → Type 0} (names : List (List ℕ)) → FlatDesign d net clocked → FlatDesign (cut names d) (cut names net) clocked
cut_design {P} {d} {net} {clocked} names f = record {
  size = f.size;
  origin = f.origin;
  signal = f.signal;
  single = cut_single names d f.single;
  circuit = cut_flat names d net f.size clocked f.origin f.signal f.circuit;
}

pub closed_cuts_bound : ClosedCutsBound
closed_cuts_bound models net names spots f closed cap over =
    closed_bounds (cut names (circuit_of_design models net.clock)) (cut names (circuit_of net)) (length net.drivers) (IsClocked (circuit_of_design models net.clock) net.clock) f.origin f.signal
    (cut_single names (circuit_of_design models net.clock) (single_driven (circuit_of_design models net.clock) net.clock f.once))
    (cut_flat names (circuit_of_design models net.clock) (circuit_of net) (length net.drivers) (IsClocked (circuit_of_design models net.clock) net.clock) f.origin f.signal f.circuit) spots closed cap over
