-- What is settled in a design is settled in its flat circuit, and the other way round, in the plain mode.
use Rattle.std.proofs.Common.{◌≡◌, ◌∙◌, ℕ, Bool, List, map, refl, sym, ap, subst}
use Rattle.std.specs.List.{Contains}
use Rattle.circuit_theory.specs.Cover.{Cover}
use Rattle.circuit_theory.specs.Circuit.{Circuit, Equation, Gate, Latch, Port}
use Rattle.circuit_theory.specs.Joined.{moved}
use Rattle.circuit_theory.specs.Flattened.{Follows}
use Rattle.circuit_theory.specs.Run.{Marked, NoneEnabled}
use Rattle.circuit_theory.proofs.Lists.{Contains-map, Contains-map_from}
use Rattle.net_assembly.proofs.net_alike.Ends.{gate_home}
use Rattle.job_base.proofs.design_laws.FlatParts.{FlatDesign, latch_down, latch_up, input_down, input_up}

module _ {P : Type 0} {d : Circuit P} {net : Circuit ℕ} {clocked : P → Type 0} (f : FlatDesign d net clocked)
    (left : ℕ → P → Bool) (right : ℕ → ℕ → Bool) where
  pub mark_down : {t : ℕ} {p : P} → Marked d NoneEnabled left t p → Marked net NoneEnabled right t (f.signal p)
  mark_down (Marked.input {p = p} i) = Marked.input (i.0, input_down f i.0 p i.1)
  mark_down (Marked.gate {t = t} {out = out} {fanins = fanins} {cover = cover} h each) = Marked.gate {fanins = map f.signal fanins} {cover = cover} (f.circuit.gate out fanins cover h) (by (λ p k. mark_down (each p k)))
    where
      by : ((p : P) → Contains fanins p → Marked net NoneEnabled right t (f.signal p)) → (i : ℕ) → Contains (map f.signal fanins) i → Marked net NoneEnabled right t i
      by of i k = let found = Contains-map_from f.signal fanins i k in subst (λ (j : ℕ). Marked net NoneEnabled right t j) found.2 (of found.0 found.1)
  mark_down (Marked.port {t = t} {out = out} {from = from} h rest) = subst (λ (i : ℕ). Marked net NoneEnabled right t i) (sym (f.circuit.port out from h)) (mark_down rest)
  mark_down (Marked.plain {name = name} {out = out} {next = next} h free rest) = Marked.plain {name = name} (latch_down f name out next h) (λ e. e) (mark_down rest)
  mark_down (Marked.loads h on others loads) = absurd on
  mark_down (Marked.keeps h on others kept) = absurd on

  -- marks go along ports
  pub mark_along : {t : ℕ} {p q : P} → Follows d p q → Marked d NoneEnabled left t q → Marked d NoneEnabled left t p
  mark_along Follows.here m = m
  mark_along (Follows.there h rest) m = Marked.port h (mark_along rest m)

  -- a signal that is settled in the net is settled in the design where it is driven
  pub mark_up : {t i : ℕ} → Marked net NoneEnabled right t i → Marked d NoneEnabled left t (f.origin i)
  mark_up (Marked.input {p = i} h) = Marked.input (h.0, input_up f h.0 i h.1)
  mark_up (Marked.gate {t = t} {out = i} {fanins = fanins} {cover = cover} h each) = let x = f.circuit.only (Gate i fanins cover) h in by (λ j k. mark_up (each j k)) x.0 x.1 x.2
    where
      by : ((j : ℕ) → Contains fanins j → Marked d NoneEnabled left t (f.origin j)) → (x : Equation P) → Contains d.equations x → moved f.signal x ≡ Gate i fanins cover → Marked d NoneEnabled left t (f.origin i)
      by of (Gate out fans own) c is =
          let out_is : f.signal out ≡ i = cc in
          let fans_are : map f.signal fans ≡ fanins = cc in
          let home : f.origin i ≡ out = ap f.origin (sym out_is) ∙ gate_home d net f.size clocked f.origin f.signal f.single f.circuit out fans own c in
          subst (λ (p : P). Marked d NoneEnabled left t p) (sym home)
          (Marked.gate {fanins = fans} {cover = own} c
          (λ p k. mark_along ((f.circuit.read out fans own c).1 p k).follows (of (f.signal p) (subst (λ (xs : List ℕ). Contains xs (f.signal p)) fans_are (Contains-map f.signal fans p k)))))
      by of (Latch name out next) c is = absurd (cc)
      by of (Port out from) c is = absurd (cc)
  mark_up (Marked.port {out = out} {from = from} h rest) = absurd (f.circuit.no_port out from h)
  mark_up (Marked.plain {name = name} {out = i} {next = next} h free rest) =
      let x = latch_up f name i next h in
      Marked.plain {name = name} x.latch (λ e. e) (mark_along x.follows (mark_up rest))
  mark_up (Marked.loads h on others loads) = absurd on
  mark_up (Marked.keeps h on others kept) = absurd on
