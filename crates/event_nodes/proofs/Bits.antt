-- A latch is enabled where its bit is set.
use Rattle.std.proofs.Common.{◌≡◌, ◌∙◌, ℕ, Bool, true, false, List, get_or, slice_get, Some, refl, sym, ap, subst, arith, inl, inr}
use Rattle.std.specs.Prelude.{◌⊎◌, ◌↔◌}
use Rattle.flat_net.specs.circuit_theory.Circuit.{IsLatch}
use Rattle.std.proofs.lemmas.Bool.{false≢true}
use Rattle.std.proofs.lemmas.Option.{get_or_from_slice_get, slice_get_within}
use Rattle.flat_net.specs.declared.parts.LatchAt.{LatchAt}
use Rattle.flat_net.specs.Sound.{IsSound}
use Rattle.flat_net.specs.View.{circuit_of}
use Rattle.flat_net.proofs.Nets.{some_at}
use Rattle.event_nodes.specs.View.{EventCircuitView, IsEventCircuit, Enabled}
use Rattle.flat_net.proofs.Drivers.{latch_of_equation, latch_out}

pub bit_off : (e v : EventCircuitView) → v ≡ e → IsEventCircuit v → (bits : List Bool) → bits ≡ v.enabled → (j : ℕ) (l : LatchAt) → slice_get e.net.latches j ≡ Some l → get_or bits j false ≡ false → Enabled e l.out.0 → ⊥
bit_off e v same is bits are j l at off on =
    let own : IsEventCircuit e = subst IsEventCircuit same is in
    let inside = slice_get_within e.net.latches j l at in
    let bit = some_at e.enabled j (omega (arith, inside, own.marks.each)) in
    let set = (own.marks.exactly j l bit.0 at bit.1).1 on in
    false≢true (sym off ∙ (ap (λ (bs : List Bool). get_or bs j false) (are ∙ ap (λ (k : EventCircuitView). k.enabled) same) ∙ (get_or_from_slice_get e.enabled j bit.0 false bit.1 ∙ set)))

pub bit_on : (e v : EventCircuitView) → v ≡ e → IsEventCircuit v → (bits : List Bool) → bits ≡ v.enabled → (j : ℕ) (l : LatchAt) → slice_get e.net.latches j ≡ Some l → get_or bits j false ≡ true → Enabled e l.out.0
bit_on e v same is bits are j l at on =
    let own : IsEventCircuit e = subst IsEventCircuit same is in
    let inside = slice_get_within e.net.latches j l at in
    let bit = some_at e.enabled j (omega (arith, inside, own.marks.each)) in
    let read = ap (λ (bs : List Bool). get_or bs j false) (are ∙ ap (λ (k : EventCircuitView). k.enabled) same) ∙ get_or_from_slice_get e.enabled j bit.0 false bit.1 in
    (own.marks.exactly j l bit.0 at bit.1).0 (sym read ∙ on)

-- the bits tell whether a latch is enabled
pub kind_of : (e : EventCircuitView) → IsSound e.net → IsEventCircuit e → (name : List ℕ) (v next : ℕ) → IsLatch (circuit_of e.net) name v next → Enabled e v ⊎ (Enabled e v → ⊥)
kind_of e sound circuit name v next latch =
    let o = latch_of_equation e.net sound name v next latch in
    let out : o.latch.out.0 ≡ v = latch_out e.net sound v o.j o.owner o.latch o.at in
    let within = slice_get_within e.net.latches o.j o.latch o.at in
    let bit = some_at e.enabled o.j (omega (arith, within, circuit.marks.each)) in
    by o.latch.out.0 out bit.0 (circuit.marks.exactly o.j o.latch bit.0 o.at bit.1)
  where
    by : (u : ℕ) → u ≡ v → (b : Bool) → (b ≡ true) ↔ Enabled e u → Enabled e v ⊎ (Enabled e v → ⊥)
    by u same true marks = inl (subst (Enabled e) same (marks.0 refl))
    by u same false marks = inr (λ on. false≢true (marks.1 (subst (Enabled e) (sym same) on)))
