-- Ranks rule out cycles of latches, in a design and in its nets.
use Rattle.std.proofs.Common.{◌≡◌, ℕ, ◌<◌, ◌≤◌, Bool, true, false, List, refl, subst, arith}
use Rattle.std.specs.Prelude.{nat_lt, nat_le, ◌||◌}
use Rattle.std.specs.List.{Contains, list_all}
use Rattle.std.proofs.lemmas.Bool.Decides.{nat_tests}
use Rattle.circuit_theory.specs.Cover.{Cover}
use Rattle.circuit_theory.specs.Names.{is_among}
use Rattle.circuit_theory.specs.Circuit.{Circuit, Equation, Gate, Latch, Port, Reads, Reaches}
use Rattle.circuit_theory.specs.Depth.{LatchReads, LatchPath, HasCycle}
use Rattle.circuit_theory.specs.Run.{NoneEnabled}
use Rattle.circuit_theory.proofs.Numbers.{is_among-sound}
use Rattle.blif_read.specs.Design.{circuit_of_design}
use Rattle.net_assembly.proofs.net_alike.Testing.{all_in}
use Rattle.pair_texts.specs.design_rows.Laws.{RankedIsAcyclic}
use Rattle.pair_texts.specs.design_rows.Ranked.{IsRanked, is_rising, is_ranked}
use Rattle.job_base.proofs.design_laws.FlatCycles.{cycle_up}
use Rattle.job_base.proofs.design_laws.Kept.{flat_design}

-- the computed test
pub is_ranked-sound : {P : Type 0} (d : Circuit P) (removed : List (List ℕ)) (rank : P → ℕ) → is_ranked d removed rank ≡ true → IsRanked d removed rank
is_ranked-sound {P} d removed rank h = record {
  gate = λ out fanins cover k p c.
      (let one = all_in (λ p. nat_le (rank p) (rank out)) fanins p (all_in (is_rising removed rank) d.equations (Gate out fanins cover) h k) c in grind (arith, nat_tests, one));
  port = λ out from k. (let one = all_in (is_rising removed rank) d.equations (Port out from) h k in grind (arith, nat_tests, one));
  latch = λ name out next k kept. by name out next kept (is_among removed name) refl (all_in (is_rising removed rank) d.equations (Latch name out next) h k);
}
  where
    by : (name : List ℕ) (out next : P) → (Contains removed name → ⊥) → (b : Bool) → is_among removed name ≡ b → (is_among removed name || nat_lt (rank next) (rank out)) ≡ true → rank next < rank out
    by name out next kept true e one = absurd (kept (is_among-sound removed name e))
    by name out next kept false e one = let low : nat_lt (rank next) (rank out) ≡ true = subst (λ (b : Bool). (b || nat_lt (rank next) (rank out)) ≡ true) e one in grind (arith, nat_tests, low)

module _ {P : Type 0} (d : Circuit P) (removed : List (List ℕ)) (rank : P → ℕ) (ranked : IsRanked d removed rank) where
  -- what a place reads in its cycle has no higher rank
  reads_down : {p q : P} → Reads d p q → rank q ≤ rank p
  reads_down (Reads.by_gate {out = out} {q = q} {fanins = fanins} {cover = cover} h k) = ranked.gate out fanins cover h q k
  reads_down (Reads.by_port {out = out} {from = from} h) = ranked.port out from h

  reaches_down : {p q : P} → Reaches d p q → rank q ≤ rank p
  reaches_down Reaches.here = omega arith
  reaches_down (Reaches.there r rest) = let a = reads_down r in let b = reaches_down rest in omega (arith, a, b)

  edge_down : {u v : P} → LatchReads d NoneEnabled removed u v → rank v < rank u
  edge_down {u} {v} r = let a = ranked.latch r.name u r.next r.latch r.kept in let b = reaches_down r.cone.1 in omega (arith, a, b)

  path_down : {u v : P} → LatchPath d NoneEnabled removed u v → rank v < rank u
  path_down (LatchPath.edge r) = edge_down r
  path_down (LatchPath.step r rest) = let a = edge_down r in let b = path_down rest in omega (arith, a, b)

  pub no_cycle : HasCycle d NoneEnabled removed → ⊥
  no_cycle h = let l = path_down h.1 in omega (arith, l)

pub ranked_is_acyclic : RankedIsAcyclic
ranked_is_acyclic models net removed rank f ranked h = no_cycle (circuit_of_design models net.clock) removed rank ranked (cycle_up (flat_design models net f) removed h)
