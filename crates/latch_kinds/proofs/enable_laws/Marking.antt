-- Marks depend on nothing but which latches count as enabled.
use Rattle.std.proofs.Common.{ℕ, Bool, List}
use Rattle.std.specs.Prelude.{◌↔◌}
use Rattle.circuit_theory.specs.Circuit.{Circuit, IsLatch}
use Rattle.circuit_theory.specs.Run.{Marked}

module _ {P : Type 0} (c : Circuit P) (one other : P → Type 0) (same : (name : List ℕ) (u next : P) → IsLatch c name u next → one u ↔ other u) (run : ℕ → P → Bool) where
  pub mark : {t : ℕ} {p : P} → Marked c one run t p → Marked c other run t p
  mark (Marked.input i) = Marked.input i
  mark (Marked.gate h each) = Marked.gate h (λ p k. mark (each p k))
  mark (Marked.port h rest) = Marked.port h (mark rest)
  mark (Marked.plain {name = name} {out = out} {next = next} h free rest) = Marked.plain {name = name} h (λ e. free ((same name out next h).1 e)) (mark rest)
  mark (Marked.loads {name = name} {out = out} {next = next} h on others loads) = Marked.loads {name = name} h ((same name out next h).0 on) (λ u k ne. mark (others u k ne)) loads
  mark (Marked.keeps {name = name} {out = out} {next = next} h on others kept) = Marked.keeps {name = name} h ((same name out next h).0 on) (λ u k ne. mark (others u k ne)) (mark kept)
