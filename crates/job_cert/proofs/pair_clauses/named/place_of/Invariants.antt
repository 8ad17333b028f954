use Rattle.std.proofs.Common.{◌≡◌, take}
use Rattle.std.specs.List.{All}
use Rattle.sec_setup.specs.declared.ports.pairs.SignalPair.{SignalPair}
use Rattle.witness_report.specs.declared.witness.PairName.TheVariants.{Output}
use Rattle.job_cert.proofs.pair_clauses.named.place_of.Given as goal

-- no pair so far has the name
abbrev pub invariant-loop-place : goal.invariant-loop-place
invariant-loop-place l = All (λ (p : SignalPair). p.name ≡ Output l.name → ⊥) (take l.place l.pairs)
