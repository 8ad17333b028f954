use Rattle.std.proofs.Common.{◌≡◌, ℕ, false, map, take, drop, length, Some, slice_get}
use Rattle.blif_read.specs.declared.design.BlifModel.{BlifModel}
use Rattle.blif_read.specs.Fault.{repeats}
use Rattle.elaborate.specs.declared.tables.Formals.{Formals}
use Rattle.elaborate.specs.Scopes.{AreFormals}
use Rattle.elaborate.proofs.tables.tables_of.Given as goal

abbrev pub invariant-loop-model : goal.invariant-loop-model
invariant-loop-model l = record {
  names : l.names ≡ map (λ (m : BlifModel). m.name) (take l.model-index l.models);
  apart : repeats l.names (map (λ (m : BlifModel). m.name) (drop l.model-index l.models)) ≡ false;
  many : length l.formals.items ≡ l.model-index;
  each : (k : ℕ) (m : BlifModel) (f : Formals) → slice_get l.models k ≡ Some m → slice_get l.formals.items k ≡ Some f → AreFormals m f;
}
