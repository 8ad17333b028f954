-- Reads without a driver, by the table of what drives each number.
use Rattle.std.proofs.Common.{◌≡◌, ◌<◌, ℕ, List, ◌++◌, length, get_or, slice_get, Some, sym, subst, inl, inr}
use Rattle.std.specs.Prelude.{◌⊎◌}
use Rattle.std.specs.List.{Contains}
use Rattle.std.proofs.lemmas.List.Elements.{Contains-append_cases}
use Rattle.std.proofs.lemmas.Option.{slice_get-get_or}
use Rattle.circuit_theory.proofs.Lists.{of_at}
use Rattle.flatten.specs.declared.connectivity.source.Source.{Source}
use Rattle.flatten.specs.declared.connectivity.source.Source.TheVariants as source
use Rattle.flatten.specs.connectivity.Wiring.{Wiring}
use Rattle.flatten.specs.connectivity.Events.{IsFirst, IsNever, IsAt}
use Rattle.flatten.specs.connectivity.Faults.{IsUndriven, ReadsUndriven}
use Rattle.flatten.specs.connectivity.Tables.{AreSources, IsOpenIn}
use Rattle.flatten.proofs.connectivity.Bounds.{IsBounded}
use Rattle.flatten.proofs.connectivity.Firsts.{meant_first, meant_never}
use Rattle.flatten.proofs.connectivity.SourceTables.{open_from, open_of}

module _ (w : Wiring ℕ) (size : ℕ) (bounded : IsBounded w size) (t : List Source) (len : length t ≡ size) (sources : AreSources (w.inputs ++ w.clocks) w.outs t) where
  read_below : (n : ℕ) → Contains (w.reads ++ w.outputs) n → n < size
  read_below n h = by (Contains-append_cases w.reads w.outputs n h)
    where
      by : Contains w.reads n ⊎ Contains w.outputs n → n < size
      by (inl k) = bounded.reads n k
      by (inr k) = bounded.outputs n k

  open_again : (i n : ℕ) → slice_get (w.reads ++ w.outputs) i ≡ Some n → IsUndriven w n → IsOpenIn t n
  open_again i n here none =
      open_of w t sources n (get_or t n source.Open) (slice_get-get_or t n source.Open (subst (λ k. n < k) (sym len) (read_below n (of_at (w.reads ++ w.outputs) i n here)))) none

  pub undriven_first : (n : ℕ) → IsFirst (IsAt (w.reads ++ w.outputs) (λ (m : ℕ). m) (IsOpenIn t)) n → IsFirst (ReadsUndriven w) n
  undriven_first n = meant_first (w.reads ++ w.outputs) (λ (m : ℕ). m) (IsOpenIn t) (IsUndriven w) (λ i m here free. open_from w t sources m free) open_again n

  pub undriven_never : IsNever (IsAt (w.reads ++ w.outputs) (λ (m : ℕ). m) (IsOpenIn t)) → IsNever (ReadsUndriven w)
  undriven_never = meant_never (w.reads ++ w.outputs) (λ (m : ℕ). m) (IsOpenIn t) (IsUndriven w) open_again
