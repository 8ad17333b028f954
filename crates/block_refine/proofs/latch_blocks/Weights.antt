-- What signals count together, one after the other.
use Rattle.std.proofs.Common.{◌≡◌, ◌∙◌, ◌+◌, ◌<◌, ◌≤◌, ℕ, length, take, get_or, Some, sym, ap, arith}
use Rattle.std.specs.List.{sum_by}
use Rattle.std.proofs.lemmas.List.{take_all}
use Rattle.std.proofs.lemmas.List.Sums.{sum_by_more, sum_by_more_le}
use Rattle.std.proofs.lemmas.Option.{slice_get-get_or}
use Rattle.flat_net.specs.declared.parts.Driver.TheVariants as driver
use Rattle.flat_net.specs.View.{NetView}
use Rattle.flat_net.specs.Weights.{driver_weight, weight_at}
use Rattle.block_refine.specs.latch_blocks.Signals.{net_weight}

-- what the signals below a number count together
abbrev pub weight_below : NetView → ℕ → ℕ
weight_below n s = sum_by (λ d. driver_weight n (Some d)) (take s n.drivers)

here : (n : NetView) (s : ℕ) → s < length n.drivers → weight_at n s ≡ driver_weight n (Some (get_or n.drivers s (driver.Input 0)))
here n s less = ap (driver_weight n) (slice_get-get_or n.drivers s (driver.Input 0) less)

pub weight_step : (n : NetView) (s : ℕ) → s < length n.drivers → weight_below n (s + 1) ≡ weight_below n s + weight_at n s
weight_step n s less = sum_by_more (λ d. driver_weight n (Some d)) n.drivers s (driver.Input 0) less ∙ ap (λ k. weight_below n s + k) (sym (here n s less))

pub weight_room : (n : NetView) (s : ℕ) → s < length n.drivers → weight_below n s + weight_at n s ≤ net_weight n
weight_room n s less =
    let more = sum_by_more_le (λ d. driver_weight n (Some d)) n.drivers s (driver.Input 0) less in
    let one = here n s less in
    omega (arith, more, one)

pub weight_all : (n : NetView) (s : ℕ) → length n.drivers ≤ s → weight_below n s ≡ net_weight n
weight_all n s past = ap (sum_by (λ d. driver_weight n (Some d))) (take_all s n.drivers past)
