use Rattle.std.proofs.Common.{◌<◌, ℕ, Option, get_or, sym, subst}
use Rattle.std.proofs.lemmas.Option.{slice_get-get_or}
use Rattle.flatten.specs.declared.connectivity.source.Source.TheVariants as source
use Rattle.flatten.specs.connectivity.Wiring.{wires_of}
use Rattle.flatten.specs.connectivity.Wired.{IsClockOf}
use Rattle.flatten.proofs.connectivity.ClockNets.{clock_main}
use Rattle.flatten.proofs.connectivity.Told.{clock_within, faultless}
use Rattle.flatten.proofs.connectivity.wires.wire.Goals as goal

pub returns-clause-ok : goal.returns-clause-ok
returns-clause-ok c =
    let flat = c.args.flat.now in
    let made = c.in_ok-sources.ensures.ok in
    let clocked = c.in_ok-clock.ensures.ok in
    let t = c.in_ok-sources.sources.items in
    record {
      faultless = clocked.0;
      tables = record { len = made.0; sources = made.1; nets = c.in_ok-nets.ensures };
      clock = clocked.1;
      clock_is_main = λ k e.
          let is = subst (λ (o : Option ℕ). IsClockOf (wires_of flat) o) e clocked.1 in
          let below = subst (λ n. k < n) (sym made.0) (clock_within flat c.keeps.ensures is.0.0 k is.0.1) in
          clock_main flat c.keeps.ensures clocked.0 k (get_or t k source.Open) is (made.1 k (get_or t k source.Open) (slice_get-get_or t k source.Open below));
    }

pub returns-clause-faultless : goal.returns-clause-faultless
returns-clause-faultless c = faultless c.args.flat.now c.keeps.ensures c.in_ok-clock.ensures.ok.0
