use Rattle.std.proofs.Common.{◌≡◌, ◌∙◌, ℕ, Option, get_or, slice_get, Some, None, refl, sym, ap, true≢false}
use Rattle.std.proofs.lemmas.Option.{slice_get-get_or}
use Rattle.circuit_theory.proofs.Lists.{at_of, of_at}
use Rattle.flatten.proofs.connectivity.ClockTables.{none_left}
use Rattle.flatten.proofs.connectivity.Firsts.{never_more, never_all}
use Rattle.flatten.proofs.connectivity.clocks.reads_net.Goals as goal

no_net : (o : Option (Option ℕ)) (net : ℕ) → o ≡ Some None → o ≡ Some (Some net) → ⊥
no_net o net none some = cc

one_net : (o : Option (Option ℕ)) (m n : ℕ) → o ≡ Some (Some m) → o ≡ Some (Some n) → m ≡ n
one_net o m n here there = cc

pub loop-signal-preserved-in_default : goal.loop-signal-preserved-in_default
loop-signal-preserved-in_default c =
    let reads = c.args.reads.now in
    let nets = c.args.nets.now in
    let i = c.loop-signal.signal-index in
    let n = get_or reads i 0 in
    let at = slice_get-get_or nets n None (c.requires i 0 c.loop-signal-test.true) ∙ ap Some (none_left (get_or nets n None) c.in_default.not-Some) in
    never_more (λ (m : ℕ). m) (λ (m : ℕ). slice_get nets m ≡ Some (Some c.args.net)) reads i n (slice_get-get_or reads i 0 c.loop-signal-test.true) c.loop-signal.invariant
    (λ some. no_net (slice_get nets n) c.args.net at some)

pub returns-then-found-net : goal.returns-then-found-net
returns-then-found-net c =
    let reads = c.args.reads.now in
    let nets = c.args.nets.now in
    let i = c.loop-signal.signal-index in
    let n = get_or reads i 0 in
    let at = slice_get-get_or nets n None (c.requires i 0 c.loop-signal-test.true) ∙ ap Some c.in-Some.is in
    (λ e. (n, of_at reads i n (slice_get-get_or reads i 0 c.loop-signal-test.true), at ∙ ap (λ (m : ℕ). Some (Some m)) c.if-found-net.true), λ e. refl)

pub loop-signal-preserved : goal.loop-signal-preserved
loop-signal-preserved c =
    let reads = c.args.reads.now in
    let nets = c.args.nets.now in
    let i = c.loop-signal.signal-index in
    let n = get_or reads i 0 in
    let at = slice_get-get_or nets n None (c.requires i 0 c.loop-signal-test.true) ∙ ap Some c.in-Some.is in
    never_more (λ (m : ℕ). m) (λ (m : ℕ). slice_get nets m ≡ Some (Some c.args.net)) reads i n (slice_get-get_or reads i 0 c.loop-signal-test.true) c.loop-signal.invariant
    (λ some. c.if-found-net.false (one_net (slice_get nets n) c.in-Some.found c.args.net at some))

pub returns : goal.returns
returns c =
    let reads = c.args.reads.now in
    let nets = c.args.nets.now in
    let never = never_all (λ (m : ℕ). m) (λ (m : ℕ). slice_get nets m ≡ Some (Some c.args.net)) reads c.loop-signal.signal-index c.loop-signal-test.false c.loop-signal.invariant in (
      λ e. absurd (true≢false (sym e)),
      λ read.
          let at = at_of reads read.0 read.1 in
          absurd (never at.0 read.0 (record { item = read.0; here = at.1; meant = read.2; called = refl })),
    )
