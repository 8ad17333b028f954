use Rattle.std.proofs.Common.{◌∙◌, ℕ, get_or, Some, ap}
use Rattle.std.proofs.lemmas.Option.{slice_get-get_or, get_or_from_slice_get}
use Rattle.flatten.specs.declared.connectivity.source.Source.TheVariants as source
use Rattle.flatten.specs.connectivity.Tables.{IsOpenIn}
use Rattle.flatten.proofs.connectivity.Firsts.{first_at, never_more, never_all}
use Rattle.flatten.proofs.connectivity.drivers.first_open.Goals as goal

pub returns-in-Open : goal.returns-in-Open
returns-in-Open c =
    let reads = c.args.reads.now in
    let i = c.loop-read.read-index in
    let n = get_or reads i 0 in
    first_at (λ (m : ℕ). m) (IsOpenIn c.args.sources.now) reads i n (slice_get-get_or reads i 0 c.loop-read-test.true) c.loop-read.invariant
    (slice_get-get_or c.args.sources.now n source.Open (c.requires i 0 c.loop-read-test.true) ∙ ap Some c.in-Open.is)

pub loop-read-preserved : goal.loop-read-preserved
loop-read-preserved c =
    let reads = c.args.reads.now in
    let i = c.loop-read.read-index in
    let n = get_or reads i 0 in
    never_more (λ (m : ℕ). m) (IsOpenIn c.args.sources.now) reads i n (slice_get-get_or reads i 0 c.loop-read-test.true) c.loop-read.invariant
    (λ free. c.in_default.not-Open (get_or_from_slice_get c.args.sources.now n source.Open source.Open free))

pub returns : goal.returns
returns c = never_all (λ (m : ℕ). m) (IsOpenIn c.args.sources.now) c.args.reads.now c.loop-read.read-index c.loop-read-test.false c.loop-read.invariant
