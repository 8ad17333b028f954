-- The latch goes up first, and then each signal goes its way.
use Rattle.std.proofs.Common.{◌≡◌, ◌∙◌, Bool, true, false, not, nat_eq, refl, sym, ap, true≢false}
use Rattle.std.specs.Prelude.{IsTrue}
use Rattle.indexmap.specs.IndexMap.{get}
use Rattle.flat_net.specs.View.{circuit_of}
use Rattle.latch_kinds.specs.declared.unate_enable.ways.Way.{Way}
use Rattle.latch_kinds.proofs.unate_enable.Raised.{first_goes}
use Rattle.latch_kinds.proofs.unate_enable.ways.never_falls_in.Goals as goal

not_set : (b : Bool) → IsTrue (not b) → b ≡ false
not_set false h = refl
not_set true h = absurd (true≢false (sym h))

pub put_ways-requires : goal.put_ways-requires
put_ways-requires c = record { increasing = c.requires.increasing; within = c.requires.within }

pub returns : goal.returns
returns c = λ e low high raise up.
    let first = first_goes (get nat_eq c.args.ways.now) (get nat_eq c.put.new.ways) (circuit_of c.args.net.now) c.args.own.0 c.in_ok-put.ensures low high raise in
    let go = c.in_ok-put_ways.ensures c.args.own.0 low high c.requires.source raise c.requires.closed first c.args.next.0 c.requires.among in
    go.up (ap (λ (w : Way). w.falls) (sym c.way_at-way.ensures) ∙ not_set c.way_at-way.result.falls e) up
