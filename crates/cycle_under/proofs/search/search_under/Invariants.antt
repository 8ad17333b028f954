use Rattle.std.proofs.Common.{◌+◌, map}
use Rattle.sec_setup.specs.ports.Pairs.{places_of}
use Rattle.reset_form.specs.reset_asked.Numbers.{numbered}
use Rattle.cycle_under.specs.Cares.{OfEach}
use Rattle.cycle_under.specs.Cycles.{IsUnfoldedBefore, IsFoundUnder}
use Rattle.cycle_under.proofs.Searching.{Before}
use Rattle.cycle_under.proofs.search.search_under.Given as goal

abbrev pub invariant-loop-last : goal.invariant-loop-last
invariant-loop-last l = record {
  state : IsUnfoldedBefore l.setup l.bases l.premise (l.last + 1) l.unfolded;
  found : OfEach l.premise.own (λ c. IsFoundUnder c (numbered l.setup l.bases) l.fn.conflicts l.last (map places_of l.setup.pairs) l.found);
  before : OfEach l.premise.own (λ c. Before c l.setup l.bases l.last);
}
