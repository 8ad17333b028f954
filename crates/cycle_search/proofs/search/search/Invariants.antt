use Rattle.std.proofs.Common.{◌+◌, map}
use Rattle.sec_setup.specs.ports.Pairs.{places_of}
use Rattle.reset_form.specs.reset_asked.Numbers.{numbered}
use Rattle.cycle_search.specs.Cycles.{IsUnfoldedBefore, IsFoundIn}
use Rattle.cycle_search.proofs.Searching.{Before}
use Rattle.cycle_search.proofs.search.search.Given as goal

abbrev pub invariant-loop-last : goal.invariant-loop-last
invariant-loop-last l = record {
  state : IsUnfoldedBefore l.setup l.bases (l.last + 1) l.unfolded;
  found : IsFoundIn (numbered l.setup l.bases) l.fn.conflicts l.last (map places_of l.setup.pairs) l.found;
  before : Before l.setup l.bases l.last;
}
