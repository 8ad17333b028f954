use Rattle.net_assembly.proofs.Searching.{round_from}
use Rattle.net_assembly.proofs.search.Search.round.Goals as goal

pub returns : goal.returns
returns c =
    round_from c.args.graph.now c.args.self.now.way.items c.args.read c.requires c.as_slice.result.now c.deref.result.now c.place_in.result c.unwrap_or-place.result c.in_ok-numbers.numbers.items c.reverse.new.self.items c.from_vec.result
    c.as_slice.ensures.value c.place_in.ensures c.unwrap_or-place.ensures c.deref.ensures.value c.in_ok-numbers.ensures.items c.reverse.ensures.items c.from_vec.ensures
