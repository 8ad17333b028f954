use Rattle.std.proofs.Common.{◌≡◌, ◌++◌, map, drop}
use Rattle.blif_read.specs.Fault.{repeats}
use Rattle.blif_read.proofs.names.add_names.Given as goal

abbrev pub invariant-loop-name : goal.invariant-loop-name
invariant-loop-name l = record {
  fresh : repeats l.initial.table (map (λ n. n.now) l.names) ≡ repeats l.table (map (λ n. n.now) (drop l.name-index l.names));
  all : l.initial.table ++ map (λ n. n.now) l.names ≡ l.table ++ map (λ n. n.now) (drop l.name-index l.names);
}
