use Rattle.std.proofs.Common.{◌∙◌, ℕ, List, Option, Vec, Global, length, sym, subst}
use Rattle.std.proofs.lemmas.Result.{IfOk-weaker}
use Rattle.flatten.specs.connectivity.Wiring.{wires_of}
use Rattle.flatten.specs.connectivity.Tables.{ArePorts, AreNets}
use Rattle.flatten.specs.connectivity.Steps.{AreEnds}
use Rattle.flatten.proofs.connectivity.PortTables.{sources_within, ports_from}
use Rattle.flatten.proofs.connectivity.NetTables.{ports_within, nets_from}
use Rattle.flatten.proofs.connectivity.wires.nets.Goals as goal

pub ports-requires : goal.ports-requires
ports-requires c = sources_within c.args.flat.now c.args.sources.now c.requires.sources

pub ends-requires-clause-within : goal.ends-requires-clause-within
ends-requires-clause-within c =
    let flat = c.args.flat.now in
    let ports = subst (λ (zs : List (Option ℕ)). ArePorts (wires_of flat) (length flat.names) zs) (sym (c.deref.ensures.value ∙ c.in_ok-froms.ensures))
    (ports_from flat c.keeps.ensures c.requires.single c.args.sources.now c.requires.len c.requires.sources) in
    ports_within (wires_of flat) (length flat.names) c.deref.result.now ports

pub returns : goal.returns
returns c =
    let flat = c.args.flat.now in
    let ports = subst (λ (zs : List (Option ℕ)). ArePorts (wires_of flat) (length flat.names) zs) (sym (c.deref.ensures.value ∙ c.in_ok-froms.ensures))
    (ports_from flat c.keeps.ensures c.requires.single c.args.sources.now c.requires.len c.requires.sources) in
    IfOk-weaker c.ends.result (λ (nets : Vec (Option ℕ) Global). AreEnds c.deref.result.now nets.items) (λ (nets : Vec (Option ℕ) Global). AreNets (wires_of flat) (length flat.names) nets.items)
    (λ nets made. nets_from (wires_of flat) (length flat.names) c.deref.result.now ports nets.items made) c.ends.ensures
