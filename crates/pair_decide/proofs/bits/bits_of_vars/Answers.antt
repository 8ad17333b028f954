use Rattle.std.proofs.Common.{◌≡◌, ℕ, Bool, false, List, map, unwrap_or, nat_eq}
use Rattle.std.specs.HashMap.{get}
use Rattle.pair_decide.specs.Reading.{AreInputBits}
use Rattle.pair_decide.proofs.Read.{all-read, IfOk-then}
use Rattle.pair_decide.proofs.bits.bits_of_vars.Goals as goal

pub returns : goal.returns
returns c =
    IfOk-then c.bits_by.result (λ (bits : List Bool). bits ≡ map (λ (v : ℕ). unwrap_or (get nat_eq c.in_ok-found.found v) false) c.args.vars.now) (AreInputBits c.args.aig.now c.args.nodes.now c.args.values.now c.args.vars.now)
    (λ bits e. all-read c.args.aig.now c.args.nodes.now c.args.values.now c.args.vars.now (get nat_eq c.in_ok-found.found) bits c.requires.each c.in_ok-found.ensures e) c.bits_by.ensures
