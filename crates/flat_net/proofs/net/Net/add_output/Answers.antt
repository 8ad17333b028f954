-- The net has one output more, or is as it was.
use Rattle.std.proofs.Common.{rules, subst}
use Rattle.std.proofs.lemmas.Result.{on_ok_weaker, on_err_weaker}
use Rattle.flat_net.specs.Makes.{with_output}
use Rattle.flat_net.specs.Sound.{IsSound}
use Rattle.flat_net.proofs.Growth.{either_way, sound_along, sound_output}
use Rattle.flat_net.proofs.net.Net.add_output.Goals as goal

pub invariant_of-self : goal.invariant_of-self
invariant_of-self c =
    let sound = subst IsSound c.self.view_is c.self.invariant in
    either_way c.put_port.result
    (on_ok_weaker c.put_port.result (λ is. sound_along (with_output c.args.self.now c.args.name.now c.args.s) (sound_output c.args.self.now c.args.name.now c.args.s sound c.requires) (search rules)) c.put_port.ensures.ok)
    (on_err_weaker c.put_port.result (λ is. sound_along c.args.self.now sound (search rules)) c.put_port.ensures.err)
