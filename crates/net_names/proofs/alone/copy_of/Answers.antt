use Rattle.std.proofs.Common.{◌≡◌, ◌∙◌, ℕ, Bool, List, length, sym, ap, subst}
use Rattle.std.specs.List.{filter}
use Rattle.flat_net.specs.declared.parts.Port.{Port}
use Rattle.flat_net.specs.Makes.{MakerView}
use Rattle.flat_net.specs.View.{NetView}
use Rattle.net_names.specs.Alone.{passes, IsShowing}
use Rattle.net_names.specs.Fronts.{with_gates}
use Rattle.net_names.proofs.Circuits.{copied, copy_is_showing}
use Rattle.net_names.proofs.alone.copy_of.Goals as goal

pub returns : goal.returns
returns c =
    let n = c.args.net.now in
    let test : List ℕ → Bool = passes c.args.outputs.now in
    let shown = filter (λ (port : Port). test port.name) n.outputs in
    let is : c.finish.result ≡ copied test n =
    c.finish.ensures ∙ ap (λ (m : MakerView). m.net) c.in_ok-add_clock.ensures ∙ ap (λ (m : MakerView). let k : NetView = record m.net { clock = n.clock } in k) c.in_ok-add_outputs.ensures
    ∙ ap (λ (m : NetView). let k : NetView = record m { outputs = shown; clock = n.clock } in k) c.in_ok-add_signals.ensures.net
    ∙ ap (λ (v : NetView). let k : NetView = record (with_gates v (length v.gates)) { latches = v.latches; outputs = shown; clock = n.clock } in k) c.new.ensures in
    subst (IsShowing test n) (sym is) (copy_is_showing test n c.requires.whole c.keeps.ensures.sound.named)
