use Rattle.std.proofs.Common.{◌≡◌, ◌∙◌, length, sym, ap, subst}
use Rattle.flat_net.specs.Makes.{MakerView}
use Rattle.flat_net.specs.View.{NetView}
use Rattle.net_names.specs.Fronts.{with_gates}
use Rattle.net_names.specs.Renamed.{IsRenamed}
use Rattle.net_names.proofs.Named.{copied, copy_is_renamed}
use Rattle.net_names.proofs.renaming.copy_under.Goals as goal

pub returns : goal.returns
returns c ps new =
    let n = c.args.net.now in
    let whole = c.requires.laid in
    let is : c.finish.result ≡ copied n c.keeps.ensures.sound whole ps c.args.names.now new =
    c.finish.ensures ∙ ap (λ (m : MakerView). m.net) c.in_ok-add_clock.ensures ∙ ap (λ (m : MakerView). let k : NetView = record m.net { clock = n.clock } in k) c.in_ok-add_all_outputs.ensures
    ∙ ap (λ (m : NetView). let k : NetView = record m { outputs = n.outputs; clock = n.clock } in k) c.in_ok-add_signals.ensures.net
    ∙ ap (λ (v : NetView). let k : NetView = record (with_gates v (length v.gates)) { latches = v.latches; outputs = n.outputs; clock = n.clock } in k) c.with_names.ensures in
    subst (IsRenamed ps n) (sym is) (copy_is_renamed n c.keeps.ensures.sound whole ps c.args.names.now new)
