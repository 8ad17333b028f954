-- No latch graph has a cycle, and no latch is chosen.
use Rattle.std.proofs.Common.{◌≡◌, Bool, [], sym, subst}
use Rattle.sec_setup.specs.declared.cut_points.exposed.Exposure.{Exposure}
use Rattle.sec_setup.specs.Choosing.{IsChosenIn}
use Rattle.sec_setup.specs.Cycles.{IsCycleOf}
use Rattle.sec_setup.proofs.Uncut.{none_chosen}
use Rattle.sec_setup.proofs.choice.choose.Goals as goal

pub returns : goal.returns
returns g c =
    let a = c.args.nets.now.left.now in
    let b = c.args.nets.now.right.now in
    let left = subst (IsCycleOf g.mode a) c.in_default.is c.in_ok-names.ensures in
    let right = subst (IsCycleOf g.mode b) c.in_default-2.is c.in_ok-names-2.ensures in
    let none : Exposure = record { names = []; left = []; right = [] } in
    let made : Exposure = record { names = c.new.result; left = c.new-2.result; right = c.new-3.result } in
    let same : none ≡ made = (λ i. record { names = sym c.new.ensures i; left = sym c.new-2.ensures i; right = sym c.new-3.ensures i }) in
    subst (λ (e : Exposure). IsChosenIn g.mode a b c.args.may_cut e) same (subst (λ (m : Bool). IsChosenIn g.mode a b m none) (sym c.if-may_cut.false) (none_chosen g.mode a b left right))
