-- One fan-in's literal more.
use Rattle.std.proofs.Common.{◌+◌, List, sym, subst, take}
use Rattle.std.specs.Prelude.{◌⊎◌}
use Rattle.std.specs.List.{AllZip}
use Rattle.std.proofs.lemmas.List.{take_all}
use Rattle.std.proofs.lemmas.List.Elements.{All-get_or}
use Rattle.event_nodes.specs.flat_net.Signal.{Signal}
use Rattle.event_nodes.specs.Lit.{Lit}
use Rattle.edbf_unfold.specs.event_literals.Known.{IsMet, IsReadLit}
use Rattle.edbf_unfold.proofs.event_literals.Lits.{zip_more_left}
use Rattle.edbf_unfold.proofs.event_literals.builder.EventBuilder.fanin_literals.Goals as goal

pub met_in-requires : goal.met_in-requires
met_in-requires c = All-get_or (λ (f : Signal). IsMet c.args.self.now.memo (c.args.step.frame, f.0) ⊎ IsMet c.args.self.now.memo (c.args.step.onward, f.0)) c.args.fanins.now c.loop-fanin.fanin-index _ c.loop-fanin-test.true c.requires

pub loop-fanin-preserved : goal.loop-fanin-preserved
loop-fanin-preserved c =
    let R : Signal → Lit → Type 0 = λ f y. IsReadLit c.args.self.now.memo c.args.step.frame c.args.step.onward f.0 y in
    subst (λ (l : List Lit). AllZip R (take (c.loop-fanin.fanin-index + 1) c.args.fanins.now) l) (sym {A = List Lit} c.in_ok-push.ensures.items)
    (zip_more_left R c.args.fanins.now c.loop-fanin.lits.items c.loop-fanin.fanin-index _ _ c.loop-fanin-test.true c.loop-fanin.invariant c.met_in.ensures)

pub returns : goal.returns
returns c =
    let R : Signal → Lit → Type 0 = λ f y. IsReadLit c.args.self.now.memo c.args.step.frame c.args.step.onward f.0 y in
    subst (λ (l : List Signal). AllZip R l c.loop-fanin.lits.items) (take_all c.loop-fanin.fanin-index c.args.fanins.now c.loop-fanin-test.false) c.loop-fanin.invariant
