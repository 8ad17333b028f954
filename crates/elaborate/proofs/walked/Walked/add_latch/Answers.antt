use Rattle.std.proofs.Common.{◌++◌, ◌∷◌, [], ℕ, List, option_map, sym, subst, refl}
use Rattle.std.proofs.lemmas.Result.{on_ok_weaker}
use Rattle.elaborate.specs.declared.walked.Walked.{Walked}
use Rattle.elaborate.specs.Flat.{latch}
use Rattle.elaborate.specs.State.{Adds}
use Rattle.elaborate.proofs.Spelled.{latch_added}
use Rattle.elaborate.proofs.walked.Walked.add_latch.Goals as goal

pub returns : goal.returns
returns c =
    on_ok_weaker c.add_statement.result
    (λ is. subst (λ (w : Walked). Adds (λ models. record { out = c.args.prefix.now ++ c.args.output.now; reads = (c.args.prefix.now ++ c.args.input.now) ∷ []; kind = latch c.args.edge (option_map (λ (word : List ℕ). c.args.prefix.now ++ word) c.args.control.now) c.args.init } ∷ []) c.args.self.now w) (sym is)
    (latch_added c.args.self.now _ c.number.new.table c.number-2.new.table c.args.prefix.now c.args.input.now c.args.output.now c.args.edge c.args.control.now c.args.init c.in_ok-data.data c.in_ok-out.out c.in_ok-control.control c.requires
    c.in_ok-data.ensures.keeps c.in_ok-data.ensures.named c.in_ok-out.ensures.keeps c.in_ok-out.ensures.named c.in_ok-control.ensures.keeps c.in_ok-control.ensures.named refl refl refl)) c.add_statement.ensures
