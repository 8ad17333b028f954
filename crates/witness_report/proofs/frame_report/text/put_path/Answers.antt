-- One step more.
use Rattle.std.proofs.Common.{◌≡◌, ◌==◌, ℕ, false, List, [], ◌∷◌, ◌++◌, length, get_or, refl, sym, ap, ◌∙◌, arith}
use Rattle.std.specs.List.{flat_map}
use Rattle.std.proofs.lemmas.Grind.{common_steps}
use Rattle.std.proofs.lemmas.List.{take_all}
use Rattle.witness_report.specs.frame_report.Text.{step_text, path_text}
use Rattle.witness_report.proofs.Grown.{piece_more}
use Rattle.witness_report.proofs.frame_report.text.put_path.Goals as goal

-- the path of a node below the root
path_steps : (path : List ℕ) → (length path == 0) ≡ false → path_text path ≡ flat_map step_text path
path_steps [] some = cc
path_steps (class ∷ classes) some = refl

pub loop-class-preserved : goal.loop-class-preserved
loop-class-preserved c =
    let class = get_or c.args.path.now c.loop-class.class-index 0 in
    let step : c.put_number.new.text.items ≡ c.loop-class.text.items ++ step_text class = grind (arith, common_steps) in
    piece_more step_text c.args.text.now.items c.loop-class.text.items c.put_number.new.text.items c.args.path.now c.loop-class.class-index class 0 c.loop-class.invariant c.loop-class-test.true step refl

pub returns : goal.returns
returns c =
    c.loop-class.invariant ∙ ap (λ (path : List ℕ). c.args.text.now.items ++ flat_map step_text path) (take_all c.loop-class.class-index c.args.path.now c.loop-class-test.false)
    ∙ ap (λ (steps : List ℕ). c.args.text.now.items ++ steps) (sym (path_steps c.args.path.now (sym c.is_empty.ensures ∙ c.if-is_empty.false)))
