-- One name more.
use Rattle.std.proofs.Common.{ℕ, List, ◌∙◌, ◌++◌, ap}
use Rattle.std.proofs.lemmas.List.{take_all}
use Rattle.sec_base.specs.Texts.{names_text}
use Rattle.sec_base.proofs.Pieces.{names_more}
use Rattle.sec_base.proofs.texts.put_names.Goals as goal

pub loop-name-preserved : goal.loop-name-preserved
loop-name-preserved c =
    names_more c.args.text.now.items c.loop-name.text.items c.put.new.text.items c.put-in-loop-name.new.text.items c.as_slice-name-items.result.now c.loop-name.name-index c.as_slice.result.now c.name-item.result
    c.loop-name.invariant c.loop-name-test.true c.in_ok-put.ensures.ok c.in_ok-put-2.ensures.ok (c.as_slice.ensures ∙ c.name-item.is)

pub returns : goal.returns
returns c = c.loop-name.invariant ∙ ap (λ (names : List (List ℕ)). c.args.text.now.items ++ names_text names) (take_all c.loop-name.name-index c.as_slice-name-items.result.now c.loop-name-test.false ∙ c.as_slice-name-items.ensures)
