use Rattle.std.proofs.Common.{Bool, ◌&&◌, ap₂, sym, ◌∙◌, false}
use Rattle.std.proofs.lemmas.List.Folds.{list_all_more}
use Rattle.text_numbers.specs.declared.numbers.Number.{Number}
use Rattle.lrat_core.specs.dimacs_text.Literals.{is_literal, literal_of}
use Rattle.lrat_core.proofs.Loops.{map_more}
use Rattle.lrat_core.proofs.dimacs_text.literals.put_literals.Goals as goal

pub loop-number-preserved : goal.loop-number-preserved
loop-number-preserved c =
    let none : Number = record { size = 0; is_negative = false } in
    let i = c.loop-number.number-index in
    record {
      all = list_all_more (is_literal c.args.limit) c.args.numbers.now i none c.loop-number-test.true ∙ ap₂ (λ (a b : Bool). a && b) c.loop-number.invariant.all (sym c.if-not-is_literal.ensures.value);
      put = map_more literal_of c.args.literals.now.items c.loop-number.literals.items c.push.new.self.items c.args.numbers.now i none c.new.result c.loop-number.invariant.put c.in_ok-push.ensures.items c.new.ensures c.loop-number-test.true;
    }
