use Rattle.std.proofs.Common.{not, length, [], ◌≡◌, List, true, ap, sym, ◌∙◌, subst, arith}
use Rattle.std.specs.List.{list_all}
use Rattle.blif_read.specs.declared.design.BlifModel.{BlifModel}
use Rattle.blif_read.specs.Reading.{spelled}
use Rattle.blif_read.specs.Kept.{is_plain, covers_fit, written_names, model_names, ports_distinct}
use Rattle.blif_read.specs.Fault.{repeats}
use Rattle.blif_read.proofs.Distinct.{spelled_names, spelled_ports}
use Rattle.blif_read.proofs.Count.{spelled_few}
use Rattle.blif_read.proofs.Full.{spelled_full}
use Rattle.blif_read.specs.blif_lines.Lines.{is_empty}
use Rattle.blif_read.proofs.Plain.{spelled_plain, spelled_fit}
use Rattle.blif_read.proofs.reader.read_design.Goals as goal

pub invariant_of-result : goal.invariant_of-result
invariant_of-result c =
    let fault = c.in_ok-models.ensures.0 in
    let is : c.in_ok-models.models ≡ spelled c.args.text.now = c.in_ok-models.ensures.1 in
    let P : List BlifModel → Type 0 = λ ms. list_all is_plain (written_names ms) ≡ true in
    let Q : List BlifModel → Type 0 = λ ms. list_all covers_fit ms ≡ true in
    record {
      some = omega arith;
      plain = subst P (sym is) (spelled_plain c.args.text.now);
      fit = subst Q (sym is) (spelled_fit c.args.text.now);
      distinct = ap (λ ms. repeats [] (model_names ms)) is ∙ spelled_names c.args.text.now fault;
      ports = ap (λ ms. list_all ports_distinct ms) is ∙ spelled_ports c.args.text.now fault;
      named = ap (λ ms. list_all (λ n. not (is_empty n)) (written_names ms)) is ∙ spelled_full c.args.text.now fault;
      few = omega (arith, ap (λ ms. length (written_names ms)) is, spelled_few c.args.text.now c.requires);
    }
