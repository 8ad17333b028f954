-- The names and the statements are those that were moved out.
use Rattle.std.proofs.Common.{◌≡◌, ◌≤◌, ◌++◌, ℕ, true, List, [], map, length, sum_by, sym, ◌∙◌, ap, subst}
use Rattle.std.specs.List.{list_all}
use Rattle.base_tables.specs.Table.{AreDistinct}
use Rattle.elaborate.specs.declared.flat.FlatStatement.{FlatStatement}
use Rattle.elaborate.specs.Within.{is_within, reads_as_kind, written_places}
use Rattle.elaborate.specs.State.{AreNamed, ArePortNumbers}
use Rattle.elaborate.proofs.Spelled.{keeps_within, list_all_weaker, within_more}
use Rattle.elaborate.proofs.Done.{ports_added, ports_numbered, numbers_within}
use Rattle.elaborate.proofs.hierarchy.with_ports.Goals as goal

pub invariant_of-result : goal.invariant_of-result
invariant_of-result c =
    let before : List (List ℕ) = c.args.walked.now.names in
    let now : List (List ℕ) = c.replace.result in
    let is : now ≡ c.numbers-3.new.table = c.replace.ensures.value in
    let same : c.replace-2.result ≡ c.args.walked.now.statements = c.replace-2.ensures.value in
    let numbered : ArePortNumbers c.args.main.now before c.numbers-3.new.table c.in_ok-inputs.inputs c.in_ok-clocks.clocks c.in_ok-outputs.outputs =
    ports_numbered c.args.main.now before c.numbers.new.table c.numbers-2.new.table c.numbers-3.new.table c.in_ok-inputs.inputs c.in_ok-clocks.clocks c.in_ok-outputs.outputs
    c.in_ok-inputs.ensures.keeps (subst (λ (xs : List (List ℕ)). AreNamed c.numbers.new.table c.in_ok-inputs.inputs (map (λ name. [] ++ name) xs)) c.as_slice.ensures c.in_ok-inputs.ensures.named)
    c.in_ok-clocks.ensures.keeps (subst (λ (xs : List (List ℕ)). AreNamed c.numbers-2.new.table c.in_ok-clocks.clocks (map (λ name. [] ++ name) xs)) c.as_slice-2.ensures c.in_ok-clocks.ensures.named)
    c.in_ok-outputs.ensures.keeps (subst (λ (xs : List (List ℕ)). AreNamed c.numbers-3.new.table c.in_ok-outputs.outputs (map (λ name. [] ++ name) xs)) c.as_slice-3.ensures c.in_ok-outputs.ensures.named) in
    let ports : ArePortNumbers c.args.main.now before now c.in_ok-inputs.inputs c.in_ok-clocks.clocks c.in_ok-outputs.outputs =
    subst (λ (t : List (List ℕ)). ArePortNumbers c.args.main.now before t c.in_ok-inputs.inputs c.in_ok-clocks.clocks c.in_ok-outputs.outputs) (sym is) numbered in
    record {
      distinct = subst (λ (t : List (List ℕ)). AreDistinct t) (sym is) c.keeps.ensures;
      inputs_within = numbers_within now c.in_ok-inputs.inputs c.args.main.now.inputs ports.of_inputs;
      clocks_within = numbers_within now c.in_ok-clocks.clocks c.args.main.now.clocks ports.of_clocks;
      outputs_within = numbers_within now c.in_ok-outputs.outputs c.args.main.now.outputs ports.of_outputs;
      within = list_all_weaker (is_within (length before)) (is_within (length now)) c.replace-2.result (λ s h. within_more (length before) (length now) (keeps_within before now ports.keeps) s h)
          (subst (λ (ss : List FlatStatement). list_all (is_within (length before)) ss ≡ true) (sym same) c.requires.kept.within);
      shaped = ap (list_all reads_as_kind) same ∙ c.requires.shaped;
      few = subst (λ (ss : List FlatStatement). length ss ≤ 400000) (sym same) c.requires.few;
      few_places = subst (λ (ss : List FlatStatement). sum_by written_places ss ≤ 4000000) (sym same) c.requires.few_places;
    }

pub returns : goal.returns
returns c =
    let before : List (List ℕ) = c.args.walked.now.names in
    let numbered : ArePortNumbers c.args.main.now before c.numbers-3.new.table c.in_ok-inputs.inputs c.in_ok-clocks.clocks c.in_ok-outputs.outputs =
    ports_numbered c.args.main.now before c.numbers.new.table c.numbers-2.new.table c.numbers-3.new.table c.in_ok-inputs.inputs c.in_ok-clocks.clocks c.in_ok-outputs.outputs
    c.in_ok-inputs.ensures.keeps (subst (λ (xs : List (List ℕ)). AreNamed c.numbers.new.table c.in_ok-inputs.inputs (map (λ name. [] ++ name) xs)) c.as_slice.ensures c.in_ok-inputs.ensures.named)
    c.in_ok-clocks.ensures.keeps (subst (λ (xs : List (List ℕ)). AreNamed c.numbers-2.new.table c.in_ok-clocks.clocks (map (λ name. [] ++ name) xs)) c.as_slice-2.ensures c.in_ok-clocks.ensures.named)
    c.in_ok-outputs.ensures.keeps (subst (λ (xs : List (List ℕ)). AreNamed c.numbers-3.new.table c.in_ok-outputs.outputs (map (λ name. [] ++ name) xs)) c.as_slice-3.ensures c.in_ok-outputs.ensures.named) in
    let ports : ArePortNumbers c.args.main.now before c.replace.result c.in_ok-inputs.inputs c.in_ok-clocks.clocks c.in_ok-outputs.outputs =
    subst (λ (t : List (List ℕ)). ArePortNumbers c.args.main.now before t c.in_ok-inputs.inputs c.in_ok-clocks.clocks c.in_ok-outputs.outputs) (sym c.replace.ensures.value) numbered in
    ports_added c.args.main.now c.args.walked.now _ c.requires.kept c.replace-2.ensures.value ports
