use Rattle.std.proofs.Common.{◌≡◌, ◌++◌, ◌||◌, not, [], List, ℕ, Bool, true, false, refl, sym, ◌∙◌, ap, subst}
use Rattle.std.specs.Prelude.{IfOk}
use Rattle.aiger_read.specs.aiger_file.Names.{names_from, repeats}
use Rattle.aiger_read.proofs.aiger_file.NamesFound.{distinct_by, repeats_by, none_repeats_by}
use Rattle.aiger_read.proofs.aiger_file.symbol.Named.are_distinct.Goals as goal

pub returns-then-not-branch : goal.returns-then-not-branch
returns-then-not-branch c =
    let s = c.args.self.now in
    let first = names_from s 105 c.args.inputs 0 in
    let repeated : repeats [] first ≡ true = ap (λ (t : List (List ℕ)). repeats t first) (sym c.new-sources.ensures) ∙ repeats_by _ _ c.in_ok-add_names.ensures.fresh c.if-not-branch.true in
    sym (distinct_by first (names_from s 108 c.args.latches 0) (names_from s 111 c.args.outputs 0) ∙ rw repeated refl)

pub returns-then-not-branch-2 : goal.returns-then-not-branch-2
returns-then-not-branch-2 c =
    let s = c.args.self.now in
    let first = names_from s 105 c.args.inputs 0 in
    let second = names_from s 108 c.args.latches 0 in
    let third = names_from s 111 c.args.outputs 0 in
    let distinct : repeats [] first ≡ false = ap (λ (t : List (List ℕ)). repeats t first) (sym c.new-sources.ensures) ∙ none_repeats_by _ _ c.in_ok-add_names.ensures.fresh c.if-not-branch.false in
    let added : c.add_names.new.table ≡ first = c.in_ok-add_names.ensures.ok c.if-not-branch.false ∙ ap (λ (t : List (List ℕ)). t ++ first) c.new-sources.ensures in
    let repeated : repeats first second ≡ true = ap (λ (t : List (List ℕ)). repeats t second) (sym added) ∙ repeats_by _ _ c.in_ok-add_names-2.ensures.fresh c.if-not-branch-2.true in
    sym (distinct_by first second third ∙ ap (λ (b : Bool). not ((b || repeats first second) || repeats [] third)) distinct ∙ ap (λ (b : Bool). not (b || repeats [] third)) repeated)

pub returns : goal.returns
returns c =
    let s = c.args.self.now in
    let first = names_from s 105 c.args.inputs 0 in
    let second = names_from s 108 c.args.latches 0 in
    let third = names_from s 111 c.args.outputs 0 in
    let distinct : repeats [] first ≡ false = ap (λ (t : List (List ℕ)). repeats t first) (sym c.new-sources.ensures) ∙ none_repeats_by _ _ c.in_ok-add_names.ensures.fresh c.if-not-branch.false in
    let added : c.add_names.new.table ≡ first = c.in_ok-add_names.ensures.ok c.if-not-branch.false ∙ ap (λ (t : List (List ℕ)). t ++ first) c.new-sources.ensures in
    let apart : repeats first second ≡ false = ap (λ (t : List (List ℕ)). repeats t second) (sym added) ∙ none_repeats_by _ _ c.in_ok-add_names-2.ensures.fresh c.if-not-branch-2.false in
    let whole : not (repeats [] (first ++ second) || repeats [] third) ≡ not (repeats [] third) =
    distinct_by first second third ∙ ap (λ (b : Bool). not ((b || repeats first second) || repeats [] third)) distinct ∙ ap (λ (b : Bool). not (b || repeats [] third)) apart in
    let P : Bool → Type 0 = λ b. IfOk c.add_names-3.result (λ told. told ≡ b) in
    let Q : List (List ℕ) → Type 0 = λ t. IfOk c.add_names-3.result (λ told. told ≡ not (repeats t third)) in
    subst P (sym whole) (subst Q c.new-targets.ensures c.add_names-3.ensures.fresh)
