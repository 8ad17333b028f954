-- A header's words are the names that were read.
use Rattle.std.proofs.Common.{◌≡◌, ◌++◌, ◌∷◌, ℕ, List, not, true, false, Bool, codes, sym, ◌∙◌, ap, subst}
use Rattle.std.proofs.lemmas.List.{append-nil}
use Rattle.witness_report.specs.Text.{header_line}
use Rattle.witness_report.specs.Form.{AreNames}
use Rattle.witness_report.proofs.Forms.{header_from, empty_name, twice_name, more_name}
use Rattle.witness_report.proofs.reader.read_header.Goals as goal

flip : (a b : Bool) → a ≡ not b → (a ≡ false → b ≡ true) × (a ≡ true → b ≡ false)
flip a true e = (λ _. cc, λ f. cc)
flip a false e = (λ f. cc, λ _. cc)

pub returns-then-is_empty-clause-none : goal.returns-then-is_empty-clause-none
returns-then-is_empty-clause-none c = empty_name c.args.line.now c.loop-name.names c.loop-name.pieces _ _ c.loop-name.invariant.0 c.in-Some.ensures (sym c.is_empty.ensures ∙ c.if-is_empty.true)

pub returns-then-not-branch-clause-none : goal.returns-then-not-branch-clause-none
returns-then-not-branch-clause-none c =
    twice_name c.args.line.now c.loop-name.names c.loop-name.pieces _ _ c.loop-name.invariant.0 c.in-Some.ensures ((flip _ _ c.in_ok-add.ensures.new).0 c.if-not-branch.true)

pub loop-name-preserved : goal.loop-name-preserved
loop-name-preserved c =
    more_name c.args.line.now c.loop-name.names c.loop-name.pieces _ _ c.loop-name.invariant.0 c.in-Some.ensures (sym c.is_empty.ensures ∙ c.if-is_empty.false)
    ((flip _ _ c.in_ok-add.ensures.new).1 c.if-not-branch.false) _ c.in_ok-add.ensures.ok c.loop-name.invariant.1

pub returns-clause-some : goal.returns-clause-some
returns-clause-some c =
    let split = c.loop-name.invariant.0 ∙ ap (λ (ns : List (List ℕ)). codes "inputs" ∷ ns) (ap (λ (ps : List (List ℕ)). c.loop-name.names ++ ps) c.in_default.ensures.0 ∙ append-nil c.loop-name.names) in
    subst (λ (ns : List (List ℕ)). (c.args.line.now ≡ header_line ns) × AreNames ns) (sym c.in_ok-into_words.ensures)
    (header_from c.args.line.now c.loop-name.names c.requires split c.loop-name.invariant.1 c.keeps.ensures)
