use Rattle.std.proofs.Common.{◌≡◌, ◌<◌, ℕ, List, length, sym, ◌∙◌, ap, subst}
use Rattle.std.specs.Prelude.{IfOk}
use Rattle.elaborate.specs.declared.flat.FlatStatement.{FlatStatement}
use Rattle.net_assembly.proofs.Building.{statement_at}
use Rattle.flatten.specs.Graph.{IsSourceWithin, quick_reads}
use Rattle.flatten.proofs.SourceReads.{reads_are, quick_other}
use Rattle.flatten.proofs.loops.reads_of.Goals as goal

pub returns-in-Latch : goal.returns-in-Latch
returns-in-Latch c =
    let s : FlatStatement = c.index-as_slice-place.result in
    let within = subst (IsSourceWithin (length c.args.flat.now.statements)) c.in-Statement.is c.requires in
    let at = statement_at c.args.flat.now.statements c.as_slice.result.now c.in-Statement.place s c.as_slice.ensures (subst (λ (ss : List FlatStatement). c.in-Statement.place < length ss) (sym c.as_slice.ensures) within) c.index-as_slice-place.is in
    c.new-in-Latch.ensures ∙ sym (reads_are c.args.flat.now.statements c.args.source c.in-Statement.place s c.in-Statement.is at ∙ ap (quick_reads s.reads) c.in-Latch.is)

pub returns-in_default-kind : goal.returns-in_default-kind
returns-in_default-kind c =
    let s : FlatStatement = c.index-as_slice-place.result in
    let within = subst (IsSourceWithin (length c.args.flat.now.statements)) c.in-Statement.is c.requires in
    let at = statement_at c.args.flat.now.statements c.as_slice.result.now c.in-Statement.place s c.as_slice.ensures (subst (λ (ss : List FlatStatement). c.in-Statement.place < length ss) (sym c.as_slice.ensures) within) c.index-as_slice-place.is in
    let all = reads_are c.args.flat.now.statements c.args.source c.in-Statement.place s c.in-Statement.is at ∙ quick_other s.reads s.kind (λ edge control init e. c.in_default-kind.not-Latch edge control init e) in
    subst (λ (rs : List ℕ). IfOk c.copy.result (λ made. made ≡ rs)) (sym all) c.copy.ensures
