-- A port reads one signal, which is its other side.
use Rattle.std.proofs.Common.{◌≡◌, ◌<◌, ◌∙◌, ℕ, List, length, slice_get, get_or, Some, refl, sym, ap, subst, arith}
use Rattle.std.proofs.lemmas.Option.{slice_get_read}
use Rattle.elaborate.specs.declared.flat.FlatStatement.{FlatStatement}
use Rattle.elaborate.specs.declared.flat.FlatKind.TheVariants as kind
use Rattle.flatten.specs.connectivity.Steps.{other_side, port_in, source_port, IsStatementWithin}
use Rattle.flatten.proofs.connectivity.sources.port_from.Goals as goal

pub bounds-as_slice-0 : goal.bounds-as_slice-0
bounds-as_slice-0 c =
    let statements : List FlatStatement = c.args.flat.now.statements in
    let place : ℕ = c.in-Statement.place in
    let s : FlatStatement = c.index-as_slice-place.result in
    let within : place < length statements = subst (IsStatementWithin (length statements)) c.in-Statement.is c.requires in
    let is : s ≡ get_or statements place s = subst (λ (ss : List FlatStatement). s ≡ get_or ss place s) c.as_slice.ensures c.index-as_slice-place.is in
    let one : length s.reads ≡ 1 = subst (λ (x : FlatStatement). x.kind ≡ kind.Port → length x.reads ≡ 1) (sym is) (c.keeps.ensures.ports place s within) c.in-Port.is in
    omega (arith, one, ap length c.as_slice-in-Port.ensures)

pub returns-in-Port : goal.returns-in-Port
returns-in-Port c =
    let statements : List FlatStatement = c.args.flat.now.statements in
    let place : ℕ = c.in-Statement.place in
    let s : FlatStatement = c.index-as_slice-place.result in
    let within : place < length statements = subst (IsStatementWithin (length statements)) c.in-Statement.is c.requires in
    let here : slice_get statements place ≡ Some s = slice_get_read statements (length statements) place s refl within (subst (λ (ss : List FlatStatement). s ≡ get_or ss place s) c.as_slice.ensures c.index-as_slice-place.is) in
    ap (λ (l : List ℕ). Some (get_or l 0 0)) c.as_slice-in-Port.ensures ∙ sym (ap (source_port statements) c.in-Statement.is ∙ ap port_in here ∙ ap (other_side s.reads) c.in-Port.is)
