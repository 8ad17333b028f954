use Rattle.std.proofs.Common.{◌≡◌, ◌∙◌, ◌++◌, List, [], length, sym, ap, subst, arith}
use Rattle.std.proofs.lemmas.List.{with_items_is}
use Rattle.flatten.specs.declared.connectivity.source.Source.{Source}
use Rattle.flatten.specs.connectivity.Wiring.{wires_of}
use Rattle.flatten.specs.connectivity.Tables.{AreSources}
use Rattle.flatten.proofs.connectivity.Bounds.{bounded}
use Rattle.flatten.proofs.connectivity.SourceTables.{sources_none}
use Rattle.flatten.proofs.connectivity.Undriven.{undriven_first, undriven_never}
use Rattle.flatten.proofs.connectivity.Told.{told_again, told_undriven}
use Rattle.flatten.proofs.connectivity.wires.sources.Goals as goal

pub returns-in-Some-clause-err : goal.returns-in-Some-clause-err
returns-in-Some-clause-err c = told_again c.args.flat.now c.keeps.ensures c.in-Some.signal c.in_ok-name_of.field-0 c.in_ok-name_of.ensures c.in-Some.ensures.again

pub returns-in-Some-undriven-clause-err : goal.returns-in-Some-undriven-clause-err
returns-in-Some-undriven-clause-err c =
    let flat = c.args.flat.now in
    let w = wires_of flat in
    let v = c.in_ok-sources.sources in
    let new = c.driven_again.new.sources in
    let filled : length new ≡ v.len = omega (arith, c.driven_again.ensures.len, ap length c.deref_mut.ensures.value, v.ok.0) in
    let seen : c.deref.result.now ≡ new = c.deref.ensures.value ∙ with_items_is v new filled in
    let long : length new ≡ length flat.names = omega (arith, c.driven_again.ensures.len, ap length c.deref_mut.ensures.value, v.ok.0, c.in_ok-sources.ensures.len, c.len.ensures) in
    let len : length c.deref.result.now ≡ length flat.names = ap length seen ∙ long in
    told_undriven flat c.keeps.ensures c.in_default.ensures.again c.in-Some-undriven.signal c.in_ok-name_of-2.field-0 c.in_ok-name_of-2.ensures
    (undriven_first w (length flat.names) (bounded flat c.keeps.ensures) c.deref.result.now len (subst (λ (zs : List Source). AreSources (w.inputs ++ w.clocks) w.outs zs) (sym seen) c.in_default.ensures.sources)
    c.in-Some-undriven.signal c.in-Some-undriven.ensures.told)

pub returns-clause-ok : goal.returns-clause-ok
returns-clause-ok c =
    let flat = c.args.flat.now in
    let w = wires_of flat in
    let v = c.in_ok-sources.sources in
    let new = c.driven_again.new.sources in
    let filled : length new ≡ v.len = omega (arith, c.driven_again.ensures.len, ap length c.deref_mut.ensures.value, v.ok.0) in
    let same = with_items_is v new filled in
    let seen : c.deref.result.now ≡ new = c.deref.ensures.value ∙ same in
    let long : length new ≡ length flat.names =
    omega (arith, c.driven_again.ensures.len, ap length c.deref_mut.ensures.value, v.ok.0, c.in_ok-sources.ensures.len, c.len.ensures) in (
      ap length same ∙ long,
      subst (λ (zs : List Source). AreSources (w.inputs ++ w.clocks) w.outs zs) (sym same) c.in_default.ensures.sources,
      c.in_default.ensures.again,
      undriven_never w (length flat.names) (bounded flat c.keeps.ensures) c.deref.result.now (ap length seen ∙ long)
          (subst (λ (zs : List Source). AreSources (w.inputs ++ w.clocks) w.outs zs) (sym seen) c.in_default.ensures.sources) c.in_default-undriven.ensures.told,
    )

pub driven_again-requires-clause-none : goal.driven_again-requires-clause-none
driven_again-requires-clause-none c =
    subst (λ (zs : List Source). AreSources [] [] zs) (sym (c.deref_mut.ensures.value ∙ c.in_ok-sources.ensures.items_if_clones_equal (λ y e. e))) (sources_none _)
