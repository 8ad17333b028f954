-- The output, its values and the bits behind one another.
use Rattle.std.specs.Prelude.{zip}
use Rattle.std.specs.List.{flat_map}
use Rattle.std.proofs.Common.{◌≡◌, ℕ, Bool, List, ◌++◌, OnOk, sym, subst}
use Rattle.induct.specs.declared.induction.InductVerdict.{InductVerdict}
use Rattle.induct.specs.induct_report.Report.{bit_line, verdict_text}
use Rattle.induct.proofs.induct_report.Pieces.{four_pieces, on_ok}
use Rattle.induct.proofs.induct_report.whole.put_verdict.Goals as goal

pub returns-in_ok-put_values-in-NotShown : goal.returns-in_ok-put_values-in-NotShown
returns-in_ok-put_values-in-NotShown c =
    let inputs = c.args.inputs.now in
    let name = subst (λ (p : List ℕ). c.put-in-NotShown-2.new.text.items ≡ c.put-in-NotShown.new.text.items ++ p) c.as_slice.ensures c.in_ok-put-in-NotShown-2.ensures.ok in
    subst (λ (v : InductVerdict). OnOk c.put_bits.result (c.put_bits.new.text.items ≡ c.args.text.now.items ++ verdict_text inputs c.args.conflicts v)) (sym c.in-NotShown.is)
    (on_ok c.put_bits.result
    (λ s. four_pieces _ _ _ _ _ _ _ _ _ c.in_ok-put-in-NotShown.ensures.ok name c.in_ok-put_values-in-NotShown.ensures
    (subst (λ (bs : List Bool). c.put_bits.new.text.items ≡ c.put_values.new.text.items ++ flat_map (bit_line inputs) (zip c.in-NotShown.vars bs)) c.as_slice-in-NotShown-2.ensures
    (subst (λ (vs : List ℕ). c.put_bits.new.text.items ≡ c.put_values.new.text.items ++ flat_map (bit_line inputs) (zip vs c.as_slice-in-NotShown-2.result.now)) c.as_slice-in-NotShown.ensures s)))
    c.put_bits.ensures)
