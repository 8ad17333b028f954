-- The line of one variable more.
use Rattle.std.specs.Prelude.{zip}
use Rattle.std.specs.List.{flat_map}
use Rattle.std.proofs.Common.{◌∙◌, ◌<◌, ℕ, Bool, false, List, ◌++◌, length, take, get_or, sym, ap, arith, append_assoc}
use Rattle.std.proofs.lemmas.List.{take_all}
use Rattle.std.proofs.lemmas.Slice.Zip.{length-zip}
use Rattle.induct.specs.induct_report.Report.{bit_line}
use Rattle.induct.proofs.induct_report.Lines.{zip_next}
use Rattle.induct.proofs.induct_report.text.put_bits.Goals as goal

pub loop-k-preserved : goal.loop-k-preserved
loop-k-preserved c =
    let vars = c.args.vars.now in
    let bits = c.args.bits.now in
    let k = c.loop-k.k in
    let line = bit_line c.args.inputs.now in
    let in_vars : k < length vars = omega (arith, c.loop-k-test.true, c.min-k-end.ensures) in
    let in_bits : k < length bits = omega (arith, c.loop-k-test.true, c.min-k-end.ensures) in
    c.in_ok-put_bit.ensures
    ∙ (ap (λ (t : List ℕ). t ++ line (get_or vars k 0, get_or bits k false)) c.loop-k.invariant
    ∙ (append_assoc c.args.text.now.items (flat_map line (take k (zip vars bits))) (line (get_or vars k 0, get_or bits k false))
    ∙ ap (λ (t : List ℕ). c.args.text.now.items ++ t) (sym (zip_next line vars bits k 0 false in_vars in_bits))))

pub returns : goal.returns
returns c =
    let vars = c.args.vars.now in
    let bits = c.args.bits.now in
    c.loop-k.invariant
    ∙ ap (λ (zs : List (ℕ × Bool)). c.args.text.now.items ++ flat_map (bit_line c.args.inputs.now) zs)
    (take_all c.loop-k.k (zip vars bits) (omega (arith, c.loop-k-test.false, length-zip vars bits, c.min-k-end.ensures)))
