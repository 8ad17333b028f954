-- The columns are those of the inputs, and the lines those of the run.
use Rattle.std.proofs.Common.{◌≡◌, ◌∙◌, ◌++◌, ◌∷◌, [], ℕ, List, Bool, map, length, sym, ap, subst}
use Rattle.std.specs.Prelude.{All, codes, ◌<◌}
use Rattle.flat_net.specs.declared.parts.Port.{Port}
use Rattle.witness_report.specs.Text.{names_text}
use Rattle.circuit_report.specs.sim_report.Report.{IsSimReport}
use Rattle.circuit_report.specs.sim_report.Checks.{start_bits}
use Rattle.circuit_report.specs.sim_report.Cycles.{AreColumns, PutsCycles, reordered}
use Rattle.circuit_report.proofs.sim_report.Runs.{columns_within, report_is}
use Rattle.circuit_report.proofs.sim_report.Reports.{simulation_exists}
use Rattle.circuit_report.proofs.sim_report.report.fitting_report.Goals as goal

pub put_cycles-requires-clause-within : goal.put_cycles-requires-clause-within
put_cycles-requires-clause-within c =
    let s = c.args.stimulus.now in
    let are = subst (λ (names : List (List ℕ)). AreColumns c.args.net.now names c.in_ok-columns.columns.items) c.requires.table c.in_ok-columns.ensures in
    subst (λ (columns : List ℕ). All (λ (row : List Bool). All (λ k. k < length row) columns) c.as_slice-2.result.now) (sym c.as_slice.ensures.value)
    (subst (λ (rows : List (List Bool)). All (λ (row : List Bool). All (λ k. k < length row) c.in_ok-columns.columns.items) rows) (sym c.as_slice-2.ensures)
    (columns_within c.args.net.now s.names s.rows c.in_ok-columns.columns.items are s.fit))

pub returns : goal.returns
returns c = λ mode enabled.
    let n = c.args.net.now in
    let s = c.args.stimulus.now in
    let columns = c.in_ok-columns.columns.items in
    let are = subst (λ (names : List (List ℕ)). AreColumns n names columns) c.requires.table c.in_ok-columns.ensures in
    let begins : c.put_head.new.text.items ≡ codes "outputs" ++ names_text (map (λ (p : Port). p.name) n.outputs) ++ 10 ∷ [] =
    c.in_ok-put_head.ensures ∙ ap (λ (t : List ℕ). t ++ (codes "outputs" ++ names_text (map (λ (p : Port). p.name) n.outputs) ++ 10 ∷ [])) c.new-text.ensures.items in
    let put = subst (λ (bits : List Bool). PutsCycles n c.args.enabled.now (start_bits n c.args.reset bits) (map (reordered columns) s.rows) c.put_head.new.text.items c.put_cycles.new.text.items) c.in_ok-bits.ensures
    (subst (λ (k : List ℕ). PutsCycles n c.args.enabled.now (start_bits n c.args.reset c.in_ok-bits.bits) (map (reordered k) s.rows) c.put_head.new.text.items c.put_cycles.new.text.items) c.as_slice.ensures.value
    (subst (λ (rows : List (List Bool)). PutsCycles n c.args.enabled.now (start_bits n c.args.reset c.in_ok-bits.bits) (map (reordered c.as_slice.result.now) rows) c.put_head.new.text.items c.put_cycles.new.text.items) c.as_slice-2.ensures c.in_ok-put_cycles.ensures)) in
    subst (IsSimReport mode n s.names s.rows _ c.args.reset) (sym c.from_vec.ensures) (report_is n s.names s.rows columns are s.fit mode c.args.enabled.now enabled _ c.args.reset c.put_head.new.text.items c.put_cycles.new.text.items begins put
    (simulation_exists n c.keeps.ensures.sound s.names s.rows s.distinct s.fit _ c.args.reset c.requires.fits))
