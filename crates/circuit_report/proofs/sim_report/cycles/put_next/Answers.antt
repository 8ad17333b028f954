use Rattle.std.proofs.Common.{◌-◌, ◌++◌, List, Bool, Result, Ok, Err, OnOk, ◌∙◌, sym, ap, subst}
use Rattle.circuit_report.specs.sim_report.Report.{cycle_line}
use Rattle.circuit_report.specs.sim_report.Cycles.{AreLatest, AreMarks}
use Rattle.circuit_report.proofs.sim_report.cycles.put_next.Goals as goal

on_ok : {E : Type 0} {P Q : Type 0} (r : Result (Unit {0}) E) → (P → Q) → OnOk r P → OnOk r Q
on_ok (Ok u) f h = f h
on_ok (Err e) f h = tt

pub returns-clause-put : goal.returns-clause-put
returns-clause-put c =
    on_ok c.put_cycle.result (λ put. record {
      shown = record { values = c.as_slice.result.now; marks = c.as_slice-2.result.now };
      values = subst (λ (bits : List Bool). AreLatest c.step.new.self.sim bits) (sym c.as_slice.ensures.value) c.in_ok-values.ensures;
      marks = subst (λ (bits : List Bool). AreMarks c.step.new.self bits) (sym c.as_slice-2.ensures.value) c.in_ok-marks.ensures;
      text_is = put ∙ ap (λ k. c.args.text.now.items ++ cycle_line (k - 1) (record { values = c.as_slice.result.now; marks = c.as_slice-2.result.now })) c.cycles.ensures;
    }) c.put_cycle.ensures
