-- The one finding is that no words are no job, and there is room for its report.
use Rattle.std.proofs.Common.{◌≡◌, [], None, Some, ℕ, sym, subst, arith}
use Rattle.clap.proofs.OnLiterals.{clap_on_literals}
use Rattle.base_shelves.specs.MemSink.{SinkState, Accepts}
use Rattle.job_base.specs.declared.finding.Finding.{Finding}
use Rattle.job_base.specs.declared.finding.Finding.TheVariants as finding
use Rattle.job_base.specs.Lines.{words_text, finding_text}
use Rattle.premise_rows.proofs.one_text_runs.tell_no_job.Goals as goal

no_number : (n : ℕ) → None ≡ Some n → ⊥
no_number n e = cc

has_room : Accepts (record { taken = []; room = 14; fail_at = None; keep = 0; calls = 0; faults = 0 }) words_text
has_room = (omega arith, no_number _)

pub returns : goal.returns
unfolding clap_on_literals
returns c is =
    let cut = c.run.ensures.accepted is in
    let words : cut.finding ≡ finding.Words = cut.found in
    cut.refused (subst (λ (f : Finding). Accepts c.in_ok-out.out (finding_text f)) (sym words) (subst (λ (s : SinkState). Accepts s words_text) (sym c.in_ok-out.ensures) has_room))
