-- The report from the initial values of the net as it begins behind the rows.
use Rattle.std.proofs.Common.{◌≡◌, ◌∙◌, ◌++◌, ℕ, List, Bool, Option, None, length, codes, sym, ap, subst}
use Rattle.std.specs.Prelude.{option_map}
use Rattle.restart.specs.Behind.{IsBegun}
use Rattle.restart.specs.Report.{after_line, unknown_line}
use Rattle.job_circuit.proofs.SimBehind.{reported, unreported, refused_run, none_of, fits_net, long}
use Rattle.job_circuit.proofs.sim_behind.run_behind.Goals as goal

pub report_behind-requires : goal.report_behind-requires
report_behind-requires c =
    let s = c.args.before.now in
    ap (λ (known : List (Option Bool)). length known) c.deref.ensures.value ∙ long c.args.net c.begin.new.net s.names s.rows c.in_ok-known.known.items (subst (λ (names : List (List ℕ)). IsBegun c.args.net names s.rows c.in_ok-known.known.items c.begin.new.net) c.in_ok-names.ensures c.in_ok-known.ensures)

pub returns-in_err-told : goal.returns-in_err-told
returns-in_err-told c =
    let n = c.args.net in
    let b = c.args.before.now in
    let s = c.args.stimulus.now in
    let power = option_map (λ word. word.now) c.args.power in
    let known = c.in_ok-known.known.items in
    let e = c.in_err-told.field-0.0 in
    let begun = subst (λ (names : List (List ℕ)). IsBegun n names b.rows known c.begin.new.net) c.in_ok-names.ensures c.in_ok-known.ensures in
    refused_run n b.names b.rows s.names s.rows power c.from_residual-in_err-told.result e c.from_residual-in_err-told.ensures.1
    (unreported n c.begin.new.net b.names b.rows known s.names s.rows power e (sym c.in_ok-misfit.ensures ∙ none_of c.in_ok-misfit.field-0 c.in_default.not-Some) begun c.in_err-told.ensures)

pub returns : goal.returns
returns c =
    let n = c.args.net in
    let b = c.args.before.now in
    let s = c.args.stimulus.now in
    let power = option_map (λ word. word.now) c.args.power in
    let known = c.in_ok-known.known.items in
    let told = c.in_ok-told.told in
    let begun = subst (λ (names : List (List ℕ)). IsBegun n names b.rows known c.begin.new.net) c.in_ok-names.ensures c.in_ok-known.ensures in
    let written : c.in_ok-text.text ≡ after_line (length b.rows) ++ unknown_line (codes "unknown A ") c.begin.new.net known ++ told = cc (c.in_ok-text.ensures, c.len-rows.ensures, c.deref.ensures.value) in
    reported n b.names b.rows b.fit s.names s.rows power (fits_net n c.begin.new.net b.names b.rows known s.names power None begun c.in_ok-told.ensures.0) known c.begin.new.net told c.in_ok-text.text
    (sym c.in_ok-misfit.ensures ∙ none_of c.in_ok-misfit.field-0 c.in_default.not-Some) begun c.in_ok-told.ensures written
