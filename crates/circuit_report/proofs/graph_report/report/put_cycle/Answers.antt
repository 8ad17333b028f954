-- The line of the latches at the places that the graph tells.
use Rattle.std.proofs.Common.{◌≡◌, ◌∙◌, ◌++◌, ℕ, List, Option, Some, None, map, get_or, sym, ap, subst}
use Rattle.std.specs.Prelude.{option_map}
use Rattle.circuit_theory.proofs.Lists.{map-map}
use Rattle.flat_net.specs.declared.parts.LatchAt.{LatchAt}
use Rattle.flat_net.specs.Cut.{no_latch, latch_at}
use Rattle.witness_report.specs.Text.{names_text}
use Rattle.circuit_report.specs.graph_report.Report.{IsFound}
use Rattle.circuit_report.proofs.graph_report.Lines.{on_ok, three_pieces}
use Rattle.circuit_report.proofs.graph_report.report.put_cycle.Goals as goal

pub returns-in_ok-put_names-in-Some : goal.returns-in_ok-put_names-in-Some
returns-in_ok-put_names-in-Some c = λ mode is.
    let n = c.args.net.now in
    let places = c.in-Some.places in
    let found = subst (λ (o : Option (List ℕ)). IsFound mode n (option_map (map (latch_at n)) o)) c.in-Some.is (c.in_ok-places.ensures.found mode is) in
    let names : map (λ j. (get_or c.latches.result.now j no_latch).name) c.as_slice.result.now ≡ map (λ (l : LatchAt). l.name) (map (latch_at n) places) =
    ap (λ (latches : List LatchAt). map (λ j. (get_or latches j no_latch).name) c.as_slice.result.now) c.latches.ensures
    ∙ (ap (map (λ j. (get_or n.latches j no_latch).name)) c.as_slice.ensures ∙ sym (map-map (λ (l : LatchAt). l.name) (latch_at n) places)) in
    on_ok c.put-in-Some.result (λ put. record {
      cycle = Some (map (latch_at n) places);
      found = found;
      text_is = three_pieces _ _ _ _ _ _ _ c.in_ok-put-in-Some.ensures.ok (c.in_ok-put_names-in-Some.ensures ∙ ap (λ names. c.put.new.text.items ++ names_text names) names) put;
    }) c.put-in-Some.ensures.ok

pub returns-in-None : goal.returns-in-None
returns-in-None c = λ mode is.
    let n = c.args.net.now in
    let found = subst (λ (o : Option (List ℕ)). IsFound mode n (option_map (map (latch_at n)) o)) c.in-None.is (c.in_ok-places.ensures.found mode is) in
    on_ok c.put-in-None.result (λ put. record { cycle = None; found = found; text_is = put }) c.put-in-None.ensures.ok
