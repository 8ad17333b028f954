-- What was visited is counted with what was counted before.
use Rattle.std.proofs.Common.{ℕ, List, [], ◌∷◌, None, Err, refl, sym, ap, subst, arith}
use Rattle.std.specs.List.{All, Contains}
use Rattle.std.proofs.lemmas.Result.{err_from_is_err_and}
use Rattle.event_nodes.specs.event_variables.flat_net.View.{NetView}
use Rattle.event_nodes.specs.Visited.{IsWeighed, HoldsVisits, IsVisitedPair}
use Rattle.event_nodes.proofs.Growing.{grows_trans}
use Rattle.event_nodes.proofs.Lists.{adds_none}
use Rattle.edbf_unfold.specs.event_literals.event_walk.Walk.{HasCountedStart, IsCounting}
use Rattle.edbf_unfold.specs.Reached.{IsReachOf}
use Rattle.event_nodes.proofs.event_variables.Meaning.{visited_inputs}
use Rattle.edbf_unfold.proofs.event_literals.Known.{known_at_later}
use Rattle.event_classes.specs.event_functions.Functions.{signal_start}
use Rattle.event_classes.specs.event_functions.Refused.{IsOverweight}
use Rattle.event_classes.proofs.event_functions.Refusing.{error_is, refused_memory, refused_value}
use Rattle.event_classes.proofs.event_functions.Growing.{care_lit_later}
use Rattle.event_classes.proofs.event_functions.Totaling.{own_visited, signals_of, nodes_of, total_counting, total_counted, total_over, children_same}
use Rattle.event_classes.proofs.event_functions.signals.unfold_signal.Goals as goal

pub count_all-requires-clause-weighed : goal.count_all-requires-clause-weighed
count_all-requires-clause-weighed c =
    subst (λ (n : NetView). IsWeighed n c.args.total.now) (sym c.net.ensures) c.requires.weighed

pub count_all-requires-clause-signals : goal.count_all-requires-clause-signals
count_all-requires-clause-signals c =
    signals_of c.args.circuit.now (signal_start c.args.s.0) c.args.events.now.children c.visit_signal.new.events.children c.new-visits.result c.visit_signal.new.visits c.new-visits.ensures c.visit_signal.ensures.counting c.net.result.now c.net.ensures

pub visited_variables-requires-clause-nodes : goal.visited_variables-requires-clause-nodes
visited_variables-requires-clause-nodes c =
    nodes_of c.args.circuit.now (signal_start c.args.s.0) c.args.events.now.children c.visit_signal.new.events.children c.new-visits.result c.visit_signal.new.visits c.new-visits.ensures c.visit_signal.ensures.counting

pub visited_variables-requires-clause-signals : goal.visited_variables-requires-clause-signals
visited_variables-requires-clause-signals c =
    signals_of c.args.circuit.now (signal_start c.args.s.0) c.args.events.now.children c.visit_signal.new.events.children c.new-visits.result c.visit_signal.new.visits c.new-visits.ensures c.visit_signal.ensures.counting c.args.circuit.now.net refl

pub visited_variables-requires-clause-room : goal.visited_variables-requires-clause-room
visited_variables-requires-clause-room c =
    let k = (c.in_ok-made.ensures.counted).on.weighed in omega (arith, k.few, k.small, c.in_ok-made.ensures.places)

pub returns-in_err-made-clause-counting : goal.returns-in_err-made-clause-counting
returns-in_err-made-clause-counting c =
    total_counting c.args.circuit.now (signal_start c.args.s.0) c.args.events.now.children c.visit_signal.new.events.children c.new-visits.result c.visit_signal.new.visits c.new-visits.ensures c.visit_signal.ensures.counting c.args.total.now c.args.total.now (adds_none (Contains c.visit_signal.new.visits.places) c.args.total.now.places c.args.total.now.places refl)

pub returns-in_err-made-clause-refused : goal.returns-in_err-made-clause-refused
returns-in_err-made-clause-refused c =
    let p = err_from_is_err_and c.from_residual.result c.from_residual.ensures.1 in
    rw (p.1, p.2) (record { many = λ is. c.in_err-made.ensures.many (ap Err (error_is is)); few = λ is. (c.in_err-made.ensures.large (ap Err (error_is is))).1; large = λ is starts h before. (c.in_err-made.ensures.large (ap Err (error_is is))).0 starts h })

pub returns-in_err-count_all-clause-counting : goal.returns-in_err-count_all-clause-counting
returns-in_err-count_all-clause-counting c =
    total_counting c.args.circuit.now (signal_start c.args.s.0) c.args.events.now.children c.visit_signal.new.events.children c.new-visits.result c.visit_signal.new.visits c.new-visits.ensures c.visit_signal.ensures.counting c.args.total.now c.count_all.new.total c.count_all.ensures.adds

pub returns-in_err-count_all-clause-refused : goal.returns-in_err-count_all-clause-refused
returns-in_err-count_all-clause-refused c =
    let p = err_from_is_err_and c.from_residual-in_err-count_all.result c.from_residual-in_err-count_all.ensures.1 in
    rw (p.1, p.2) (record {
      many = λ is. absurd (c.in_err-count_all.ensures.many (ap Err (error_is is)));
      few = λ is. record { few = (c.in_ok-made.ensures.counted).on.few; all = λ depths. (c.in_ok-made.ensures.counted).nodes };
      large = λ is starts h before. total_over c.args.circuit.now (signal_start c.args.s.0) c.args.events.now.children c.visit_signal.new.events.children c.new-visits.result c.visit_signal.new.visits c.new-visits.ensures c.visit_signal.ensures.counting c.visit_signal.new.events c.keeps.ensures.sound c.keeps-2.ensures.events refl c.args.total.now.places c.count_all.new.total.places
          (subst (λ (n : NetView). IsOverweight n c.count_all.new.total.places) c.net.ensures (c.in_err-count_all.ensures.large (ap Err (error_is is)))) c.count_all.ensures.adds starts h before;
    })

pub returns-in_err-vars-clause-counting : goal.returns-in_err-vars-clause-counting
returns-in_err-vars-clause-counting c =
    subst (λ (es : List (ℕ × ℕ)). IsCounting c.args.circuit.now (signal_start c.args.s.0) c.args.events.now.children es c.args.total.now c.count_all.new.total) (sym (children_same c.visit_signal.new.events c.visited_variables.new.events c.visited_variables.ensures.same)) (total_counting c.args.circuit.now (signal_start c.args.s.0) c.args.events.now.children c.visit_signal.new.events.children c.new-visits.result c.visit_signal.new.visits c.new-visits.ensures c.visit_signal.ensures.counting c.args.total.now c.count_all.new.total c.count_all.ensures.adds)

pub returns-clause-counting : goal.returns-clause-counting
returns-clause-counting c =
    subst (λ (es : List (ℕ × ℕ)). IsCounting c.args.circuit.now (signal_start c.args.s.0) c.args.events.now.children es c.args.total.now c.count_all.new.total) (sym (children_same c.visit_signal.new.events c.visited_variables.new.events c.visited_variables.ensures.same)) (total_counting c.args.circuit.now (signal_start c.args.s.0) c.args.events.now.children c.visit_signal.new.events.children c.new-visits.result c.visit_signal.new.visits c.new-visits.ensures c.visit_signal.ensures.counting c.args.total.now c.count_all.new.total c.count_all.ensures.adds)

pub returns-clause-counted : goal.returns-clause-counted
returns-clause-counted c =
    subst (λ (es : List (ℕ × ℕ)). HasCountedStart c.args.circuit.now (signal_start c.args.s.0) es c.args.total.now c.count_all.new.total) (sym (children_same c.visit_signal.new.events c.visited_variables.new.events c.visited_variables.ensures.same))
    (total_counted c.args.circuit.now (signal_start c.args.s.0) c.visit_signal.new.events.children c.args.total.now c.count_all.new.total c.new-visits.result c.visit_signal.new.visits (c.in_ok-made.ensures.counted) c.count_all.ensures.adds c.in_ok-count_all.ensures.all (subst (λ (n : NetView). IsWeighed n c.count_all.new.total) c.net.ensures c.in_ok-count_all.ensures.weighed))

pub returns-clause-function : goal.returns-clause-function
returns-clause-function c =
    record {
      value = known_at_later c.args.circuit.now c.visit_signal.new.events c.visited_variables.new.events c.keeps-2.ensures.events c.visited_variables.ensures.grows None c.args.s.0 [] c.in_ok-made.made.value.0 (c.in_ok-made.ensures.here).0;
      care = care_lit_later c.args.circuit.now c.visit_signal.new.events c.visited_variables.new.events c.keeps-2.ensures.events c.visited_variables.ensures.grows (signal_start c.args.s.0) c.in_ok-made.made.care.0 (c.in_ok-made.ensures.here).1;
      vars = visited_inputs c.args.circuit.now c.visited_variables.new.events (signal_start c.args.s.0) c.visit_signal.new.visits.places c.in_ok-vars.vars c.keeps.ensures.sound c.keeps-3.ensures.events
          (subst (λ (es : List (ℕ × ℕ)). All (IsVisitedPair c.args.circuit.now es ((signal_start c.args.s.0) ∷ [])) c.visit_signal.new.visits.places) (sym (children_same c.visit_signal.new.events c.visited_variables.new.events c.visited_variables.ensures.same)) (own_visited c.args.circuit.now (signal_start c.args.s.0) c.args.events.now.children c.visit_signal.new.events.children c.new-visits.result c.visit_signal.new.visits c.new-visits.ensures c.visit_signal.ensures.counting))
          (subst (λ (es : List (ℕ × ℕ)). HoldsVisits c.args.circuit.now es (signal_start c.args.s.0) c.visit_signal.new.visits.places) (sym (children_same c.visit_signal.new.events c.visited_variables.new.events c.visited_variables.ensures.same)) (c.in_ok-made.ensures.counted).holds) c.in_ok-vars.ensures.variables;
      reach = subst (λ (es : List (ℕ × ℕ)). IsReachOf c.args.circuit.now es (signal_start c.args.s.0) c.in_ok-made.made.nodes c.in_ok-made.made.only_always) (sym (children_same c.visit_signal.new.events c.visited_variables.new.events c.visited_variables.ensures.same)) c.in_ok-made.ensures.reach;
    }

pub returns-clause-grows : goal.returns-clause-grows
returns-clause-grows c =
    grows_trans c.args.events.now c.visit_signal.new.events c.visited_variables.new.events c.visit_signal.ensures.grows c.visited_variables.ensures.grows

pub returns-in_err-made-clause-grows : goal.returns-in_err-made-clause-grows
returns-in_err-made-clause-grows c = c.visit_signal.ensures.grows

pub returns-in_err-count_all-clause-grows : goal.returns-in_err-count_all-clause-grows
returns-in_err-count_all-clause-grows c = c.visit_signal.ensures.grows

pub returns-in_err-vars-clause-grows : goal.returns-in_err-vars-clause-grows
returns-in_err-vars-clause-grows c = grows_trans c.args.events.now c.visit_signal.new.events c.visited_variables.new.events c.visit_signal.ensures.grows c.visited_variables.ensures.grows

pub returns-in_err-vars-clause-refused : goal.returns-in_err-vars-clause-refused
returns-in_err-vars-clause-refused c =
    let p = err_from_is_err_and c.from_residual-in_err-vars.result c.from_residual-in_err-vars.ensures.1 in
    rw (p.1, p.2) (refused_memory c.args.circuit.now c.args.events.now.children c.visited_variables.new.events.children (signal_start c.args.s.0) c.args.total.now.places)

pub returns-clause-refused : goal.returns-clause-refused
returns-clause-refused c = refused_value _ _ _ _ _ _
