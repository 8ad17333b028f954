-- Circuits agree where the queries of all pairs have sides that agree.
use Rattle.std.proofs.Common.{length}
use Rattle.circuit_theory.specs.Joined.{Left, Right}
use Rattle.circuit_laws.proofs.event_laws.EventAgreement.{event_functions_agree_in_nets}
use Rattle.class_search.specs.flat_net.View.{circuit_of}
use Rattle.class_search.proofs.flat_net.Nets.{sound_is_net}
use Rattle.edbf_unfold.specs.class_queries.Enables.{both_of, class_map}
use Rattle.edbf_unfold.proofs.class_queries.Meaning.{numbered}
use Rattle.event_form.specs.event_agreement.Laws.{SameQueriesAgree}
use Rattle.event_form.proofs.event_agreement.PairQueries.{same_events}

pub queries_agree : SameQueriesAgree
queries_agree a b w kept classes depths numbers same =
    event_functions_agree_in_nets (circuit_of a.net) (circuit_of b.net) (length a.net.drivers) (length b.net.drivers) a.order b.order (class_map a b) (sound_is_net a.net kept.left_sound) (sound_is_net b.net kept.right_sound) numbers (numbered a kept.left) (numbered b kept.right) classes depths
    (λ p q pair. let k = same p q pair in same_events (both_of a b) w (Left p) (Right q) k.query kept.events k.asks k.same)
