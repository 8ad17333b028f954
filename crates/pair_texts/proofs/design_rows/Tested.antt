-- All nets of a design that passes the computed tests are small.
use Rattle.std.proofs.Common.{◌≡◌, ◌∙◌, ◌<◌, ℕ, true, List, [], ◌++◌, map, None, sym, ap, subst}
use Rattle.std.specs.List.{Contains, sum_by}
use Rattle.std.proofs.lemmas.List.Elements.{Contains-append_left}
use Rattle.circuit_theory.specs.Agree.{cut}
use Rattle.circuit_theory.specs.Circuit.{Circuit}
use Rattle.circuit_theory.specs.Flattened.{latch_names}
use Rattle.circuit_theory.specs.Sizes.{Weighed}
use Rattle.blif_read.specs.declared.design.BlifModel.{BlifModel}
use Rattle.blif_read.specs.Design.{Place, clock_places, circuit_of_design}
use Rattle.flat_net.specs.View.{NetView, circuit_of}
use Rattle.net_assembly.specs.net_alike.Closed.{IsClosed, is_closed}
use Rattle.net_assembly.proofs.net_alike.Testing.{is_closed-sound}
use Rattle.flatten.specs.DesignFaults.{IsFlatOf}
use Rattle.pair_texts.specs.design_rows.Ranked.{IsRanked, is_ranked}
use Rattle.job_base.proofs.design_laws.CutFlats.{closed_cuts_bound}
use Rattle.job_base.proofs.design_laws.KeptNames.{names_are_kept}
use Rattle.pair_texts.proofs.design_rows.Ranking.{is_ranked-sound, ranked_is_acyclic}
use Rattle.pair_texts.specs.design_rows.Small.{Small, IsSmall}
use Rattle.pair_texts.proofs.design_rows.Places.{is_one_place, is_one_place-sound, is_one_place-itself}

-- more latches may be left out
ranked_more : {P : Type 0} (d : Circuit P) (removed more : List (List ℕ)) (rank : P → ℕ) → IsRanked d removed rank → IsRanked d (removed ++ more) rank
ranked_more d removed more rank r = record {
  gate = r.gate;
  port = r.port;
  latch = λ name out next h kept. r.latch name out next h (λ k. kept (Contains-append_left removed more name k));
}

-- what the tests compute of a design: its rank, and the places that its unfolding visits
pub record PassesTests (models : List BlifModel) (s : Small) (rank : Place → ℕ) (spots : List (Weighed Place)) : Type 0 where
  pub no_clock : clock_places models ≡ []
  pub inputs : map (λ i. i.name) (circuit_of_design models None).inputs ≡ s.inputs
  pub outputs : map (λ o. o.name) (circuit_of_design models None).outputs ≡ s.outputs
  pub latches : latch_names (circuit_of_design models None).equations ≡ s.latches
  pub ranked : is_ranked (circuit_of_design models None) s.removed rank ≡ true
  pub closed : is_closed is_one_place (cut s.removed (circuit_of_design models None)) spots ≡ true
  pub weight : sum_by (λ (x : Weighed Place). x.weight) spots ≡ s.weight

pub tested_is_small : (models : List BlifModel) (s : Small) (rank : Place → ℕ) (spots : List (Weighed Place)) → PassesTests models s rank spots → (net : NetView) → IsFlatOf models net → IsSmall s net
tested_is_small models s rank spots passes net f =
    let names = names_are_kept models net f in
    let none : net.clock ≡ None = names.unclocked passes.no_clock in
    let d : Circuit Place = circuit_of_design models None in
    let own : circuit_of_design models net.clock ≡ circuit_of_design models None = ap (circuit_of_design models) none in
    let latches : latch_names (circuit_of net).equations ≡ s.latches = names.latches ∙ ap (λ (c : Circuit Place). latch_names c.equations) own ∙ passes.latches in
    record {
      unclocked = none;
      inputs = names.inputs ∙ ap (λ (c : Circuit Place). map (λ i. i.name) c.inputs) own ∙ passes.inputs;
      outputs = names.outputs ∙ ap (λ (c : Circuit Place). map (λ o. o.name) c.outputs) own ∙ passes.outputs;
      latches = latches;
      counted = names.counted ∙ latches;
      acyclic = λ more.
          ranked_is_acyclic models net (s.removed ++ more) rank f
          (subst (λ (c : Circuit Place). IsRanked c (s.removed ++ more) rank) (sym own)
          (ranked_more (circuit_of_design models None) s.removed more rank (is_ranked-sound (circuit_of_design models None) s.removed rank passes.ranked)));
      light = λ cap over.
          subst (λ (w : ℕ). cap < w) passes.weight
          (closed_cuts_bound models net s.removed spots f
          (subst (λ (c : Circuit Place). IsClosed (cut s.removed c) spots) (sym own)
          (is_closed-sound is_one_place is_one_place-sound is_one_place-itself (cut s.removed (circuit_of_design models None)) spots passes.closed)) cap over);
    }
