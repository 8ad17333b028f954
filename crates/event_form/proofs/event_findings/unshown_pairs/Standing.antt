-- Where what tells two classes apart stands, and that its frame can be told.
use Rattle.std.proofs.Common.{◌≡◌, ◌∙◌, ◌+◌, ◌-◌, ◌*◌, ◌/◌, ◌<◌, ◌≤◌, ℕ, List, length, get_or, slice_get, Option, Some, None, sym, ap, subst}
use Rattle.std.specs.List.{All}
use Rattle.std.proofs.lemmas.Option.{slice_get-get_or, slice_get_within}
use Rattle.circuit_theory.specs.Joined.{Either}
use Rattle.circuit_theory.proofs.Lists.{length-map}
use Rattle.circuit_theory.specs.Frame.{EventSide}
use Rattle.flat_net.proofs.Places.{one_at}
use Rattle.sec_base.specs.declared.basics.Tag.{Tag}
use Rattle.event_nodes.specs.Nodes.{EventGraphView}
use Rattle.class_search.specs.event_variables.Variables.{variable_of}
use Rattle.class_search.specs.declared.class_separations.apart.Apart.{Apart}
use Rattle.class_search.specs.class_separations.Apart.{IsApart, IsSeparationBy, number_of}
use Rattle.event_form.specs.event_findings.unshown_pairs.class_events.Separated.{AreSeparated}
use Rattle.event_form.proofs.event_findings.unshown_pairs.class_events.Pairs.{pairs_are}
use Rattle.event_form.specs.event_agreement.pair_events.View.{EventsView}

-- there are as many bits as variables
pub apart_each : (s : EventSide (Either ℕ ℕ)) (w : EventGraphView) (place : Tag → Either ℕ ℕ) (order : List (Either ℕ ℕ)) (low high : ℕ) (x : Apart) → IsApart s w place order low high x → length x.bits ≡ length x.vars
apart_each s w place order low high x is = go x.low is.separates
  where
    go : (t : Option Tag) → IsSeparationBy s w place order low high x t → length x.bits ≡ length x.vars
    go None h = h.3.each ∙ length-map (variable_of w) x.vars
    go (Some t) h = h.1.each ∙ length-map (variable_of w) x.vars

-- the place in the list
abbrev pub place_at : ℕ → ℕ → ℕ
place_at low high = high * (high - 1) / 2 + low

module _ (e : EventsView) (aparts : List Apart) (sep : AreSeparated e aparts) (low high : ℕ) (below : low < high) (within : high ≤ e.count) where
  same_place : number_of low high ≡ place_at low high
  same_place = ap (λ (k : ℕ). k + low) (pairs_are high)

  pub place_within : place_at low high < length aparts
  place_within =
      let x = sep.apart.each low high below within in
      subst (λ (k : ℕ). k < length aparts) same_place (slice_get_within aparts (number_of low high) x.0 x.1)

  module _ (x : Apart) (is : x ≡ get_or aparts (place_at low high) x) where
    pub stands_at : slice_get aparts (number_of low high) ≡ Some x
    stands_at = subst (λ (k : ℕ). slice_get aparts k ≡ Some x) (sym same_place) (slice_get-get_or aparts (place_at low high) x place_within ∙ ap Some (sym is))

    own : (y : Apart) × (slice_get aparts (number_of low high) ≡ Some y) × All (λ v. v < length e.events.places) y.vars × (length y.bits ≡ length y.vars)
    own = let y = sep.apart.each low high below within in (y.0, y.1, y.2.within, apart_each _ _ _ _ low high y.0 y.2)

    same : own.0 ≡ x
    same = one_at aparts (number_of low high) own.0 x own.1 stands_at

    pub vars_within : All (λ v. v < length e.events.places) x.vars
    vars_within = subst (λ (y : Apart). All (λ v. v < length e.events.places) y.vars) same own.2

    pub bits_each : length x.bits ≡ length x.vars
    bits_each = subst (λ (y : Apart). length y.bits ≡ length y.vars) same own.3
