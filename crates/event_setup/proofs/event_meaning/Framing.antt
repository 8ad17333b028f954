-- The frame that is told of a pair that isn't shown.
use Rattle.std.proofs.Common.{◌≡◌, ◌∙◌, ℕ, Bool, List, [], ◌∷◌, map, slice_get, Some, sym, subst}
use Rattle.std.specs.List.{AllZip, Contains}
use Rattle.circuit_theory.specs.Joined.{Left, Right}
use Rattle.circuit_theory.specs.Query.{Variable}
use Rattle.circuit_theory.proofs.Lists.{Contains-map, of_at}
use Rattle.circuit_theory.specs.EventFrames.{IsUnshownFrame}
use Rattle.witness_report.specs.declared.frame_report.frame.Spot.{Spot}
use Rattle.sec_setup.specs.ports.Pairs.{NamedPair, places_of}
use Rattle.sec_setup.specs.Cuts.{columns_of}
use Rattle.edbf_unfold.specs.class_queries.Enables.{both_of}
use Rattle.event_setup.specs.event_meaning.event_names.event_fits.FrameBit.{FrameBit}
use Rattle.event_setup.specs.event_meaning.event_names.event_fits.Told as told
use Rattle.event_setup.specs.event_meaning.event_names.event_fits.Findings.{VerdictFits}
use Rattle.event_setup.specs.event_meaning.Laws.{UnshownOutcomesAreFramed}
use Rattle.event_setup.specs.event_meaning.event_names.event_fits.Named.{latch_names, NamesSpot}
use Rattle.event_setup.specs.event_meaning.event_names.event_fits.Shown.{TellsVariable, TellsFrame}
use Rattle.event_setup.proofs.event_meaning.Cases.{compared, events_found, unshown_no_limit}

-- what is told of each is told of what names it
each_named : {X Y Z : Type 0} (R : X → Y → Type 0) (S : Y → Z → Type 0) (T : X → Z → Type 0) → ((x : X) (y : Y) (z : Z) → R x y → S y z → T x z) → (xs : List X) (ys : List Y) (zs : List Z) → AllZip R xs ys → AllZip S ys zs → AllZip T xs zs
each_named R S T to [] [] [] h k = tt
each_named R S T to [] [] (z ∷ zs) h k = absurd k
each_named R S T to [] (y ∷ ys) zs h k = absurd h
each_named R S T to (x ∷ xs) [] zs h k = absurd h
each_named R S T to (x ∷ xs) (y ∷ ys) [] h k = absurd k
each_named R S T to (x ∷ xs) (y ∷ ys) (z ∷ zs) h k = (to x y z h.0 k.0, each_named R S T to xs ys zs h.1 k.1)

frame_told : (columns : List (List ℕ)) (variables : List (Variable (List ℕ))) (bits : List Bool) (frame : List FrameBit) (spots : List Spot) → told.TellsBits variables bits frame → AllZip (NamesSpot columns) frame spots → TellsFrame columns variables bits spots
frame_told columns variables bits frame spots h names = record {
  told = each_named told.TellsVariable (NamesSpot columns) (TellsVariable columns) (λ v x s k n. record { path = n.path ∙ k.path; input = subst (λ i. slice_get columns i ≡ Some s.input) k.input n.input }) variables frame spots h.told names;
  each = each_named (λ (bit : Bool) (x : FrameBit). x.bit ≡ bit) (NamesSpot columns) (λ (bit : Bool) (s : Spot). s.bit ≡ bit) (λ bit x s k n. n.bit ∙ k) bits frame spots h.each names;
}

pub unshown_outcomes : UnshownOutcomesAreFramed
unshown_outcomes a b expose conflicts o fits u e =
    let c = compared a b expose conflicts o fits (unshown_no_limit o.verdict u e) in
    let x = events_found (latch_names c.left.net) (latch_names c.right.net) (columns_of a b o.exposed) c.found.verdict o.verdict u c.verdict_is e in
    let f = (subst (VerdictFits c.left c.right c.compared c.found.pairs) x.1 c.fits.verdict_is).2 in
    record {
      left = c.left;
      right = c.right;
      circuits = c.reached.circuits;
      map = c.made.map;
      place = places_of f.place;
      listed = subst (λ (xs : List (NamedPair ℕ ℕ)). Contains xs (places_of f.place)) c.listed (Contains-map places_of c.compared.pairs.now f.place (of_at c.compared.pairs.now f.index f.place f.first.pair_at));
      named = x.2.pair ∙ f.named;
      others = λ left right. f.apart.others (left, right);
      variables = f.frame.variables;
      bits = f.frame.bits;
      frame = subst (λ l. IsUnshownFrame (both_of c.left c.right) (Left f.place.left.0) (Right f.place.right.0) f.frame.variables f.frame.bits l u.right) (sym x.2.left_value)
          (subst (λ r. IsUnshownFrame (both_of c.left c.right) (Left f.place.left.0) (Right f.place.right.0) f.frame.variables f.frame.bits x.0.frame.left r) (sym x.2.right_value) f.frame.shown);
      told = frame_told (columns_of a b o.exposed) f.frame.variables f.frame.bits x.0.frame.frame.items u.frame.spots f.frame.told x.2.frame;
    }
