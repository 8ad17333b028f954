-- The frame that is told of a pair that isn't shown under an assumption.
use Rattle.std.proofs.Common.{◌≡◌, ◌∙◌, ℕ, Bool, List, [], ◌∷◌, slice_get, Some, sym, subst}
use Rattle.std.specs.List.{AllZip, Contains}
use Rattle.circuit_theory.specs.Joined.{Left, Right}
use Rattle.circuit_theory.specs.Query.{Variable}
use Rattle.circuit_theory.proofs.Lists.{Contains-map, of_at}
use Rattle.witness_report.specs.declared.frame_report.frame.Spot.{Spot}
use Rattle.sec_setup.specs.ports.Pairs.{NamedPair, places_of}
use Rattle.sec_setup.specs.Cuts.{columns_of}
use Rattle.edbf_unfold.specs.class_queries.Enables.{both_of}
use Rattle.event_setup.proofs.event_meaning.Cases.{events_found, unshown_no_limit}
use Rattle.assume_laws.specs.Sequences.{IsUnshownFrameUnder}
use Rattle.event_under.specs.event_shown_under.event_under_fits.Findings.{VerdictFitsUnder}
use Rattle.event_setup.specs.event_meaning.event_names.event_fits.FrameBit.{FrameBit}
use Rattle.event_setup.specs.event_meaning.event_names.event_fits.Told as told
use Rattle.event_setup.specs.event_meaning.event_names.event_fits.Named.{latch_names, NamesSpot}
use Rattle.event_setup.specs.event_meaning.event_names.event_fits.Shown.{TellsVariable, TellsFrame}
use Rattle.event_setup.specs.event_meaning.event_meaning_under.Laws.{UnshownOutcomesAreFramedUnder}
use Rattle.event_setup.proofs.event_meaning.event_meaning_under.Comparing.{compared_under}

-- what is told of each is told of what names it
each_named : {X Y Z : Type 0} (R : X → Y → Type 0) (S : Y → Z → Type 0) (T : X → Z → Type 0) → ((x : X) (y : Y) (z : Z) → R x y → S y z → T x z) → (xs : List X) (ys : List Y) (zs : List Z) → AllZip R xs ys → AllZip S ys zs → AllZip T xs zs
each_named R S T to [] [] [] h k = tt
each_named R S T to [] [] (z ∷ zs) h k = absurd k
each_named R S T to [] (y ∷ ys) zs h k = absurd h
each_named R S T to (x ∷ xs) [] zs h k = absurd h
each_named R S T to (x ∷ xs) (y ∷ ys) [] h k = absurd k
each_named R S T to (x ∷ xs) (y ∷ ys) (z ∷ zs) h k = (to x y z h.0 k.0, each_named R S T to xs ys zs h.1 k.1)

frame_told : (columns : List (List ℕ)) (variables : List (Variable (List ℕ))) (bits : List Bool) (frame : List FrameBit) (spots : List Spot) → told.TellsBits variables bits frame → AllZip (NamesSpot columns) frame spots → TellsFrame columns variables bits spots
frame_told columns variables bits frame spots h names = record {
  told = each_named told.TellsVariable (NamesSpot columns) (TellsVariable columns) (λ v x s k n. record { path = n.path ∙ k.path; input = subst (λ i. slice_get columns i ≡ Some s.input) k.input n.input }) variables frame spots h.told names;
  each = each_named (λ (bit : Bool) (x : FrameBit). x.bit ≡ bit) (NamesSpot columns) (λ (bit : Bool) (s : Spot). s.bit ≡ bit) (λ bit x s k n. n.bit ∙ k) bits frame spots h.each names;
}

pub unshown_outcomes : UnshownOutcomesAreFramedUnder
unshown_outcomes c weight meeting a b expose conflicts o fits u e =
    let k = compared_under c weight meeting a b expose conflicts o fits (unshown_no_limit o.verdict u e) in
    let x = events_found (latch_names k.left.net) (latch_names k.right.net) (columns_of a b o.exposed) k.found.verdict o.verdict u k.verdict_is e in
    let f = (subst (VerdictFitsUnder c k.left k.right meeting k.compared k.found.pairs) x.1 k.fits.verdict_is).2 in
    record {
      left = k.left;
      right = k.right;
      circuits = k.reached.circuits;
      map = k.made.map;
      place = places_of f.place;
      listed = subst (λ (xs : List (NamedPair ℕ ℕ)). Contains xs (places_of f.place)) k.listed (Contains-map places_of k.compared.pairs.now f.place (of_at k.compared.pairs.now f.index f.place f.first.pair_at));
      named = x.2.pair ∙ f.named;
      others = λ left right. f.apart.others (left, right);
      variables = f.frame.variables;
      bits = f.frame.bits;
      frame = subst (λ l. IsUnshownFrameUnder c (both_of k.left k.right) (Left f.place.left.0) (Right f.place.right.0) f.frame.variables f.frame.bits l u.right) (sym x.2.left_value)
          (subst (λ r. IsUnshownFrameUnder c (both_of k.left k.right) (Left f.place.left.0) (Right f.place.right.0) f.frame.variables f.frame.bits x.0.frame.left r) (sym x.2.right_value) f.frame.shown);
      told = frame_told (columns_of a b o.exposed) f.frame.variables f.frame.bits x.0.frame.frame.items u.frame.spots f.frame.told x.2.frame;
    }
