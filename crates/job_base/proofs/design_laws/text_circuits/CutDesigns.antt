-- What a sequence shows of two nets with latches cut out it shows of their designs with these cut out.
use Rattle.std.proofs.Common.{ℕ, List}
use Rattle.circuit_theory.specs.Circuit.{Circuit}
use Rattle.job_base.proofs.design_laws.CutFlats.{cut_design, follows}
use Rattle.job_base.proofs.design_laws.FlatParts.{FlatDesign, latch_up, output_up}
use Rattle.witness_report.specs.declared.witness.PairName.{PairName}
use Rattle.witness_report.specs.declared.witness.PairName.TheVariants as pair
use Rattle.witness_report.specs.declared.witness.Witness.{Witness}
use Rattle.witness_report.specs.Shown.{ArePlacesOf, MakesCutsDiffer}
use Rattle.job_base.proofs.design_laws.text_circuits.Designs.{StandsFor, shown_side}

-- a place stands for its signal also where latches are cut out
stands_cut : {P : Type 0} {d : Circuit P} {net : Circuit ℕ} {clocked : P → Type 0} (f : FlatDesign d net clocked) (names : List (List ℕ)) (p : P) (s : ℕ) → StandsFor f p s → StandsFor (cut_design names f) p s
stands_cut {d = d} {net = net} {clocked = clocked} f names p s stands = record { signal = stands.signal; follows = follows names d net f.size clocked f.origin f.signal f.circuit stands.follows }

module _ {P Q : Type 0} {a : Circuit P} {b : Circuit Q} {na nb : Circuit ℕ} {clocked_a : P → Type 0} {clocked_b : Q → Type 0} (f : FlatDesign a na clocked_a) (g : FlatDesign b nb clocked_b) (names : List (List ℕ)) where
  -- the places of a pair
  record PlacesFor (name : PairName) (i j : ℕ) : Type 0 where
    pub left : P
    pub right : Q
    pub places : ArePlacesOf a b name left right
    pub left_stands : StandsFor f left i
    pub right_stands : StandsFor g right j

  places_up : (name : PairName) (i j : ℕ) → ArePlacesOf na nb name i j → PlacesFor name i j
  places_up (pair.Output name) i j h =
      let x = output_up f name i h.0 in
      let y = output_up g name j h.1 in
      record {
        left = x.0;
        right = y.0;
        places = (x.1, y.1);
        left_stands = record { signal = x.2; follows = (f.circuit.shown name x.0 x.1).follows };
        right_stands = record { signal = y.2; follows = (g.circuit.shown name y.0 y.1).follows };
      }
  places_up (pair.Next name) i j h =
      let x = latch_up f name h.0.0 i h.0.1 in
      let y = latch_up g name h.1.0 j h.1.1 in
      record {
        left = x.takes;
        right = y.takes;
        places = ((f.origin h.0.0, x.latch), (g.origin h.1.0, y.latch));
        left_stands = record { signal = x.takes_is; follows = (f.circuit.taken name (f.origin h.0.0) x.takes x.latch).1.follows };
        right_stands = record { signal = y.takes_is; follows = (g.circuit.taken name (g.origin h.1.0) y.takes y.latch).1.follows };
      }

  pub cuts_differ_up : (w : Witness) → MakesCutsDiffer names na nb w → MakesCutsDiffer names a b w
  cuts_differ_up w shows =
      let x = places_up w.pair shows.left_place shows.right_place shows.places in
      record {
        left_place = x.left;
        right_place = x.right;
        places = x.places;
        differ = shows.differ;
        left_shows = shown_side (cut_design names f) w x.left shows.left_place w.left (stands_cut f names x.left shows.left_place x.left_stands) shows.left_shows;
        right_shows = shown_side (cut_design names g) w x.right shows.right_place w.right (stands_cut g names x.right shows.right_place x.right_stands) shows.right_shows;
      }
