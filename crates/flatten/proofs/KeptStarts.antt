-- Initial values and names of a net are those of the design.
use Rattle.std.proofs.Common.{◌≡◌, ◌∙◌, ◌<◌, ℕ, Bool, true, false, List, [], ◌∷◌, ◌++◌, map, length, filter_map, option_map, slice_get, Option, Some, None, refl, sym, ap, ap₂, subst, arith}
use Rattle.std.specs.List.{Contains, list_all, cons_option}
use Rattle.std.specs.Prelude.{◌≤◌}
use Rattle.std.proofs.lemmas.Option.{none-some, slice_get-get_or}
use Rattle.circuit_theory.specs.Circuit.{Started}
use Rattle.circuit_theory.specs.Joined.{moved_start}
use Rattle.circuit_theory.proofs.Lists.{map-map, map_same, Contains-map_from, filter_map-from, at_of}
use Rattle.circuit_theory.proofs.Numbers.{slice_get-map}
use Rattle.sec_base.specs.declared.basics.Edge.{Edge}
use Rattle.sec_base.specs.declared.basics.Init.{Init}
use Rattle.sec_base.specs.declared.basics.Init.TheVariants as init
use Rattle.blif_read.specs.declared.design.BlifModel.{BlifModel}
use Rattle.blif_read.specs.declared.design.Statement.TheVariants.{Names, Latch, Subckt}
use Rattle.blif_read.specs.Design.{Inside, Place, name_of, Item, At, Enter, Pairing, is_input_formal, place_at, start_at, start_of, main_walk, circuit_of_design}
use Rattle.blif_read.specs.Kept.{is_plain, written_names, covers_fit}
use Rattle.flat_net.specs.declared.parts.LatchAt.{LatchAt}
use Rattle.flat_net.specs.View.{NetView, circuit_of, start_of as net_start}
use Rattle.elaborate.specs.declared.flat.Flat.{Flat}
use Rattle.elaborate.specs.declared.flat.FlatStatement.{FlatStatement}
use Rattle.elaborate.specs.declared.flat.FlatKind.{FlatKind}
use Rattle.elaborate.specs.declared.flat.FlatKind.TheVariants as kind
use Rattle.elaborate.specs.Flat.{FlatDesign, FlatOf, Kind, gate, latch, port, named_kind, named_statement, flat_port, flat_of, name_at, kind_of, statement_of, start_from, start_by}
use Rattle.elaborate.specs.Walked.{IsWalked}
use Rattle.elaborate.proofs.Numbered.{origin_in}
use Rattle.flatten.specs.connectivity.Wiring.{joined, wires_of}
use Rattle.flatten.specs.connectivity.Wired.{WiredView, IsWired}
use Rattle.flatten.specs.Clocked.{numbered_circuit, number_at}
use Rattle.flatten.specs.Gated.{made_by, spot}
use Rattle.flatten.specs.Graph.{graph_of}
use Rattle.flatten.specs.Made.{latch_by, IsMade}
use Rattle.net_assembly.specs.Order.{IsOrder}
use Rattle.flatten.proofs.NumberClocks.{placed, place_name}
use Rattle.flatten.proofs.Spotted.{number_back}

-- what an option holds stands first
cons_moved : {X Y : Type 0} (f : X → Y) (o : Option X) (xs : List X) → cons_option (option_map f o) (map f xs) ≡ map f (cons_option o xs)
cons_moved f None xs = refl
cons_moved f (Some x) xs = refl

-- initial values by other names
start_moved : {P Q : Type 0} (f : P → Q) (out : P) (k : Kind P) → start_by (f out) (named_kind f k) ≡ option_map (moved_start f) (start_by out k)
start_moved f out (gate cover) = refl
start_moved f out (latch edge control init.Zero) = refl
start_moved f out (latch edge control init.One) = refl
start_moved f out (latch edge control init.DontCare) = refl
start_moved f out (latch edge control init.Unknown) = refl
start_moved f out port = refl

starts_moved : {P Q : Type 0} (f : P → Q) (ss : List (FlatOf P)) → filter_map (λ (s : FlatOf Q). start_by s.out s.kind) (map (named_statement f) ss) ≡ map (moved_start f) (filter_map (λ (s : FlatOf P). start_by s.out s.kind) ss)
starts_moved f [] = refl
starts_moved {P} {Q} f (s ∷ ss) =
    ap₂ (λ (o : Option (Started Q)) (xs : List (Started Q)). cons_option o xs) (start_moved f s.out s.kind) (starts_moved f ss)
    ∙ cons_moved (moved_start f) (start_by s.out s.kind) (filter_map (λ (s : FlatOf P). start_by s.out s.kind) ss)

-- the initial values of a design are those of its flat statements
item_start : (path : List Inside) (output : List ℕ) (start : Init) → start_from (place_at path output) start ≡ start_at (place_at path output) start
item_start path output init.Zero = refl
item_start path output init.One = refl
item_start path output init.DontCare = refl
item_start path output init.Unknown = refl

starts_visited : (items : List Item) → filter_map (λ (s : FlatOf Place). start_by s.out s.kind) (filter_map flat_of items) ≡ filter_map start_of items
starts_visited [] = refl
starts_visited (At path (Names line fanins out cover) ∷ items) = starts_visited items
starts_visited (At path (Latch line input output edge control start) ∷ items) = ap₂ (λ (o : Option (Started Place)) (xs : List (Started Place)). cons_option o xs) (item_start path output start) (starts_visited items)
starts_visited (At path (Subckt line name pairs) ∷ items) = starts_visited items
starts_visited (Enter path inner m name pairs ∷ items) = starts_visited items
starts_visited (Pairing outer inner m pair ∷ items) = by (is_input_formal m pair.formal) (starts_visited items)
  where
    by : (b : Bool) → filter_map (λ (s : FlatOf Place). start_by s.out s.kind) (filter_map flat_of items) ≡ filter_map start_of items →
        filter_map (λ (s : FlatOf Place). start_by s.out s.kind) (flat_port b (place_at outer pair.actual) (place_at inner pair.formal) ∷ filter_map flat_of items) ≡ filter_map start_of items
    by true rest = rest
    by false rest = rest

-- an initial value is one of a latch
start_place : (models : List BlifModel) (out : ℕ) (k : FlatKind) (x : Started ℕ) → start_by out (kind_of models k) ≡ Some x → (k ≡ kind.Port → ⊥) × (out ≡ x.place)
start_place models out (kind.Gate model statement) x e = absurd (none-some x e)
start_place models out kind.Port x e = absurd (none-some x e)
start_place models out (kind.Latch edge control start) x e = (no_port edge control start, by start e)
  where
    no_port : (edge : Option Edge) (control : Option ℕ) (start : Init) → kind.Latch edge control start ≡ kind.Port → ⊥
    no_port edge control start same = cc

    place_is : (bit : Bool) (x : Started ℕ) → Some (record { place = out; bit = bit }) ≡ Some x → out ≡ x.place
    place_is bit x e = cc

    by : (start : Init) → start_from out start ≡ Some x → out ≡ x.place
    by init.Zero e = place_is false x e
    by init.One e = place_is true x e
    by init.DontCare e = absurd (none-some x e)
    by init.Unknown e = absurd (none-some x e)

-- the initial values of a net whose latches are those of the statements
row_start : (place : ℕ → ℕ) (out : ℕ) (start : Init) → net_start (place out) start ≡ option_map (moved_start place) (start_from out start)
row_start place out init.Zero = refl
row_start place out init.One = refl
row_start place out init.DontCare = refl
row_start place out init.Unknown = refl

row_starts : (models : List BlifModel) (name : ℕ → List ℕ) (place : ℕ → ℕ) (ss : List FlatStatement) →
    filter_map (λ (l : LatchAt). net_start l.out.0 l.init) (joined (λ (s : FlatStatement). latch_by name place s.kind s.out s.reads) ss) ≡ map (moved_start place) (filter_map (λ (s : FlatOf ℕ). start_by s.out s.kind) (map (statement_of models) ss))
row_starts models name place [] = refl
row_starts models name place (s ∷ ss) = by s.kind (row_starts models name place ss)
  where
    by : (k : FlatKind) →
        filter_map (λ (l : LatchAt). net_start l.out.0 l.init) (joined (λ (s : FlatStatement). latch_by name place s.kind s.out s.reads) ss) ≡ map (moved_start place) (filter_map (λ (s : FlatOf ℕ). start_by s.out s.kind) (map (statement_of models) ss)) →
        filter_map (λ (l : LatchAt). net_start l.out.0 l.init) (latch_by name place k s.out s.reads ++ joined (λ (s : FlatStatement). latch_by name place s.kind s.out s.reads) ss)
        ≡ map (moved_start place) (cons_option (start_by s.out (kind_of models k)) (filter_map (λ (s : FlatOf ℕ). start_by s.out s.kind) (map (statement_of models) ss)))
    by (kind.Gate model at) rest = rest
    by kind.Port rest = rest
    by (kind.Latch edge control start) rest =
        ap₂ (λ (o : Option (Started ℕ)) (xs : List (Started ℕ)). cons_option o xs) (row_start place s.out start) rest
        ∙ cons_moved (moved_start place) (start_from s.out start) (filter_map (λ (s : FlatOf ℕ). start_by s.out s.kind) (map (statement_of models) ss))

module _ (models : List BlifModel) (flat : Flat) (wired : WiredView) (order : List ℕ) (plain : list_all is_plain (written_names models) ≡ true) (fits : list_all covers_fit models ≡ true) (few : length (written_names models) ≤ 16777216)
    (walked : IsWalked models flat) (is : IsWired (wires_of flat) (length flat.names) wired) (ordered : IsOrder (graph_of flat.statements wired.sources) order) where
  -- the numbered circuit has the design's initial values
  numbered_starts : (clock : Option (List ℕ)) → map (moved_start (origin_in models flat)) (numbered_circuit models flat wired).starts ≡ (circuit_of_design models clock).starts
  unfolding circuit_of_design
  numbered_starts clock =
      sym (starts_moved (origin_in models flat) (map (statement_of models) flat.statements))
      ∙ ap (λ (d : FlatDesign Place). filter_map (λ (s : FlatOf Place). start_by s.out s.kind) d.statements) (placed models flat wired is plain fits few walked)
      ∙ starts_visited (main_walk models)

  -- the place at which a signal of the net is driven
  abbrev pub origin : ℕ → Place
  origin s = origin_in models flat (number_at flat wired order s)

  module _ (net : NetView) (made : IsMade models flat wired order net) where
    -- the net has the initial values of the design
    pub made_starts : (clock : Option (List ℕ)) → map (moved_start (λ s. origin_in models flat (number_at flat wired order s))) (circuit_of net).starts ≡ (circuit_of_design models clock).starts
    made_starts clock =
        ap (map (moved_start origin)) at_spots
        ∙ map-map (moved_start origin) (moved_start (spot flat wired order)) (numbered_circuit models flat wired).starts
        ∙ map_same (λ (x : Started ℕ). moved_start origin (moved_start (spot flat wired order) x)) (moved_start (origin_in models flat)) (numbered_circuit models flat wired).starts each
        ∙ numbered_starts clock
      where
        at_spots : (circuit_of net).starts ≡ map (moved_start (spot flat wired order)) (numbered_circuit models flat wired).starts
        at_spots = ap (filter_map (λ (l : LatchAt). net_start l.out.0 l.init)) made.latches ∙ row_starts models (name_at flat.names) (spot flat wired order) flat.statements

        each : (x : Started ℕ) → Contains (numbered_circuit models flat wired).starts x → moved_start origin (moved_start (spot flat wired order) x) ≡ moved_start (origin_in models flat) x
        each x h =
            let found = filter_map-from (λ (s : FlatOf ℕ). start_by s.out s.kind) (map (statement_of models) flat.statements) x h in
            let own = Contains-map_from (statement_of models) flat.statements found.0 found.1 in
            let at = at_of flat.statements own.0 own.1 in
            let place = start_place models own.0.out own.0.kind x (ap (λ (s : FlatOf ℕ). start_by s.out s.kind) own.2 ∙ found.2) in
            let back : number_at flat wired order (spot flat wired order x.place) ≡ x.place =
            subst (λ (n : ℕ). number_at flat wired order (spot flat wired order n) ≡ n) place.1 (number_back flat wired order is ordered at.0 own.0 at.1 place.0) in
            ap (λ (n : ℕ). record { place = origin_in models flat n; bit = x.bit }) back

    -- a signal of the net has the flat name of the place at which it is driven
    pub made_names : (s : ℕ) → s < length net.drivers → slice_get net.names s ≡ Some (name_of (origin_in models flat (number_at flat wired order s)))
    made_names s below =
        ap (λ (ns : List (List ℕ)). slice_get ns s) made.names
        ∙ slice_get-map (name_at flat.names) (made_by flat wired order) s (number_at flat wired order s) (slice_get-get_or (made_by flat wired order) s 0 (omega (arith, below, made.size)))
        ∙ ap Some (sym (place_name models flat wired is plain fits few walked (number_at flat wired order s)))
