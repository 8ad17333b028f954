-- One turn of the loops over signals and statements.
use Rattle.std.proofs.Common.{◌≡◌, ◌∙◌, ◌<◌, ◌≤◌, ◌+◌, ℕ, suc, List, [], ◌∷◌, ◌++◌, length, map, take, drop, set, get_or, slice_get, Option, Some, None, refl, sym, ap, subst, inl, inr, arith, append_assoc, append-nil}
use Rattle.std.specs.Prelude.{◌⊎◌, unwrap_or}
use Rattle.std.specs.List.{All}
use Rattle.std.proofs.lemmas.Bool.{cases_lt}
use Rattle.std.proofs.lemmas.List.{take_all, length-map}
use Rattle.std.proofs.lemmas.List.Elements.{All-contains}
use Rattle.std.proofs.lemmas.Option.{slice_get_read, slice_get-get_or, slice_get_within}
use Rattle.circuit_theory.proofs.Lists.{of_at}
use Rattle.base_tables.proofs.TableLemmas.{take-push}
use Rattle.sec_base.specs.declared.basics.Edge.{Edge}
use Rattle.elaborate.specs.declared.flat.Flat.{Flat}
use Rattle.elaborate.specs.declared.flat.FlatStatement.{FlatStatement}
use Rattle.elaborate.specs.Flat.{FlatOf, statement_of, kind_of}
use Rattle.flatten.specs.declared.connectivity.source.Source.{Source}
use Rattle.flatten.specs.declared.connectivity.source.Source.TheVariants as source
use Rattle.flatten.specs.connectivity.Wiring.{TypedLatch, joined, control_by, typed_by, with_edge, wires_of}
use Rattle.flatten.specs.connectivity.Events.{IsFirst, IsNever}
use Rattle.flatten.specs.connectivity.Faults.{DrivesAgain, clock_signals, OtherEdge}
use Rattle.flatten.specs.connectivity.Tables.{AreSources}
use Rattle.flatten.proofs.connectivity.Joined.{joined_more, joined_split}
use Rattle.flatten.proofs.connectivity.Rows.{controls_are, typed_are}
use Rattle.flatten.proofs.connectivity.PortTables.{out_at}
use Rattle.flatten.proofs.connectivity.SourceTables.{sources_input, sources_statement, drives_again, drives_first}
use Rattle.flatten.proofs.connectivity.ClockTables.{HaveEdge, edge_step}
use Rattle.flatten.proofs.connectivity.ClockNets.{never_other_edge, first_other_edge}

-- the item of a turn
pub here_in : {X : Type 0} (xs ys : List X) (i : ℕ) (x : X) → xs ≡ ys → i < length xs → x ≡ get_or xs i x → slice_get ys i ≡ Some x
here_in xs ys i x same below is = subst (λ zs. slice_get zs i ≡ Some x) same (slice_get_read xs (length xs) i x refl below is)

pub past_in : {X : Type 0} (xs ys : List X) (i : ℕ) → xs ≡ ys → length xs ≤ i → length ys ≤ i
past_in xs ys i same past = subst (λ zs. length zs ≤ i) same past

-- an input more
pub input_turn : (before inputs : List ℕ) (i : ℕ) (t : List Source) → i < length inputs → AreSources (before ++ take i inputs) [] t → AreSources (before ++ take (i + 1) inputs) [] (set t (get_or inputs i 0) source.Input)
input_turn before inputs i t below old =
    let longer : (before ++ take i inputs) ++ get_or inputs i 0 ∷ [] ≡ before ++ take (i + 1) inputs =
    append_assoc before (take i inputs) (get_or inputs i 0 ∷ []) ∙ ap (λ zs. before ++ zs) (take-push inputs i (get_or inputs i 0) (slice_get-get_or inputs i 0 below)) in
    subst (λ zs. AreSources zs [] (set t (get_or inputs i 0) source.Input)) longer (sources_input (before ++ take i inputs) t (get_or inputs i 0) old)

pub input_all : (before inputs : List ℕ) (i : ℕ) (t : List Source) → length inputs ≤ i → AreSources (before ++ take i inputs) [] t → AreSources (before ++ inputs) [] t
input_all before inputs i t past old = subst (λ zs. AreSources (before ++ zs) [] t) (take_all i inputs past) old

-- the inputs and then the clocks
pub main_from : (flat : Flat) (ins cls : List ℕ) (none first second : List Source) → ins ≡ flat.inputs → cls ≡ flat.clocks → ((before : List ℕ) → AreSources before [] none → AreSources (before ++ ins) [] first) →
    ((before : List ℕ) → AreSources before [] first → AreSources (before ++ cls) [] second) → AreSources [] [] none → AreSources ((wires_of flat).inputs ++ (wires_of flat).clocks) [] second
unfolding wires_of
main_from flat ins cls none first second hi hc one two start =
    subst (λ zs. AreSources (zs ++ flat.clocks) [] second) hi (subst (λ zs. AreSources (ins ++ zs) [] second) hc (two ins (one [] start)))

-- a statement more
module _ (flat : Flat) (i : ℕ) (s : FlatStatement) (here : slice_get flat.statements i ≡ Some s) (t : List Source) (below : s.out < length t)
    (old : AreSources ((wires_of flat).inputs ++ (wires_of flat).clocks) (take i (wires_of flat).outs) t) where
  pub again_turn : (get_or t s.out source.Open ≡ source.Open → ⊥) → ((j q : ℕ) → j < i → DrivesAgain (wires_of flat) j q → ⊥) → IsFirst (DrivesAgain (wires_of flat)) s.out
  again_turn taken none = record {
    at = i;
    here = drives_again (wires_of flat) i s.out (get_or t s.out source.Open) (out_at flat i s here) (old s.out (get_or t s.out source.Open) (slice_get-get_or t s.out source.Open below)) taken;
    before = λ j q lower e. none j q lower e;
  }

  pub statement_turn : AreSources ((wires_of flat).inputs ++ (wires_of flat).clocks) (take (i + 1) (wires_of flat).outs) (set t s.out (source.Statement i))
  statement_turn = sources_statement ((wires_of flat).inputs ++ (wires_of flat).clocks) (wires_of flat).outs t s.out i (out_at flat i s here) old

  pub none_turn : get_or t s.out source.Open ≡ source.Open → ((j q : ℕ) → j < i → DrivesAgain (wires_of flat) j q → ⊥) → (j q : ℕ) → j < i + 1 → DrivesAgain (wires_of flat) j q → ⊥
  none_turn free none j q lower e = by (cases_lt j i)
    where
      by : (j < i) ⊎ (i ≤ j) → ⊥
      by (inl before) = none j q before e
      by (inr behind) =
          let same : j ≡ i = omega (arith, lower, behind) in
          drives_first (wires_of flat) i s.out (out_at flat i s here) (old s.out source.Open (slice_get-get_or t s.out source.Open below ∙ ap Some free)) q
          (subst (λ k. DrivesAgain (wires_of flat) k q) same e)

outs_len : (flat : Flat) → length (wires_of flat).outs ≡ length flat.statements
unfolding wires_of
outs_len flat = length-map (map (statement_of []) flat.statements) (λ (s : FlatOf ℕ). s.out) ∙ length-map flat.statements (statement_of [])

pub statements_all : (flat : Flat) (i : ℕ) (t : List Source) → length flat.statements ≤ i → AreSources ((wires_of flat).inputs ++ (wires_of flat).clocks) (take i (wires_of flat).outs) t → AreSources ((wires_of flat).inputs ++ (wires_of flat).clocks) (wires_of flat).outs t
statements_all flat i t past old =
    subst (λ zs. AreSources ((wires_of flat).inputs ++ (wires_of flat).clocks) zs t) (take_all i (wires_of flat).outs (subst (λ n. n ≤ i) (sym (outs_len flat)) past)) old

pub none_all : (flat : Flat) (i : ℕ) → length flat.statements ≤ i → ((j q : ℕ) → j < i → DrivesAgain (wires_of flat) j q → ⊥) → IsNever (DrivesAgain (wires_of flat))
none_all flat i past none j q e = none j q (omega (arith, past, outs_len flat, within)) e
  where
    within : j < length (wires_of flat).outs
    within = slice_get_within (wires_of flat).outs j q e.drives

-- clocks of all latches
pub signals_all : (flat : Flat) (signals : List ℕ) (i : ℕ) → length flat.statements ≤ i → signals ≡ flat.clocks ++ joined (λ (s : FlatStatement). control_by (kind_of [] s.kind)) (take i flat.statements) → signals ≡ clock_signals (wires_of flat)
unfolding wires_of
signals_all flat signals i past old =
    old ∙ ap (λ zs. flat.clocks ++ joined (λ (s : FlatStatement). control_by (kind_of [] s.kind)) zs) (take_all i flat.statements past) ∙ ap (λ zs. flat.clocks ++ zs) (sym (controls_are flat))

-- latches with an edge
abbrev typed_rows : FlatStatement → List (TypedLatch ℕ)
typed_rows s = typed_by s.out (kind_of [] s.kind)

module _ (statements : List FlatStatement) (i : ℕ) (s : FlatStatement) (here : slice_get statements i ≡ Some s) (first edge : Option Edge)
    (row : typed_by s.out (kind_of [] s.kind) ≡ with_edge s.out edge) (old : HaveEdge (joined (λ (z : FlatStatement). typed_by z.out (kind_of [] z.kind)) (take i statements)) first) where
  pub edge_passed : edge ≡ None → HaveEdge (joined (λ (z : FlatStatement). typed_by z.out (kind_of [] z.kind)) (take (i + 1) statements)) first
  edge_passed none =
      let same : joined typed_rows (take (i + 1) statements) ≡ joined typed_rows (take i statements) =
      joined_more typed_rows statements i s here ∙ ap (λ zs. joined typed_rows (take i statements) ++ zs) (row ∙ ap (with_edge s.out) none) ∙ append-nil (joined typed_rows (take i statements)) in
      subst (λ zs. HaveEdge zs first) (sym same) old

  pub edge_turn : (e : Edge) → edge ≡ Some e → unwrap_or first e ≡ e → HaveEdge (joined (λ (z : FlatStatement). typed_by z.out (kind_of [] z.kind)) (take (i + 1) statements)) (Some e)
  edge_turn e some same =
      let longer : joined typed_rows (take (i + 1) statements) ≡ joined typed_rows (take i statements) ++ record { out = s.out; edge = e } ∷ [] =
      joined_more typed_rows statements i s here ∙ ap (λ zs. joined typed_rows (take i statements) ++ zs) (row ∙ ap (with_edge s.out) some) in
      subst (λ zs. HaveEdge zs (Some e)) (sym longer) (edge_step (joined typed_rows (take i statements)) (record { out = s.out; edge = e }) first same old)

pub edge_other : (flat : Flat) (i : ℕ) (s : FlatStatement) → slice_get flat.statements i ≡ Some s → (first edge : Option Edge) → typed_by s.out (kind_of [] s.kind) ≡ with_edge s.out edge → (e : Edge) → edge ≡ Some e →
    (unwrap_or first e ≡ e → ⊥) → HaveEdge (joined (λ (z : FlatStatement). typed_by z.out (kind_of [] z.kind)) (take i flat.statements)) first → IsFirst (OtherEdge (wires_of flat)) s.out
edge_other flat i s here None edge row e some apart old = absurd (apart refl)
edge_other flat i s here (Some k) edge row e some apart old =
    first_other_edge (wires_of flat) (joined typed_rows (take i flat.statements)) (joined typed_rows (drop (suc i) flat.statements)) (record { out = s.out; edge = e }) k
    (typed_are flat ∙ joined_split typed_rows flat.statements i s here
    ∙ ap (λ zs. (joined typed_rows (take i flat.statements) ++ zs) ++ joined typed_rows (drop (suc i) flat.statements)) (row ∙ ap (with_edge s.out) some))
    old apart

pub edge_all : (flat : Flat) (i : ℕ) (first : Option Edge) → length flat.statements ≤ i → HaveEdge (joined (λ (z : FlatStatement). typed_by z.out (kind_of [] z.kind)) (take i flat.statements)) first → IsNever (OtherEdge (wires_of flat))
edge_all flat i first past old =
    never_other_edge (wires_of flat) first (subst (λ zs. HaveEdge zs first) (ap (joined typed_rows) (take_all i flat.statements past) ∙ sym (typed_are flat)) old)

-- what a statement drives has a name
pub out_below : (flat : Flat) (i : ℕ) (s : FlatStatement) → slice_get flat.statements i ≡ Some s → All (λ (z : FlatStatement). z.out < length flat.names) flat.statements → s.out < length flat.names
out_below flat i s here all = All-contains (λ (z : FlatStatement). z.out < length flat.names) flat.statements s all (of_at flat.statements i s here)
