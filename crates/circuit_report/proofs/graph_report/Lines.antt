-- The lines of signals with their depths, one after the other.
use Rattle.std.proofs.Common.{◌≡◌, ◌∙◌, ◌+◌, ◌<◌, ℕ, List, [], ◌∷◌, ◌++◌, map, length, take, get_or, slice_get, Option, Some, None, Result, Ok, Err, OnOk, sym, ap, arith, append_assoc}
use Rattle.std.specs.Prelude.{IfSome, IfNone}
use Rattle.std.specs.List.{flat_map}
use Rattle.std.proofs.lemmas.Grind.{flat_map-append}
use Rattle.std.proofs.lemmas.List.{append-nil, map-append}
use Rattle.std.proofs.lemmas.List.Elements.{All-append, All-cons, All-nil}
use Rattle.std.proofs.lemmas.Option.{slice_get_within, slice_get-get_or}
use Rattle.base_tables.proofs.TableLemmas.{take-push}
use Rattle.circuit_theory.specs.Circuit.{Named}
use Rattle.circuit_theory.specs.Depth.{IsDepth, HasNoDepth}
use Rattle.flat_net.specs.declared.parts.Port.{Port}
use Rattle.flat_net.specs.declared.parts.LatchAt.{LatchAt}
use Rattle.flat_net.specs.View.{NetView, circuit_of}
use Rattle.flat_net.proofs.Places.{All-at}
use Rattle.circuit_theory.specs.declared.Mode.{Mode}
use Rattle.signal_graph.specs.Graph.{GraphView, IsGraphOf, IsGraphIn, SkippedBy}
use Rattle.latch_graph.proofs.Skipping.{mode_depth, mode_no_depth}
use Rattle.circuit_report.specs.graph_report.Report.{IsMeasured, IsGraphReport, counts_text, latch_line, output_line, cycle_line}
use Rattle.circuit_report.specs.graph_report.Puts.{PutsLines, PutsLatches, PutsOutputs, PutsCycle}

-- the element that a loop is at
pub item_at : {X : Type 0} (xs ys : List X) (i : ℕ) (x : X) → ys ≡ xs → i < length ys → x ≡ get_or ys i x → slice_get xs i ≡ Some x
item_at xs ys i x same h is = ap (λ zs. slice_get zs i) (sym same) ∙ (slice_get-get_or ys i x h ∙ ap Some (sym is))

-- the signals so far, and the next one
pub signals_more : {X : Type 0} (f : X → Named ℕ) (xs : List X) (i : ℕ) (x : X) → slice_get xs i ≡ Some x → map f (take i xs) ++ f x ∷ [] ≡ map f (take (i + 1) xs)
signals_more f xs i x at = sym (map-append f (take i xs) (x ∷ [])) ∙ ap (map f) (take-push xs i x at)

-- three pieces that are put one behind the other
pub three_pieces : (t a b c x y z : List ℕ) → x ≡ t ++ a → y ≡ x ++ b → z ≡ y ++ c → z ≡ t ++ (a ++ b ++ c)
three_pieces t a b c x y z p q r = r ∙ (ap (λ (v : List ℕ). v ++ c) (q ∙ ap (λ (v : List ℕ). v ++ b) p) ∙ simp append_assoc)

pub on_ok : {E : Type 0} {P Q : Type 0} (r : Result (Unit {0}) E) → (P → Q) → OnOk r P → OnOk r Q
on_ok (Ok u) f h = f h
on_ok (Err e) f h = tt

-- one line more
pub lines_more : {X : Type 0} (signal_of : X → Named ℕ) (Right : X → Type 0) (line : X → List ℕ) (signals : List (Named ℕ)) (old mid new : List ℕ) (x : X) → PutsLines signal_of Right line signals old mid →
    Right x → new ≡ mid ++ line x → PutsLines signal_of Right line (signals ++ signal_of x ∷ []) old new
lines_more {X} signal_of Right line signals old mid new x have right put = record {
  items = have.items ++ x ∷ [];
  tell = record {
    signals_are = map-append signal_of have.items (x ∷ []) ∙ ap (λ (s : List (Named ℕ)). s ++ signal_of x ∷ []) have.tell.signals_are;
    right = All-append Right have.items (x ∷ []) have.tell.right (All-cons Right x [] right (All-nil Right));
  };
  text_is = put ∙ (ap (λ (t : List ℕ). t ++ line x) have.text_is
      ∙ (append_assoc old (flat_map line have.items) (line x)
      ∙ ap (λ (t : List ℕ). old ++ t) (ap (λ (t : List ℕ). flat_map line have.items ++ t) (sym (append-nil (line x)))
      ∙ sym (flat_map-append line have.items (x ∷ [])))));
}

module _ (n : NetView) (g : GraphView) (of : IsGraphOf n g) where
  -- the signals of latches and outputs are in the graph
  pub latch_within : (j : ℕ) (l : LatchAt) → slice_get n.latches j ≡ Some l → l.out.0 < length g.nodes
  latch_within j l at = let w = slice_get_within n.drivers l.out.0 _ (of.sound.latches j l at).owner in omega (arith, w, of.size)

  pub output_within : (i : ℕ) (port : Port) → slice_get n.outputs i ≡ Some port → port.signal.0 < length g.nodes
  output_within i port at = let w = All-at (λ (p : Port). p.signal.0 < length n.drivers) n.outputs i port at of.sound.outputs in omega (arith, w, of.size)

module _ (mode : Mode) (n : NetView) (g : GraphView) (of : IsGraphIn mode n g) where
  -- what the graph says of a signal is right of the net
  pub measured : (signal : Named ℕ) (depth : Option ℕ) → IfSome depth (λ d. (m : NetView) → IsGraphOf m g → IsDepth (circuit_of m) (SkippedBy g) signal.place d) →
      IfNone depth ((m : NetView) → IsGraphOf m g → HasNoDepth (circuit_of m) (SkippedBy g) signal.place) → IsMeasured mode (circuit_of n) (record { signal = signal; depth = depth })
  measured signal None some none = mode_no_depth mode n g of signal.place (none n of.graph)
  measured signal (Some d) some none = mode_depth mode n g of signal.place d (some n of.graph)

-- the whole report, from its parts
pub report_of : (mode : Mode) (n : NetView) (first second third last : List ℕ) → first ≡ counts_text n → PutsLatches mode n n.latches first second → PutsOutputs mode n n.outputs second third → PutsCycle mode n third last → IsGraphReport mode n last
report_of mode n first second third last counts latches outputs cycle = record {
  latches = latches.items;
  outputs = outputs.items;
  cycle = cycle.cycle;
  latches_are = latches.tell;
  outputs_are = outputs.tell;
  cycle_is = cycle.found;
  text_is = cycle.text_is ∙ ap (λ (t : List ℕ). t ++ cycle_line cycle.cycle) (outputs.text_is ∙ ap (λ (t : List ℕ). t ++ flat_map output_line outputs.items) (latches.text_is ∙ ap (λ (t : List ℕ). t ++ flat_map latch_line latches.items) counts));
}
