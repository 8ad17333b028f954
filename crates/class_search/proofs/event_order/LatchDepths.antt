-- What a graph tells of the depth of an enabled latch.
use Rattle.std.proofs.Common.{◌≡◌, ℕ, ◌+◌, ◌<◌, ◌≤◌, true, false, Bool, List, [], ◌∷◌, ◌++◌, length, take, slice_get, get_or, Option, Some, None, IfSome, sym, ◌∙◌, ap, subst, arith, inl, inr}
use Rattle.std.specs.Prelude.{◌⊎◌, IfNone}
use Rattle.std.specs.List.{AllZip}
use Rattle.std.proofs.lemmas.Bool.{cases_lt}
use Rattle.std.proofs.lemmas.List.{take_more}
use Rattle.std.proofs.lemmas.Option.{get_or_from_slice_get, slice_get_within, slice_get-get_or}
use Rattle.circuit_theory.proofs.Lists.{zip_push}
use Rattle.circuit_theory.specs.declared.Mode.TheVariants.{Event}
use Rattle.circuit_theory.specs.Circuit.{Latch as latch_equation}
use Rattle.circuit_theory.specs.Depth.{IsDepth, HasNoDepth, LatchesHaveDepths}
use Rattle.circuit_theory.specs.Run.{IsEnabled}
use Rattle.flat_net.specs.declared.parts.LatchAt.{LatchAt}
use Rattle.flat_net.specs.declared.parts.Driver.TheVariants as driver
use Rattle.flat_net.specs.Sound.{IsSound}
use Rattle.flat_net.specs.View.{NetView, circuit_of}
use Rattle.flat_net.proofs.Nets.{OfGate, OfLatch, equation_from, latch_stands, some_at}
use Rattle.flat_net.proofs.Places.{one_at}
use Rattle.latch_graph.specs.signal_graph.Graph.{GraphView, IsGraphOf, IsGraphIn, SkippedBy}
use Rattle.latch_graph.proofs.Skipping.{same_depth, no_depth_less, mode_as_skips, skips_as_mode}
use Rattle.class_search.specs.event_order.Order.{IsMarkedNet}
use Rattle.class_search.specs.event_order.Turns.{IsEnabledDepth}

-- what a graph of the event mode tells of a latch's depth
pub depth_told : (n : NetView) (g : GraphView) → IsGraphIn Event n g → (p d : ℕ) → ((m : NetView) → IsGraphOf m g → IsDepth (circuit_of m) (SkippedBy g) p d) → IsDepth (circuit_of n) (IsEnabled (circuit_of n)) p d
depth_told n g graph p d told =
    same_depth (circuit_of n) (SkippedBy g) (IsEnabled (circuit_of n)) (skips_as_mode Event n g graph) (mode_as_skips Event n g graph) p d (told n graph.graph)

-- the first latches have depths
abbrev pub HaveDepths : NetView → ℕ → Type 0
HaveDepths n count = (k : ℕ) (l : LatchAt) → k < count → slice_get n.latches k ≡ Some l → (d : ℕ) × IsDepth (circuit_of n) (IsEnabled (circuit_of n)) l.out.0 d

pub one_more : (n : NetView) (count : ℕ) (m : LatchAt) → HaveDepths n count → slice_get n.latches count ≡ Some m → (d : ℕ) → IsDepth (circuit_of n) (IsEnabled (circuit_of n)) m.out.0 d → HaveDepths n (count + 1)
one_more n count m so at d is k l below here = go (cases_lt k count)
  where
    go : (k < count) ⊎ (count ≤ k) → (d : ℕ) × IsDepth (circuit_of n) (IsEnabled (circuit_of n)) l.out.0 d
    go (inl less) = so k l less here
    go (inr more) =
        let same : k ≡ count = omega arith in
        let one : m ≡ l = one_at n.latches count m l at (subst (λ (i : ℕ). slice_get n.latches i ≡ Some l) same here) in
        (d, subst (λ (z : LatchAt). IsDepth (circuit_of n) (IsEnabled (circuit_of n)) z.out.0 d) one is)

pub all_have : (n : NetView) (count : ℕ) → length n.latches ≤ count → HaveDepths n count → LatchesHaveDepths (circuit_of n) (IsEnabled (circuit_of n))
all_have n count whole so name u next latch = go (equation_from n (latch_equation name u next) latch)
  where
    no_gate : (x : OfGate n (latch_equation name u next)) → ⊥
    no_gate x = let e = x.is in cc

    go : OfGate n (latch_equation name u next) ⊎ OfLatch n (latch_equation name u next) → (d : ℕ) × IsDepth (circuit_of n) (IsEnabled (circuit_of n)) u d
    go (inl x) = absurd (no_gate x)
    go (inr x) =
        let out : x.latch.out.0 ≡ u = let e = x.is in cc in
        let within = slice_get_within n.latches x.j x.latch x.at in
        let d = so x.j x.latch (omega (arith, within, whole)) x.at in
        (d.0, subst (λ (p : ℕ). IsDepth (circuit_of n) (IsEnabled (circuit_of n)) p d.0) out d.1)

module _ (n : NetView) (bits : List Bool) (marked : IsMarkedNet n bits) (j : ℕ) (l : LatchAt) (at : slice_get n.latches j ≡ Some l) where
  -- a latch whose bit isn't set isn't enabled
  pub unmarked : slice_get bits j ≡ Some false → IsEnabled (circuit_of n) l.out.0 → ⊥
  unmarked off on = different off ((marked.marks j l at).1 on)
    where
      different : slice_get bits j ≡ Some false → slice_get bits j ≡ Some true → ⊥
      different p q = cc

  module _ (g : GraphView) (graph : IsGraphIn Event n g) where
    pub told : slice_get bits j ≡ Some true → (depth : Option ℕ) → IfSome depth (λ d. (m : NetView) → IsGraphOf m g → IsDepth (circuit_of m) (SkippedBy g) l.out.0 d) →
        IfNone depth ((m : NetView) → IsGraphOf m g → HasNoDepth (circuit_of m) (SkippedBy g) l.out.0) → IsEnabledDepth (circuit_of n) l depth
    told set (Some d) some none = (
      (marked.marks j l at).0 set,
      same_depth (circuit_of n) (SkippedBy g) (IsEnabled (circuit_of n)) (skips_as_mode Event n g graph) (mode_as_skips Event n g graph) l.out.0 d (some n graph.graph),
    )
    told set None some none =
        let own = marked.depths l.name l.out.0 l.next.0 (latch_stands n j l at) in
        let endless : HasNoDepth (circuit_of n) (IsEnabled (circuit_of n)) l.out.0 = no_depth_less (circuit_of n) (SkippedBy g) (IsEnabled (circuit_of n)) (skips_as_mode Event n g graph) l.out.0 (none n graph.graph) in
        let low : own.0 + 1 ≤ own.0 = own.1.greatest (own.0 + 1) (endless (own.0 + 1)) in
        λ on. omega (arith, low)

-- one element more on both sides
pub zip_more : {X Y : Type 0} (R : X → Y → Type 0) (xs : List X) (ys new : List Y) (j : ℕ) (y : Y) → j < length xs → AllZip R (take j xs) ys → ((x : X) → slice_get xs j ≡ Some x → R x y) → new ≡ ys ++ y ∷ [] → AllZip R (take (j + 1) xs) new
zip_more {X} R xs ys new j y within so is pushed =
    let x = some_at xs j within in
    let more : take (j + 1) xs ≡ take j xs ++ x.0 ∷ [] = take_more xs j x.0 within ∙ ap (λ (z : X). take j xs ++ z ∷ []) (get_or_from_slice_get xs j x.0 x.0 x.1) in
    subst (λ (zs : List X). AllZip R zs new) (sym more) (subst (AllZip R (take j xs ++ x.0 ∷ [])) (sym pushed) (zip_push R (take j xs) ys x.0 y so (is x.0 x.1)))

-- the element that a loop or an index is at
pub item_at : {X : Type 0} (xs ys : List X) (i : ℕ) (x : X) → ys ≡ xs → i < length ys → x ≡ get_or ys i x → slice_get xs i ≡ Some x
item_at xs ys i x same h is = ap (λ zs. slice_get zs i) (sym same) ∙ (slice_get-get_or ys i x h ∙ ap Some (sym is))

pub bit_at : (bits read : List Bool) (j : ℕ) (b : Bool) → read ≡ bits → j < length bits → get_or read j false ≡ b → slice_get bits j ≡ Some b
bit_at bits read j b same h e = slice_get-get_or bits j false h ∙ ap Some (ap (λ (zs : List Bool). get_or zs j false) (sym same) ∙ e)

-- a latch's signal has a node in the graph
pub out_within : (n : NetView) → IsSound n → (g : GraphView) → IsGraphIn Event n g → (j : ℕ) (l : LatchAt) → slice_get n.latches j ≡ Some l → l.out.0 < length g.nodes
out_within n sound g graph j l at = let w = slice_get_within n.drivers l.out.0 (driver.Latch j) (sound.latches j l at).owner in omega (arith, w, graph.graph.size)

pub latch_read : (ls read : List LatchAt) (j : ℕ) (d : LatchAt) → read ≡ ls → j < length ls → slice_get ls j ≡ Some (get_or read j d)
latch_read ls read j d same h = slice_get-get_or ls j d h ∙ ap (λ (zs : List LatchAt). Some (get_or zs j d)) (sym same)

pub told_read : (n : NetView) (bits : List Bool) (marked : IsMarkedNet n bits) (j : ℕ) (l : LatchAt) (at : slice_get n.latches j ≡ Some l) (g : GraphView) (graph : IsGraphIn Event n g) (m : LatchAt) → slice_get n.latches j ≡ Some m →
    slice_get bits j ≡ Some true → (depth : Option ℕ) → IfSome depth (λ d. (k : NetView) → IsGraphOf k g → IsDepth (circuit_of k) (SkippedBy g) m.out.0 d) →
    IfNone depth ((k : NetView) → IsGraphOf k g → HasNoDepth (circuit_of k) (SkippedBy g) m.out.0) → IsEnabledDepth (circuit_of n) l depth
told_read n bits marked j l at g graph m read set depth some none =
    subst (λ (z : LatchAt). IsEnabledDepth (circuit_of n) z depth) (one_at n.latches j m l read at) (told n bits marked j m read g graph set depth some none)
