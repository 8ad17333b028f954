-- Readings turned round.
use Rattle.std.proofs.Common.{◌≡◌, ◌≢◌, ℕ, ◌+◌, ◌<◌, ◌≤◌, List, [], ◌∷◌, ◌++◌, length, Some, refl, sym, ◌∙◌, ap, subst, arith, inl, inr}
use Rattle.std.specs.Prelude.{◌⊎◌, slice_get}
use Rattle.std.proofs.Math.ListN.{set}
use Rattle.std.proofs.lemmas.List.{length-set}
use Rattle.std.proofs.lemmas.Option.{slice_get_within}
use Rattle.circuit_theory.proofs.Sums.{same_or_not}
use Rattle.latch_graph.specs.minimal_cut.graph_components.flat_net.Signal.{Signal}
use Rattle.latch_graph.proofs.minimal_cut.graph_components.flat_net.Places.{one_at}
use Rattle.latch_graph.proofs.minimal_cut.graph_components.flat_net.Growth.{slice_get-append, slice_get-push, slice_get-push_cases}
use Rattle.latch_graph.specs.minimal_cut.graph_components.Node.{Node}
use Rattle.latch_graph.proofs.minimal_cut.graph_components.Lists.{set_same, set_other, set_cases}
use Rattle.latch_graph.proofs.minimal_cut.graph_components.Driving.{nothing_at}
use Rattle.latch_graph.specs.minimal_cut.Readers.{NodeReads, AreReaders, AreReadersUpTo}

-- a signal has one reading more
module _ (old : List Node) (r reader : ℕ) (node after : Node) (here : slice_get old r ≡ Some node) (pushed : after.reads ≡ node.reads ++ record { 0 = reader } ∷ []) where
  stays : (q x : ℕ) → NodeReads old q x → NodeReads (set old r after) q x
  stays q x e = go (same_or_not q r)
    where
      go : (q ≡ r) ⊎ (q ≢ r) → NodeReads (set old r after) q x
      go (inr n) = record { node = e.node; place = e.place; signal = e.signal; here = set_other old r q e.node after n e.here; read = e.read; is = e.is }
      go (inl same) =
          let one : e.node ≡ node = one_at old r e.node node (subst (λ z. slice_get old z ≡ Some e.node) same e.here) here in
          let read = subst (λ (z : Node). slice_get z.reads e.place ≡ Some e.signal) one e.read in
          record {
            node = after;
            place = e.place;
            signal = e.signal;
            here = subst (λ z. slice_get (set old r after) z ≡ Some after) (sym same) (set_same old r node after here);
            read = subst (λ (z : List Signal). slice_get z e.place ≡ Some e.signal) (sym pushed) (slice_get-append node.reads (record { 0 = reader } ∷ []) e.place e.signal read);
            is = e.is;
          }

  is_added : NodeReads (set old r after) r reader
  is_added = record {
    node = after;
    place = length node.reads;
    signal = record { 0 = reader };
    here = set_same old r node after here;
    read = subst (λ (z : List Signal). slice_get z (length node.reads) ≡ Some (record { 0 = reader })) (sym pushed) (slice_get-push node.reads (record { 0 = reader }) (length node.reads) refl);
    is = refl;
  }

  came_from : (q x : ℕ) → NodeReads (set old r after) q x → NodeReads old q x ⊎ ((q ≡ r) × (x ≡ reader))
  came_from q x e = go (set_cases old r q after e.node e.here)
    where
      in_reads : after ≡ e.node → q ≡ r → (slice_get node.reads e.place ≡ Some e.signal) ⊎ ((e.place ≡ length node.reads) × (record { 0 = reader } ≡ e.signal)) → NodeReads old q x ⊎ ((q ≡ r) × (x ≡ reader))
      in_reads same q_is (inl h) = inl (record { node = node; place = e.place; signal = e.signal; here = subst (λ z. slice_get old z ≡ Some node) (sym q_is) here; read = h; is = e.is })
      in_reads same q_is (inr h) = inr (q_is, sym e.is ∙ ap (λ (z : Signal). z.0) (sym h.1))

      go : ((q ≡ r) × (after ≡ e.node)) ⊎ ((q ≢ r) × (slice_get old q ≡ Some e.node)) → NodeReads old q x ⊎ ((q ≡ r) × (x ≡ reader))
      go (inr y) = inl (record { node = e.node; place = e.place; signal = e.signal; here = y.1; read = e.read; is = e.is })
      go (inl y) =
          let read : slice_get (node.reads ++ record { 0 = reader } ∷ []) e.place ≡ Some e.signal = subst (λ (z : List Signal). slice_get z e.place ≡ Some e.signal) (ap (λ (z : Node). z.reads) (sym y.1) ∙ pushed) e.read in
          in_reads y.1 y.0 (slice_get-push_cases node.reads (record { 0 = reader }) e.place e.signal read)

-- one reading more is turned round
pub up_to_more : (nodes : List Node) (s k : ℕ) (readers : List Node) (node : Node) (f : Signal) (old after : Node) → AreReadersUpTo nodes s k readers → slice_get nodes s ≡ Some node → slice_get node.reads k ≡ Some f →
    slice_get readers f.0 ≡ Some old → after.reads ≡ old.reads ++ record { 0 = s } ∷ [] → AreReadersUpTo nodes s (k + 1) (set readers f.0 after)
up_to_more nodes s k readers node f old after up here read there pushed = record {
  size = length-set readers f.0 after ∙ up.size;
  back = λ x r e l. back x r e l;
  from = λ x r e. from x r (came_from readers f.0 s old after there pushed r x e);
}
  where
    from : (x r : ℕ) → NodeReads readers r x ⊎ ((r ≡ f.0) × (x ≡ s)) → NodeReads nodes x r
    from x r (inl e) = up.from x r e
    from x r (inr y) = record { node = node; place = k; signal = f; here = subst (λ z. slice_get nodes z ≡ Some node) (sym y.1) here; read = read; is = sym y.0 }

    back : (x r : ℕ) (e : NodeReads nodes x r) → (x < s) ⊎ ((x ≡ s) × (e.place < k + 1)) → NodeReads (set readers f.0 after) r x
    back x r e (inl l) = stays readers f.0 s old after there pushed r x (up.back x r e (inl l))
    back x r e (inr y) = go (same_or_not e.place k)
      where
        go : (e.place ≡ k) ⊎ (e.place ≢ k) → NodeReads (set readers f.0 after) r x
        go (inr n) = stays readers f.0 s old after there pushed r x (up.back x r e (inr (y.0, omega (arith, y.1, n))))
        go (inl same) =
            let one : e.node ≡ node = one_at nodes s e.node node (subst (λ z. slice_get nodes z ≡ Some e.node) y.0 e.here) here in
            let two : e.signal ≡ f = one_at node.reads k e.signal f (subst (λ z. slice_get node.reads z ≡ Some e.signal) same (subst (λ (z : Node). slice_get z.reads e.place ≡ Some e.signal) one e.read)) read in
            let signal : f.0 ≡ r = ap (λ (z : Signal). z.0) (sym two) ∙ e.is in
            subst (λ z. NodeReads (set readers f.0 after) z x) signal (subst (λ z. NodeReads (set readers f.0 after) f.0 z) (sym y.0) (is_added readers f.0 s old after there pushed))

-- all readings of a signal are turned round
pub up_to_next : (nodes : List Node) (s k : ℕ) (readers : List Node) (node : Node) → slice_get nodes s ≡ Some node → length node.reads ≤ k → AreReadersUpTo nodes s k readers → AreReadersUpTo nodes (s + 1) 0 readers
up_to_next nodes s k readers node here all up = record { size = up.size; back = λ x r e l. back x r e l; from = up.from }
  where
    back : (x r : ℕ) (e : NodeReads nodes x r) → (x < s + 1) ⊎ ((x ≡ s + 1) × (e.place < 0)) → NodeReads readers r x
    back x r e (inr y) = absurd (omega (arith, y.1))
    back x r e (inl l) = go (same_or_not x s)
      where
        go : (x ≡ s) ⊎ (x ≢ s) → NodeReads readers r x
        go (inr n) = up.back x r e (inl (omega (arith, l, n)))
        go (inl same) =
            let one : e.node ≡ node = one_at nodes s e.node node (subst (λ z. slice_get nodes z ≡ Some e.node) same e.here) here in
            let inside = slice_get_within node.reads e.place e.signal (subst (λ (z : Node). slice_get z.reads e.place ≡ Some e.signal) one e.read) in
            up.back x r e (inr (same, omega (arith, inside, all)))

pub up_to_all : (nodes readers : List Node) → AreReadersUpTo nodes (length nodes) 0 readers → AreReaders nodes readers
up_to_all nodes readers up = record { size = up.size; back = λ s r e. up.back s r e (inl (slice_get_within nodes s e.node e.here)); from = up.from }

-- what is read, and what reads, is a signal
module _ (nodes readers : List Node) (are : AreReaders nodes readers) where
  pub read_within : (s k : ℕ) (node : Node) (r : Signal) → slice_get nodes s ≡ Some node → slice_get node.reads k ≡ Some r → r.0 < length nodes
  read_within s k node r here read =
      let e = are.back s r.0 (record { node = node; place = k; signal = r; here = here; read = read; is = refl }) in
      let l = slice_get_within readers r.0 e.node e.here in
      omega (arith, l, are.size)

  pub reader_within : (s k : ℕ) (node : Node) (r : Signal) → slice_get readers s ≡ Some node → slice_get node.reads k ≡ Some r → r.0 < length readers
  reader_within s k node r here read =
      let e = are.from r.0 s (record { node = node; place = k; signal = r; here = here; read = read; is = refl }) in
      let l = slice_get_within nodes r.0 e.node e.here in
      omega (arith, l, are.size)
