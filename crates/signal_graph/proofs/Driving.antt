-- What a node of the graph of a net is, and what follows of latches and their self-edges.
use Rattle.std.proofs.Common.{◌≡◌, ◌≢◌, ℕ, zero, suc, ◌<◌, Bool, true, false, List, [], ◌∷◌, length, map, Option, Some, None, refl, sym, ◌∙◌, ap, subst, arith, inr}
use Rattle.std.specs.Prelude.{slice_get}
use Rattle.std.specs.List.{Contains}
use Rattle.signal_graph.specs.inner_cone.flat_net.Signal.{Signal}
use Rattle.signal_graph.specs.inner_cone.flat_net.Gate.{Gate}
use Rattle.signal_graph.specs.inner_cone.flat_net.LatchAt.{LatchAt}
use Rattle.signal_graph.specs.inner_cone.flat_net.Driver.{Driver}
use Rattle.signal_graph.specs.inner_cone.flat_net.Driver.TheVariants as driver
use Rattle.signal_graph.specs.inner_cone.flat_net.View.{NetView, circuit_of, cover_of}
use Rattle.signal_graph.specs.inner_cone.flat_net.Sound.{Drives}
use Rattle.signal_graph.proofs.inner_cone.flat_net.Places.{one_at, All-at}
use Rattle.signal_graph.proofs.inner_cone.flat_net.Nets.{some_at, gate_stands, latch_stands, input_stands, sound_is_net}
use Rattle.signal_graph.specs.inner_cone.circuit_theory.Circuit.{Gate as gate_equation, IsInput, IsLatch, IsSource, Reaches}
use Rattle.signal_graph.specs.inner_cone.circuit_theory.Net.{IsNet}
use Rattle.signal_graph.proofs.inner_cone.circuit_theory.Lists.{at_of, of_at}
use Rattle.signal_graph.proofs.inner_cone.latch_cone.Walks.{reach_on}
use Rattle.signal_graph.specs.declared.nodes.Node.{Node}
use Rattle.std.proofs.lemmas.Option.{slice_get_within}
use Rattle.signal_graph.specs.Graph.{GraphView, IsNodeOf, IsGraphOf, AreNodes, AreTaken, SkippedBy}

-- What drives a signal of the net, with its node.
pub data Driven (n : NetView) (bits : List Bool) (s : ℕ) (node : Node) : Type 0 where
  input : IsInput (circuit_of n) s → node.reads ≡ [] → node.latch ≡ None → Driven n bits s node
  gate : (g : Gate) → Contains (circuit_of n).equations (gate_equation s (map (λ f. f.0) g.fanins) (cover_of n.covers g)) → node.reads ≡ g.fanins → node.latch ≡ None →
      ((k : ℕ) (r : Signal) → slice_get g.fanins k ≡ Some r → r.0 < s) → Driven n bits s node
  latch : (j : ℕ) (l : LatchAt) → slice_get n.latches j ≡ Some l → l.out.0 ≡ s → IsLatch (circuit_of n) l.name s l.next.0 → (bit : Bool) → slice_get bits j ≡ Some bit → AreTaken n l bit node.reads → node.latch ≡ Some j → l.next.0 < length n.drivers →
      Driven n bits s node

pub nothing_at : {X : Type 0} (xs : List X) (k : ℕ) (x : X) → xs ≡ [] → slice_get xs k ≡ Some x → ⊥
nothing_at xs k x e h = let l = slice_get_within xs k x h in omega (arith, l, ap length e)

pub only_at : {X : Type 0} (xs : List X) (y : X) (k : ℕ) (x : X) → xs ≡ y ∷ [] → slice_get xs k ≡ Some x → y ≡ x
only_at {X} xs y k x e h = go k (subst (λ (z : List X). slice_get z k ≡ Some x) e h)
  where
    go : (k : ℕ) → slice_get (y ∷ []) k ≡ Some x → y ≡ x
    go zero q = cc
    go (suc k) q = absurd (nothing_at [] k x refl q)

pub none_some : (j : ℕ) → ◌≡◌ {A = Option ℕ} None (Some j) → ⊥
none_some j e = cc

some_one : (i j : ℕ) → ◌≡◌ {A = Option ℕ} (Some i) (Some j) → i ≡ j
some_one i j e = cc

module _ (n : NetView) (g : GraphView) (of : IsGraphOf n g) where
  net : IsNet (circuit_of n) (length n.drivers)
  net = sound_is_net n of.sound

  inside : (s : ℕ) (node : Node) → slice_get g.nodes s ≡ Some node → s < length n.drivers
  inside s node h = let l = slice_get_within g.nodes s node h in omega (arith, l, of.size)

  pub driven : (s : ℕ) (node : Node) → slice_get g.nodes s ≡ Some node → Driven n g.skipped s node
  driven s node h = by d.0 (of.sound.drivers s d.0 d.1) (of.nodes s d.0 d.1)
    where
      d : (d : Driver) × (slice_get n.drivers s ≡ Some d)
      d = some_at n.drivers s (inside s node h)

      by : (d : Driver) → Drives n s d → (m : Node) × (slice_get g.nodes s ≡ Some m) × IsNodeOf n g.skipped d m → Driven n g.skipped s node
      by (driver.Input i) x m =
          subst (λ (z : Node). Driven n g.skipped s z) (one_at g.nodes s m.0 node m.1 h)
          (Driven.input (x.0.name, subst (λ z. Contains (circuit_of n).inputs (record { name = x.0.name; place = z })) x.2 (input_stands n i x.0 x.1)) m.2.0 m.2.1)
      by (driver.Gate j) x m =
          let same : x.0 ≡ m.2.0 = one_at n.gates j x.0 m.2.0 x.1 m.2.1 in
          let out : m.2.0.out.0 ≡ s = subst (λ (z : Gate). z.out.0 ≡ s) same x.2 in
          subst (λ (z : Node). Driven n g.skipped s z) (one_at g.nodes s m.0 node m.1 h)
          (Driven.gate m.2.0 (subst (λ z. Contains (circuit_of n).equations (gate_equation z (map (λ f. f.0) m.2.0.fanins) (cover_of n.covers m.2.0))) out (gate_stands n j m.2.0 m.2.1)) m.2.2 m.2.3
          (λ k r at. subst (λ z. r.0 < z) out (All-at (λ (f : Signal). f.0 < m.2.0.out.0) m.2.0.fanins k r at (of.sound.gates j m.2.0 m.2.1).above)))
      by (driver.Latch j) x m =
          let same : x.0 ≡ m.2.0 = one_at n.latches j x.0 m.2.0 x.1 m.2.1 in
          let out : m.2.0.out.0 ≡ s = subst (λ (z : LatchAt). z.out.0 ≡ s) same x.2 in
          subst (λ (z : Node). Driven n g.skipped s z) (one_at g.nodes s m.0 node m.1 h)
          (Driven.latch j m.2.0 m.2.1 out (subst (λ z. IsLatch (circuit_of n) m.2.0.name z m.2.0.next.0) out (latch_stands n j m.2.0 m.2.1)) m.2.2 m.2.3 m.2.4 m.2.5 (of.sound.latches j m.2.0 m.2.1).within)

  -- two latches of one signal are one
  one_latch : (i j : ℕ) (k l : LatchAt) → slice_get n.latches i ≡ Some k → slice_get n.latches j ≡ Some l → k.out.0 ≡ l.out.0 → i ≡ j
  one_latch i j k l h m e = same_latch (one_at n.drivers l.out.0 (driver.Latch i) (driver.Latch j) (subst (λ z. slice_get n.drivers z ≡ Some (driver.Latch i)) e (of.sound.latches i k h).owner) (of.sound.latches j l m).owner)
    where
      same_latch : driver.Latch i ≡ driver.Latch j → i ≡ j
      same_latch e = cc

  in_graph : (j : ℕ) (l : LatchAt) → slice_get n.latches j ≡ Some l → slice_get g.latches j ≡ Some l
  in_graph j l h = subst (λ (z : List LatchAt). slice_get z j ≡ Some l) (sym of.latches) h

  in_net : (j : ℕ) (l : LatchAt) → slice_get g.latches j ≡ Some l → slice_get n.latches j ≡ Some l
  in_net j l h = subst (λ (z : List LatchAt). slice_get z j ≡ Some l) of.latches h

  -- the graph leaves out the self-edges of the latches whose bits are set alone
  pub bit_skips : (j : ℕ) (l : LatchAt) → slice_get n.latches j ≡ Some l → slice_get g.skipped j ≡ Some true → SkippedBy g l.out.0
  bit_skips j l h b = record { position = j; latch = l; here = in_graph j l h; bit = b; out = refl }

  pub skips_bit : (j : ℕ) (l : LatchAt) (bit : Bool) → slice_get n.latches j ≡ Some l → slice_get g.skipped j ≡ Some bit → SkippedBy g l.out.0 → bit ≡ true
  skips_bit j l bit h b skip =
      let same : skip.position ≡ j = one_latch skip.position j skip.latch l (in_net skip.position skip.latch skip.here) h skip.out in
      one_at g.skipped j bit true b (subst (λ z. slice_get g.skipped z ≡ Some true) same skip.bit)

  -- what is reached from what a latch's node reads is in the latch's cone, and not the latch where its self-edge is left out
  pub read_taken : (j : ℕ) (l : LatchAt) (bit : Bool) (reads : List Signal) → slice_get n.latches j ≡ Some l → slice_get g.skipped j ≡ Some bit → AreTaken n l bit reads → (k : ℕ) (r : Signal) → slice_get reads k ≡ Some r →
      (v : ℕ) → IsSource (circuit_of n) v → Reaches (circuit_of n) r.0 v → Reaches (circuit_of n) l.next.0 v × (SkippedBy g l.out.0 → l.out.0 ≢ v)
  read_taken j l false reads here b taken k r at v source reach =
      (subst (λ (z : Signal). Reaches (circuit_of n) z.0 v) (sym (only_at reads l.next k r taken at)) reach, λ skip. absurd (differ (skips_bit j l false here b skip)))
    where
      differ : false ≡ true → ⊥
      differ e = cc
  read_taken j l true reads here b taken k r at v source reach =
      let h = of_at reads k r at in
      (reach_on (taken.reached r h) reach, λ skip e. taken.aside r h (subst (λ z. Reaches (circuit_of n) r.0 z) (sym e) reach))

  -- each latch of the cone, but not the latch itself where its self-edge is left out, is reached from what the latch's node reads
  pub taken_read : (j : ℕ) (l : LatchAt) (bit : Bool) (reads : List Signal) → slice_get n.latches j ≡ Some l → slice_get g.skipped j ≡ Some bit → AreTaken n l bit reads → {name : List ℕ} {v next : ℕ} → IsLatch (circuit_of n) name v next →
      Reaches (circuit_of n) l.next.0 v → (SkippedBy g l.out.0 → l.out.0 ≢ v) → (k : ℕ) × (r : Signal) × (slice_get reads k ≡ Some r) × Reaches (circuit_of n) r.0 v
  taken_read j l false reads here b taken is reach apart = (0, l.next, ap (λ (z : List Signal). slice_get z 0) taken, reach)
  taken_read j l true reads here b taken {name} {v} {next} is reach apart =
      let found = taken.all v (inr (name, next, is)) (λ e. apart (bit_skips j l here b) (sym e)) reach in
      let at = at_of reads found.0 found.1 in
      (at.0, found.0, at.1, found.2)

  -- the graph of a net keeps what each graph keeps
  pub kept_nodes : AreNodes g.nodes g.latches
  kept_nodes = record {
    few = omega (arith, of.size, of.sound.few);
    within = λ s k node r at h. within s k node r at h (driven s node at);
    below = λ s k node r at lone h. below s k node r lone h (driven s node at);
    latch = λ s j node at named. latch s j node named (driven s node at);
    out = λ j l at. out j l (subst (λ (z : List LatchAt). slice_get z j ≡ Some l) of.latches at);
  }
    where
      within : (s k : ℕ) (node : Node) (r : Signal) → slice_get g.nodes s ≡ Some node → slice_get node.reads k ≡ Some r → Driven n g.skipped s node → r.0 < length g.nodes
      within s k node r at h (Driven.input is reads lone) = absurd (nothing_at node.reads k r reads h)
      within s k node r at h (Driven.gate gt stands reads lone below) =
          let l = below k r (subst (λ (z : List Signal). slice_get z k ≡ Some r) reads h) in
          let m = slice_get_within g.nodes s node at in
          omega (arith, l, m)
      within s k node r at h (Driven.latch j l place out is bit bit_is taken lone inner) =
          taken_within bit taken
        where
          taken_within : (bit : Bool) → AreTaken n l bit node.reads → r.0 < length g.nodes
          taken_within false t = subst (λ (z : Signal). z.0 < length g.nodes) (only_at node.reads l.next k r t h) (omega (arith, inner, of.size))
          taken_within true t = let m = t.within r (of_at node.reads k r h) in omega (arith, m, of.size)

      below : (s k : ℕ) (node : Node) (r : Signal) → node.latch ≡ None → slice_get node.reads k ≡ Some r → Driven n g.skipped s node → r.0 < s
      below s k node r none h (Driven.input is reads lone) = absurd (nothing_at node.reads k r reads h)
      below s k node r none h (Driven.gate gt stands reads lone lower) = lower k r (subst (λ (z : List Signal). slice_get z k ≡ Some r) reads h)
      below s k node r none h (Driven.latch j l place out is bit bit_is taken lone inner) = absurd (none_some j (sym none ∙ lone))

      latch : (s j : ℕ) (node : Node) → node.latch ≡ Some j → Driven n g.skipped s node → (l : LatchAt) × (slice_get g.latches j ≡ Some l) × (l.out.0 ≡ s)
      latch s j node named (Driven.input is reads lone) = absurd (none_some j (sym lone ∙ named))
      latch s j node named (Driven.gate gt stands reads lone lower) = absurd (none_some j (sym lone ∙ named))
      latch s j node named (Driven.latch i l place out is bit bit_is taken lone inner) =
          (l, subst (λ (z : List LatchAt). slice_get z j ≡ Some l) (sym of.latches) (subst (λ z. slice_get n.latches z ≡ Some l) (some_one i j (sym lone ∙ named)) place), out)

      out : (j : ℕ) (l : LatchAt) → slice_get n.latches j ≡ Some l → (node : Node) × (slice_get g.nodes l.out.0 ≡ Some node) × (node.latch ≡ Some j)
      out j l at = let x = of.nodes l.out.0 (driver.Latch j) (of.sound.latches j l at).owner in (x.0, x.1, x.2.5)
