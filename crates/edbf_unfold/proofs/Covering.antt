-- The places of a walk are all that its start visits.
use Rattle.std.proofs.Common.{◌≡◌, ◌∙◌, ◌≤◌, ℕ, Bool, true, false, List, [], ◌∷◌, length, slice_get, Option, Some, None, refl, sym, ap, subst, arith, inl, inr}
use Rattle.std.specs.Prelude.{◌⊎◌}
use Rattle.std.specs.List.{Contains}
use Rattle.std.proofs.lemmas.Option.{slice_get_within}
use Rattle.circuit_theory.specs.Circuit.{IsLatch, Reads}
use Rattle.circuit_theory.proofs.Lists.{Contains-cases, at_of, of_at}
use Rattle.circuit_theory.specs.Frame.{NotPut, IsNode, ReachedAt, ConeLatches}
use Rattle.circuit_theory.specs.EventSizes.{Start, IsOther, EventVisits}
use Rattle.circuit_theory.specs.EventTotals.{StartLatches}
use Rattle.event_nodes.specs.Table.{AreDistinct}
use Rattle.edbf_unfold.specs.event_literals.Sound.{IsSound}
use Rattle.edbf_unfold.specs.event_literals.View.{circuit_of}
use Rattle.edbf_unfold.proofs.event_literals.Nets.{some_at}
use Rattle.edbf_unfold.proofs.event_literals.Places.{one_at, All-at}
use Rattle.event_nodes.specs.Nodes.{EventGraphView, IsTree, IsChild, path_of}
use Rattle.event_nodes.specs.Reach.{IsBegun}
use Rattle.event_nodes.specs.View.{IsEventCircuit, side_of, Enabled}
use Rattle.event_nodes.specs.Visited.{HoldsVisits, HoldsNodes}
use Rattle.event_nodes.proofs.Bits.{kind_of}
use Rattle.event_nodes.proofs.OnePath.{one_node}
use Rattle.event_nodes.proofs.Paths.{child_path, path_grows}
use Rattle.event_nodes.proofs.Visits.{visited_reached, reached_visited}
use Rattle.edbf_unfold.proofs.event_literals.event_walk.Fitting.{fits_reads, fits_free, fits_other, fits_free_of_put}
use Rattle.edbf_unfold.specs.declared.event_literals.event_walk.frames.Frame.{Frame}
use Rattle.edbf_unfold.specs.declared.event_literals.event_walk.frames.Put.{Put}
use Rattle.edbf_unfold.specs.declared.event_literals.event_walk.frames.Put.TheVariants.{Free, Low}
use Rattle.edbf_unfold.specs.declared.event_literals.event_walk.frames.Ways.{Ways}
use Rattle.edbf_unfold.specs.Care.{IsEnableOnward, IsPlaceEnable, IsCareOf, IsCareLit}
use Rattle.edbf_unfold.specs.event_literals.Known.{EventUnfolderView}
use Rattle.edbf_unfold.specs.event_literals.event_walk.Ready.{put_of, IsMetIn}
use Rattle.edbf_unfold.specs.Reached.{IsOpenPlace, AreNodesOf, IsReachOf}
use Rattle.edbf_unfold.specs.event_literals.event_walk.Walk.{IsExpanded, IsVisitedPlace, IsRootOf, IsFitting, out_of}
use Rattle.edbf_unfold.specs.event_literals.Built.{IsWalked}

root_is : (children : List (ℕ × ℕ)) → path_of children 0 ≡ []
root_is children = path_grows [] children 0 (omega arith)

module _ (u : EventUnfolderView) (w : EventGraphView) (sound : IsSound u.circuit.net) (circuit : IsEventCircuit u.circuit) (tree : IsTree w.children) (root : Frame) (at_root : root.node ≡ 0) (signal : ℕ) (counted : List (ℕ × ℕ)) (cap : ℕ) (table : List (ℕ × ℕ)) (ways : List Ways)
    (walked : IsWalked u w root signal counted cap table ways) (x : Start ℕ) (begins : IsRootOf root signal x) where
  -- a place of the table that stands for a visit
  pub record IsStoodAt (out : Option ℕ) (q : ℕ) (path : List ℕ) : Type 0 where
    pub number : ℕ
    pub frame : Frame
    pub at : slice_get u.frames number ≡ Some frame
    pub fits : IsFitting u.circuit.net frame.put out q
    pub path_is : path_of w.children frame.node ≡ path
    pub node : frame.node ≤ length w.children
    pub there : Contains table (number, q)

  expanded : (p : ℕ × ℕ) → Contains table p → (g : Ways) × IsExpanded u.circuit u.frames w.children table p g
  expanded p h =
      let i = at_of table p h in
      let inside = slice_get_within table i.0 p i.1 in
      let g = some_at ways i.0 (omega (arith, inside, walked.each)) in
      (g.0, walked.expanded i.0 p g.0 i.1 g.1)

  child_node : (n class m : ℕ) → IsChild w.children n class m → m ≤ length w.children
  child_node n class m child = let k = slice_get_within w.children child.0 (n, class) child.2 in omega (arith, k, child.1)

  -- where a latch that is visited goes on
  pub record GoesOn (q : ℕ) (path : List ℕ) (next : ℕ) : Type 0 where
    pub number : ℕ
    pub frame : Frame
    pub at : slice_get u.frames number ≡ Some frame
    pub own : (Enabled u.circuit q × (frame.put ≡ Low q)) ⊎ ((Enabled u.circuit q → ⊥) × (frame.put ≡ Free))
    pub path_is : path_of w.children frame.node ≡ (side_of u.circuit).class q ∷ path
    pub node : frame.node ≤ length w.children
    pub there : Contains table (number, next)

  goes_on : (out : Option ℕ) (q : ℕ) (path : List ℕ) (name : List ℕ) (next : ℕ) → IsStoodAt out q path → IsOther out q → IsLatch (circuit_of u.circuit.net) name q next → GoesOn q path next
  goes_on out q path name next k other latch =
      let x = (expanded (k.number, q) k.there).1 in
      let same : x.frame ≡ k.frame = one_at u.frames k.number x.frame k.frame x.at k.at in
      let free : NotPut (put_of x.frame.put) q = subst (λ (f : Frame). NotPut (put_of f.put) q) (sym same) (fits_free_of_put u.circuit.net k.frame.put out q k.fits other) in
      let o = x.onward name next latch free in
      record {
        number = (expanded (k.number, q) k.there).0.onward;
        frame = o.0;
        at = o.1;
        own = o.2.own;
        path_is = child_path w.children tree x.frame.node ((side_of u.circuit).class q) o.0.node o.2.child ∙ ap (λ (n : List ℕ). (side_of u.circuit).class q ∷ n) (ap (λ (f : Frame). path_of w.children f.node) same ∙ k.path_is);
        node = child_node x.frame.node ((side_of u.circuit).class q) o.0.node o.2.child;
        there = o.3;
      }

  reads_on : (out : Option ℕ) (q r : ℕ) (path : List ℕ) → IsStoodAt out q path → Reads (circuit_of u.circuit.net) q r → IsStoodAt out r path
  reads_on out q r path k read = go (y.reads r read)
    where
      g : Ways
      g = (expanded (k.number, q) k.there).0

      y : IsExpanded u.circuit u.frames w.children table (k.number, q) g
      y = (expanded (k.number, q) k.there).1

      same : y.frame ≡ k.frame
      same = one_at u.frames k.number y.frame k.frame y.at k.at

      go : IsMetIn u.circuit.net u.frames (Contains table) y.frame k.number g.onward r → IsStoodAt out r path
      go (inl there) = record { number = k.number; frame = k.frame; at = k.at; fits = fits_reads u.circuit.net k.frame.put out q r k.fits read; path_is = k.path_is; node = k.node; there = there }
      go (inr h) = record {
        number = g.onward;
        frame = record { node = y.frame.node; put = Free };
        at = h.0;
        fits = fits_free u.circuit.net y.frame.put out q r (subst (λ (f : Frame). IsFitting u.circuit.net f.put out q) (sym same) k.fits) read h.1;
        path_is = ap (λ (f : Frame). path_of w.children f.node) same ∙ k.path_is;
        node = y.node;
        there = h.2;
      }

  pub stood : {out : Option ℕ} {q : ℕ} {path : List ℕ} → EventVisits (side_of u.circuit) (Enabled u.circuit) (x ∷ []) out q path → IsStoodAt out q path
  stood (EventVisits.start {s = y} h) = elim (Contains-cases x y [] h) [ inl same ↦ subst (λ (z : Start ℕ). IsStoodAt z.left_out z.place []) same first | inr none ↦ absurd (omega (arith, none.1)) ]
    where
      first : IsStoodAt x.left_out x.place []
      first = record {
        number = walked.number;
        frame = root;
        at = walked.at;
        fits = inl begins.1;
        path_is = ap (path_of w.children) at_root ∙ root_is w.children;
        node = omega (arith, at_root);
        there = subst (λ (s : ℕ). Contains table (walked.number, s)) (sym begins.0) walked.begins;
      }
  stood (EventVisits.reads {out = out} {q = q} {r = r} {node = node} visit read) = reads_on out q r node (stood visit) read
  stood (EventVisits.plain {out = out} {q = q} {next = next} {node = node} {name = name} visit other latch off) =
      let g = goes_on out q node name next (stood visit) other latch in
      record { number = g.number; frame = g.frame; at = g.at; fits = inl (sym (plain g.own)); path_is = g.path_is; node = g.node; there = g.there }
    where
      plain : {put : Put} → (Enabled u.circuit q × (put ≡ Low q)) ⊎ ((Enabled u.circuit q → ⊥) × (put ≡ Free)) → out_of put ≡ None
      plain (inl h) = absurd (off h.0)
      plain (inr h) = ap out_of h.1
  stood (EventVisits.held {out = out} {q = q} {next = next} {node = node} {name = name} visit other latch on) =
      let g = goes_on out q node name next (stood visit) other latch in
      record { number = g.number; frame = g.frame; at = g.at; fits = inl (sym (held g.own)); path_is = g.path_is; node = g.node; there = g.there }
    where
      held : {put : Put} → (Enabled u.circuit q × (put ≡ Low q)) ⊎ ((Enabled u.circuit q → ⊥) × (put ≡ Free)) → out_of put ≡ Some q
      held (inl h) = ap out_of h.1
      held (inr h) = absurd (h.0 on)

  -- all that is visited has been counted
  pub holds_visits : HoldsVisits u.circuit w.children x counted
  holds_visits out q path visit =
      let k = stood visit in
      let c = walked.done (k.number, q) k.there in
      let same : c.0 ≡ k.frame = one_at u.frames k.number c.0 k.frame c.1 k.at in
      record { node = k.frame.node; made = k.node; path_is = k.path_is; listed = subst (λ (f : Frame). Contains counted (f.node, q)) same c.2 }

  decided : (name : List ℕ) (v next : ℕ) → IsLatch (circuit_of u.circuit.net) name v next → Enabled u.circuit v ⊎ (Enabled u.circuit v → ⊥)
  decided name v next latch = kind_of u.circuit sound circuit name v next latch

  latch_named : (node : List ℕ) (v : ℕ) → ReachedAt (side_of u.circuit) (Enabled u.circuit) (StartLatches (side_of u.circuit) (x ∷ [])) node v → (name : List ℕ) × (next : ℕ) × IsLatch (circuit_of u.circuit.net) name v next
  latch_named [] v r = let cone = r.2 in (cone.0, cone.1, cone.2)
  latch_named (k ∷ node) v r = let cone = r.3.3 in (cone.0, cone.1, cone.2)

  -- all nodes that are reached were made
  pub holds_nodes : HoldsNodes u.circuit w.children x
  holds_nodes [] h = (0, omega arith, root_is w.children)
  holds_nodes (k ∷ node) h =
      let m = reached_visited (side_of u.circuit) (Enabled u.circuit) (x ∷ []) decided node h.0 h.1 in
      let l = latch_named node h.0 h.1 in
      let g = goes_on m.out h.0 node l.0 l.1 (stood m.visit) m.other l.2 in
      (g.frame.node, g.node, g.path_is ∙ ap (λ (c : ℕ). c ∷ node) h.2)

  -- what starts at one of two is reached from the other too
  reached_from : (S T : ℕ → Type 0) → ((v : ℕ) → S v → T v) → (node : List ℕ) (v : ℕ) → ReachedAt (side_of u.circuit) (Enabled u.circuit) S node v → ReachedAt (side_of u.circuit) (Enabled u.circuit) T node v
  reached_from S T to [] v r = to v r
  reached_from S T to (k ∷ node) v r = (r.0, reached_from S T to node r.0 r.1, r.2, r.3)

  begun_from : (v : ℕ) → StartLatches (side_of u.circuit) (x ∷ []) v → IsBegun (circuit_of u.circuit.net) x v
  begun_from v h = elim (Contains-cases x h.0 [] h.1) [ inl same ↦ subst (λ (z : Start ℕ). ConeLatches (circuit_of u.circuit.net) z.place v × IsOther z.left_out v) (sym same) (h.2, h.3) | inr none ↦ absurd (omega (arith, none.1)) ]

  begun_to : (v : ℕ) → IsBegun (circuit_of u.circuit.net) x v → StartLatches (side_of u.circuit) (x ∷ []) v
  begun_to v h = (x, (0, omega arith, refl), h.0, h.1)

  -- the care of the table is that of what is reached
  pub care_lit : (lit : ℕ) → IsCareOf u.circuit w u.frames table lit → IsCareLit u.circuit w x lit
  care_lit lit care = record {
    enables = care.enables;
    each = λ y h. let p = care.each y h in each y p.0 p.1 p.2;
    all = λ path v r on.
        let m = reached_visited (side_of u.circuit) (Enabled u.circuit) (x ∷ []) decided path v (reached_from (IsBegun (circuit_of u.circuit.net) x) (StartLatches (side_of u.circuit) (x ∷ [])) begun_to path v r) in
        all path v on (stood m.visit) m.other;
    is = care.is;
    within = care.within;
  }
    where
      each : (y : ℕ) (p : ℕ × ℕ) → Contains table p → IsPlaceEnable u.circuit w u.frames p y → (path : List ℕ) × (v : ℕ) × ReachedAt (side_of u.circuit) (Enabled u.circuit) (IsBegun (circuit_of u.circuit.net) x) path v × IsEnableOnward u.circuit w path v y
      each y p h k =
          let i = at_of table p h in
          let visited = All-at (IsVisitedPlace u.circuit u.frames w.children x) table i.0 p i.1 (walked.visits x begins) in
          let same : visited.frame ≡ k.held.frame = one_at u.frames p.0 visited.frame k.held.frame visited.at k.held.at in
          let visit = subst (λ (f : Frame). EventVisits (side_of u.circuit) (Enabled u.circuit) (x ∷ []) visited.out p.1 (path_of w.children f.node)) same visited.visit in
          let fits = subst (λ (f : Frame). IsFitting u.circuit.net f.put visited.out p.1) same visited.fits in
          let on = k.held.enabled in (
            path_of w.children k.held.frame.node,
            p.1,
            reached_from (StartLatches (side_of u.circuit) (x ∷ [])) (IsBegun (circuit_of u.circuit.net) x) begun_from (path_of w.children k.held.frame.node) p.1
                (visited_reached (side_of u.circuit) (Enabled u.circuit) (x ∷ []) visit on.latch (fits_other u.circuit.net k.held.frame.put visited.out p.1 fits k.held.free)),
            k.onward,
          )

      all : (path : List ℕ) (v : ℕ) → Enabled u.circuit v → {out : Option ℕ} → IsStoodAt out v path → IsOther out v → (y : ℕ) × Contains care.enables y × IsEnableOnward u.circuit w path v y
      all path v on {out} k other =
          let free = fits_free_of_put u.circuit.net k.frame.put out v k.fits other in
          let y = care.all (k.number, v) k.there (record { frame = k.frame; at = k.at; free = free; enabled = on }) in
          let same : y.2.held.frame ≡ k.frame = one_at u.frames k.number y.2.held.frame k.frame y.2.held.at k.at in
          (y.0, y.1, subst (λ (n : List ℕ). IsEnableOnward u.circuit w n v y.0) (ap (λ (f : Frame). path_of w.children f.node) same ∙ k.path_is) y.2.onward)

  -- an open place's latch is reached
  open_reached : (p : ℕ × ℕ) → Contains table p → (o : IsOpenPlace u.circuit u.frames p) → ReachedAt (side_of u.circuit) (Enabled u.circuit) (StartLatches (side_of u.circuit) (x ∷ [])) (path_of w.children o.frame.node) p.1
  open_reached p h o =
      let i = at_of table p h in
      let visited = All-at (IsVisitedPlace u.circuit u.frames w.children x) table i.0 p i.1 (walked.visits x begins) in
      let same : visited.frame ≡ o.frame = one_at u.frames p.0 visited.frame o.frame visited.at o.at in
      let visit = subst (λ (f : Frame). EventVisits (side_of u.circuit) (Enabled u.circuit) (x ∷ []) visited.out p.1 (path_of w.children f.node)) same visited.visit in
      let fits = subst (λ (f : Frame). IsFitting u.circuit.net f.put visited.out p.1) same visited.fits in
      visited_reached (side_of u.circuit) (Enabled u.circuit) (x ∷ []) visit o.latch.2 (fits_other u.circuit.net o.frame.put visited.out p.1 fits o.free)

  -- and takes over its data at the child by its class
  onward_node : (i : ℕ) (p : ℕ × ℕ) (g : Ways) (f : Frame) → slice_get table i ≡ Some p → slice_get ways i ≡ Some g → (o : IsOpenPlace u.circuit u.frames p) → slice_get u.frames g.onward ≡ Some f →
      (f.node ≤ length w.children) × (path_of w.children f.node ≡ (side_of u.circuit).class p.1 ∷ path_of w.children o.frame.node)
  onward_node i p g f at over o onto =
      let y = walked.expanded i p g at over in
      let same : y.frame ≡ o.frame = one_at u.frames p.0 y.frame o.frame y.at o.at in
      let free : NotPut (put_of y.frame.put) p.1 = subst (λ (h : Frame). NotPut (put_of h.put) p.1) (sym same) o.free in
      let z = y.onward o.latch.0 o.latch.1 o.latch.2 free in
      let there : z.0 ≡ f = one_at u.frames g.onward z.0 f z.1 onto in (
        subst (λ (h : Frame). h.node ≤ length w.children) there (child_node y.frame.node ((side_of u.circuit).class p.1) z.0.node z.2.child),
        subst (λ (h : Frame). path_of w.children h.node ≡ (side_of u.circuit).class p.1 ∷ path_of w.children o.frame.node) there
            (child_path w.children tree y.frame.node ((side_of u.circuit).class p.1) z.0.node z.2.child ∙ ap (λ (h : Frame). (side_of u.circuit).class p.1 ∷ path_of w.children h.node) same),
      )

  -- what is reached has an open place
  pub record HasPlace (path : List ℕ) (v : ℕ) : Type 0 where
    pub index : ℕ
    pub place : ℕ × ℕ
    pub at : slice_get table index ≡ Some place
    pub signal_is : place.1 ≡ v
    pub open_there : IsOpenPlace u.circuit u.frames place
    pub path_is : path_of w.children open_there.frame.node ≡ path

  has_place : (path : List ℕ) (v : ℕ) → ReachedAt (side_of u.circuit) (Enabled u.circuit) (StartLatches (side_of u.circuit) (x ∷ [])) path v → HasPlace path v
  has_place path v r =
      let m = reached_visited (side_of u.circuit) (Enabled u.circuit) (x ∷ []) decided path v r in
      let k = stood m.visit in
      let i = at_of table (k.number, v) k.there in
      record {
        index = i.0;
        place = (k.number, v);
        at = i.1;
        signal_is = refl;
        open_there = record { frame = k.frame; at = k.at; free = fits_free_of_put u.circuit.net k.frame.put m.out v k.fits m.other; latch = latch_named path v r };
        path_is = k.path_is;
      }

  pub reach_of : AreDistinct w.children → (nodes : List ℕ) (only : Bool) → AreNodesOf u.circuit u.frames table ways nodes → (only ≡ true → (i : ℕ) (p : ℕ × ℕ) → slice_get table i ≡ Some p → IsOpenPlace u.circuit u.frames p → (side_of u.circuit).class p.1 ≡ 0) →
      (only ≡ false → (i : ℕ) × (p : ℕ × ℕ) × (slice_get table i ≡ Some p) × IsOpenPlace u.circuit u.frames p × ((side_of u.circuit).class p.1 ≡ 0 → ⊥)) → IsReachOf u.circuit w.children x nodes only
  reach_of once nodes only are all_yes some_no = record {
    nodes_are = λ k. (λ h. to k (are.each k h), λ h. from k h.0 (path_of w.children k) refl h.1);
    only_is = (
      λ is path v r. let h = has_place path v r in subst (λ (s : ℕ). (side_of u.circuit).class s ≡ 0) h.signal_is (all_yes is h.index h.place h.at h.open_there),
      λ all. always only refl all,
    );
  }
    where
      to : (k : ℕ) → (k ≡ 0) ⊎ ((i : ℕ) × (p : ℕ × ℕ) × (g : Ways) × (f : Frame) × (slice_get table i ≡ Some p) × (slice_get ways i ≡ Some g) × IsOpenPlace u.circuit u.frames p × (slice_get u.frames g.onward ≡ Some f) × (f.node ≡ k)) →
          (k ≤ length w.children) × IsNode (side_of u.circuit) (Enabled u.circuit) (StartLatches (side_of u.circuit) (x ∷ [])) (path_of w.children k)
      to k (inl zero) = (omega (arith, zero), subst (IsNode (side_of u.circuit) (Enabled u.circuit) (StartLatches (side_of u.circuit) (x ∷ []))) (sym (ap (path_of w.children) zero ∙ root_is w.children)) tt)
      to k (inr h) =
          let n = onward_node h.0 h.1 h.2 h.3 h.4 h.5 h.6 h.7 in
          subst (λ (m : ℕ). (m ≤ length w.children) × IsNode (side_of u.circuit) (Enabled u.circuit) (StartLatches (side_of u.circuit) (x ∷ [])) (path_of w.children m)) h.8
          (n.0, subst (IsNode (side_of u.circuit) (Enabled u.circuit) (StartLatches (side_of u.circuit) (x ∷ []))) (sym n.1) (h.1.1, open_reached h.1 (of_at table h.0 h.1 h.4) h.6, refl))

      from : (k : ℕ) → k ≤ length w.children → (path : List ℕ) → path_of w.children k ≡ path → IsNode (side_of u.circuit) (Enabled u.circuit) (StartLatches (side_of u.circuit) (x ∷ [])) path → Contains nodes k
      from k made [] is node = subst (Contains nodes) (one_node w.children tree once 0 k (omega arith) made (root_is w.children ∙ sym is)) are.root
      from k made (c ∷ path) is node =
          let h = has_place path node.0 node.1 in
          let inside = slice_get_within table h.index h.place h.at in
          let g = some_at ways h.index (omega (arith, inside, walked.each)) in
          let y = walked.expanded h.index h.place g.0 h.at g.1 in
          let same : y.frame ≡ h.open_there.frame = one_at u.frames h.place.0 y.frame h.open_there.frame y.at h.open_there.at in
          let z = y.onward h.open_there.latch.0 h.open_there.latch.1 h.open_there.latch.2 (subst (λ (f : Frame). NotPut (put_of f.put) h.place.1) (sym same) h.open_there.free) in
          let n = onward_node h.index h.place g.0 z.0 h.at g.1 h.open_there z.1 in
          let whole : path_of w.children z.0.node ≡ c ∷ path = n.1 ∙ (ap (λ (m : List ℕ). (side_of u.circuit).class h.place.1 ∷ m) h.path_is ∙ ap (λ (i : ℕ). i ∷ path) (ap (side_of u.circuit).class h.signal_is ∙ node.2)) in
          subst (Contains nodes) (one_node w.children tree once z.0.node k n.0 made (whole ∙ sym is)) (are.all h.index h.place g.0 z.0 h.at g.1 h.open_there z.1)

      always : (b : Bool) → only ≡ b → ((path : List ℕ) (v : ℕ) → ReachedAt (side_of u.circuit) (Enabled u.circuit) (StartLatches (side_of u.circuit) (x ∷ [])) path v → (side_of u.circuit).class v ≡ 0) → only ≡ true
      always true is all = is
      always false is all = let h = some_no is in absurd (h.4 (all (path_of w.children h.3.frame.node) h.1.1 (open_reached h.1 (of_at table h.0 h.1 h.2) h.3)))
