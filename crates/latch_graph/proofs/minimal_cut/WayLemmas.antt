-- Ways back through the nodes of a graph.
use Rattle.std.proofs.Common.{◌≡◌, ◌≢◌, ◌≤◌, ◌<◌, ◌==◌, ◌∙◌, ℕ, Bool, true, false, cond, true≢false, List, [], ◌∷◌, length, filter, get_or, slice_get, Some, refl, sym, ap, subst, arith, inl, inr}
use Rattle.std.specs.Prelude.{◌⊎◌}
use Rattle.std.specs.List.{Contains}
use Rattle.std.proofs.lemmas.Bool.Decides.{Decides-eqb}
use Rattle.std.proofs.lemmas.Option.{slice_get_within, same_Some}
use Rattle.circuit_theory.proofs.Lists.{Contains-head, Contains-tail, Contains-cases, Contains-filter, at_of, of_at}
use Rattle.circuit_theory.proofs.Sums.{same_or_not}
use Rattle.latch_graph.specs.minimal_cut.graph_components.flat_net.Signal.{Signal}
use Rattle.latch_graph.proofs.minimal_cut.graph_components.flat_net.Nets.{some_at}
use Rattle.latch_graph.specs.minimal_cut.graph_components.Inner.{AreInner}
use Rattle.latch_graph.specs.minimal_cut.graph_components.Node.{Node}
use Rattle.latch_graph.specs.minimal_cut.Readers.{NodeReads, WayBack, AreReaders}

-- a way stays where fewer signals are blocked
pub way_map : (nodes : List Node) (blocked other : ℕ → Type 0) → ((s : ℕ) → other s → blocked s) → {s r : ℕ} → WayBack nodes blocked s r → WayBack nodes other s r
way_map nodes blocked other fewer (WayBack.last e) = WayBack.last e
way_map nodes blocked other fewer (WayBack.more {q = q} e free rest) = WayBack.more e (λ b. free (fewer q b)) (way_map nodes blocked other fewer rest)

module _ (nodes : List Node) (blocked : ℕ → Type 0) where
  -- one way and then another
  pub way_then : {s q r : ℕ} → WayBack nodes blocked s q → (blocked q → ⊥) → WayBack nodes blocked q r → WayBack nodes blocked s r
  way_then (WayBack.last e) free rest = WayBack.more e free rest
  way_then (WayBack.more e free first) free' rest = WayBack.more e free (way_then first free' rest)

  -- one reading more
  pub way_more : {s q r : ℕ} → WayBack nodes blocked s q → (blocked q → ⊥) → NodeReads nodes q r → WayBack nodes blocked s r
  way_more way free e = way_then way free (WayBack.last e)

-- a way turned round
pub way_ahead : (nodes readers : List Node) (blocked : ℕ → Type 0) → AreReaders nodes readers → {s r : ℕ} → WayBack nodes blocked s r → WayBack readers blocked r s
way_ahead nodes readers blocked are {s} {r} (WayBack.last e) = WayBack.last (are.back s r e)
way_ahead nodes readers blocked are {s} {r} (WayBack.more {q = q} e free rest) = way_more readers blocked (way_ahead nodes readers blocked are rest) free (are.back s q e)

pub way_behind : (nodes readers : List Node) (blocked : ℕ → Type 0) → AreReaders nodes readers → {s r : ℕ} → WayBack readers blocked s r → WayBack nodes blocked r s
way_behind nodes readers blocked are {s} {r} (WayBack.last e) = WayBack.last (are.from r s e)
way_behind nodes readers blocked are {s} {r} (WayBack.more {q = q} e free rest) = way_more nodes blocked (way_behind nodes readers blocked are rest) free (are.from q s e)

-- a way that may go through one signal more avoids it, or goes through it
module _ (nodes : List Node) (old new : ℕ → Type 0) (root : ℕ) (stay : (s : ℕ) → old s → s ≢ root → new s) where
  way_split : {s r : ℕ} → WayBack nodes new s r → WayBack nodes old s r ⊎ (WayBack nodes new s root × WayBack nodes new root r)
  way_split (WayBack.last e) = inl (WayBack.last e)
  way_split {s} {r} (WayBack.more {q = q} e free rest) = by (same_or_not q root) (way_split rest)
    where
      by : (q ≡ root) ⊎ (q ≢ root) → WayBack nodes old q r ⊎ (WayBack nodes new q root × WayBack nodes new root r) → WayBack nodes old s r ⊎ (WayBack nodes new s root × WayBack nodes new root r)
      by (inl same) x = inr (WayBack.last (subst (λ z. NodeReads nodes s z) same e), subst (λ z. WayBack nodes new z r) same rest)
      by (inr other) (inl way) = inl (WayBack.more e (λ b. free (stay q b other)) way)
      by (inr other) (inr x) = inr (WayBack.more e free x.0, x.1)

  -- where no cycle was left, and none goes through the signal that is put back, none is left
  pub still_free : (IsAsked : ℕ → Type 0) → ((s : ℕ) → IsAsked s → (old s → ⊥) → WayBack nodes old s s → ⊥) → (WayBack nodes new root root → ⊥) →
      (s : ℕ) → IsAsked s → (new s → ⊥) → WayBack nodes new s s → ⊥
  still_free IsAsked before none s asked free way = by (same_or_not s root) (way_split way)
    where
      by : (s ≡ root) ⊎ (s ≢ root) → WayBack nodes old s s ⊎ (WayBack nodes new s root × WayBack nodes new root s) → ⊥
      by (inl same) x = none (subst (λ z. WayBack nodes new z z) same way)
      by (inr other) (inl old_way) = before s asked (λ b. free (stay s b other)) old_way
      by (inr other) (inr x) = none (way_then nodes new x.1 free x.0)

filter_in : {X : Type 0} (test : X → Bool) (xs : List X) (x : X) → Contains xs x → test x ≡ true → Contains (filter test xs) x
filter_in test [] x h passes = h
filter_in {X} test (y ∷ xs) x h passes = by (test y) refl (λ k. filter_in test xs x k passes) (Contains-cases y x xs h)
  where
    by : (b : Bool) → test y ≡ b → (Contains xs x → Contains (filter test xs) x) → (y ≡ x) ⊎ Contains xs x → Contains (cond b (y ∷ filter test xs) (filter test xs)) x
    by true e later (inl same) = subst (Contains (y ∷ filter test xs)) same (Contains-head y (filter test xs))
    by true e later (inr k) = Contains-tail y x (filter test xs) (later k)
    by false e later (inl same) = absurd (true≢false (sym passes ∙ ap test (sym same) ∙ e))
    by false e later (inr k) = later k

-- each cycle stays within readings of one number
module _ (nodes inner : List Node) (are : AreInner nodes inner) where
  read_falls : (s r : ℕ) → NodeReads nodes s r → get_or are.labels r 0 ≤ get_or are.labels s 0
  read_falls s r e = subst (λ (q : ℕ). get_or are.labels q 0 ≤ get_or are.labels s 0) e.is (are.ranked s e.place e.node e.signal e.here e.read)

  read_kept : (s r : ℕ) → NodeReads nodes s r → get_or are.labels r 0 ≡ get_or are.labels s 0 → NodeReads inner s r
  read_kept s r e same =
      let made = are.each s e.node e.here in
      let level : get_or are.labels e.signal.0 0 ≡ get_or are.labels s 0 = ap (λ (q : ℕ). get_or are.labels q 0) e.is ∙ same in
      let has = filter_in (λ (q : Signal). get_or are.labels q.0 0 == get_or are.labels s 0) e.node.reads e.signal (of_at e.node.reads e.place e.signal e.read) ((Decides-eqb (get_or are.labels e.signal.0 0) (get_or are.labels s 0)).1 level) in
      let at = at_of made.0.reads e.signal (subst (λ (l : List Signal). Contains l e.signal) (sym made.2) has) in
      record { node = made.0; place = at.0; signal = e.signal; here = made.1; read = at.1; is = e.is }

  pub read_there : (s r : ℕ) → NodeReads inner s r → NodeReads nodes s r
  read_there s r e =
      let inside = slice_get_within inner s e.node e.here in
      let node = some_at nodes s (omega (arith, inside, are.size)) in
      let made = are.each s node.0 node.1 in
      let same : e.node ≡ made.0 = same_Some e.node made.0 (sym e.here ∙ made.1) in
      let has = subst (λ (l : List Signal). Contains l e.signal) (ap (λ (n : Node). n.reads) same ∙ made.2) (of_at e.node.reads e.place e.signal e.read) in
      let at = at_of node.0.reads e.signal (Contains-filter (λ (q : Signal). get_or are.labels q.0 0 == get_or are.labels s 0) node.0.reads e.signal has) in
      record { node = node.0; place = at.0; signal = e.signal; here = node.1; read = at.1; is = e.is }

  pub way_there : (blocked : ℕ → Type 0) → {s r : ℕ} → WayBack inner blocked s r → WayBack nodes blocked s r
  way_there blocked {s} {r} (WayBack.last e) = WayBack.last (read_there s r e)
  way_there blocked {s} {r} (WayBack.more {q = q} e free rest) = WayBack.more (read_there s q e) free (way_there blocked rest)

  way_falls : (blocked : ℕ → Type 0) → {s r : ℕ} → WayBack nodes blocked s r → get_or are.labels r 0 ≤ get_or are.labels s 0
  way_falls blocked {s} {r} (WayBack.last e) = read_falls s r e
  way_falls blocked {s} {r} (WayBack.more {q = q} e free rest) = omega (arith, read_falls s q e, way_falls blocked rest)

  way_level : (blocked : ℕ → Type 0) → {s r : ℕ} → WayBack nodes blocked s r → get_or are.labels s 0 ≤ get_or are.labels r 0 → WayBack inner blocked s r
  way_level blocked {s} {r} (WayBack.last e) up = WayBack.last (read_kept s r e (omega (arith, read_falls s r e, up)))
  way_level blocked {s} {r} (WayBack.more {q = q} e free rest) up =
      let down = read_falls s q e in
      let later = way_falls blocked rest in
      WayBack.more (read_kept s q e (omega (arith, down, later, up))) free (way_level blocked rest (omega (arith, down, up)))

  pub way_within : (blocked : ℕ → Type 0) (root : ℕ) → WayBack nodes blocked root root → WayBack inner blocked root root
  way_within blocked root way = way_level blocked way (omega arith)

  -- what is read there is a signal
  pub inner_within : ((s k : ℕ) (node : Node) (r : Signal) → slice_get nodes s ≡ Some node → slice_get node.reads k ≡ Some r → r.0 < length nodes) → (s k : ℕ) (node : Node) (r : Signal) → slice_get inner s ≡ Some node → slice_get node.reads k ≡ Some r → r.0 < length inner
  inner_within within s k node r here read =
      let e = read_there s r.0 (record { node = node; place = k; signal = r; here = here; read = read; is = refl }) in
      let l = within s e.place e.node e.signal e.here e.read in
      omega (arith, subst (λ (q : ℕ). q < length nodes) e.is l, are.size)
