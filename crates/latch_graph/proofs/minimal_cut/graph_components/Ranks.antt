-- Numbers of signals, node by node.
use Rattle.std.proofs.Common.{◌≡◌, ◌≢◌, ◌∙◌, ◌+◌, ◌≤◌, ◌<◌, ℕ, List, [], ◌∷◌, ◌++◌, length, get_or, slice_get, Some, refl, sym, ap, subst, arith, inl, inr}
use Rattle.std.specs.Prelude.{◌⊎◌}
use Rattle.std.specs.List.{All}
use Rattle.std.proofs.lemmas.Option.{slice_get_within, same_Some}
use Rattle.signal_graph.specs.flat_net.Signal.{Signal}
use Rattle.signal_graph.proofs.flat_net.Places.{All-at}
use Rattle.signal_graph.proofs.flat_net.Growth.{slice_get-append}
use Rattle.signal_graph.specs.declared.nodes.Node.{Node}
use Rattle.latch_graph.specs.minimal_cut.graph_components.Inner.{AreRanked, IsInnerOf}

less_or_same : (x s : ℕ) → x < s + 1 → (x < s) ⊎ (x ≡ s)
less_or_same x s l = grind arith

-- no signal of the first ones reads one with a greater number
abbrev pub AreRankedTo : List Node → List ℕ → ℕ → Type 0
AreRankedTo nodes labels count =
    (s k : ℕ) (node : Node) (r : Signal) → s < count → slice_get nodes s ≡ Some node → slice_get node.reads k ≡ Some r → get_or labels r.0 0 ≤ get_or labels s 0

pub ranked_more : (nodes : List Node) (labels : List ℕ) (s : ℕ) (node : Node) → slice_get nodes s ≡ Some node → All (λ (r : Signal). get_or labels r.0 0 ≤ get_or labels s 0) node.reads → AreRankedTo nodes labels s → AreRankedTo nodes labels (s + 1)
ranked_more nodes labels s node at all before x k other r below here read = by (less_or_same x s below)
  where
    by : (x < s) ⊎ (x ≡ s) → get_or labels r.0 0 ≤ get_or labels x 0
    by (inl less) = before x k other r less here read
    by (inr e) =
        let same : other ≡ node = same_Some other node (sym here ∙ ap (slice_get nodes) e ∙ at) in
        let one = All-at (λ (q : Signal). get_or labels q.0 0 ≤ get_or labels s 0) node.reads k r (ap (λ (n : Node). slice_get n.reads k) (sym same) ∙ read) all in
        subst (λ (q : ℕ). get_or labels r.0 0 ≤ get_or labels q 0) (sym e) one

pub ranked_all : (nodes : List Node) (labels : List ℕ) (count : ℕ) → length nodes ≤ count → AreRankedTo nodes labels count → AreRanked nodes labels
ranked_all nodes labels count whole ranked s k node r here read = let l = slice_get_within nodes s node here in ranked s k node r (omega (arith, l, whole)) here read

-- the first nodes have theirs
abbrev pub AreMadeTo : List Node → List ℕ → ℕ → List Node → Type 0
AreMadeTo nodes labels count inner = (s : ℕ) (node : Node) → s < count → slice_get nodes s ≡ Some node → (made : Node) × (slice_get inner s ≡ Some made) × IsInnerOf labels (get_or labels s 0) node made

last_there : (inner : List Node) (node : Node) → slice_get (inner ++ node ∷ []) (length inner) ≡ Some node
last_there [] node = refl
last_there (x ∷ inner) node = last_there inner node

pub made_more : (nodes : List Node) (labels : List ℕ) (s : ℕ) (inner more : List Node) (node made : Node) → length inner ≡ s → slice_get nodes s ≡ Some node → more ≡ inner ++ made ∷ [] → IsInnerOf labels (get_or labels s 0) node made → AreMadeTo nodes labels s inner → AreMadeTo nodes labels (s + 1) more
made_more nodes labels s inner more node made size at is here before x other below there = by (less_or_same x s below)
  where
    by : (x < s) ⊎ (x ≡ s) → (m : Node) × (slice_get more x ≡ Some m) × IsInnerOf labels (get_or labels x 0) other m
    by (inl less) =
        let m = before x other less there in
        (m.0, subst (λ (l : List Node). slice_get l x ≡ Some m.0) (sym is) (slice_get-append inner (made ∷ []) x m.0 m.1), m.2)
    by (inr e) =
        let same : node ≡ other = same_Some node other (sym at ∙ ap (slice_get nodes) (sym e) ∙ there) in (
          made,
          subst (λ (l : List Node). slice_get l x ≡ Some made) (sym is) (ap (slice_get (inner ++ made ∷ [])) (e ∙ sym size) ∙ last_there inner made),
          subst (λ (q : ℕ). IsInnerOf labels (get_or labels q 0) other made) (sym e) (subst (λ (n : Node). IsInnerOf labels (get_or labels s 0) n made) same here),
        )
