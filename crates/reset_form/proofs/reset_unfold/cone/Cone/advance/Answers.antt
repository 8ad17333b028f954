-- The next cycle's leaves, and the places that are left.
use Rattle.std.proofs.Common.{◌+◌, ◌-◌, ◌<◌, ◌≤◌, ◌^◌, ℕ, List, length, refl, sym, ap, subst, arith}
use Rattle.std.specs.List.{All, AllPairs}
use Rattle.cbf_unfold.specs.unfold_places.Places.{PlaceBefore}
use Rattle.flat_net.specs.View.{circuit_of}
use Rattle.reset_form.specs.reset_unfold.Reach.{AreLeavesOf}
use Rattle.reset_form.specs.reset_unfold.Cone.{ConeView, IsCone, IsBlock, HasLater}
use Rattle.reset_form.proofs.reset_unfold.CycleLeaves.{block_within, block_ordered, here_first, found_small, cone_next}
use Rattle.reset_form.proofs.reset_unfold.cone.Cone.advance.Goals as goal

pub block_of-requires : goal.block_of-requires
block_of-requires c =
    let i = c.self.inside in
    let k : ConeView = record { signal = i.signal; last = i.last; next = i.next; visited = i.visited.items; front = i.front; found = i.found.items } in
    let is : IsCone c.args.net.now c.args.order.now c.args.base k = subst (IsCone c.args.net.now c.args.order.now c.args.base) (sym c.self.view_is) c.requires.cone in
    let long = ap length c.as_slice.ensures.value in
    omega (arith, is.front_in, long)

pub leaves_of-requires-clause-within : goal.leaves_of-requires-clause-within
leaves_of-requires-clause-within c =
    let i = c.self.inside in
    let k : ConeView = record { signal = i.signal; last = i.last; next = i.next; visited = i.visited.items; front = i.front; found = i.found.items } in
    let n = c.args.net.now in
    let is : IsCone n c.args.order.now c.args.base k = subst (IsCone n c.args.order.now c.args.base) (sym c.self.view_is) c.requires.cone in
    let next_in : i.next ≤ i.last = omega (arith, c.requires.next, ap (λ (v : ConeView). v.next) c.self.view_is, ap (λ (v : ConeView). v.last) c.self.view_is) in
    let block = c.in_ok-block.block.items in
    let b : IsBlock i.visited.items i.front (i.last - i.next) block = subst (λ (l : List (ℕ × ℕ)). IsBlock l i.front (i.last - i.next) block) c.as_slice.ensures.value c.in_ok-block.ensures in
    subst (All (λ (q : ℕ × ℕ). q.1 < length n.drivers)) (sym c.as_slice-2.ensures.value) (block_within n c.args.order.now c.args.base k is next_in (i.last - i.next) (omega (arith, next_in)) block b)

pub leaves_of-requires-clause-ordered : goal.leaves_of-requires-clause-ordered
leaves_of-requires-clause-ordered c =
    let i = c.self.inside in
    let k : ConeView = record { signal = i.signal; last = i.last; next = i.next; visited = i.visited.items; front = i.front; found = i.found.items } in
    let n = c.args.net.now in
    let is : IsCone n c.args.order.now c.args.base k = subst (IsCone n c.args.order.now c.args.base) (sym c.self.view_is) c.requires.cone in
    let next_in : i.next ≤ i.last = omega (arith, c.requires.next, ap (λ (v : ConeView). v.next) c.self.view_is, ap (λ (v : ConeView). v.last) c.self.view_is) in
    let block = c.in_ok-block.block.items in
    let b : IsBlock i.visited.items i.front (i.last - i.next) block = subst (λ (l : List (ℕ × ℕ)). IsBlock l i.front (i.last - i.next) block) c.as_slice.ensures.value c.in_ok-block.ensures in
    subst (AllPairs PlaceBefore) (sym c.as_slice-2.ensures.value) (block_ordered n c.args.order.now c.args.base k is next_in (i.last - i.next) (omega (arith, next_in)) block b)

pub add_later-requires : goal.add_later-requires
add_later-requires c =
    let i = c.self.inside in
    let k : ConeView = record { signal = i.signal; last = i.last; next = i.next; visited = i.visited.items; front = i.front; found = i.found.items } in
    let n = c.args.net.now in
    let is : IsCone n c.args.order.now c.args.base k = subst (IsCone n c.args.order.now c.args.base) (sym c.self.view_is) c.requires.cone in
    let next_in : i.next ≤ i.last = omega (arith, c.requires.next, ap (λ (v : ConeView). v.next) c.self.view_is, ap (λ (v : ConeView). v.last) c.self.view_is) in
    let block = c.in_ok-block.block.items in
    let b : IsBlock i.visited.items i.front (i.last - i.next) block = subst (λ (l : List (ℕ × ℕ)). IsBlock l i.front (i.last - i.next) block) c.as_slice.ensures.value c.in_ok-block.ensures in
    let here = c.in_ok-found.found.items in
    let leaves : AreLeavesOf (circuit_of n) c.args.order.now c.args.base block here = subst (λ (l : List (ℕ × ℕ)). AreLeavesOf (circuit_of n) c.args.order.now c.args.base l here) c.as_slice-2.ensures.value c.in_ok-found.ensures.leaves in
    record {
      first = here_first n c.args.order.now c.args.base k is next_in (i.last - i.next) (omega (arith, next_in)) block b here leaves;
      ordered = c.in_ok-found.ensures.ordered;
      before = subst (AllPairs PlaceBefore) (sym c.as_slice-3.ensures.value) is.leaves_ordered;
      small = subst (All (λ (y : ℕ × ℕ). y.0 + 1 < 2 ^ 32)) (sym c.as_slice-3.ensures.value) (found_small n c.args.order.now c.args.base k is next_in (i.last - i.next) (omega (arith, next_in)) block b (omega arith));
    }

pub returns-clause-cone : goal.returns-clause-cone
returns-clause-cone c =
    let i = c.self.inside in
    let k : ConeView = record { signal = i.signal; last = i.last; next = i.next; visited = i.visited.items; front = i.front; found = i.found.items } in
    let n = c.args.net.now in
    let is : IsCone n c.args.order.now c.args.base k = subst (IsCone n c.args.order.now c.args.base) (sym c.self.view_is) c.requires.cone in
    let next_in : i.next ≤ i.last = omega (arith, c.requires.next, ap (λ (v : ConeView). v.next) c.self.view_is, ap (λ (v : ConeView). v.last) c.self.view_is) in
    let block = c.in_ok-block.block.items in
    let b : IsBlock i.visited.items i.front (i.last - i.next) block = subst (λ (l : List (ℕ × ℕ)). IsBlock l i.front (i.last - i.next) block) c.as_slice.ensures.value c.in_ok-block.ensures in
    let here = c.in_ok-found.found.items in
    let leaves : AreLeavesOf (circuit_of n) c.args.order.now c.args.base block here = subst (λ (l : List (ℕ × ℕ)). AreLeavesOf (circuit_of n) c.args.order.now c.args.base l here) c.as_slice-2.ensures.value c.in_ok-found.ensures.leaves in
    let later : HasLater i.found.items c.args.base here c.add_later.new.found.items = subst (λ (l : List (ℕ × ℕ)). HasLater l c.args.base here c.add_later.new.found.items) c.as_slice-3.ensures.value c.in_ok-add_later.ensures.later in
    cone_next n c.args.order.now c.args.base k is next_in (i.last - i.next) (omega (arith, next_in)) block b c.requires.base here _ leaves refl refl refl refl (omega (arith, c.len.ensures, c.in_ok-block.block.ok.0, c.in_ok-block.block.ok)) later c.in_ok-add_later.ensures.ordered

pub leaves_of-requires-clause-base : goal.leaves_of-requires-clause-base
leaves_of-requires-clause-base c = c.requires.base

pub overflow_add-self : goal.overflow_add-self
overflow_add-self c = omega (arith, c.requires.next, ap (λ (v : ConeView). v.next) c.self.view_is, ap (λ (v : ConeView). v.last) c.self.view_is, c.self.invariant)

pub returns-clause-next : goal.returns-clause-next
returns-clause-next c = ap (λ (v : ConeView). v.next + 1) c.self.view_is

pub returns-clause-same : goal.returns-clause-same
returns-clause-same c = (ap (λ (v : ConeView). v.signal) c.self.view_is, ap (λ (v : ConeView). v.last) c.self.view_is)
