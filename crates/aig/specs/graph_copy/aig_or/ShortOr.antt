-- The or of two literals, made of two shorter ones: the complement of each is restricted to where that of the other one is 1.
use Rattle.std.specs.Prelude.{◌≡◌, ℕ, zero, suc, ◌/◌, ◌%◌, ◌==◌, ◌||◌, Bool, false, if◌then◌else◌, List, slice_get, Option, Some, None, option_map, unwrap_or}
use Rattle.std.specs.Option.{option_or}
use Rattle.aig.specs.declared.node.Lit.{Lit}
use Rattle.aig.specs.declared.node.Node.{Node}
use Rattle.aig.specs.declared.node.Node.TheVariants.{Constant, Input, And}
use Rattle.aig.specs.Graph.{flip}
use Rattle.aig.specs.Rules.{simple_and, IsAndOf}

-- the operands of a node that is an and
abbrev pub operands_of : Option Node → Option (Lit × Lit)
operands_of (Some (And l r)) = Some (l, r)
operands_of (Some (Input v)) = None
operands_of (Some Constant) = None
operands_of None = None

-- the operands of the literal's node
unfoldable pub node_operands : List Node → ℕ → Option (Lit × Lit)
node_operands g x = operands_of (slice_get g (x / 2))

-- the operands of a literal that stands for an and, and not for its complement
unfoldable pub operands : List Node → ℕ → Option (Lit × Lit)
operands g x = if x % 2 == 0 then node_operands g x else None

-- one of both passes the test
abbrev pub either : (ℕ → Bool) → Option (Lit × Lit) → Bool
either test None = false
either test (Some (l, r)) = test l.0 || test r.0

-- e is a conjunct of x: x itself, or one of an operand, so many steps down at most
unfoldable pub is_conjunct : List Node → ℕ → ℕ → ℕ → Bool
is_conjunct g zero e x = x == e
is_conjunct g (suc steps) e x = (x == e) || either (is_conjunct g steps e) (operands g x)

-- y, or its complement where x is a complement
unfoldable pub with_sign : ℕ → ℕ → ℕ
with_sign x y = if x % 2 == 0 then y else flip y

-- the literal of x's node by its operands, read so: their and where that needs no node, or else x as it is
abbrev pub by_operands : (ℕ → ℕ) → ℕ → Option (Lit × Lit) → ℕ
by_operands read x None = x
by_operands read x (Some (l, r)) = unwrap_or (option_map (with_sign x) (simple_and (read l.0) (read r.0))) x

-- x restricted to where a is 1: 1 if it is a conjunct of a, 0 if its complement is, or else by its operands, so many steps down at most
unfoldable pub restricted : List Node → ℕ → ℕ → ℕ → ℕ
restricted g zero a x = x
restricted g (suc steps) a x = if is_conjunct g 7 x a then 1 else if is_conjunct g 7 (flip x) a then 0 else by_operands (restricted g steps a) x (node_operands g x)

-- x where a is 1: 1 also where a's complement is 1 wherever x's is
unfoldable pub under : List Node → ℕ → ℕ → ℕ
under g a x = if restricted g 7 (flip x) (flip a) == 1 then 1 else restricted g 7 a x

-- the and of l and r, if it is one literal: r where l is 1, if l is 1 wherever that is
unfoldable pub one_and : List Node → ℕ → ℕ → Option ℕ
one_and g l r = if under g (under g l r) l == 1 then Some (under g l r) else None

-- an operand of r, and the and of l with the other one as one literal
abbrev pub split_and : List Node → ℕ → Option (Lit × Lit) → Option (ℕ × ℕ)
split_and g l None = None
split_and g l (Some (c, d)) = option_or (option_map (λ x. (c.0, x)) (one_and g l d.0)) (option_map (λ x. (d.0, x)) (one_and g l c.0))

-- the same, or else r where l is 1, and l where that is
abbrev pub shorter_and : List Node → ℕ → ℕ → ℕ × ℕ
shorter_and g l r = unwrap_or (split_and g l (operands g r)) (under g l r, under g (under g l r) l)

-- two literals whose and is that of l and r
unfoldable pub short_and : List Node → ℕ → ℕ → ℕ × ℕ
short_and g l r = shorter_and g (under g r l) r

-- the literal for x or y
abbrev pub IsShortOr : List Node → ℕ → ℕ → ℕ → Type 0
IsShortOr g x y lit = (k : ℕ) × IsAndOf g (short_and g (flip x) (flip y)).0 (short_and g (flip x) (flip y)).1 k × (lit ≡ flip k)
