-- Texts that are worked in the documents.
use Rattle.std.specs.Prelude.{ℕ, List, codes}

-- an and by the row where it is 1
abbrev pub on_and : List ℕ
on_and = codes ".model m\n.inputs a b\n.outputs y\n.names a b y\n11 1\n.end\n"

-- an and by the rows where it is 0
abbrev pub off_and : List ℕ
off_and = codes ".model m\n.inputs a b\n.outputs y\n.names a b y\n0- 0\n-0 0\n.end\n"

-- an and, and a latch behind it
abbrev pub late : List ℕ
late = codes ".model m\n.inputs a b\n.outputs y\n.names a b n\n11 1\n.latch n y\n.end\n"

-- the same retimed: a latch at each input, and the and behind them
abbrev pub early : List ℕ
early = codes ".model m\n.inputs a b\n.outputs y\n.latch a p\n.latch b q\n.names p q y\n11 1\n.end\n"

-- a latch that takes over its own value, turned
abbrev pub toggle : List ℕ
toggle = codes ".model m\n.outputs y\n.names q n\n0 1\n.latch n q\n.names q y\n1 1\n.end\n"

-- an and inside of an instance, and a latch behind it
abbrev pub hier : List ℕ
hier = codes ".model top\n.inputs a b\n.outputs y\n.subckt g u=a v=b w=n\n.latch n y\n.end\n.model g\n.inputs u v\n.outputs w\n.names u v w\n11 1\n.end\n"

-- two latches in a row
abbrev pub two : List ℕ
two = codes ".model m\n.inputs a\n.outputs y\n.latch a p\n.latch p y\n.end\n"

-- a latch that feeds no output, beside an output that is an input
abbrev pub idle : List ℕ
idle = codes ".model m\n.inputs a\n.outputs y\n.latch a q\n.names a y\n1 1\n.end\n"

-- two latches that take over each other
abbrev pub ring : List ℕ
ring = codes ".model m\n.outputs y\n.latch q p\n.latch p q\n.names p y\n1 1\n.end\n"

-- a latch inside of an instance, which turns where the input is 1, and a latch behind the instance
abbrev pub nested : List ℕ
nested = codes ".model top\n.inputs a\n.outputs y\n.subckt cell i=a o=m\n.latch m y\n.end\n.model cell\n.inputs i\n.outputs o\n.names i q n\n10 1\n01 1\n.latch n q\n.names q o\n1 1\n.end\n"

-- three latches, of which the first starts with 1, the second with 0, and the third with either
abbrev pub started : List ℕ
started = codes ".model m\n.inputs a\n.outputs p q r\n.latch a p 1\n.latch a q 0\n.latch a r 2\n.end\n"

-- a stimulus of one input and three cycles
abbrev pub three_cycles : List ℕ
three_cycles = codes "inputs a\n1\n0\n0\n"
