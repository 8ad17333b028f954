-- Clauses as texts, and texts that refute them.
use Rattle.std.specs.Prelude.{ℕ, List, Some, codes}
use Rattle.job_cert.specs.job_lrat.Answer.{IsRefuted, CanVerify}

-- a variable and its negation, by the line that adds the empty clause
abbrev pub UnitsAreRefuted : Type 0
UnitsAreRefuted = IsRefuted (codes "p cnf 1 2\n1 0\n-1 0\n") (codes "3 0 1 2 0\n")

-- all clauses of two variables, with a comment, clauses that share a line, one over two lines, a clause that is added and one that is deleted
abbrev pub pairs : List ℕ
pairs = codes "c over two variables\n\np cnf 2 4\n1 2 0 1 -2 0\n-1 2\n0 -1 -2 0\n"

-- the same refuted, with a comment and a line behind the one that ends it
abbrev pub refuting : List ℕ
refuting = codes "c a comment\n\n7 1 0 1 2 0\n8 d 1 2 0\n9 0 7 3 4 0\nwhat follows is not read\n"

abbrev pub PairsAreRefuted : Type 0
PairsAreRefuted = CanVerify (Some pairs) (Some refuting)
