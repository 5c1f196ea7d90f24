-- Kinds of statements in the code: of a keyword, their numbers, and what each kind asks of its math string.
-- The numbers are `kind_number`'s.
use Rattle.std.specs.Prelude.{Option, Some, None, ℕ}
use Rattle.std.proofs.Math.Option as found
use Rattle.paper.specs.Statements as paper
use Rattle.reader.specs.declared.kind.Kind.{Kind}
use Rattle.reader.specs.declared.kind.Kind.TheVariants.{C, V, D, F, E, A, P}

abbrev pub kind_of : paper.Kind → Kind
kind_of paper.$c = C
kind_of paper.$v = V
kind_of paper.$d = D
kind_of paper.$f = F
kind_of paper.$e = E
kind_of paper.$a = A
kind_of paper.$p = P

abbrev pub code : found.Option paper.Kind → Option Kind
code found.none = None
code (found.some k) = Some (kind_of k)

abbrev pub number_of : Kind → ℕ
number_of C = 1
number_of V = 2
number_of D = 3
number_of F = 4
number_of E = 5
number_of A = 6
number_of P = 7

abbrev pub least_number : Kind → ℕ
least_number C = 1
least_number V = 1
least_number D = 2
least_number F = 2
least_number E = 1
least_number A = 1
least_number P = 1

-- no text has more than 16,777,216 tokens
abbrev pub most_number : Kind → ℕ
most_number C = 16777217
most_number V = 16777217
most_number D = 16777217
most_number F = 2
most_number E = 16777217
most_number A = 16777217
most_number P = 16777217

abbrev pub closing_number : Kind → ℕ
closing_number C = 46
closing_number V = 46
closing_number D = 46
closing_number F = 46
closing_number E = 46
closing_number A = 46
closing_number P = 61
