-- Frames as functions of statement rows: which names are constants is fixed by the whole text, so the formula of an
-- accepted `$e`, `$a` or `$p`, and with it a frame, can be read off the statements.
use Rattle.std.specs.Prelude.{Bool, false, List, [], ◌∷◌, ◌++◌, map, ℕ, zero, suc, drop}
use Rattle.std.proofs.Math.Option.{Option, none, some}
use Rattle.paper.specs.Base.{choose}
use Rattle.paper.specs.Tokens.{Token}
use Rattle.paper.specs.Statements.{Kind, $c, $v, $d, $f, $e, $a, $p, Statement}
use Rattle.paper.specs.Names.{Declared, global}
use Rattle.paper.specs.State.{Symbol, con, var, Formula, Hyp, float, essential, Disjoint, State}
use Rattle.paper.specs.Checks.{token}
use Rattle.area.specs.Cells.{statement_cell, word}
use Rattle.reader.specs.Rows.{stmt}
use Rattle.nameck.specs.Atoms.{bytes_of}

abbrev pub is_constant : Option Declared → Bool
is_constant none = false
is_constant (some g) = g.constant

-- whether the global declaration of a name is a `$c`
unfoldable pub constant_name : List Statement → List ℕ → Bool
constant_name l x = is_constant (global l x)

abbrev pub static_symbol : List Statement → Token → Symbol
static_symbol l t = choose (constant_name l t.bytes) (con t.bytes) (var t.bytes)

-- the formula of an accepted `$e`, `$a` or `$p`
unfoldable pub static : List Statement → Statement → Formula
static l s = record { typecode = (token s 0).bytes; body = map (static_symbol l) (drop 1 s.math) }

abbrev pub hyp_by : Kind → List Statement → Statement → Hyp
hyp_by $c l s = essential s.at s.end (static l s)
hyp_by $v l s = essential s.at s.end (static l s)
hyp_by $d l s = essential s.at s.end (static l s)
hyp_by $f l s = float s.at s.end (token s 1).bytes (token s 0).bytes
hyp_by $e l s = essential s.at s.end (static l s)
hyp_by $a l s = essential s.at s.end (static l s)
hyp_by $p l s = essential s.at s.end (static l s)

-- the accepted `$f` or `$e` of row r, and the accepted `$d`
unfoldable pub row_hyp : List Statement → ℕ → Hyp
row_hyp l r = hyp_by (stmt l r).kind l (stmt l r)

unfoldable pub row_disjoint : List Statement → ℕ → Disjoint
row_disjoint l r = record { end = (stmt l r).end; names = map bytes_of (stmt l r).math }

-- the rows on a stack of k entries, kept in word c of the statement rows
unfoldable pub stack : List ℕ → ℕ → ℕ → List ℕ
stack w c zero = []
stack w c (suc k) = stack w c k ++ (word w (statement_cell k c) ∷ [])

-- what a frame looks at: the hypotheses of rows h, and the `$d` of rows d, all active and accepted, in text order
abbrev pub rows_state : List Statement → List ℕ → List ℕ → State
rows_state l h d = record { nested = []; hyps = map (row_hyp l) h; disjoints = map (row_disjoint l) d }
