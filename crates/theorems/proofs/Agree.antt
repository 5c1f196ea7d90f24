-- What a statement gives, by what it asks of the whole text: the owner of its label, senses and verdicts of its tokens say what it
-- records and its frame; owners and declarations of its symbols say the rest of its diagnostics. The lemma W3 of the proof on paper.
use mathlib.Core.Path.{◌≡◌, refl, sym, ap, ◌∙◌}
use mathlib.Core.List.{List, [], map}
use mathlib.Core.Option.{Option, none, some}
use Prim.Native.Nat.{ℕ, zero, suc}
use native.Mathlib.Omega.{arith}
use lib.ListN.{get_or, drop}
use borrow.Author.Tests.{le-ltb}
use Rattle.paper.specs.Tokens.{Token}
use Rattle.paper.specs.Statements.{Kind, $c, $v, $d, $f, $e, $a, $p, Statement, outermost}
use Rattle.paper.specs.Names.{bearer, owner, Declared, global}
use Rattle.paper.specs.State.{Nested, State, Sense, by_global, sense}
use Rattle.paper.specs.Checks.{Diag, each, no_token, token, check_label, outer_token, check_outer, Verdict, by_declared, verdict, records, nested_records, nested_diags, check_float, symbol_token, check_expression, disjoint_token, check_disjoint}
use Rattle.paper.specs.Variables.{symbol, formula}
use Rattle.paper.specs.Give.{Given, give_c, give_v, give_d, give_f, give_e, give_assertion, give_by, give}
use Rattle.paper.proofs.Tests.{split}
use Rattle.paper.proofs.Alls.{All, all_none, all_more, all_first}
use Rattle.theorems.specs.Groups.{symbols}
use Rattle.theorems.specs.Later.{nested_variables}

-- ---- what two texts w and x agree on
abbrev pub SameOwner : List Statement → List Statement → Token → Type 0
SameOwner w x t = owner w t.bytes ≡ owner x t.bytes

abbrev pub SameGlobal : List Statement → List Statement → Token → Type 0
SameGlobal w x t = global w t.bytes ≡ global x t.bytes

-- whatever the nested `$v` say
abbrev pub SameSense : List Statement → List Statement → Token → Type 0
SameSense w x t = (r : Sense) → by_global (global w t.bytes) t.at r ≡ by_global (global x t.bytes) t.at r

abbrev pub SameVerdict : List Statement → List Statement → Token → Type 0
SameVerdict w x t =
    (r : Verdict) → by_declared (global w t.bytes) t.at r ≡ by_declared (global x t.bytes) t.at r

pub record Agree (w x : List Statement) (s : Statement) : Type 0 where
  pub label_owner : All (SameOwner w x) (bearer s)
  pub senses : All (SameSense w x) s.math
  pub verdicts : All (SameVerdict w x) (nested_variables s)

-- and on the symbols that it declares
abbrev pub SameSymbol : List Statement → List Statement → Token → Type 0
SameSymbol w x t = SameOwner w x t × SameGlobal w x t

abbrev pub SymbolsAgree : List Statement → List Statement → Statement → Type 0
SymbolsAgree w x s = All (SameSymbol w x) (symbols s)

-- ---- what is the same of two gives; the diagnostics, if P
pub record Same (P : Type 0) (g h : Given) : Type 0 where
  pub recorded : g.records ≡ h.records
  pub framed : g.frame ≡ h.frame
  pub told : P → g.diags ≡ h.diags

same_all : {P : Type 0} {g h : Given} → g ≡ h → Same P g h
same_all e =
    record {
      recorded = ap (λ (z : Given). z.records) e;
      framed = ap (λ (z : Given). z.frame) e;
      told = λ p. ap (λ (z : Given). z.diags) e;
    }

pub same_given : {P : Type 0} {g h : Given} → Same P g h → P → g ≡ h
same_given s p = λ i. record { diags = s.told p i; records = s.recorded i; frame = s.framed i }

-- ---- tokens one after the other
each_same : {P : Token → Type 0} (f g : ℕ → Token → List Diag) → ((i : ℕ) (t : Token) → P t → f i t ≡ g i t)
    → {l : List Token} → All P l → (i : ℕ) → each f l i ≡ each g l i
unfolding each
each_same f g h all_none i = refl
each_same f g h (all_more {x = t} p a) i = rw (h i t p, each_same f g h a (suc i))

map_same : {P : Token → Type 0} {B : Type 0} (f g : Token → B) → ((t : Token) → P t → f t ≡ g t)
    → {l : List Token} → All P l → map f l ≡ map g l
map_same f g h all_none = refl
map_same f g h (all_more {x = t} p a) = rw (h t p, map_same f g h a)

behind_first : {P : Token → Type 0} {l : List Token} → All P l → All P (drop 1 l)
behind_first all_none = all_none
behind_first (all_more p a) = a

-- the token at a place, or the one that stands for none
all_at : (P : Token → Type 0) (d : Token) → P d → {l : List Token} → All P l → (i : ℕ) → P (get_or l i d)
all_at P d p all_none zero = p
all_at P d p all_none (suc i) = p
all_at P d p (all_more h a) zero = h
all_at P d p (all_more h a) (suc i) = all_at P d p a i

at_zero : (g : Option Declared) (r : Sense) → by_global g 0 r ≡ r
at_zero none r = refl
at_zero (some g) r = rw (le-ltb g.at 0 (omega arith))

module _ (w x : List Statement) where
  outer_same : (s i : ℕ) (t : Token) → SameSymbol w x t → outer_token w s i t ≡ outer_token x s i t
  outer_same s i t h = rw (h.0, h.1)

  records_same : (e : ℕ) {l : List Token} → All (SameVerdict w x) l → (k : List Nested)
      → nested_records w e l k ≡ nested_records x e l k
  unfolding nested_records records verdict
  records_same e all_none k = refl
  records_same e (all_more {x = t} h a) k = rw (h _, records_same e a _)

  diags_same : (s e : ℕ) {l : List Token} → All (SameSymbol w x) l → (i : ℕ) (k : List Nested)
      → nested_diags w s e l i k ≡ nested_diags x s e l i k
  unfolding nested_diags records verdict
  diags_same s e all_none i k = refl
  diags_same s e (all_more {x = t} h a) i k = rw (h.0, h.1, diags_same s e a (suc i) _)

  sense_same : (v : State) (t : Token) → SameSense w x t → sense w v t ≡ sense x v t
  unfolding sense
  sense_same v t h = h _

  expression_same : (v : State) (s : Statement) → All (SameSense w x) s.math → check_expression w v s ≡ check_expression x v s
  unfolding check_expression
  expression_same v s a =
      each_same (symbol_token w v s.at) (symbol_token x v s.at) (λ i t p. rw (sense_same v t p)) a 0

  disjoint_same : (v : State) (s : Statement) → All (SameSense w x) s.math → check_disjoint w v s ≡ check_disjoint x v s
  unfolding check_disjoint
  disjoint_same v s a = each_same (disjoint_token w v s) (disjoint_token x v s) (λ i t p. rw (sense_same v t p)) a 0

  formula_same : (v : State) (s : Statement) → All (SameSense w x) s.math → formula w v s ≡ formula x v s
  unfolding formula
  formula_same v s a = rw (map_same (symbol w v) (symbol x v) (λ t p. rw (sense_same v t p)) (behind_first a))

  label_same : (s : Statement) → owner w s.label ≡ owner x s.label → check_label w s ≡ check_label x s
  unfolding check_label
  label_same s o = rw o

  -- a token that is not there has the same sense in every text
  missing_same : SameSense w x no_token
  missing_same r = at_zero (global w []) r ∙ sym (at_zero (global x []) r)

  float_same : (v : State) (s : Statement) → All (SameSense w x) s.math → check_float w v s ≡ check_float x v s
  unfolding check_float
  float_same v s a =
      rw (sense_same v (token s 0) (all_at (SameSense w x) no_token missing_same a 0), sense_same v (token s 1) (all_at (SameSense w x) no_token missing_same a 1))

  give_by_same : (k : Kind) (s : Statement) → s.kind ≡ k → Agree w x s → (v : State)
      → Same (SymbolsAgree w x s) (give_by k w v s) (give_by k x v s)
  unfolding give_c give_v give_d give_f give_e give_assertion check_outer
  give_by_same $c s e a v =
      split (outermost s)
      (λ q.
      rw q
      (record {
        recorded = refl;
        framed = refl;
        told = λ m. each_same (outer_token w s.at) (outer_token x s.at) (outer_same s.at) (rw e at m) 0;
      }))
      (λ q. rw q (record { recorded = refl; framed = refl; told = λ m. refl }))
  give_by_same $v s e a v =
      split (outermost s)
      (λ q.
      rw q
      (record {
        recorded = refl;
        framed = refl;
        told = λ m. each_same (outer_token w s.at) (outer_token x s.at) (outer_same s.at) (rw e at m) 0;
      }))
      (λ q.
      rw q
      (record {
        recorded = rw (records_same s.end (rw (q, e) at a.verdicts) v.nested);
        framed = refl;
        told = λ m. diags_same s.at s.end (rw e at m) 0 v.nested;
      }))
  give_by_same $d s e a v = same_all (rw (disjoint_same v s a.senses))
  give_by_same $f s e a v =
      same_all (rw (label_same s (all_first (rw e at a.label_owner)), float_same v s a.senses))
  give_by_same $e s e a v =
      same_all (rw (label_same s (all_first (rw e at a.label_owner)), expression_same v s a.senses, formula_same v s a.senses))
  give_by_same $a s e a v =
      same_all (rw (label_same s (all_first (rw e at a.label_owner)), expression_same v s a.senses, formula_same v s a.senses))
  give_by_same $p s e a v =
      same_all (rw (label_same s (all_first (rw e at a.label_owner)), expression_same v s a.senses, formula_same v s a.senses))

pub give_same : {w x : List Statement} {s : Statement} → Agree w x s → (v : State)
    → Same (SymbolsAgree w x s) (give w v s) (give x v s)
unfolding give
give_same {w} {x} {s} a v = give_by_same w x s.kind s refl a v
