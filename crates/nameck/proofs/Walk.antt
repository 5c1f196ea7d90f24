-- The walk over the math tokens of a statement, a whole statement, and all statements.
-- Assumes nothing.
use mathlib.Core.Path.{◌≡◌, refl, sym, ap, ◌∙◌}
use mathlib.Core.List.{List, [], ◌∷◌, ◌++◌, map, append_assoc, append-nil}
use Prim.Native.Nat.{ℕ, suc, ◌+◌, ◌*◌, ◌<◌, ◌≤◌}
use native.Mathlib.Numerals.{add-one}
use native.Mathlib.Omega.{arith}
use lib.ListN.{length, get_or, take, drop, length-append, take-append-drop}
use lib.Seq.{take-suc, drop-cons, take-length, length-take-le}
use Rattle.paper.specs.Tokens.{Token}
use Rattle.paper.specs.Statements.{Statement}
use Rattle.paper.specs.Names.{declares}
use Rattle.paper.specs.Checks.{token, no_token}
use Rattle.paper.proofs.Gather.{map_append}
use Rattle.area.specs.Cells.{statement_cell, word}
use Rattle.reader.specs.Rows.{stmt, before}
use Rattle.std.specs.Prelude.{Option, Some, None}
use Rattle.nameck.specs.declared.naming.Sort.{Sort}
use Rattle.nameck.specs.Atoms.{bytes_of}
use Rattle.nameck.specs.Naming.{Done, is_constant, declared_as, with_math, Progress, Ahead, AtToken, SomeToken, TokenNamed, AtMath, SomeMath, MathNamed}

-- ---- math tokens after math tokens
declared_append : (k : Option Sort) (l m : List Token) → declared_as k (l ++ m) ≡ declared_as k l ++ declared_as k m
declared_append None l m = refl
declared_append (Some k) l m = map_append (declares (is_constant k)) l m

math_then : (x : Done) (k : Option Sort) (l m : List Token) → with_math (with_math x k l) k m ≡ with_math x k (l ++ m)
math_then x k l m =
    let a : (x.maths + length l) + length m ≡ x.maths + length (l ++ m) = omega (arith, length-append l m) in
    let b : (x.names ++ map bytes_of l) ++ map bytes_of m ≡ x.names ++ map bytes_of (l ++ m) =
    append_assoc x.names (map bytes_of l) (map bytes_of m) ∙ ap (λ r. x.names ++ r) (sym (map_append bytes_of l m)) in
    let c : (x.declared ++ declared_as k l) ++ declared_as k m ≡ x.declared ++ declared_as k (l ++ m) =
    append_assoc x.declared (declared_as k l) (declared_as k m) ∙ ap (λ r. x.declared ++ r) (sym (declared_append k l m)) in
    rw (a, b, c)

math_more : (x : Done) (k : Option Sort) (s : Statement) (i : ℕ) → i < length s.math → with_math (with_math x k (take i s.math)) k (token s i ∷ []) ≡ with_math x k (take (i + 1) s.math)
math_more x k s i h =
    math_then x k (take i s.math) (token s i ∷ [])
    ∙ ap (with_math x k) (sym (ap (λ j. take j s.math) (add-one i) ∙ take-suc s.math i no_token h))

math_none : (x : Done) (k : Option Sort) → with_math x k [] ≡ x
math_none x k =
    let a : x.maths + 0 ≡ x.maths = omega arith in
    rw (a, append-nil x.names, none_declared k)
  where
    none_declared : (k : Option Sort) → x.declared ++ declared_as k [] ≡ x.declared
    none_declared None = append-nil x.declared
    none_declared (Some k) = append-nil x.declared

-- the names of a part come next if those of the whole do
ahead_token : (x : Done) (k : Option Sort) (s : Statement) (i : ℕ) → i < length s.math → Ahead x (map bytes_of s.math) → Ahead (with_math x k (take i s.math)) ((token s i).bytes ∷ [])
ahead_token x k s i h a =
    let b = (token s i).bytes in
    let m = s.math in
    let r = map bytes_of (drop (suc i) m) in
    let e : map bytes_of m ≡ map bytes_of (take i m) ++ (b ∷ r) =
    ap (map bytes_of) (sym (take-append-drop i m) ∙ ap (λ l. take i m ++ l) (drop-cons m i no_token h))
    ∙ map_append bytes_of (take i m) (token s i ∷ drop (suc i) m) in
    record {
      rest = r ++ a.rest;
      all = append_assoc x.names (map bytes_of (take i m)) (b ∷ (r ++ a.rest))
          ∙ ap (λ l. x.names ++ l) (sym (ap (λ l. l ++ a.rest) e ∙ append_assoc (map bytes_of (take i m)) (b ∷ r) a.rest))
          ∙ a.all;
    }

-- ---- the walk over the math tokens: i of them are named
pub record InvMath (t q w₀ w : List ℕ) (n s : ℕ) (k : Option Sort) (m r i : ℕ) : Type 0 where
  pub words : (j : ℕ) → j < 4 * n → word w j ≡ word w₀ j
  pub len : length w ≡ length w₀
  pub sim :
      (x : Done) → AtMath t q w₀ n s k m x
      → (i ≤ length (stmt x.of s).math) × Progress t w n (with_math x k (take i (stmt x.of s).math)) r

pub math_begin : (t q w : List ℕ) (n s : ℕ) (k : Option Sort) (m : ℕ) {i : ℕ} → i ≡ 0 → InvMath t q w w n s k m m i
math_begin t q w n s k m e =
    rw e
    (record {
      words = λ j h. refl;
      len = refl;
      sim = λ x h. (omega arith, rw (math_none x k) h.progress);
    })

module _ {t q w₀ w : List ℕ} {n s : ℕ} {k : Option Sort} {m r : ℕ} (i : ℕ) (v : InvMath t q w₀ w n s k m r i) {from first : ℕ} (pf : from ≡ word w₀ (statement_cell s 3)) (p1 : first ≡ word w₀ (statement_cell s 5)) (h : i < word w₀ (statement_cell s 6)) {row : ℕ} (pr : row ≡ first + i) where
  at_token : (x : Done) → AtMath t q w₀ n s k m x → AtToken t q w n from row k r (with_math x k (take i (stmt x.of s).math)) s i
  at_token x a =
      let z = a.progress.shape in
      let f : word w (statement_cell s 3) ≡ word w₀ (statement_cell s 3) = v.words (statement_cell s 3) (omega (arith, a.statement, z.few)) in
      let g : word w (statement_cell s 4) ≡ word w₀ (statement_cell s 4) = v.words (statement_cell s 4) (omega (arith, a.statement, z.few)) in
      let d : i < length (stmt x.of s).math = omega (arith, z.count s a.statement) in
      let o : x.maths + length (take i (stmt x.of s).math) ≡ before x.of s + i =
      omega (arith, a.next, length-take-le i (stmt x.of s).math (omega arith)) in
      record {
        progress = (v.sim x a).1;
        statement = a.statement;
        inside = d;
        next = o;
        row_is = omega (arith, o, p1, pr, z.first s a.statement);
        from_is = pf ∙ sym f;
        part = rw (g, pf) a.part;
        ahead = ahead_token x k (stmt x.of s) i d a.ahead;
      }

  pub some_at : SomeMath t q w₀ n s k m → SomeToken t q w n from row k r
  some_at a =
      record {
        done = with_math a.done k (take i (stmt a.done.of s).math);
        s = s;
        i = i;
        holds = at_token a.done a.holds;
      }

  pub math_step : {u : List ℕ} {e j : ℕ} → j ≡ i + 1 → TokenNamed t q w u n from row k r e → length u ≡ length w → InvMath t q w₀ u n s k m e j
  math_step {u} {e} p y c =
      rw p
      (record {
        words = λ j g. y.words j g ∙ v.words j g;
        len = c ∙ v.len;
        sim = λ x a.
            let d : i < length (stmt x.of s).math = omega (arith, a.progress.shape.count s a.statement) in (
              omega arith,
              rw (sym (math_more x k (stmt x.of s) i d))
                  (y.sim (with_math x k (take i (stmt x.of s).math)) s i (at_token x a)),
            );
      })

pub math_end : {t q w₀ w : List ℕ} {n s : ℕ} {k : Option Sort} {m r i : ℕ} → InvMath t q w₀ w n s k m r i → word w₀ (statement_cell s 6) ≤ i → MathNamed t q w₀ w n s k m r
math_end {t} {q} {w₀} {w} {n} {s} {k} {m} {r} {i} v h = record { sim = λ x a. named x a }
  where
    named : (x : Done) → AtMath t q w₀ n s k m x → Progress t w n (with_math x k (stmt x.of s).math) r
    named x a =
        let e : i ≡ length (stmt x.of s).math = omega (arith, (v.sim x a).0, a.progress.shape.count s a.statement) in
        rw (e, take-length) at (v.sim x a).1

-- a word as it is read
pub read : (w : List ℕ) (s c : ℕ) {i : ℕ} → i ≡ statement_cell s c → get_or w i 0 ≡ word w (statement_cell s c)
unfolding word
read w s c p = ap (λ j. get_or w j 0) p
