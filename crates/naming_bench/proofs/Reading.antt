-- The words after naming, from the promises of the reader and of the start of the fold.
-- Assumes nothing.
use mathlib.Core.Path.{◌≡◌, refl}
use mathlib.Core.List.{List}
use Prim.Native.Nat.{ℕ}
use native.Mathlib.Omega.{arith}
use lib.ListN.{length}
use Rattle.std.specs.Prelude.{Ok, Err}
use Rattle.paper.specs.Statements.{Statement}
use Rattle.paper.specs.Reader.{Outcome, refused, given, reading}
use Rattle.paper.specs.declared.Refused.{Refused}
use Rattle.paper.specs.declared.Statements.{Statements}
use Rattle.reader.specs.Whole.{Answers, Reads}
use Rattle.fold.specs.declared.start.Started.{Started}
use Rattle.fold.specs.Start.{Starts}
use Rattle.naming_bench.specs.Names.{Names}

unread : (t v : List ℕ) (m : ℕ) (r : Refused) (o : Outcome (List Statement)) → Answers t v m o (Err r) → Names t v m o
unread t v m r (refused y) a = a.1
unread t v m r (given l) a = let q = a.0 in let y : ◌≡◌ {A = ℕ} 0 1 = cc in absurd (omega (arith, y))

named : (t v u : List ℕ) (w m : ℕ) (x : Statements) {s : Started} (o : Outcome (List Statement)) → reading t w ≡ o → Answers t v m o (Ok x)
    → Starts t v u x.rows s → Names t u m o
named t v u w m x (refused y) e a s = let q = a.0 in let z : ◌≡◌ {A = ℕ} 0 1 = cc in absurd (omega (arith, z))
named t v u w m x {s = st} (given l) e a s =
    let q = a.0 in
    let c : x.rows ≡ length l = cc in
    record {
      rows = st.n;
      names = st.names;
      whole = rw c at (s.sim (record { words = w; read = e; rows_of = a.1; count = c }));
    }

module _ (t v w : List ℕ) where
  pub names_unread : (r : Refused) → Reads t w v (Err r) → Names t v (length w) (reading t (length w))
  names_unread r h = unread t v (length w) r (reading t (length w)) h

  pub names_read : {u : List ℕ} (x : Statements) {s : Started} → Reads t w v (Ok x) → Starts t v u x.rows s → Names t u (length w) (reading t (length w))
  names_read {u = u} x h s = named t v u (length w) (length w) x (reading t (length w)) refl h s
