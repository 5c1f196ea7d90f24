-- What each pass leaves is what the next one asks: from the reader's promise to the start of the fold.
-- For every statement list that the rows stand for.
use mathlib.Core.Path.{◌≡◌, refl, ◌∙◌}
use mathlib.Core.List.{List}
use Prim.Native.Nat.{ℕ, ◌+◌, ◌≤◌}
use native.Mathlib.Omega.{arith}
use lib.ListN.{length}
use Rattle.std.specs.Prelude.{Ok}
use Rattle.paper.specs.Tokens.{tokens}
use Rattle.paper.specs.Statements.{Statement}
use Rattle.paper.specs.Reader.{Outcome, refused, given, reading}
use Rattle.paper.specs.declared.Statements.{Statements}
use Rattle.reader.specs.Whole.{Answers, Reads}
use Rattle.token.proofs.Counts.{few_tokens}
use Rattle.facts.specs.Facts.{Facts}
use Rattle.facts.proofs.Read.{facts}
use Rattle.nameck.specs.Naming.{Readable, SomeRead, AllNamed}
use Rattle.sight.specs.Numbered.{Unnumbered, SomeUnnumbered, Presets}
use Rattle.slots.proofs.Marks.{marks_none}
use Rattle.fold.specs.declared.start.Started.{Started}
use Rattle.fold.specs.Fold.{SomeWhole}
use Rattle.fold.specs.Start.{Held, Read, Starts}
use Rattle.fold.proofs.Short.{short_of}

-- ---- the reader's promise
answered : {t v : List ℕ} (w : ℕ) (x : Statements) (o : Outcome (List Statement)) → reading t w ≡ o → Answers t v w o (Ok x) → Read t v x.rows
answered w x (refused y) e a = let q = a.0 in let z : ◌≡◌ {A = ℕ} 0 1 = cc in absurd (omega (arith, z))
answered w x (given l) e a =
    let q = a.0 in
    let c : x.rows ≡ length l = cc in
    record { of = l; holds = record { words = w; read = e; rows_of = a.1; count = c } }

pub read_held : {t v : List ℕ} (w : List ℕ) (x : Statements) → Reads t w v (Ok x) → Read t v x.rows
read_held {t} w x a = answered (length w) x (reading t (length w)) refl a

-- ---- naming
abbrev rows_n : List ℕ → ℕ
rows_n t = length (tokens t) + 1

facts_of : {t w : List ℕ} {rows : ℕ} {l : List Statement} → Held t w rows l → Facts t l
facts_of h = facts h.words h.read

readable : {t w : List ℕ} {rows n : ℕ} {l : List Statement} → n ≡ rows_n t → Held t w rows l → Readable t w n rows l
readable e h = rw e (record { rows_of = h.rows_of; facts = facts_of h; count = h.count })

pub some_read : {t w : List ℕ} {rows n : ℕ} → n ≡ rows_n t → Read t w rows → SomeRead t w n rows
some_read e x = record { of = x.of; holds = readable e x.holds }

pub few_rows : {t w : List ℕ} {rows : ℕ} → Read t w rows → length (tokens t) + 1 ≤ 16777217
few_rows {t} x = omega (arith, few_tokens t, (facts_of x.holds).short)

-- ---- the constants
unnumbered : {t w v : List ℕ} {rows n names : ℕ} {l : List Statement} → n ≡ rows_n t → Held t w rows l → AllNamed t w v n rows names → Unnumbered t v n l names
unnumbered {t} {l = l} e h a =
    let y = readable e h in
    record {
      named = a.named l y;
      fresh = a.fresh l y;
      small = omega (arith, e, few_tokens t, (facts_of h).short);
      count = a.count l y;
    }

pub some_unnumbered : {t w v : List ℕ} {rows n names : ℕ} → n ≡ rows_n t → Read t w rows → AllNamed t w v n rows names → SomeUnnumbered v n names
some_unnumbered {t} e x a = record { t = t; l = x.of; holds = unnumbered e x.holds a }

-- ---- the fold
pub starts : {t w v u : List ℕ} {rows n names : ℕ} → n ≡ rows_n t → AllNamed t w v n rows names → Presets v u n names → length v ≡ length w
    → Starts t w u rows (record { n = n; names = names })
starts {t} e a p len =
    record {
      len = p.kept.len ∙ len;
      sim = λ {l} h.
          let z = unnumbered e h a in
          let y = p.sim t l z in
          record {
            checks = record {
              named = y.named;
              facts = facts_of h;
              room = record { room = y.named.shape.room; small = z.small };
              count = h.count;
              atoms_are = z.count;
              marks = marks_none (λ i k. p.kept.marks i (omega (arith, k, z.named.few)) ∙ z.fresh.symbols i 6 k (omega arith) (omega arith));
            };
            unframed = record { free = y.numbered; short = short_of t h.words l h.read };
          };
    }

pub some_whole : {t w v : List ℕ} {rows : ℕ} {s : Started} → Starts t w v rows s → Read t w rows → SomeWhole t v s.n rows s.names
some_whole a x = record { of = x.of; holds = a.sim x.holds }
