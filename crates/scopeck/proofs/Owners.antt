-- A label that a statement bears has an owner, so that look-up does not answer nobody; what the owner says of the statement.
-- Assumes nothing.
use mathlib.Core.Path.{◌≡◌, refl, sym, ap, ◌∙◌}
use mathlib.Core.Logic.{◌≢◌}
use mathlib.Core.Bool.{true, false}
use mathlib.Core.List.{List, [], ◌∷◌}
use mathlib.Core.Option.{Option, none, some}
use Prim.Native.Nat.{ℕ, zero, suc, ◌<◌}
use native.Mathlib.Nat.{not-suc-le-zero}
use native.Mathlib.Omega.{arith}
use lib.Dec.{eqb}
use lib.ListN.{length}
use Rattle.paper.specs.Tokens.{Token}
use Rattle.paper.specs.Statements.{labelled, Statement}
use Rattle.paper.specs.Names.{named, bearer, labels, owner}
use Rattle.paper.specs.Checks.{label_diags}
use Rattle.paper.specs.declared.Atom.{Atom}
use Rattle.paper.specs.declared.StatementOffset.{StatementOffset}
use Rattle.paper.proofs.Tests.{split, clash, same_refl}
use Rattle.paper.proofs.Alls.{All, all_first, all_rest}
use Rattle.paper.proofs.Searches.{all_ungather, find_none}
use Rattle.reader.specs.Rows.{stmt}
use Rattle.nameck.specs.Lookups.{owner_answer, Owned}
use Rattle.std.specs.Prelude as code
use Rattle.scopeck.specs.Scope.{Borne, own_by, Owns}

-- ---- the first bearer of a label that is borne
pub record Bearer (l : List Statement) (x : List ℕ) : Type 0 where
  pub token : Token
  pub is : owner l x ≡ some token

all_at : {P : Statement → Type 0} (l : List Statement) (k : ℕ) → All P l → k < length l → P (stmt l k)
unfolding stmt
all_at [] k a h = absurd (not-suc-le-zero h)
all_at (s ∷ l) zero a h = all_first a
all_at (s ∷ l) (suc k) a h = all_at l k (all_rest a) (omega (arith, h))

not_named : (s : Statement) → labelled s.kind ≡ true → All (λ x. named s.label x ≡ false) (bearer s) → ⊥
not_named s e a = clash (sym (same_refl s.label) ∙ all_first (rw e at a))

pub bearer_of : (l : List Statement) (k : ℕ) → k < length l → labelled (stmt l k).kind ≡ true → Bearer l (stmt l k).label
unfolding owner labels
bearer_of l k h e = by (owner l (stmt l k).label) refl
  where
    by : (o : Option Token) → owner l (stmt l k).label ≡ o → Bearer l (stmt l k).label
    by none q =
        let x = (stmt l k).label in
        absurd (not_named (stmt l k) e (all_at l k (all_ungather bearer l (find_none (named x) (labels l) q)) h))
    by (some b) q = record { token = b; is = q }

-- ---- what look-up answers
pub not_nobody : {w : List ℕ} {n a : ℕ} → Borne w n a → Owned w n a code.None → ⊥
not_nobody h x =
    let z : code.None ≡ owner_answer (some h.first) = x.is h.named h.below ∙ ap owner_answer h.owned in
    let y : ◌≡◌ {A = ℕ} 0 1 = cc in
    omega (arith, y)

pub owns_by : {w : List ℕ} {n a s : ℕ} {o : StatementOffset} {r : code.Option Atom} → Owned w n a (code.Some o) → r ≡ own_by o.0 s a → Owns w n a s r
owns_by {a = a} {s} {o} x e =
    record {
      is = λ {t} {l} y h k q.
          let z : code.Some o ≡ code.Some (record { 0 = y.at }) = x.is h k ∙ ap owner_answer q in
          let p : o ≡ record { 0 = y.at } = cc in
          e ∙ ap (λ (b : StatementOffset). own_by b.0 s a) p;
    }

-- ---- by the first bearer b
pub owns_none : (b : Token) (z : Statement) (a : ℕ) → code.None ≡ own_by b.at z.at a → length (label_diags (some b) z) ≢ 0
owns_none b z a e =
    split (eqb b.at z.at) (λ q. absurd (no (rw q at e))) (λ q. rw q (λ i. omega (arith, i)))
  where
    no : ◌≡◌ {A = code.Option Atom} code.None (code.Some (record { 0 = a })) → ⊥
    no e = let y : ◌≡◌ {A = ℕ} 0 1 = cc in omega (arith, y)

pub owns_some : (b : Token) (z : Statement) (a : ℕ) {x : Atom} → code.Some x ≡ own_by b.at z.at a → label_diags (some b) z ≡ []
owns_some b z a {x} e =
    split (eqb b.at z.at) (λ q. rw q) (λ q. absurd (no (rw q at e)))
  where
    no : ◌≡◌ {A = code.Option Atom} (code.Some x) code.None → ⊥
    no e = let y : ◌≡◌ {A = ℕ} 0 1 = cc in omega (arith, y)
