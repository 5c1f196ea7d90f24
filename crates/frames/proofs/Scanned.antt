-- What the walks over names leave: the names that were there, and every variable of the rows walked.
-- Assumes nothing.
use mathlib.Core.Path.{◌≡◌, sym}
use mathlib.Core.Bool.{true, false}
use mathlib.Core.List.{List, [], ◌∷◌}
use Prim.Native.Nat.{ℕ, zero, suc, ◌<◌}
use native.Mathlib.Omega.{arith}
use lib.Dec.{eqb}
use lib.ListN.{length, get_or, drop}
use borrow.Author.Tests.{eqb-true}
use Rattle.paper.specs.Base.{any}
use Rattle.paper.specs.Tokens.{Token}
use Rattle.paper.specs.Statements.{Statement}
use Rattle.paper.specs.Checks.{no_token}
use Rattle.paper.specs.Variables.{member, variables_of}
use Rattle.paper.proofs.Tests.{split, clash}
use Rattle.paper.proofs.Names.{Grown, grown_none, grown_then, grown_member, see_grown, see_self, sights_member}
use Rattle.paper.proofs.Alls.{All, all_none, all_more}
use Rattle.reader.specs.Rows.{stmt}
use Rattle.sight.specs.Static.{constant_name, static}
use Rattle.sight.specs.Numbered.{scan_name, scanned, scanned_rows}
use Rattle.forms.specs.HypRows.{among}
use Rattle.frames.proofs.Variables.{scanned_static}

-- what holds of all rows, by place
pub all_at : {P : ℕ → Type 0} {h : List ℕ} → All P h → (j : ℕ) → j < length h → P (get_or h j 0)
all_at all_none j g = absurd (omega arith)
all_at (all_more p a) zero g = p
all_at (all_more p a) (suc j) g = all_at a j (omega arith)

-- ---- names stay
name_grown : (l : List Statement) (vs : List (List ℕ)) (x : List ℕ) → Grown vs (scan_name l vs x)
name_grown l vs x = split (constant_name l x) (λ e. rw e (grown_none vs)) (λ e. rw e (see_grown vs x))

pub scanned_grown : (l : List Statement) (m : List Token) (vs : List (List ℕ)) → Grown vs (scanned l m vs)
unfolding scanned
scanned_grown l [] vs = grown_none vs
scanned_grown l (t ∷ m) vs = grown_then (name_grown l vs t.bytes) (scanned_grown l m (scan_name l vs t.bytes))

pub rows_grown : (l : List Statement) (i : ℕ) (h : List ℕ) (vs : List (List ℕ)) → Grown vs (scanned_rows l i h vs)
unfolding scanned_rows
rows_grown l i [] vs = grown_none vs
rows_grown l i (r ∷ h) vs =
    grown_then (scanned_grown l (drop i (stmt l r).math) vs) (rows_grown l i h (scanned l (drop i (stmt l r).math) vs))

-- ---- every variable of a row is among them
pub static_member :
    (l : List Statement) (s : Statement) (vs : List (List ℕ)) (x : List ℕ) → member x (variables_of (static l s)) ≡ true
    → member x (scanned l (drop 1 s.math) vs) ≡ true
static_member l s vs x e = rw (scanned_static l s vs) (sights_member x (variables_of (static l s)) vs e)

pub rows_member :
    (l : List Statement) (h : List ℕ) (vs : List (List ℕ)) (r : ℕ) (x : List ℕ) → among r h ≡ true
    → member x (variables_of (static l (stmt l r))) ≡ true → member x (scanned_rows l 1 h vs) ≡ true
unfolding scanned_rows among any
rows_member l [] vs r x a e = absurd (clash (sym a))
rows_member l (q ∷ h) vs r x a e =
    split (eqb r q)
    (λ z.
    let d : r ≡ q = eqb-true r q z in
    grown_member (rows_grown l 1 h (scanned l (drop 1 (stmt l q).math) vs)) x
    (static_member l (stmt l q) vs x (rw d at e)))
    (λ z. rows_member l h (scanned l (drop 1 (stmt l q).math) vs) r x (rw z at a) e)

-- every name of the tokens, none of which is a constant
pub token_member :
    (l : List Statement) (m : List Token) (vs : List (List ℕ)) (i : ℕ) → All (λ t. constant_name l t.bytes ≡ false) m → i < length m
    → member (get_or m i no_token).bytes (scanned l m vs) ≡ true
unfolding scanned
token_member l [] vs i a h = absurd (omega (arith, h))
token_member l (t ∷ m) vs zero (all_more e a) h =
    grown_member (scanned_grown l m (scan_name l vs t.bytes)) t.bytes (rw e (see_self vs t.bytes))
token_member l (t ∷ m) vs (suc i) (all_more e a) h = token_member l m (scan_name l vs t.bytes) i a (omega (arith, h))

pub names_member :
    (l : List Statement) (d : List ℕ) (vs : List (List ℕ)) (j i : ℕ)
    → All (λ r. All (λ t. constant_name l t.bytes ≡ false) (stmt l r).math) d → j < length d
    → i < length (stmt l (get_or d j 0)).math → member (get_or (stmt l (get_or d j 0)).math i no_token).bytes (scanned_rows l 0 d vs) ≡ true
unfolding scanned_rows
names_member l [] vs j i a h k = absurd (omega (arith, h))
names_member l (r ∷ d) vs zero i (all_more e a) h k =
    grown_member (rows_grown l 0 d (scanned l (stmt l r).math vs)) _ (token_member l (stmt l r).math vs i e k)
names_member l (r ∷ d) vs (suc j) i (all_more e a) h k =
    names_member l d (scanned l (stmt l r).math vs) j i a (omega (arith, h)) k
