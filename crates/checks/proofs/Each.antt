-- The diagnostics and records of tokens one after the other: one token more at the end.
-- Assumes nothing.
use mathlib.Core.Path.{◌≡◌, refl, sym, ap, ◌∙◌}
use mathlib.Core.List.{List, [], ◌∷◌, ◌++◌, append_assoc, append-nil}
use Prim.Native.Nat.{ℕ, zero, suc, ◌+◌, ◌<◌, ◌≤◌, ◌^◌}
use native.Mathlib.Nat.{add-zero, add-suc, suc-add}
use native.Mathlib.Numerals.{add-one}
use native.Mathlib.Omega.{arith}
use lib.ListN.{length, get_or, take, drop, length-take, length-drop, take-append-drop}
use lib.Seq.{take-suc, drop-cons}
use borrow.Author.Tests.{lt-ltb}
use Rattle.paper.specs.Base.{keep}
use Rattle.paper.specs.Tokens.{Token}
use Rattle.paper.specs.Statements.{Statement}
use Rattle.paper.specs.Names.{owner}
use Rattle.paper.specs.State.{Nested, active_nested}
use Rattle.paper.specs.Checks.{Diag, each, no_token, Verdict, against, record_it, clash, verdict, verdict_diags, recorded_by, records, nested_records, nested_diags}
use Rattle.paper.proofs.Lists.{keep_append}
use Rattle.token.specs.Words.{token_at, Lined}
use Rattle.token.specs.declared.cursor.Cursor.{Cursor}
use Rattle.token.proofs.Lines.{line_start}
use Rattle.checks.specs.Visible.{visible_from, Calm, First, Left, Going}

pub each_snoc : (f : ℕ → Token → List Diag) (l : List Token) (x : Token) (i : ℕ) → each f (l ++ (x ∷ [])) i ≡ each f l i ++ f (i + length l) x
unfolding each
each_snoc f [] x i = rw add-zero (append-nil (f i x))
each_snoc f (y ∷ l) x i =
    rw (add-suc, ← suc-add, each_snoc f l x (suc i)) (sym (append_assoc (f i y) (each f l (suc i)) (f (suc i + length l) x)))

-- ---- the first i tokens
pub firsts_more : (m : List Token) (i : ℕ) → i < length m → take (i + 1) m ≡ take i m ++ (get_or m i no_token ∷ [])
firsts_more m i h = rw add-one (take-suc m i no_token h)

pub firsts_length : (m : List Token) (i : ℕ) → i ≤ length m → length (take i m) ≡ i
firsts_length m i h = simp length-take (omega arith)

pub firsts_rest : (m : List Token) (i : ℕ) → i < length m → take i m ++ (get_or m i no_token ∷ drop (i + 1) m) ≡ m
firsts_rest m i h = rw (add-one, ← (drop-cons m i no_token h)) (take-append-drop i m)

-- the token i of those that are left from i on
drop_first : (m r : List Token) (y : Token) (i : ℕ) → drop i m ≡ y ∷ r → (i < length m) × (get_or m i no_token ≡ y) × (drop (i + 1) m ≡ r)
drop_first [] r y zero e = absurd (none e)
  where
    none : [] ≡ y ∷ r → ⊥
    none e = let z : ◌≡◌ {A = ℕ} 0 1 = cc in omega arith
drop_first [] r y (suc i) e = absurd (none e)
  where
    none : [] ≡ y ∷ r → ⊥
    none e = let z : ◌≡◌ {A = ℕ} 0 1 = cc in omega arith
drop_first (x ∷ m) r y zero e = let a : x ≡ y = cc in let b : m ≡ r = cc in (omega arith, a, b)
drop_first (x ∷ m) r y (suc i) e =
    let p = drop_first m r y i e in
    let q : i + 1 ≡ suc i = omega arith in
    (omega (arith, p.0), p.1, rw add-one (rw q at p.2))

pub left_start : (q : List ℕ) → Left q 0 0
left_start q = record { rest = refl }

pub record Taken (q : List ℕ) (s e i : ℕ) : Type 0 where
  pub inside : i < length (visible_from q 0)
  pub is : get_or (visible_from q 0) i no_token ≡ token_at q s e
  pub left : Left q e (i + 1)

pub take_one : {q : List ℕ} {c i s e : ℕ} → Left q c i → First q c s e → Taken q s e i
take_one {q} {c} {i} {s} {e} h f =
    let d = drop_first (visible_from q 0) (visible_from q e) (token_at q s e) i (h.rest ∙ f.rest) in
    record { inside = d.0; is = d.1; left = record { rest = d.2 } }

none_left : (m : List Token) (i : ℕ) → drop i m ≡ [] → length m ≤ i
none_left m i e = omega (arith, length-drop i m, ap length e)

pub left_none : {q : List ℕ} {c i : ℕ} → Left q c i → visible_from q c ≡ [] → length (visible_from q 0) ≤ i
left_none {q} {c} {i} h e = none_left (visible_from q 0) i (h.rest ∙ e)

-- ---- going over the tokens, one by one
pub going_start : {q : List ℕ} → Calm q → length (visible_from q 0) < 2 ^ 60 → Going q (record { at = 0; line = 1 }) 0
going_start a h = record { left = left_start _; lined = line_start _; calm = a; few = h }

pub going_few : {q : List ℕ} {c : Cursor} {i s e : ℕ} → Going q c i → First q c.at s e → i < 2 ^ 60
going_few g f = omega (arith, (take_one g.left f).inside, g.few)

pub going_on : {q : List ℕ} {c d : Cursor} {i s : ℕ} → Going q c i → First q c.at s d.at → Lined q d → Going q d (i + 1)
going_on g f h = record { left = (take_one g.left f).left; lined = h; calm = g.calm; few = g.few }

-- ---- tokens of a nested `$v`
pub records_snoc : (w : List Statement) (e : ℕ) (l : List Token) (x : Token) (known : List Nested)
    → nested_records w e (l ++ (x ∷ [])) known ≡ nested_records w e l known ++ records w e (known ++ nested_records w e l known) x
unfolding nested_records
records_snoc w e [] x known = rw (append-nil known) (append-nil (records w e known x))
records_snoc w e (y ∷ l) x known =
    rw (records_snoc w e l x (known ++ records w e known y), append_assoc known (records w e known y) (nested_records w e l (known ++ records w e known y)))
    (sym (append_assoc (records w e known y) (nested_records w e l (known ++ records w e known y)) _))

abbrev pub nested_token : List Statement → ℕ → ℕ → List Nested → Token → List Diag
nested_token w s i known x = clash (owner w x.bytes) s i ++ verdict_diags (verdict w known x) s i

pub nested_snoc : (w : List Statement) (s e : ℕ) (l : List Token) (x : Token) (i : ℕ) (known : List Nested)
    → nested_diags w s e (l ++ (x ∷ [])) i known ≡ nested_diags w s e l i known ++ nested_token w s (i + length l) (known ++ nested_records w e l known) x
unfolding nested_diags nested_records
nested_snoc w s e [] x i known = rw (add-zero, append-nil known) (append-nil (nested_token w s i known x))
nested_snoc w s e (y ∷ l) x i known =
    rw (add-suc, ← suc-add, nested_snoc w s e l x (suc i) (known ++ records w e known y), append_assoc known (records w e known y) (nested_records w e l (known ++ records w e known y)))
    (sym (append_assoc (nested_token w s i known y) (nested_diags w s e l (suc i) (known ++ records w e known y)) _))

-- what they record is active where they stand
one_live : (v : Verdict) (s e : ℕ) (x : Token) → s < e → keep (active_nested s) (recorded_by v e x) ≡ recorded_by v e x
unfolding keep
one_live (against k o) s e x h = refl
one_live record_it s e x h = rw (lt-ltb s e h)

pub records_live : (w : List Statement) (s e : ℕ) (l : List Token) (known : List Nested) → s < e
    → keep (active_nested s) (nested_records w e l known) ≡ nested_records w e l known
unfolding nested_records records keep
records_live w s e [] known h = refl
records_live w s e (x ∷ l) known h =
    keep_append (active_nested s) (recorded_by (verdict w known x) e x) (nested_records w e l (known ++ recorded_by (verdict w known x) e x))
    ∙ rw (one_live (verdict w known x) s e x h, records_live w s e l (known ++ recorded_by (verdict w known x) e x) h)
