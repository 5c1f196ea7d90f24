-- The walks over names: the start, one token, and the end of each.
-- Assumes nothing.
use mathlib.Core.Path.{◌≡◌, refl, sym, ap, ◌∙◌}
use mathlib.Core.Bool.{true, false}
use mathlib.Core.List.{List, [], ◌∷◌, ◌++◌}
use Prim.Native.Nat.{ℕ, suc, ◌+◌, ◌-◌, ◌*◌, ◌<◌, ◌≤◌}
use native.Mathlib.Omega.{arith}
use lib.Dec.{eqb}
use lib.ListN.{length, get_or, take, drop, length-drop, length-append}
use lib.Seq.{take-suc, get_or-drop, take_all}
use borrow.Author.Tests.{eqb-true}
use Rattle.paper.specs.Tokens.{Token}
use Rattle.paper.specs.Statements.{Statement}
use Rattle.paper.specs.Variables.{member}
use Rattle.paper.specs.Checks.{token, no_token}
use Rattle.paper.proofs.Tests.{split, eqb_ne}
use Rattle.area.specs.Cells.{statement_cell, symbol_cell, math_cell, word}
use Rattle.reader.specs.Rows.{stmt, before}
use Rattle.nameck.specs.Atoms.{atoms, atom_of, name_of}
use Rattle.nameck.specs.Named.{Named}
use Rattle.nameck.specs.Kept.{Kept}
use Rattle.nameck.proofs.Atoms.{token_in, atom_below, name_of_atom}
use Rattle.nameck.proofs.Kept.{named_kept, math_row}
use Rattle.sight.specs.Numbered.{number_word, Renumbered, scan_name, scanned, with_number, seen_words, seen_count, Holds, CanScan, Scans}
use Rattle.sight.proofs.Numbering.{few, scan_old, scan_new, numbered_new, renumbered_number, renumbered_none, renumbered_then}

-- ---- what a numbering leaves alone
pub kept_renumbered : {n : ℕ} {w v : List ℕ} → Renumbered n w v → Kept n w v
kept_renumbered {n} {w} {v} x =
    record {
      len = x.len;
      statements = λ s c h k. x.low (statement_cell s c) (omega arith);
      names = λ a c h k. x.low _ (omega arith);
      symbols = λ a c h k. x.symbols a c h (omega arith);
      maths = λ i h. x.high (math_cell n i) (omega arith);
    }

-- ---- one token: the atom of token j of the statement in row s
pub see_holds :
    {t w v : List ℕ} {n : ℕ} {l : List Statement} {vs : List (List ℕ)} {k r : ℕ} (a : ℕ) → a < length (atoms l) → Holds t w n l vs k
    → v ≡ seen_words (word w (symbol_cell n a 5)) w n a k → r ≡ seen_count (word w (symbol_cell n a 5)) k
    → Renumbered n w v × Holds t v n l (scan_name l vs (name_of l a)) r
see_holds {t} {w} {v} {n} {l} {vs} {k} {r} a below h p q =
    split (eqb (word w (symbol_cell n a 5)) 0) fresh old
  where
    names : length (atoms l) < n
    names = omega (arith, h.named.few)

    new_count : word w (symbol_cell n a 5) ≡ 0 → k + 1 ≡ length (scan_name l vs (name_of l a))
    new_count z =
        let u : number_word l vs (name_of l a) ≡ 0 = sym (h.numbered.number a below) ∙ z in
        rw (scan_new l vs (name_of l a) u) (omega (arith, h.count, length-append vs (name_of l a ∷ [])))

    fresh : eqb (word w (symbol_cell n a 5)) 0 ≡ true → Renumbered n w v × Holds t v n l (scan_name l vs (name_of l a)) r
    fresh e =
        let z : word w (symbol_cell n a 5) ≡ 0 = eqb-true _ _ e in
        let s : v ≡ with_number w n a (length vs) = p ∙ rw (e, h.count) in
        let m = numbered_new a h.named.shape.room names below h.numbered z in
        let x : Renumbered n w (with_number w n a (length vs)) =
        renumbered_number w n a (length vs) h.named.shape.room (omega (arith, names)) (omega (arith, names, few h.numbered)) in
        rw s (
          x,
          record {
            named = named_kept (kept_renumbered x) h.named;
            small = h.small;
            numbered = m;
            count = q ∙ rw e (new_count z);
          },
        )

    old : eqb (word w (symbol_cell n a 5)) 0 ≡ false → Renumbered n w v × Holds t v n l (scan_name l vs (name_of l a)) r
    old e =
        let s : v ≡ w = p ∙ rw e in
        let o : scan_name l vs (name_of l a) ≡ vs = scan_old l vs (name_of l a) (λ z. eqb_ne e (h.numbered.number a below ∙ z)) in
        rw (s, o) (
          renumbered_none n w,
          record { named = h.named; small = h.small; numbered = h.numbered; count = q ∙ rw e h.count },
        )

-- ---- the tokens of a row
pub scanned_last :
    (l : List Statement) (m : List Token) (x : Token) (vs : List (List ℕ))
    → scanned l (m ++ (x ∷ [])) vs ≡ scan_name l (scanned l m vs) x.bytes
unfolding scanned
scanned_last l [] x vs = refl
scanned_last l (y ∷ m) x vs = scanned_last l m x (scan_name l vs y.bytes)

-- those from the token `from` up to the i-th
unfoldable pub done : List Statement → ℕ → ℕ → ℕ → List Token
done l row from i = take (i - from) (drop from (stmt l row).math)

done_none : (l : List Statement) (row from : ℕ) → done l row from from ≡ []
unfolding done
done_none l row from = let z : from - from ≡ 0 = omega arith in rw z

done_more :
    (l : List Statement) (row from i : ℕ) → from ≤ i → i < length (stmt l row).math
    → done l row from (i + 1) ≡ done l row from i ++ (token (stmt l row) i ∷ [])
unfolding done
done_more l row from i h k =
    let m = (stmt l row).math in
    let a : (i + 1) - from ≡ suc (i - from) = omega arith in
    let b : from + (i - from) ≡ i = omega arith in
    let c : i - from < length (drop from m) = rw (length-drop from m) (omega arith) in
    rw a (take-suc (drop from m) (i - from) no_token c
    ∙ ap (λ x. take (i - from) (drop from m) ++ (x ∷ [])) (get_or-drop from m (i - from) no_token ∙ ap (λ j. get_or m j no_token) b))

done_all : (l : List Statement) (row from i : ℕ) → length (stmt l row).math ≤ i → done l row from i ≡ drop from (stmt l row).math
unfolding done
done_all l row from i h = take_all (i - from) (drop from (stmt l row).math) (rw (length-drop from (stmt l row).math) (omega arith))

-- what the words say of token i of a row
pub record NamedToken (w : List ℕ) (n : ℕ) (l : List Statement) (row first i a : ℕ) : Type 0 where
  pub is : a ≡ atom_of l (token (stmt l row) i).bytes
  pub below : a < length (atoms l)
  pub name : name_of l a ≡ (token (stmt l row) i).bytes
  pub fits : first + i < n

pub token_at :
    {t w : List ℕ} {n : ℕ} {l : List Statement} {row first i : ℕ} → Named t w n l → row < length l → first ≡ before l row
    → i < length (stmt l row).math → NamedToken w n l row first i (word w (math_cell n (first + i)))
token_at {t} {w} {n} {l} {row} {first} {i} h here f inside =
    rw f
    (record {
      is = is_atom;
      below = rw is_atom (atom_below l _ occurs);
      name = rw is_atom (name_of_atom l _ occurs);
      fits = math_row h.shape row i here inside;
    })
  where
    occurs : member (token (stmt l row) i).bytes (atoms l) ≡ true
    occurs = token_in l row i here inside

    is_atom : word w (math_cell n (before l row + i)) ≡ atom_of l (token (stmt l row) i).bytes
    is_atom = h.math row i here inside

-- ---- the walk over a row
pub record InvScan (w₀ w : List ℕ) (n k v row from i : ℕ) : Type 0 where
  pub kept : Renumbered n w₀ w
  pub upto : from ≤ i
  pub sim :
      (t : List ℕ) (l : List Statement) (vs : List (List ℕ)) → Holds t w₀ n l vs k → row < length l
      → Holds t w n l (scanned l (done l row from i) vs) v

pub scan_start : (w : List ℕ) (n k row from : ℕ) → InvScan w w n k k row from from
unfolding scanned
scan_start w n k row from =
    record {
      kept = renumbered_none n w;
      upto = omega arith;
      sim = λ t l vs h here. rw (done_none l row from) h;
    }

pub scan_step :
    {w₀ w u : List ℕ} {n k v r row from i first a : ℕ} → InvScan w₀ w n k v row from i → CanScan w₀ n k row from
    → first ≡ word w₀ (statement_cell row 5) → i < word w₀ (statement_cell row 6) → a ≡ word w (math_cell n (first + i))
    → u ≡ seen_words (word w (symbol_cell n a 5)) w n a v → r ≡ seen_count (word w (symbol_cell n a 5)) v
    → InvScan w₀ u n k r row from (i + 1)
scan_step {w₀} {w} {u} {n} {k} {v} {r} {row} {from} {i} {first} {a} x can f inside e p q =
    record {
      kept = renumbered_then x.kept (one_step can.some.t can.some.l can.some.vs can.some.holds can.here).0;
      upto = omega (arith, x.upto);
      sim = λ t l vs h here. (one_step t l vs h here).1;
    }
  where
    one_step :
        (t : List ℕ) (l : List Statement) (vs : List (List ℕ)) → Holds t w₀ n l vs k → row < length l
        → Renumbered n w u × Holds t u n l (scanned l (done l row from (i + 1)) vs) r
    one_step t l vs h here =
        let y = x.sim t l vs h here in
        let c : i < length (stmt l row).math = omega (arith, inside, h.named.shape.count row here) in
        let at : NamedToken w n l row first i (word w (math_cell n (first + i))) = token_at y.named here (f ∙ h.named.shape.first row here) c in
        let b : a < length (atoms l) = rw e at.below in
        let nm : name_of l a ≡ (token (stmt l row) i).bytes = rw e at.name in
        let z = see_holds a b y p q in
        (z.0, rw (done_more l row from i x.upto c, scanned_last l (done l row from i) (token (stmt l row) i) vs, ← nm) z.1)

pub scan_end :
    {w₀ w : List ℕ} {n k v row from i : ℕ} → InvScan w₀ w n k v row from i → word w₀ (statement_cell row 6) ≤ i
    → Scans w₀ w n k v row from
scan_end {w₀} {w} {n} {k} {v} {row} {from} {i} x out =
    record {
      kept = x.kept;
      sim = λ t l vs h here.
          rw (done_all l row from i (omega (arith, out, h.named.shape.count row here))) at (x.sim t l vs h here);
    }

-- ---- what keeps a walk over a row within the work area
pub record Bounds (w : List ℕ) (n row : ℕ) : Type 0 where
  pub row_fits : 3 * row + 3 ≤ n
  pub room : 16 * n ≤ length w
  pub small : n ≤ 16777217

pub scan_bounds : {w : List ℕ} {n k row from : ℕ} → CanScan w n k row from → Bounds w n row
scan_bounds x =
    record {
      row_fits = omega (arith, x.some.holds.named.shape.few, x.here);
      room = x.some.holds.named.shape.room;
      small = x.some.holds.small;
    }

pub record Step (w : List ℕ) (n v cell : ℕ) : Type 0 where
  pub fits : cell < n
  pub atom : word w (math_cell n cell) < n
  pub free : v < n
  pub room : 16 * n ≤ length w

pub scan_within :
    {w₀ w : List ℕ} {n k v row from i first : ℕ} → InvScan w₀ w n k v row from i → CanScan w₀ n k row from
    → first ≡ word w₀ (statement_cell row 5) → i < word w₀ (statement_cell row 6) → Step w n v (first + i)
scan_within {w₀} {w} {n} {k} {v} {row} {from} {i} {first} x can f inside =
    let h = can.some.holds in
    let y = x.sim can.some.t can.some.l can.some.vs h can.here in
    let c : i < length (stmt can.some.l row).math = omega (arith, inside, h.named.shape.count row can.here) in
    let at = token_at y.named can.here (f ∙ h.named.shape.first row can.here) c in
    record {
      fits = at.fits;
      atom = omega (arith, at.below, h.named.few);
      free = omega (arith, y.count, few y.numbered, h.named.few);
      room = y.named.shape.room;
    }
