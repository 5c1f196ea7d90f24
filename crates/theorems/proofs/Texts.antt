-- A text that is read: the reader ends between statements, at depth 0 and outside comments; and where its visible tokens stand.
-- Said of tokens and of bytes, for all that is proved of whole texts.
use mathlib.Core.Path.{◌≡◌, refl}
use mathlib.Core.List.{List, []}
use Prim.Native.Nat.{ℕ, zero, suc, ◌+◌, ◌<◌, ◌≤◌}
use native.Mathlib.Omega.{arith}
use lib.ListN.{length}
use Rattle.paper.specs.Tokens.{Token, toks}
use Rattle.paper.specs.Comments.{Place, outside, inside, after, visible}
use Rattle.paper.specs.Statements.{Item}
use Rattle.paper.specs.Reader.{Mode, start, named, math, proof, Step, go, stop, many, given, finish, ending, items}
use Rattle.paper.proofs.Alls.{All, all_map}
use Rattle.theorems.proofs.Tokens.{toks_within}
use Rattle.theorems.proofs.Comments.{visible_all}
use Rattle.theorems.proofs.Reader.{Reads, many_reads}
use Rattle.theorems.proofs.Stands.{TokenAt}

pub record Read (l : List Token) (i : List Item) : Type 0 where
  pub all : many (visible l outside) (go start 0 []) ≡ go start 0 i
  pub out : after l outside ≡ outside

module _ {i : List Item} (n : ℕ) where
  finished : (m : Mode) (d : ℕ) (j : List Item) → finish m d j n ≡ given i → go m d j ≡ go start 0 i
  finished start zero j e = let a : j ≡ i = cc in rw a
  finished start (suc d) j e = let c : ◌≡◌ {A = ℕ} 0 1 = cc in absurd (omega arith)
  finished (named t) d j e = let c : ◌≡◌ {A = ℕ} 0 1 = cc in absurd (omega arith)
  finished (math k o l m) d j e = let c : ◌≡◌ {A = ℕ} 0 1 = cc in absurd (omega arith)
  finished (proof o l m p) d j e = let c : ◌≡◌ {A = ℕ} 0 1 = cc in absurd (omega arith)

  closed_at : (p : Place) (z : Step) → ending z p n ≡ given i → (z ≡ go start 0 i) × (p ≡ outside)
  closed_at outside (go m d j) e = (finished m d j e, refl)
  closed_at (inside o) (go m d j) e = let c : ◌≡◌ {A = ℕ} 0 1 = cc in absurd (omega arith)
  closed_at p (stop o) e = let c : ◌≡◌ {A = ℕ} 0 1 = cc in absurd (omega arith)

pub items_read : (l : List Token) (n : ℕ) (i : List Item) → items l n ≡ given i → Read l i
unfolding items
items_read l n i e =
    let c = closed_at n (after l outside) (many (visible l outside) (go start 0 [])) e in
    record { all = c.0; out = c.1 }

pub read_items : {l : List Token} {i : List Item} (n : ℕ) → Read l i → items l n ≡ given i
unfolding items
read_items n r = rw (r.all, r.out)

pub read_reads : {l : List Token} {i : List Item} → Read l i → Reads (visible l outside) start 0 i start 0
read_reads {l} {i} h =
    let r = many_reads (visible l outside) start 0 [] start 0 i h.all in
    rw r.sum r.reads

-- where the visible tokens of some bytes stand
pub shown_at : (l : List ℕ) (o : ℕ) {x u : List Token} (P : ℕ → Type 0) → ((n : ℕ) → o ≤ n → n < o + length l → P n)
    → toks l o ≡ x → visible x outside ≡ u → All (TokenAt P) u
shown_at l o P f a b =
    rw (← b, ← a) (visible_all outside (all_map (λ t h. f t.at h.0 h.1) (toks_within l o)))
