-- The words say what the definitions say: where an entry starts, what a variable stands for, whether an entry is the
-- substituted formula, and what is written when a formula is substituted.
use mathlib.Core.Path.{◌≡◌, refl, sym, ap, ◌∙◌}
use mathlib.Core.Bool.{Bool, true, false}
use mathlib.Core.List.{List, [], ◌∷◌, ◌++◌, map, append-nil}
use Prim.Native.Nat.{ℕ, zero, suc, ◌+◌, ◌<◌, ◌≤◌}
use native.Mathlib.Nat.{add-zero, add-suc, le_of_suc-le-suc, not-suc-le-zero}
use native.Mathlib.Omega.{arith}
use lib.Dec.{eqb}
use lib.ListN.{length, get_or, take, drop, length-append}
use lib.Seq.{length-take-le, drop-append-add, get_or-append_seam, get_or-append-add, get_or-take}
use borrow.Author.Tests.{lt-ltb, le-ltb, le-leb, lt-leb, eq-eqb, ne_eqb, eqb-true}
use Rattle.paper.specs.Base.{choose, and, sameb, gather}
use Rattle.paper.specs.State.{Symbol, con, var, Formula}
use Rattle.paper.specs.Substitution.{same_body, same_formula, Binding, replaced, substituted}
use Rattle.paper.proofs.Tests.{split, eqb_ne}
use Rattle.paper.proofs.Lists.{gather_append}
use Rattle.paper.proofs.Gather.{map_append, gather_one}
use Rattle.paper.proofs.Alls.{All, all_more}
use Rattle.unify.specs.Entries.{flag, plain, agrees, last_flag, entry_of}
use Rattle.unify.specs.Bound.{token_words, spread, is_entry}
use Rattle.unify.specs.Packed.{symbol_word, body_words, formula_words, packed, AtomsTell, stands}

-- ---- the last flag below the end of an entry that starts at s
start_at : (l : List ℕ) (s j : ℕ) → flag ≤ get_or l s 0 → ((i : ℕ) → i < j → get_or l (suc (s + i)) 0 < flag) → last_flag l (suc (s + j)) ≡ s
unfolding last_flag
start_at l s zero f h = rw (add-zero s, le-ltb (get_or l s 0) flag f)
start_at l s (suc j) f h =
    rw (add-suc s j, lt-ltb (get_or l (suc (s + j)) 0) flag (h j (omega arith)))
    (start_at l s j f (λ i k. h i (omega arith)))

eqb_flags : (x y : ℕ) → eqb (x + flag) (y + flag) ≡ eqb y x
eqb_flags x y =
    split (eqb y x)
    (λ q. let e : y ≡ x = eqb-true y x q in eq-eqb (x + flag) (y + flag) (omega (arith, e)) ∙ sym q)
    (λ q. ne_eqb (x + flag) (y + flag) (λ e. eqb_ne {x = y} {y = x} q (omega (arith, e))) ∙ sym q)

module _ (a : List ℕ → ℕ) (low : (n : List ℕ) → a n < flag) where
  symbol_low : (x : Symbol) → symbol_word a x < flag
  unfolding symbol_word
  symbol_low (con n) = low n
  symbol_low (var n) = low n

  body_low : (x : List Symbol) (i : ℕ) → i < length (body_words a x) → get_or (body_words a x) i 0 < flag
  unfolding body_words
  body_low [] i h = absurd (not-suc-le-zero h)
  body_low (y ∷ x) zero h = symbol_low y
  body_low (y ∷ x) (suc i) h = body_low x i (le_of_suc-le-suc h)

  last_packed : (st : List Formula) (e : Formula) → packed a (st ++ (e ∷ [])) ≡ packed a st ++ ((a e.typecode + flag) ∷ body_words a e.body)
  unfolding packed formula_words entry_of
  last_packed st e =
      gather_append (formula_words a) st (e ∷ [])
      ∙ ap (λ (y : List ℕ). gather (formula_words a) st ++ y) (gather_one (formula_words a) e)

  -- the last entry of the stack starts after the others
  pub start_packed : (l : List ℕ) (top : ℕ) (st : List Formula) (e : Formula) → top ≤ length l → take top l ≡ packed a (st ++ (e ∷ [])) → last_flag l top ≡ length (packed a st)
  start_packed l top st e h q =
      let b = body_words a e.body in
      let s = length (packed a st) in
      let c = a e.typecode + flag in
      let z : take top l ≡ packed a st ++ (c ∷ b) = q ∙ last_packed st e in
      let t : top ≡ suc (s + length b) = omega (arith, length-take-le top l h, ap length z, length-append (packed a st) (c ∷ b)) in
      let f : get_or l s 0 ≡ c = sym (get_or-take top l s 0 (omega arith)) ∙ ap (λ (y : List ℕ). get_or y s 0) z ∙ get_or-append_seam (packed a st) c b 0 in
      let g : (i : ℕ) → i < length b → get_or l (suc (s + i)) 0 < flag = λ i k.
      let m : get_or l (suc (s + i)) 0 ≡ get_or b i 0 =
      sym (get_or-take top l (suc (s + i)) 0 (omega arith))
      ∙ ap (λ (y : List ℕ). get_or y (suc (s + i)) 0) z
      ∙ ap (λ (j : ℕ). get_or (packed a st ++ (c ∷ b)) j 0) (sym (add-suc s i))
      ∙ get_or-append-add (packed a st) (c ∷ b) (suc i) 0 in
      omega (arith, m, body_low e.body i k) in
      ap (last_flag l) t ∙ start_at l s (length b) (omega (arith, f)) g

  -- ---- what is left of an entry from its first symbol on
  plain_body : (x : List Symbol) (r : List ℕ) → plain (body_words a x ++ r) ≡ body_words a x ++ plain r
  unfolding plain body_words
  plain_body [] r = refl
  plain_body (y ∷ x) r =
      rw (lt-ltb (symbol_word a y) flag (symbol_low y)) (ap (λ (z : List ℕ). symbol_word a y ∷ z) (plain_body x r))

  plain_packed : (l : List Formula) → plain (packed a l) ≡ []
  unfolding plain packed gather formula_words entry_of
  plain_packed [] = refl
  plain_packed (f ∷ l) = rw (le-ltb (a f.typecode + flag) flag (omega arith))

  pub plain_entry : (x : List Symbol) (l : List Formula) → plain (body_words a x ++ packed a l) ≡ body_words a x
  plain_entry x l =
      plain_body x (packed a l) ∙ ap (λ (z : List ℕ). body_words a x ++ z) (plain_packed l) ∙ append-nil (body_words a x)

  -- ---- symbols against those of an entry
  agrees_packed : (l : List Formula) → agrees [] (packed a l) ≡ true
  unfolding agrees packed gather formula_words entry_of
  agrees_packed [] = refl
  agrees_packed (f ∷ l) = le-leb flag (a f.typecode + flag) (omega arith)

  more_packed : (x : ℕ) (m : List ℕ) (l : List Formula) → x < flag → agrees (x ∷ m) (packed a l) ≡ false
  unfolding agrees packed gather formula_words entry_of
  more_packed x m [] h = refl
  more_packed x m (f ∷ l) h = rw (ne_eqb x (a f.typecode + flag) (λ e. omega (arith, e)))

  agrees_entry : (x y : List Symbol) (l : List Formula) → agrees (body_words a x) (body_words a y ++ packed a l) ≡ sameb (body_words a x) (body_words a y)
  unfolding agrees body_words sameb
  agrees_entry [] [] l = agrees_packed l
  agrees_entry [] (z ∷ y) l = lt-leb flag (symbol_word a z) (symbol_low z)
  agrees_entry (z ∷ x) [] l = more_packed (symbol_word a z) (map (symbol_word a) x) l (symbol_low z)
  agrees_entry (z ∷ x) (u ∷ y) l =
      ap (λ (r : Bool). choose (eqb (symbol_word a z) (symbol_word a u)) r false) (agrees_entry x y l)

same_words : (a : List ℕ → ℕ) {fine : Symbol → Type 0} → AtomsTell a fine → (x y : List Symbol) → All fine x → All fine y → same_body x y ≡ sameb (body_words a x) (body_words a y)
unfolding same_body body_words sameb
same_words a k [] [] p q = refl
same_words a k [] (z ∷ y) p q = refl
same_words a k (z ∷ x) [] p q = refl
same_words a k (z ∷ x) (u ∷ y) (all_more f p) (all_more g q) =
    ap (λ (t : Bool). choose t (same_body x y) false) (k.same z u f g)
    ∙ ap (λ (r : Bool). choose (eqb (symbol_word a z) (symbol_word a u)) r false) (same_words a k x y p q)

-- ---- what symbols stand for
module _ (a : List ℕ → ℕ) (w : List ℕ) (n : ℕ) (l : List ℕ) (b : List Binding) where
  token_stands : (x : Symbol) → stands a w n l b x → token_words w n l (symbol_word a x) ≡ body_words a (replaced b x)
  unfolding token_words symbol_word body_words
  token_stands (con m) e = rw e
  token_stands (var m) e = rw e.0 e.1

  spread_stands : (x : List Symbol) → All (stands a w n l b) x → spread w n l (body_words a x) ≡ body_words a (gather (replaced b) x)
  unfolding spread gather body_words
  spread_stands [] p = refl
  spread_stands (y ∷ x) (all_more e p) =
      ap (λ (z : List ℕ). z ++ gather (token_words w n l) (map (symbol_word a) x)) (token_stands y e)
      ∙ ap (λ (z : List ℕ). map (symbol_word a) (replaced b y) ++ z) (spread_stands x p)
      ∙ sym (map_append (symbol_word a) (replaced b y) (gather (replaced b) x))

  -- what is pushed is the substituted formula
  pub expanded : (f : Formula) → All (stands a w n l b) f.body → entry_of (a f.typecode) (spread w n l (body_words a f.body)) ≡ formula_words a (substituted b f)
  unfolding formula_words substituted
  expanded f p = ap (entry_of (a f.typecode)) (spread_stands f.body p)

  -- an entry matches where it is the substituted formula
  pub entry_matches : {fine : Symbol → Type 0} → AtomsTell a fine → (front : List ℕ) (e f : Formula) (rest : List Formula) → l ≡ front ++ (formula_words a e ++ packed a rest)
      → All (stands a w n l b) f.body → fine (con e.typecode) → fine (con f.typecode) → All fine e.body → All fine (gather (replaced b) f.body)
      → is_entry w n (a f.typecode) (body_words a f.body) l (length front) ≡ same_formula (substituted b f) e
  unfolding is_entry substituted formula_words entry_of symbol_word
  entry_matches k front e f rest q p c d x y =
      let head : get_or l (length front) 0 ≡ a e.typecode + flag =
      ap (λ (z : List ℕ). get_or z (length front) 0) q ∙ get_or-append_seam front (a e.typecode + flag) (body_words a e.body ++ packed a rest) 0 in
      let tail : drop (length front + 1) l ≡ body_words a e.body ++ packed a rest =
      ap (drop (length front + 1)) q ∙ drop-append-add front ((a e.typecode + flag) ∷ (body_words a e.body ++ packed a rest)) 1 in
      let codes : eqb (get_or l (length front) 0) (a f.typecode + flag) ≡ sameb f.typecode e.typecode =
      ap (λ (z : ℕ). eqb z (a f.typecode + flag)) head ∙ eqb_flags (a e.typecode) (a f.typecode) ∙ sym (k.same (con f.typecode) (con e.typecode) d c) in
      let bodies : agrees (spread w n l (body_words a f.body)) (drop (length front + 1) l) ≡ same_body (gather (replaced b) f.body) e.body =
      ap (agrees (spread w n l (body_words a f.body))) tail
      ∙ ap (λ (z : List ℕ). agrees z (body_words a e.body ++ packed a rest)) (spread_stands f.body p)
      ∙ agrees_entry a k.low (gather (replaced b) f.body) e.body rest
      ∙ sym (same_words a k (gather (replaced b) f.body) e.body y x) in
      ap (λ (z : Bool). and z (agrees (spread w n l (body_words a f.body)) (drop (length front + 1) l))) codes
      ∙ ap (and (sameb f.typecode e.typecode)) bodies
