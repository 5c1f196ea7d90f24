-- Offsets moved by a function: comments, grammar, items and ends. None of them compares offsets, so any function will do,
-- but for ends: a `$}` must not be moved from or to none.
use mathlib.Core.Path.{◌≡◌, refl, sym, ap, ◌∙◌}
use mathlib.Core.Bool.{Bool, true, false}
use mathlib.Core.List.{List, [], ◌∷◌, ◌++◌, map}
use mathlib.Core.Option.{Option, none, some}
use Prim.Native.Nat.{ℕ, zero, suc, ◌<◌}
use native.Mathlib.Omega.{arith}
use lib.Dec.{eqb, leb}
use lib.ListN.{length, length-map}
use Rattle.paper.specs.Base.{choose, and}
use Rattle.paper.specs.Tokens.{Token, label_token, math_token, key}
use Rattle.paper.specs.Comments.{Place, outside, inside, next, after, marked, shown, visible}
use Rattle.paper.specs.Statements.{Kind, $c, $v, $d, $f, $e, $a, $p, none_end, Item, opens, closes, states, top, tail, closers, ended, ends}
use Rattle.paper.specs.Reader.{Mode, start, named, math, proof, plain_kind, label_kind, room, least, closing, Step, go, stop, statement, shut, begin, keyword, closed, allow, with_items, many}
use Rattle.paper.proofs.Alls.{All, all_none, all_more}
use Rattle.paper.proofs.Gather.{map_append}
use Rattle.theorems.specs.Moved.{moved_end, moved_token, moved_statement, PlacedBelow}
use Rattle.theorems.proofs.Stands.{ItemAt}
use Rattle.theorems.proofs.Texts.{Read}

module _ (f : ℕ → ℕ) where
  -- ---- comments
  abbrev moved_place : Place → Place
  moved_place outside = outside
  moved_place (inside o) = inside (f o)

  next_by : (b : Bool) (p q : Place) → choose b (moved_place p) (moved_place q) ≡ moved_place (choose b p q)
  next_by true p q = refl
  next_by false p q = refl

  next_moved : (p : Place) (t : Token) → next (moved_place p) (moved_token f t) ≡ moved_place (next p t)
  unfolding key
  next_moved outside t = next_by (key 40 t) (inside t.at) outside
  next_moved (inside o) t = next_by (key 41 t) outside (inside o)

  shown_by : (b : Bool) (x y : List Token)
      → choose b (map (moved_token f) x) (map (moved_token f) y) ≡ map (moved_token f) (choose b x y)
  shown_by true x y = refl
  shown_by false x y = refl

  shown_moved : (p : Place) (t : Token) → shown (moved_place p) (moved_token f t) ≡ map (moved_token f) (shown p t)
  unfolding key
  shown_moved outside t = shown_by (key 40 t) [] (t ∷ [])
  shown_moved (inside o) t = shown_by (marked t) (t ∷ []) []

  pub after_moved : (l : List Token) (p : Place) → after (map (moved_token f) l) (moved_place p) ≡ moved_place (after l p)
  unfolding after
  after_moved [] p = refl
  after_moved (t ∷ l) p = ap (after (map (moved_token f) l)) (next_moved p t) ∙ after_moved l (next p t)

  pub visible_moved : (l : List Token) (p : Place)
      → visible (map (moved_token f) l) (moved_place p) ≡ map (moved_token f) (visible l p)
  unfolding visible
  visible_moved [] p = refl
  visible_moved (t ∷ l) p =
      rw (next_moved p t, shown_moved p t, visible_moved l (next p t)) (sym (map_append (moved_token f) (shown p t) (visible l (next p t))))

  -- ---- the grammar
  abbrev moved_mode : Mode → Mode
  moved_mode start = start
  moved_mode (named t) = named (moved_token f t)
  moved_mode (math k o n m) = math k (f o) n (map (moved_token f) m)
  moved_mode (proof o n m p) = proof (f o) n (map (moved_token f) m) (map (moved_token f) p)

  abbrev pub moved_item : Item → Item
  moved_item (opens p) = opens (f p)
  moved_item (closes q) = closes (f q)
  moved_item (states s) = states (moved_statement f s)

  abbrev moved_step : Step → Step
  moved_step (go m d i) = go (moved_mode m) d (map moved_item i)
  moved_step (stop o) = stop (f o)

  shut_moved : (d : ℕ) (t : Token) → shut d (moved_token f t) ≡ moved_step (shut d t)
  shut_moved zero t = refl
  shut_moved (suc d) t = refl

  step_by : (b : Bool) (x y : Step) → choose b (moved_step x) (moved_step y) ≡ moved_step (choose b x y)
  step_by true x y = refl
  step_by false x y = refl

  begin_moved : (k : Option Kind) (d : ℕ) (t : Token) → begin k d (moved_token f t) ≡ moved_step (begin k d t)
  unfolding label_token
  begin_moved (some k) d t = refl
  begin_moved none d t = step_by (label_token t) (go (named t) d []) (stop t.at)

  keyword_moved : (k : Option Kind) (d : ℕ) (n t : Token)
      → keyword k d (moved_token f n) (moved_token f t) ≡ moved_step (keyword k d n t)
  keyword_moved (some k) d n t = refl
  keyword_moved none d n t = refl

  closed_moved : (k : Kind) (d o : ℕ) (n : List ℕ) (m : List Token)
      → closed k d (f o) n (map (moved_token f) m) ≡ moved_step (closed k d o n m)
  closed_moved $c d o n m = refl
  closed_moved $v d o n m = refl
  closed_moved $d d o n m = refl
  closed_moved $f d o n m = refl
  closed_moved $e d o n m = refl
  closed_moved $a d o n m = refl
  closed_moved $p d o n m = refl

  start_by : (a b : Bool) (k : Option Kind) (d : ℕ) (t : Token)
      → choose a (go start (suc d) (opens (f t.at) ∷ [])) (choose b (shut d (moved_token f t)) (begin k d (moved_token f t)))
      ≡ moved_step (choose a (go start (suc d) (opens t.at ∷ [])) (choose b (shut d t) (begin k d t)))
  start_by true b k d t = refl
  start_by false true k d t = shut_moved d t
  start_by false false k d t = begin_moved k d t

  math_by : (a b : Bool) (k : Kind) (d o : ℕ) (n : List ℕ) (m : List Token) (t : Token)
      → choose a (go (math k (f o) n (map (moved_token f) m ++ (moved_token f t ∷ []))) d [])
      (choose b (closed k d (f o) n (map (moved_token f) m)) (stop (f t.at)))
      ≡ moved_step (choose a (go (math k o n (m ++ (t ∷ []))) d []) (choose b (closed k d o n m) (stop t.at)))
  math_by true b k d o n m t = rw (map_append (moved_token f) m (t ∷ []))
  math_by false true k d o n m t = closed_moved k d o n m
  math_by false false k d o n m t = refl

  proof_by : (a b : Bool) (d o : ℕ) (n : List ℕ) (m p : List Token) (t : Token)
      → choose a (go (proof (f o) n (map (moved_token f) m) (map (moved_token f) p ++ (moved_token f t ∷ []))) d [])
      (choose b (go start d (statement $p (f o) n (map (moved_token f) m) (map (moved_token f) p))) (stop (f t.at)))
      ≡ moved_step (choose a (go (proof o n m (p ++ (t ∷ []))) d []) (choose b (go start d (statement $p o n m p)) (stop t.at)))
  proof_by true b d o n m p t = rw (map_append (moved_token f) p (t ∷ []))
  proof_by false true d o n m p t = refl
  proof_by false false d o n m p t = refl

  allow_moved : (m : Mode) (d : ℕ) (t : Token) → allow (moved_mode m) d (moved_token f t) ≡ moved_step (allow m d t)
  unfolding allow key math_token
  allow_moved start d t = start_by (key 123 t) (key 125 t) (plain_kind t) d t
  allow_moved (named n) d t = keyword_moved (label_kind t) d n t
  allow_moved (math k o n m) d t =
      rw (length-map m (moved_token f))
      (math_by (and (math_token t) (room k (length m))) (and (key (closing k) t) (leb (least k) (length m))) k d o n m t)
  allow_moved (proof o n m p) d t =
      rw (length-map p (moved_token f)) (proof_by (math_token t) (and (key 46 t) (leb 1 (length p))) d o n m p t)

  with_moved : (i : List Item) (z : Step) → with_items (map moved_item i) (moved_step z) ≡ moved_step (with_items i z)
  with_moved i (go m d j) = rw (map_append moved_item i j)
  with_moved i (stop o) = refl

  many_moved : (l : List Token) (z : Step) → many (map (moved_token f) l) (moved_step z) ≡ moved_step (many l z)
  unfolding many
  many_moved [] z = refl
  many_moved (t ∷ l) (stop o) = refl
  many_moved (t ∷ l) (go m d i) =
      rw (allow_moved m d t, with_moved i (allow m d t)) (many_moved l (with_items i (allow m d t)))

  -- ---- tokens that are read when moved are read as they stand, and give the items that are moved
  pub record ReadMoved (l : List Token) (i : List Item) : Type 0 where
    pub items : List Item
    pub read : Read l items
    pub moved : i ≡ map moved_item items

  at_start : (m : Mode) → moved_mode m ≡ start → m ≡ start
  at_start start e = refl
  at_start (named t) e = let c : ◌≡◌ {A = ℕ} 0 1 = cc in absurd (omega arith)
  at_start (math k o n m) e = let c : ◌≡◌ {A = ℕ} 0 1 = cc in absurd (omega arith)
  at_start (proof o n m p) e = let c : ◌≡◌ {A = ℕ} 0 1 = cc in absurd (omega arith)

  out_moved : (p : Place) → moved_place p ≡ outside → p ≡ outside
  out_moved outside e = refl
  out_moved (inside o) e = let c : ◌≡◌ {A = ℕ} 0 1 = cc in absurd (omega arith)

  gone : (l : List Token) (i : List Item) (z : Step) → many (visible l outside) (go start 0 []) ≡ z → after l outside ≡ outside
      → moved_step z ≡ go start 0 i → ReadMoved l i
  gone l i (stop o) h p e = let c : ◌≡◌ {A = ℕ} 0 1 = cc in absurd (omega arith)
  gone l i (go m d j) h p e =
      let a : m ≡ start = at_start m cc in
      let b : d ≡ 0 = cc in
      let c : i ≡ map moved_item j = cc in
      record { items = j; read = record { all = rw (a, b) at h; out = p }; moved = c }

  pub read_moved : (l : List Token) (i : List Item) → Read (map (moved_token f) l) i → ReadMoved l i
  read_moved l i r =
      gone l i (many (visible l outside) (go start 0 [])) refl
      (out_moved (after l outside) (sym (after_moved l outside) ∙ r.out))
      (sym (many_moved (visible l outside) (go start 0 [])) ∙ (ap (λ (u : List Token). many u (go start 0 [])) (sym (visible_moved l outside)) ∙ r.all))

  -- ---- ends, where the offsets below n are moved below none
  module _ (n : ℕ) (low : (a : ℕ) → a < n → moved_end f a ≡ f a) where
    tail_moved : (l : List ℕ) → tail (map f l) ≡ map f (tail l)
    tail_moved [] = refl
    tail_moved (q ∷ l) = refl

    closers_moved : (i : List Item) (l : List ℕ) → closers (map moved_item i) (map f l) ≡ map f (closers i l)
    unfolding closers
    closers_moved [] l = refl
    closers_moved (opens p ∷ i) l = rw (closers_moved i l) (tail_moved (closers i l))
    closers_moved (closes q ∷ i) l = ap (λ (r : List ℕ). f q ∷ r) (closers_moved i l)
    closers_moved (states s ∷ i) l = closers_moved i l

    tail_low : {l : List ℕ} → All (λ a. a < n) l → All (λ a. a < n) (tail l)
    tail_low all_none = all_none
    tail_low (all_more h a) = a

    closers_low : {i : List Item} {l : List ℕ} → All (ItemAt (λ a. a < n)) i → All (λ a. a < n) l → All (λ a. a < n) (closers i l)
    unfolding closers
    closers_low all_none b = b
    closers_low (all_more {x = opens p} h a) b = tail_low (closers_low a b)
    closers_low (all_more {x = closes q} h a) b = all_more h (closers_low a b)
    closers_low (all_more {x = states s} h a) b = closers_low a b

    top_moved : {l : List ℕ} → All (λ a. a < n) l → top (map f l) ≡ moved_end f (top l)
    top_moved all_none = refl
    top_moved (all_more {x = q} h a) = sym (low q h)

    pub ends_moved : {i : List Item} {l : List ℕ} → All (ItemAt (λ a. a < n)) i → All (λ a. a < n) l
        → ends (map moved_item i) (map f l) ≡ map (moved_statement f) (ends i l)
    unfolding ends
    ends_moved all_none b = refl
    ends_moved (all_more {x = opens p} h a) b = ends_moved a b
    ends_moved (all_more {x = closes q} h a) b = ends_moved a b
    ends_moved {l = l} (all_more {x = states s} {l = i} h a) b =
        rw (closers_moved i l, top_moved (closers_low a b), ends_moved a b)

    ended_low : {l : List ℕ} → All (λ a. a < n) l → eqb (top l) none_end ≡ false → top l < n
    ended_low all_none e = let c : true ≡ false = e in let y : ◌≡◌ {A = ℕ} 0 1 = cc in absurd (omega arith)
    ended_low (all_more h a) e = h

    -- each end is below n, or none
    pub ends_placed : {i : List Item} {l : List ℕ} → All (ItemAt (λ a. a < n)) i → All (λ a. a < n) l → All (PlacedBelow n) (ends i l)
    unfolding ends
    ends_placed all_none b = all_none
    ends_placed (all_more {x = opens p} h a) b = ends_placed a b
    ends_placed (all_more {x = closes q} h a) b = ends_placed a b
    ends_placed {l = l} (all_more {x = states s} {l = i} h a) b =
        all_more {x = ended (top (closers i l)) s} (record { at = h; end = ended_low (closers_low a b) }) (ends_placed a b)
