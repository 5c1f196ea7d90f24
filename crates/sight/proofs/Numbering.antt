-- One more name: what the words say of the variables afterwards.
-- Assumes nothing of the text but that its names fit their columns.
use mathlib.Core.Path.{◌≡◌, refl, sym, ap, ◌∙◌}
use mathlib.Core.Logic.{◌≢◌}
use mathlib.Core.Bool.{Bool, true, false}
use mathlib.Core.List.{List, [], ◌∷◌, ◌++◌}
use Prim.Native.Nat.{ℕ, ◌+◌, ◌*◌, ◌<◌, ◌≤◌}
use native.Mathlib.Omega.{arith}
use lib.Dec.{eqb, ltb}
use lib.ListN.{length, get_or, set, length-append, length-set, get_or-append}
use lib.Seq.{get_or-append-add}
use borrow.Author.Tests.{eqb-true, ltb-true, ltb-false}
use Rattle.paper.specs.Statements.{Statement, none_end}
use Rattle.paper.specs.Variables.{member, see, index}
use Rattle.paper.proofs.Tests.{split, eqb_ne, same_refl, ne_same}
use Rattle.paper.proofs.Names.{member_left, member_right, member_one, index_in, index_past, Distinct, distinct_see}
use Rattle.area.specs.Cells.{bucket_cell, symbol_cell, word}
use Rattle.area.proofs.Laws.{word_same, word_other}
use Rattle.nameck.specs.Atoms.{atoms, atom_of, name_of}
use Rattle.nameck.proofs.Atoms.{atom_of_name, name_occurs}
use Rattle.sight.specs.Sums.{sum, one}
use Rattle.sight.specs.Static.{constant_name}
use Rattle.sight.specs.Numbered.{number_word, Entry, Numbered, Renumbered, scan_name, with_number}
use Rattle.sight.proofs.Sums.{sum_one, sum_few, sum_fewer}

one_few : (b : Bool) → one b ≤ 1
one_few true = omega arith
one_few false = omega arith

-- a name that is not among the variables: they are fewer than the names
pub fewer :
    {w : List ℕ} {n : ℕ} {l : List Statement} {vs : List (List ℕ)} (a : ℕ) → Numbered w n l vs → a < length (atoms l)
    → member (name_of l a) vs ≡ false → length vs < length (atoms l)
fewer {w} {n} {l} {vs} a h k e =
    rw h.counted
    (sum_fewer (λ b. one (member (name_of l b) vs)) (length (atoms l)) a (λ i q. one_few (member (name_of l i) vs)) k (rw e))

-- at most as many as there are names
pub few : {w : List ℕ} {n : ℕ} {l : List Statement} {vs : List (List ℕ)} → Numbered w n l vs → length vs ≤ length (atoms l)
few {w} {n} {l} {vs} h =
    rw h.counted (sum_few (λ b. one (member (name_of l b) vs)) (length (atoms l)) (λ i q. one_few (member (name_of l i) vs)))

-- ---- what a number word tells
number_zero : (l : List Statement) (vs : List (List ℕ)) (x : List ℕ) → number_word l vs x ≡ 0
    → (constant_name l x ≡ false) × (member x vs ≡ false)
unfolding number_word
number_zero l vs x e =
    split (constant_name l x) (λ q. let z : none_end ≡ 0 = rw q at e in absurd (omega (arith, z)))
    (λ q.
    split (member x vs) (λ p. let z : index vs x + 1 ≡ 0 = rw (q, p) at e in absurd (omega (arith, z)))
    (λ p. (q, p)))

-- a name that has a number, or is a constant, is passed over
pub scan_old :
    (l : List Statement) (vs : List (List ℕ)) (x : List ℕ) → (number_word l vs x ≡ 0 → ⊥) → scan_name l vs x ≡ vs
unfolding number_word
scan_old l vs x h =
    split (constant_name l x) (λ q. rw q)
    (λ q. split (member x vs) (λ p. rw (q, p)) (λ p. absurd (h (rw (q, p)))))

pub scan_new : (l : List Statement) (vs : List (List ℕ)) (x : List ℕ) → number_word l vs x ≡ 0 → scan_name l vs x ≡ vs ++ (x ∷ [])
scan_new l vs x h = let z = number_zero l vs x h in rw (z.0, z.1)

-- ---- the number word of a name once x is numbered
number_new :
    (l : List Statement) (vs : List (List ℕ)) (x : List ℕ) → constant_name l x ≡ false → member x vs ≡ false
    → number_word l (vs ++ (x ∷ [])) x ≡ length vs + 1
unfolding number_word index
number_new l vs x c e =
    rw (c, member_right x vs (x ∷ []) e ∙ member_one x x ∙ same_refl x, index_past x vs (x ∷ []) e, same_refl x) (omega arith)

number_other :
    (l : List Statement) (vs : List (List ℕ)) (x y : List ℕ) → (y ≡ x → ⊥) → number_word l (vs ++ (x ∷ [])) y ≡ number_word l vs y
unfolding number_word
number_other l vs x y d =
    split (member y vs) (λ e. rw (member_left y vs (x ∷ []) e, index_in y vs (x ∷ []) e, e))
    (λ e. rw (member_right y vs (x ∷ []) e ∙ member_one y x ∙ ne_same y x d, e))

-- ---- the words once the name of atom a is numbered
module _ (w : List ℕ) (n a k : ℕ) (room : 16 * n ≤ length w) (below : a < n) (free : k < n) where
  number_here : word (with_number w n a k) (symbol_cell n a 5) ≡ k + 1
  unfolding with_number
  number_here =
      word_same (set w (bucket_cell n k) a) (symbol_cell n a 5) (k + 1)
      (rw (length-set w (bucket_cell n k) a) (omega arith))

  bucket_here : word (with_number w n a k) (bucket_cell n k) ≡ a
  unfolding with_number
  bucket_here =
      word_other (set w (bucket_cell n k) a) (symbol_cell n a 5) (bucket_cell n k) (k + 1) (λ q. omega (arith, q))
      ∙ word_same w (bucket_cell n k) a (omega arith)

  number_there : (i : ℕ) → i ≢ bucket_cell n k → i ≢ symbol_cell n a 5 → word (with_number w n a k) i ≡ word w i
  unfolding with_number
  number_there i p q =
      word_other (set w (bucket_cell n k) a) (symbol_cell n a 5) i (k + 1) q ∙ word_other w (bucket_cell n k) i a p

  pub renumbered_number : Renumbered n w (with_number w n a k)
  unfolding with_number
  renumbered_number =
      record {
        len = length-set (set w (bucket_cell n k) a) (symbol_cell n a 5) (k + 1) ∙ length-set w (bucket_cell n k) a;
        low = λ i h. number_there i (λ q. omega (arith, q)) (λ q. omega (arith, q));
        symbols = λ b c h l. number_there (symbol_cell n b c) (λ q. omega (arith, q)) (λ q. omega (arith, q));
        marks = λ b h. number_there (symbol_cell n b 6) (λ q. omega (arith, q)) (λ q. omega (arith, q));
        high = λ i h. number_there i (λ q. omega (arith, q)) (λ q. omega (arith, q));
      }

pub renumbered_none : (n : ℕ) (w : List ℕ) → Renumbered n w w
renumbered_none n w =
    record { len = refl; low = λ i h. refl; symbols = λ a c h l. refl; marks = λ a h. refl; high = λ i h. refl }

pub renumbered_then : {n : ℕ} {w v u : List ℕ} → Renumbered n w v → Renumbered n v u → Renumbered n w u
renumbered_then x y =
    record {
      len = y.len ∙ x.len;
      low = λ i h. y.low i h ∙ x.low i h;
      symbols = λ a c h l. y.symbols a c h l ∙ x.symbols a c h l;
      marks = λ a h. y.marks a h ∙ x.marks a h;
      high = λ i h. y.high i h ∙ x.high i h;
    }

-- the entries of a list with one more
last_or :
    (P : ℕ → List ℕ → Type 0) (vs : List (List ℕ)) (x : List ℕ) → ((k : ℕ) → k < length vs → P k (get_or vs k []))
    → P (length vs) x → (k : ℕ) → k < length (vs ++ (x ∷ [])) → P k (get_or (vs ++ (x ∷ [])) k [])
last_or P vs x old new k h =
    split (ltb k (length vs))
    (λ q. let l : k < length vs = ltb-true _ _ q in rw (get_or-append vs (x ∷ []) [] k l) (old k l))
    (λ q.
    let s : k ≡ length vs = omega (arith, ltb-false k (length vs) q, length-append vs (x ∷ []), h) in
    let e : get_or (vs ++ (x ∷ [])) (length vs) [] ≡ x = ap (λ i. get_or (vs ++ (x ∷ [])) i []) z ∙ get_or-append-add vs (x ∷ []) 0 [] in
    rw (s, e) new)
  where
    z : length vs ≡ length vs + 0
    z = omega arith

pub numbered_new :
    {w : List ℕ} {n : ℕ} {l : List Statement} {vs : List (List ℕ)} (a : ℕ) → 16 * n ≤ length w → length (atoms l) < n
    → a < length (atoms l) → Numbered w n l vs → word w (symbol_cell n a 5) ≡ 0
    → Numbered (with_number w n a (length vs)) n l (scan_name l vs (name_of l a))
numbered_new {w} {n} {l} {vs} a room names below h zero_word =
    rw (scan_new l vs x unseen)
    (record {
      entry = last_or (Entry v n l) vs x old (record { occurs = name_occurs l a below; variable = var; bucket = bucket_here w n a (length vs) room (omega arith) free ∙ sym (atom_of_name l a below) });
      place = placed;
      number = numbers;
      counted = counts;
    })
  where
    x : List ℕ
    x = name_of l a

    v : List ℕ
    v = with_number w n a (length vs)

    unseen : number_word l vs (name_of l a) ≡ 0
    unseen = sym (h.number a below) ∙ zero_word

    var : constant_name l (name_of l a) ≡ false
    var = (number_zero l vs (name_of l a) unseen).0

    new : member (name_of l a) vs ≡ false
    new = (number_zero l vs (name_of l a) unseen).1

    free : length vs < n
    free = omega (arith, fewer a h below new)

    old : (k : ℕ) → k < length vs → Entry (with_number w n a (length vs)) n l k (get_or vs k [])
    old k q =
        record {
          occurs = (h.entry k q).occurs;
          variable = (h.entry k q).variable;
          bucket =
              number_there w n a (length vs) room (omega arith) free (bucket_cell n k) (λ e. omega (arith, e, q)) (λ e. omega (arith, e, q, free))
              ∙ (h.entry k q).bucket;
        }

    placed : (k : ℕ) → k < length (vs ++ (name_of l a ∷ [])) → index (vs ++ (name_of l a ∷ [])) (get_or (vs ++ (name_of l a ∷ [])) k []) ≡ k
    placed =
        let d : Distinct (see vs (name_of l a)) = distinct_see vs (name_of l a) (record { place = h.place }) in
        let e : Distinct (vs ++ (name_of l a ∷ [])) = rw new at d in
        e.place

    numbers : (b : ℕ) → b < length (atoms l) → word (with_number w n a (length vs)) (symbol_cell n b 5) ≡ number_word l (vs ++ (name_of l a ∷ [])) (name_of l b)
    numbers b q =
        split (eqb b a)
        (λ e.
        let d : b ≡ a = eqb-true b a e in
        rw d (number_here w n a (length vs) room (omega arith) free ∙ sym (number_new l vs (name_of l a) var new)))
        (λ e.
        let d : b ≢ a = eqb_ne e in
        number_there w n a (length vs) room (omega arith) free (symbol_cell n b 5) (λ z. omega (arith, z, free)) (λ z. d (omega (arith, z)))
        ∙ h.number b q
        ∙ sym (number_other l vs (name_of l a) (name_of l b) (λ z. d (sym (atom_of_name l b q) ∙ ap (atom_of l) z ∙ atom_of_name l a below))))

    counts : length (vs ++ (name_of l a ∷ [])) ≡ sum (λ b. one (member (name_of l b) (vs ++ (name_of l a ∷ [])))) (length (atoms l))
    counts =
        let s : sum (λ b. one (member (name_of l b) (vs ++ (name_of l a ∷ [])))) (length (atoms l)) ≡ sum (λ b. one (member (name_of l b) vs)) (length (atoms l)) + 1 =
        sum_one (λ b. one (member (name_of l b) vs)) (λ b. one (member (name_of l b) (vs ++ (name_of l a ∷ [])))) (length (atoms l)) a below
        (rw (member_right (name_of l a) vs (name_of l a ∷ []) new ∙ member_one (name_of l a) (name_of l a) ∙ same_refl (name_of l a), new))
        (λ b q d. ap one (same_member b q d)) in
        omega (arith, s, h.counted, length-append vs (name_of l a ∷ []))
      where
        same_member : (b : ℕ) → b < length (atoms l) → b ≢ a → member (name_of l b) (vs ++ (name_of l a ∷ [])) ≡ member (name_of l b) vs
        same_member b q d =
            split (member (name_of l b) vs) (λ e. member_left (name_of l b) vs (name_of l a ∷ []) e ∙ sym e)
            (λ e.
            member_right (name_of l b) vs (name_of l a ∷ []) e
            ∙ member_one (name_of l b) (name_of l a)
            ∙ ne_same (name_of l b) (name_of l a) (λ z. d (sym (atom_of_name l b q) ∙ ap (atom_of l) z ∙ atom_of_name l a below))
            ∙ sym e)
