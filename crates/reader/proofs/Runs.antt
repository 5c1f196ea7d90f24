-- Runs of math tokens: the start, one more token, what ends them; a proof's run; how a run closes.
-- Assumes nothing.
use mathlib.Core.Path.{◌≡◌, refl, sym, ◌∙◌}
use mathlib.Core.Bool.{Bool, true, false}
use mathlib.Core.List.{List, [], ◌∷◌, ◌++◌}
use Prim.Native.Nat.{ℕ, ◌+◌, ◌-◌, ◌<◌, zero-le}
use native.Mathlib.Nat.{le_refl, not-suc-le-zero}
use native.Mathlib.Omega.{arith}
use lib.Dec.{leb, ltb}
use lib.ListN.{length, get_or, take, drop, set, length-append, length-drop, length-set, get_or-append}
use lib.Seq.{get_or_at, length-take-le}
use borrow.Author.Tests.{le-leb, leb-true, ltb-true, ltb-false}
use Rattle.paper.specs.Base.{and, all}
use Rattle.paper.specs.Tokens.{math_token}
use Rattle.paper.specs.Comments.{outside}
use Rattle.paper.specs.Checks.{no_token}
use Rattle.paper.proofs.Tests.{split}
use Rattle.area.specs.Cells.{math_cell, word}
use Rattle.area.proofs.Laws.{word_same, word_other, only_none, only_set, only_then, only_wide}
use Rattle.token.specs.Words.{tokens_from, token_of, Lined, Spans}
use Rattle.token.specs.declared.cursor.Span.{Span}
use Rattle.token.specs.declared.cursor.Cursor.{Cursor}
use Rattle.reader.specs.Rows.{Stands}
use Rattle.reader.specs.Passed.{Shows}
use Rattle.reader.specs.Hops.{Hopped}
use Rattle.reader.specs.Runs.{RunRoom, Running, Stretched, Proving}
use Rattle.reader.proofs.Dollars.{and_both}
use Rattle.reader.proofs.Passes.{passed_none, passed_then, passed_few, shows_gap, shows_within}

-- a span of the text stands there as a token
pub stands_span : {t : List ℕ} {x : Span} → Spans t x → Stands t (token_of t x)
unfolding tokens_from
stands_span {t} {x} h =
    let l : length (take (x.stop - x.start) (drop x.start t)) ≡ x.stop - x.start =
    length-take-le (x.stop - x.start) (drop x.start t) (omega (arith, length-drop x.start t, h.within)) in
    let q : x.start + (x.stop - x.start) ≡ x.stop = omega (arith, h.some) in
    record {
      here = rw (l, q) h.here;
      bytes = rw l refl;
      some = omega (arith, l, h.some);
      within = omega (arith, l, h.some, h.within);
    }

all_join : {A : Type 0} (f : A → Bool) (l m : List A) → all f l ≡ true → all f m ≡ true → all f (l ++ m) ≡ true
unfolding all
all_join f [] m h e = e
all_join f (y ∷ l) m h e = split (f y) (λ q. rw q (all_join f l m (rw q at h) e)) (λ q. let z : false ≡ true = rw q at h in cc)

all_snoc : {A : Type 0} (f : A → Bool) (l : List A) (x : A) → all f l ≡ true → f x ≡ true → all f (l ++ (x ∷ [])) ≡ true
unfolding all
all_snoc f l x h e = all_join f l (x ∷ []) h (rw e)

-- what holds at each of a list's entries and of one more
snoc_each : {A : Type 0} (d : A) (P : ℕ → A → Type 0) (l : List A) (x : A) → ((k : ℕ) → k < length l → P k (get_or l k d)) → P (length l) x
    → (k : ℕ) → k < length (l ++ (x ∷ [])) → P k (get_or (l ++ (x ∷ [])) k d)
snoc_each d P l x f g k h =
    split (ltb k (length l))
    (λ e. rw (get_or-append l (x ∷ []) d k (ltb-true k (length l) e)) (f k (ltb-true k (length l) e)))
    (λ e.
    let q : k ≡ length l = omega (arith, ltb-false k (length l) e, length-append l (x ∷ [])) in
    rw (get_or_at l x [] d k (sym q), q) g)

pub running_start : {t w : List ℕ} {n at first : ℕ} (most : ℕ) → RunRoom t w n at first → Running t w w n at most first at 0
unfolding all
running_start {t} {w} {n} {at} {first} most h =
    record {
      ms = [];
      passed = passed_none t at outside;
      counted = refl;
      maths = refl;
      upto = zero-le;
      stored = λ k l. absurd (not-suc-le-zero l);
      stand = λ k l. absurd (not-suc-le-zero l);
      only = only_none (math_cell n first) (math_cell n (first + 0)) w;
      onward = le_refl at;
      within = h.within;
      gap = h.gap;
    }

-- there is room for what is left
pub running_room : {t w v : List ℕ} {n at most first stop count : ℕ} → RunRoom t w n at first → Running t w v n at most first stop count → RunRoom t v n stop (first + count)
running_room r h =
    record {
      room = omega (arith, r.room, h.only.len);
      few = omega (arith, r.few, h.counted, passed_few h.passed);
      small = r.small;
      short = r.short;
      within = h.within;
      gap = h.gap;
    }

-- and so for one more
pub room_fits : {t v : List ℕ} {n first stop : ℕ} {x : Span} {c : Cursor} → RunRoom t v n stop first → Shows t stop x c → first < n
room_fits r s = omega (arith, r.few, passed_few s.passed)

module _ {t w v u : List ℕ} {n at most first stop count : ℕ} {x : Span} {c : Cursor} (r : RunRoom t v n stop (first + count)) (h : Running t w v n at most first stop count) (s : Shows t stop x c) where
  pub running_more : and (leb 3 x.least) (ltb count most) ≡ true → u ≡ set v (math_cell n (first + count)) x.start
      → Running t w u n at most first c.at (count + 1)
  running_more b q =
      let e : leb 3 x.least ≡ true = (and_both (leb 3 x.least) (ltb count most) b).0 in
      let l : count < most = ltb-true count most (and_both (leb 3 x.least) (ltb count most) b).1 in
      let room : math_cell n (first + count) < length v = omega (arith, room_fits r s, r.room) in
      let len : length h.ms ≡ count = h.counted in
      record {
        ms = h.ms ++ (token_of t x ∷ []);
        passed = passed_then h.passed s.passed;
        counted = omega (arith, length-append h.ms (token_of t x ∷ []), len);
        maths = all_snoc math_token h.ms (token_of t x) h.maths (sym s.whole.math ∙ e);
        upto = omega arith;
        stored = snoc_each no_token (λ k y. word u (math_cell n (first + k)) ≡ y.at) h.ms (token_of t x)
            (λ k b. rw q (word_other v (math_cell n (first + count)) (math_cell n (first + k)) x.start (λ z. omega (arith, z, len))) ∙ h.stored k b)
            (rw (q, len) (word_same v (math_cell n (first + count)) x.start room));
        stand = snoc_each no_token (λ k y. Stands t y) h.ms (token_of t x) h.stand (stands_span s.whole);
        only = rw q (only_then (only_wide (le_refl (math_cell n first)) (omega arith) h.only) (only_set (math_cell n first) (math_cell n (first + (count + 1))) v (math_cell n (first + count)) x.start (omega arith) (omega arith)));
        onward = omega (arith, h.onward, s.onward, s.whole.some, s.stands);
        within = shows_within s;
        gap = shows_gap s;
      }

-- ---- a stretch without comments
pub stretch_start : {t w : List ℕ} {n first : ℕ} {c : Cursor} (most count : ℕ) → RunRoom t w n c.at (first + count) → Lined t c
    → Stretched t w w n most first c count (record { count = count; stop = c })
stretch_start most count r l = record { sim = λ h. h; room = r; lined = l; len = refl; less = omega arith }

pub stretch_more : {t w v u : List ℕ} {n most first k i : ℕ} {c p d : Cursor} {x : Span} → Stretched t w v n most first c k (record { count = i; stop = p }) → Shows t p.at x d
    → and (leb 3 x.least) (ltb i most) ≡ true → u ≡ set v (math_cell n (first + i)) x.start → Stretched t w u n most first c k (record { count = i + 1; stop = d })
stretch_more {v = v} {n = n} {first = first} {i = i} {x = x} h s b q =
    record {
      sim = λ g. running_more h.room (h.sim g) s b q;
      room = record {
        room = rw q (omega (arith, h.room.room, length-set v (math_cell n (first + i)) x.start));
        few = omega (arith, h.room.few, passed_few s.passed);
        small = h.room.small;
        short = h.room.short;
        within = shows_within s;
        gap = shows_gap s;
      };
      lined = s.lined;
      len = rw q (length-set v (math_cell n (first + i)) x.start) ∙ h.len;
      less = omega (arith, h.less, passed_few s.passed);
    }

-- ---- a proof's run
pub proving_start : (t : List ℕ) (at : ℕ) → Proving t at at 0
unfolding all
proving_start t at = record { ps = []; passed = passed_none t at outside; some = refl; maths = refl }

pub proving_more : {t : List ℕ} {at stop count : ℕ} {x : Span} {c : Cursor} → Proving t at stop count → Shows t stop x c → leb 3 x.least ≡ true → Proving t at c.at 1
proving_more {t} {at} {stop} {count} {x} h s e =
    record {
      ps = h.ps ++ (token_of t x ∷ []);
      passed = passed_then h.passed s.passed;
      some = sym (le-leb 1 (length (h.ps ++ (token_of t x ∷ []))) (omega (arith, length-append h.ps (token_of t x ∷ []))));
      maths = all_snoc math_token h.ps (token_of t x) h.maths (sym s.whole.math ∙ e);
    }

-- further, over math tokens
pub proving_on : {t : List ℕ} {at stop s : ℕ} → Proving t at stop 1 → Hopped t stop s → Proving t at s 1
proving_on {t} {at} {stop} {s} h y =
    record {
      ps = h.ps ++ y.ps;
      passed = passed_then h.passed y.passed;
      some = sym (le-leb 1 (length (h.ps ++ y.ps)) (omega (arith, length-append h.ps y.ps, leb-true 1 (length h.ps) (sym h.some))));
      maths = all_join math_token h.ps y.ps h.maths y.maths;
    }
