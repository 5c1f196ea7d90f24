-- The grammar over stretches of visible tokens, and what it says of the whole text: a refusal, or the items.
-- Assumes nothing.
use mathlib.Core.Path.{◌≡◌, refl, sym, ap, ◌∙◌}
use mathlib.Core.Bool.{true, false}
use mathlib.Core.List.{List, [], ◌∷◌, ◌++◌, append_assoc, append-nil}
use Prim.Native.Nat.{ℕ, suc, ◌+◌, ◌<◌, ◌≤◌}
use native.Mathlib.Nat.{add-zero}
use native.Mathlib.Omega.{arith}
use lib.ListN.{length, length-append}
use Rattle.paper.specs.Base.{all}
use Rattle.paper.specs.Tokens.{Token, tokens, key, math_token, label_token}
use Rattle.paper.specs.Comments.{Place, outside, after, visible}
use Rattle.paper.specs.Statements.{Kind, Item, opens}
use Rattle.paper.specs.Reader.{Mode, start, named, math, proof, Step, go, stop, plain_kind, label_kind, room, shut, begin, keyword, allow, with_items, many, refused, finish, ending, items}
use Rattle.paper.specs.declared.Refusal.TheVariants.{BadToken}
use Rattle.paper.proofs.Tests.{split, clash}
use Rattle.paper.proofs.Comments.{after_append, visible_append}
use Rattle.paper.proofs.Keys.{label_no_key}
use Rattle.token.specs.Words.{tokens_from, token_of}
use Rattle.token.specs.declared.cursor.Span.{Span}
use Rattle.token.specs.declared.cursor.Cursor.{Cursor}
use Rattle.token.proofs.Words.{tokens_end}
use Rattle.reader.specs.Passed.{Passed, Shows, Reached}
use Rattle.reader.proofs.Passes.{passed_none, passed_then, passed_few}
use Rattle.reader.proofs.After.{earlier_token}

-- ---- one stretch after the other
pub many_stop : (l : List Token) (o : ℕ) → many l (stop o) ≡ stop o
unfolding many
many_stop [] o = refl
many_stop (x ∷ l) o = refl

many_append : (l m : List Token) (z : Step) → many (l ++ m) z ≡ many m (many l z)
unfolding many
many_append [] m z = refl
many_append (x ∷ l) m (stop o) = sym (many_stop m o)
many_append (x ∷ l) m (go a d i) = many_append l m (with_items i (allow a d x))

-- math tokens after some, as long as there is room
pub many_math : (ms m : List Token) (k : Kind) (o : ℕ) (n : List ℕ) (d : ℕ) (i : List Item) → all math_token ms ≡ true
    → ((j : ℕ) → j < length ms → room k (length m + j) ≡ true)
    → many ms (go (math k o n m) d i) ≡ go (math k o n (m ++ ms)) d i
unfolding many all allow
many_math [] m k o n d i a r = rw append-nil
many_math (x ∷ ms) m k o n d i a r =
    split (math_token x)
    (λ e.
    let z : room k (length m) ≡ true = rw add-zero at (r 0 (omega arith)) in
    let s : (j : ℕ) → j < length ms → room k (length (m ++ (x ∷ [])) + j) ≡ true =
    λ j h. let q : length (m ++ (x ∷ [])) + j ≡ length m + suc j = omega (arith, length-append m (x ∷ [])) in rw q (r (suc j) (omega arith)) in
    rw (e, z, append-nil) (many_math ms (m ++ (x ∷ [])) k o n d i (rw e at a) s ∙ rw (append_assoc m (x ∷ []) ms)))
    (λ e. let z : false ≡ true = rw e at a in absurd (clash (sym z)))

pub many_proof : (ps p : List Token) (o : ℕ) (n : List ℕ) (m : List Token) (d : ℕ) (i : List Item) → all math_token ps ≡ true
    → many ps (go (proof o n m p) d i) ≡ go (proof o n m (p ++ ps)) d i
unfolding many all allow
many_proof [] p o n m d i a = rw append-nil
many_proof (x ∷ ps) p o n m d i a =
    split (math_token x)
    (λ e. rw (e, append-nil) (many_proof ps (p ++ (x ∷ [])) o n m d i (rw e at a) ∙ rw (append_assoc p (x ∷ []) ps)))
    (λ e. let z : false ≡ true = rw e at a in absurd (clash (sym z)))

-- ---- up to an offset
pub reached_start : (t : List ℕ) → Reached t 0 0 (go start 0 [])
unfolding many
reached_start t = record { seen = []; passed = passed_none t 0 outside; step = refl; size = omega arith }

pub reached_run : {t : List ℕ} {e f c : ℕ} {y z : Step} {ms : List Token} → Reached t e c y → Passed t e f outside ms outside → many ms y ≡ z → Reached t f (c + length ms) z
reached_run {t} {e} {f} {c} {y} {z} {ms} r p q =
    record {
      seen = r.seen ++ ms;
      passed = passed_then r.passed p;
      step = many_append r.seen ms (go start 0 []) ∙ rw r.step q;
      size = omega (arith, r.size, length-append r.seen ms);
    }

pub reached_token : {t : List ℕ} {e c d : ℕ} {m : Mode} {i : List Item} {x : Span} {a : Cursor} {z : Step} → Reached t e c (go m d i) → Shows t e x a
    → allow m d (token_of t x) ≡ z → Reached t a.at (c + 1) (with_items i z)
unfolding many
reached_token {i = i} r s q = reached_run r s.passed (ap (with_items i) q)

-- no more tokens are read than there are
tokens_whole : (t : List ℕ) → tokens_from t 0 ≡ tokens t
unfolding tokens_from tokens
tokens_whole t = refl

pub reached_few : {t : List ℕ} {e c : ℕ} {z : Step} → Reached t e c z → c + length (tokens_from t e) ≤ length (tokens t)
reached_few {t} {e} {c} r = omega (arith, r.size, passed_few r.passed, ap length (tokens_whole t))

-- ---- the whole text
module _ {t : List ℕ} {e c : ℕ} {z : Step} (r : Reached t e c z) (n : ℕ) where
  whole : items (tokens t) n ≡ ending (many (visible (tokens_from t e) outside) z) (after (tokens_from t e) outside) n
  unfolding items
  whole =
      let p = r.passed in
      rw (
        sym (tokens_whole t) ∙ p.split,
        visible_append p.pre (tokens_from t e) outside,
        after_append p.pre (tokens_from t e) outside,
        p.place,
        p.shows,
        many_append r.seen (visible (tokens_from t e) outside) (go start 0 []),
        r.step,
      )

pub refuse_token : {t : List ℕ} {e c o : ℕ} → Reached t e c (stop o) → o < e → (n : ℕ) → items (tokens t) n ≡ refused (BadToken o)
refuse_token {t} {e} {c} {o} r l n =
    whole r n ∙ rw (many_stop (visible (tokens_from t e) outside) o) (ap refused (earlier_token t o e l))

-- further on, inside a comment or not
pub whole_on : {t : List ℕ} {i e c : ℕ} {z : Step} {q : Place} {ms : List Token} → Reached t i c z → Passed t i e outside ms q
    → (n : ℕ) → items (tokens t) n ≡ ending (many (visible (tokens_from t e) q) (many ms z)) (after (tokens_from t e) q) n
whole_on {t} {i} {e} {c} {z} {q} {ms} r p n =
    whole r n
    ∙ rw (
      p.split,
      visible_append p.pre (tokens_from t e) outside,
      after_append p.pre (tokens_from t e) outside,
      p.place,
      p.shows,
      many_append ms (visible (tokens_from t e) q) z,
    )

-- to the end
pub to_end : {t : List ℕ} {e c : ℕ} {z : Step} {q : Place} {ms : List Token} → Reached t e c z → Passed t e (length t) outside ms q
    → (n : ℕ) → items (tokens t) n ≡ ending (many ms z) q n
unfolding many visible after
to_end {t} r p n = whole_on r p n ∙ rw (tokens_end t)

pub reach_end : {t : List ℕ} {e c d : ℕ} {m : Mode} {i : List Item} → Reached t e c (go m d i) → Passed t e (length t) outside [] outside
    → (n : ℕ) → items (tokens t) n ≡ finish m d i n
unfolding many
reach_end r p n = to_end r p n

-- ---- single tokens between statements
module _ (d : ℕ) (x : Token) where
  pub allow_label : label_token x ≡ true → allow start d x ≡ go (named x) d []
  unfolding allow
  allow_label e =
      rw (label_no_key 123 x e, label_no_key 125 x e, label_no_key 99 x e, label_no_key 118 x e, label_no_key 100 x e, e)

  pub allow_open : key 123 x ≡ true → allow start d x ≡ go start (suc d) (opens x.at ∷ [])
  unfolding allow
  allow_open e = rw e

  pub allow_close : key 123 x ≡ false → key 125 x ≡ true → allow start d x ≡ shut d x
  unfolding allow
  allow_close e f = rw (e, f)

  pub allow_begin : key 123 x ≡ false → key 125 x ≡ false → allow start d x ≡ begin (plain_kind x) d x
  unfolding allow
  allow_begin e f = rw (e, f)

pub allow_named : (d : ℕ) (n x : Token) → allow (named n) d x ≡ keyword (label_kind x) d n x
unfolding allow
allow_named d n x = refl
