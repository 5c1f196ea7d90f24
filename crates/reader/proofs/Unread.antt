-- Numbers 1, 2 and 3, each with its line, and the work area of a text that has none of them.
-- Assumes nothing.
use mathlib.Core.Path.{◌≡◌, refl, sym, ap, ◌∙◌}
use mathlib.Core.Bool.{false}
use mathlib.Core.List.{List, [], ◌∷◌}
use mathlib.Core.Option.{Option, none, some}
use Prim.Native.Nat.{ℕ, suc, ◌+◌, ◌*◌, ◌<◌, ◌≤◌}
use native.Mathlib.Omega.{arith}
use lib.Dec.{ltb}
use lib.ListN.{length, replicate}
use borrow.Author.Tests.{lt-ltb, le-ltb}
use Rattle.paper.specs.Base.{or}
use Rattle.paper.specs.Bytes.{white, printable}
use Rattle.paper.specs.Tokens.{tokens, bad_from}
use Rattle.paper.specs.Reader.{words, reading}
use Rattle.std.specs.Prelude.{Some, None, Result, Err}
use Rattle.paper.specs.declared.Refused.{Refused}
use Rattle.paper.specs.declared.Statements.{Statements}
use Rattle.paper.specs.declared.Refusal.TheVariants.{LongText, ShortWork, BadByte}
use Rattle.paper.proofs.Tests.{split}
use Rattle.area.specs.Cells.{Cleared}
use Rattle.token.specs.Words.{Lined}
use Rattle.token.specs.Count.{bad_of, count_of}
use Rattle.token.specs.declared.cursor.Cursor.{Cursor}
use Rattle.token.specs.declared.count.Counted.{Counted}
use Rattle.reader.specs.Kept.{Words}
use Rattle.reader.specs.Whole.{TextRead, Reads}
use Rattle.reader.proofs.Keeping.{words_start}

bad_some : (o : Option ℕ) (p : ℕ) → bad_of o ≡ Some p → o ≡ some p
bad_some none p e = let z : ◌≡◌ {A = ℕ} 0 1 = cc in absurd (omega arith)
bad_some (some q) p e = let z : q ≡ p = cc in rw z

bad_none : (o : Option ℕ) → bad_of o ≡ None → o ≡ none
bad_none none e = refl
bad_none (some q) e = let z : ◌≡◌ {A = ℕ} 0 1 = cc in absurd (omega arith)

bad_within : (l : List ℕ) (o p : ℕ) → bad_from l o ≡ some p → p < o + length l
unfolding bad_from
bad_within [] o p e = let z : ◌≡◌ {A = ℕ} 0 1 = cc in absurd (omega arith)
bad_within (b ∷ l) o p e =
    split (or (white b) (printable b))
    (λ q. omega (arith, bad_within l (suc o) p (rw q at e)))
    (λ q. let z : some o ≡ some p = rw q at e in let n : o ≡ p = cc in omega (arith, n))

-- a bad byte stands in the text
pub bad_inside : (t : List ℕ) {x : Counted} {p : ℕ} → x ≡ count_of t → x.bad ≡ Some p → p ≤ length t
bad_inside t {x} {p} e q =
    omega (arith, bad_within t 0 p (bad_some (bad_from t 0) p (sym (ap (λ (y : Counted). y.bad) e) ∙ q)))

pub counted_tokens : (t : List ℕ) {x : Counted} → x ≡ count_of t → x.tokens ≡ length (tokens t)
counted_tokens t e = ap (λ (y : Counted). y.tokens) e

module _ (t w : List ℕ) where
  -- refusals, where every word is 0
  pub read_long : {v : List ℕ} → v ≡ replicate (length w) 0 → 16777216 < length t → Reads t w v (Err (record { refusal = LongText; line = 0 }))
  unfolding reading
  read_long z h = rw (lt-ltb 16777216 (length t) h) (refl, z)

  module _ (h : length t ≤ 16777216) {x : Counted} (e : x ≡ count_of t) where
    pub read_short : {v : List ℕ} → v ≡ replicate (length w) 0 → length w < 16 * (x.tokens + 1) → Reads t w v (Err (record { refusal = ShortWork (16 * (x.tokens + 1)); line = 0 }))
    unfolding reading words
    read_short z l =
        let q = counted_tokens t e in
        rw (q, le-ltb 16777216 (length t) h, lt-ltb (length w) (16 * (length (tokens t) + 1)) (omega (arith, l, q))) (refl, z)

    module _ (l : 16 * (x.tokens + 1) ≤ length w) where
      fits : ltb (length w) (16 * (length (tokens t) + 1)) ≡ false
      fits = let q = counted_tokens t e in le-ltb (length w) (16 * (length (tokens t) + 1)) (omega (arith, l, q))

      pub read_bad : {v : List ℕ} → v ≡ replicate (length w) 0 → (p : ℕ) → x.bad ≡ Some p → {c : Cursor} → c.at ≡ p → Lined t c → Reads t w v (Err (record { refusal = BadByte p; line = c.line }))
      unfolding reading words
      read_bad z p q {c} o y =
          let b : bad_from t 0 ≡ some p = bad_some (bad_from t 0) p (sym (ap (λ (y : Counted). y.bad) e) ∙ q) in
          rw (le-ltb 16777216 (length t) h, fits, b, y, o) (refl, z)

      -- the bucket column is 0 when reading begins
      module _ {v : List ℕ} (z : Cleared (7 * (x.tokens + 1)) (8 * (x.tokens + 1)) w v) where
        pub read_begin : Words t v (x.tokens + 1) [] 0 0 0
        read_begin = let q = counted_tokens t e in words_start (rw q refl) l h z

        pub read_good : (u : List ℕ) (r : Result Statements Refused) → x.bad ≡ None → TextRead t v u (x.tokens + 1) r → Reads t w u r
        unfolding reading words
        read_good u r q d =
            let b : bad_from t 0 ≡ none = bad_none (bad_from t 0) (sym (ap (λ (y : Counted). y.bad) e) ∙ q) in
            rw (le-ltb 16777216 (length t) h, fits, b) (rw z.only.len at d)
