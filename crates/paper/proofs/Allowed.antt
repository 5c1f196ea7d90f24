-- A token in which `$(` or `$)` stands is allowed nowhere: in every mode the grammar stops at it.
-- So a token that may not stand in a comment, once it is visible, is number 5 in its turn.
use mathlib.Core.Path.{◌≡◌, refl, sym, ap, ◌∙◌}
use mathlib.Core.Bool.{Bool, true, false}
use mathlib.Core.List.{List, [], ◌∷◌}
use Prim.Native.Nat.{ℕ}
use lib.Dec.{eqb}
use borrow.Author.Tests.{eqb-true}
use Rattle.paper.specs.Base.{sameb, all}
use Rattle.paper.specs.Bytes.{math_byte, label_byte}
use Rattle.paper.specs.Tokens.{Token, key, math_token, label_token}
use Rattle.paper.specs.Comments.{bracketed}
use Rattle.paper.specs.Statements.{Kind, $c, $v, $d, $f, $e, $a, $p}
use Rattle.paper.specs.Reader.{Mode, start, named, math, proof, stop, closing, allow}
use Rattle.paper.proofs.Tests.{split, clash, same_eq}
use Rattle.paper.proofs.Keys.{dollar_math, dollar_label}

-- it has a `$`
dollar_in : (f : ℕ → Bool) → f 36 ≡ false → (l : List ℕ) → bracketed l ≡ true → all f l ≡ false
unfolding bracketed all
dollar_in f z [] e = absurd (clash (sym e))
dollar_in f z (b ∷ l) e =
    split (eqb b 36)
    (λ q. let p : b ≡ 36 = eqb-true b 36 q in rw (p, z))
    (λ q. let r : all f l ≡ false = dollar_in f z l (rw q at e) in split (f b) (λ h. rw (h, r)) (λ h. rw h))

pub bracket_math : (t : Token) → bracketed t.bytes ≡ true → math_token t ≡ false
unfolding math_token
bracket_math t e = dollar_in math_byte dollar_math t.bytes e

pub bracket_label : (t : Token) → bracketed t.bytes ≡ true → label_token t ≡ false
unfolding label_token
bracket_label t e = dollar_in label_byte dollar_label t.bytes e

-- it is no keyword but `$(` and `$)`
pub bracket_key : (k : ℕ) (t : Token) → bracketed (36 ∷ k ∷ []) ≡ false → bracketed t.bytes ≡ true → key k t ≡ false
unfolding key
bracket_key k t n e =
    split (sameb t.bytes (36 ∷ k ∷ []))
    (λ q. absurd (clash (sym e ∙ ap bracketed (same_eq t.bytes (36 ∷ k ∷ []) q) ∙ n)))
    (λ q. q)

closing_plain : (k : Kind) → bracketed (36 ∷ closing k ∷ []) ≡ false
unfolding bracketed
closing_plain $c = refl
closing_plain $v = refl
closing_plain $d = refl
closing_plain $f = refl
closing_plain $e = refl
closing_plain $a = refl
closing_plain $p = refl

pub bracket_stops : (m : Mode) (d : ℕ) (t : Token) → bracketed t.bytes ≡ true → allow m d t ≡ stop t.at
unfolding allow bracketed
bracket_stops start d t e =
    rw (
      bracket_key 123 t refl e,
      bracket_key 125 t refl e,
      bracket_key 99 t refl e,
      bracket_key 118 t refl e,
      bracket_key 100 t refl e,
      bracket_label t e,
    )
bracket_stops (named n) d t e =
    rw (bracket_key 102 t refl e, bracket_key 101 t refl e, bracket_key 97 t refl e, bracket_key 112 t refl e)
bracket_stops (math k o n m) d t e = rw (bracket_math t e, bracket_key (closing k) t (closing_plain k) e)
bracket_stops (proof o n m p) d t e = rw (bracket_math t e, bracket_key 46 t refl e)
