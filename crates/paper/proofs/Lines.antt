-- A table of lines: numbers 3, 4 and 5 with the line of their place, all other numbers with line 0; and the lines of tokens.
-- The readings L1 to L3, each with the smallest text that tells it from another.
use mathlib.Core.Path.{◌≡◌, refl}
use mathlib.Core.List.{List, [], ◌∷◌, ◌++◌, map}
use Prim.Native.Nat.{ℕ}
use Rattle.paper.specs.Base.{codes}
use Rattle.paper.specs.Tokens.{tokens}
use Rattle.paper.specs.Lines.{feeds, line_at}
use Rattle.paper.specs.Answer.{number, place, line, measured, measuring, measure, answer}
use Rattle.paper.specs.declared.Setting.{Setting}
use Rattle.paper.specs.declared.Setting.TheVariants.{Short, Full}
use Rattle.paper.proofs.Table.{operation}

-- number, place and line of the writer, and the line of the measure
pub data Told : Type 0 where
  told : ℕ → ℕ → ℕ → ℕ → Told

-- a text, the words of the work area, and what is to come of it where no output buffer is lent
pub data Case : Type 0 where
  told_in : List ℕ → ℕ → Told → Case

abbrev pub expected : Case → Told
expected (told_in t w x) = x

unfoldable pub telling : Setting → List ℕ → ℕ → Told
unfolding operation measured measuring measure feeds line_at
telling c t w = let a = answer c t w 0 0 in told (number a) (place a) (line a) (line (measure c t w))

abbrev pub computed : Setting → Case → Told
computed c (told_in t w x) = telling c t w

abbrev pub cases : List Case
cases =
    -- L1: the line of 3 is that of the bad byte
    told_in (codes "a" ++ (10 ∷ 128 ∷ [])) 48 (told 3 2 2 2) ∷
    told_in (codes "a" ++ (10 ∷ codes "b" ++ (128 ∷ []))) 48 (told 3 3 2 2) ∷
    -- only byte 10 counts
    told_in (codes "a" ++ (13 ∷ codes "$}")) 48 (told 5 2 1 1) ∷
    told_in (12 ∷ 9 ∷ 13 ∷ codes "$}") 32 (told 5 3 1 1) ∷
    told_in (13 ∷ 10 ∷ codes "$}") 32 (told 5 2 2 2) ∷
    -- the bytes before the place, and not those after it
    told_in (codes "$}") 32 (told 5 0 1 1) ∷
    told_in (10 ∷ codes "$}") 32 (told 5 1 2 2) ∷
    told_in (10 ∷ 10 ∷ codes "$}") 32 (told 5 2 3 3) ∷
    told_in (codes "$}" ++ (10 ∷ [])) 32 (told 5 0 1 1) ∷
    told_in (10 ∷ codes "a" ++ (10 ∷ codes "$}")) 48 (told 5 3 3 3) ∷
    told_in (10 ∷ codes "$(" ++ (10 ∷ [])) 32 (told 4 1 2 2) ∷
    -- L2: line 0 for every other number, 0 and 6 included
    told_in (10 ∷ []) 16 (told 0 0 0 0) ∷
    told_in (10 ∷ codes "$}") 31 (told 2 32 0 0) ∷
    told_in (10 ∷ codes "${") 32 (told 6 3 0 0) ∷
    told_in (10 ∷ codes "$c c $. a $a c $.") 144 (told 8 48 0 0) ∷
    told_in (10 ∷ codes "$c c $. $c c $.") 112 (told 9 18 0 0) ∷
    -- L3: bytes in comments and in proofs count
    told_in (codes "$(" ++ (10 ∷ codes "$) $}")) 64 (told 5 6 2 2) ∷
    told_in (codes "$(" ++ (10 ∷ codes "x$) $)")) 64 (told 5 3 2 2) ∷
    told_in (codes "$c c $. p $p c $=" ++ (10 ∷ codes "?" ++ (10 ∷ codes "$. $}"))) 176 (told 5 23 3 3) ∷
    []

pub lines : map (computed Full) cases ≡ map expected cases
unfolding telling
lines = refl

pub short_lines : map (computed Short) cases ≡ map expected cases
unfolding telling
short_lines = refl

-- ---- the lines of tokens
unfoldable pub token_lines : List ℕ → List ℕ
unfolding operation feeds line_at
token_lines t = map (λ x. line_at t x.at) (tokens t)

pub tokens_lined : token_lines (codes "a b" ++ (10 ∷ codes "$(" ++ (13 ∷ 10 ∷ codes "$)" ++ (10 ∷ 10 ∷ codes "c")))) ≡ 1 ∷ 1 ∷ 2 ∷ 3 ∷ 5 ∷ []
unfolding token_lines
tokens_lined = refl
