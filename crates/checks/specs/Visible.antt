-- The tokens of a part of the text outside comments, from an offset of the part on.
-- A statement's math string is such a part: its tokens outside comments are the math tokens, each as far on as the part starts.
use Rattle.std.specs.Prelude.{◌≡◌, Bool, true, List, ◌∷◌, ℕ, ◌+◌, ◌<◌, ◌≤◌, ◌^◌, length, get_or, drop, MatchOption, Option}
use Rattle.paper.specs.Tokens.{Token}
use Rattle.paper.specs.Checks.{no_token}
use Rattle.paper.specs.Base.{not, all}
use Rattle.paper.specs.Comments.{outside, bracketed, visible}
use Rattle.token.specs.Words.{tokens_from, token_at, Lined}
use Rattle.token.specs.declared.cursor.Cursor.{Cursor}
use Rattle.checks.specs.declared.part.MathToken.{MathToken}

unfoldable pub visible_from : List ℕ → ℕ → List Token
visible_from q i = visible (tokens_from q i) outside

-- none of them has `$(` or `$)` in it: no comment of the part is refused
abbrev pub clean : Token → Bool
clean y = not (bracketed y.bytes)

abbrev pub Calm : List ℕ → Type 0
Calm q = all clean (visible_from q 0) ≡ true

-- the first of them from i on starts at s and stops at e
pub record First (q : List ℕ) (i s e : ℕ) : Type 0 where
  pub rest : visible_from q i ≡ token_at q s e ∷ visible_from q e
  pub some : s < e
  pub within : e ≤ length q

-- ---- i tokens of the part q are done, and those from the place c on are left
pub record Left (q : List ℕ) (c i : ℕ) : Type 0 where
  pub rest : drop i (visible_from q 0) ≡ visible_from q c

-- so it is with the cursor c, and all tokens can be gone over
pub record Going (q : List ℕ) (c : Cursor) (i : ℕ) : Type 0 where
  pub left : Left q c.at i
  pub lined : Lined q c
  pub calm : Calm q
  pub few : length (visible_from q 0) < 2 ^ 60

-- i tokens of the part are done, and x comes next, after which i' are done
pub record Comes (q : List ℕ) (i : ℕ) (x : MathToken) (q' : List ℕ) (i' : ℕ) : Type 0 where
  pub inside : i < length (visible_from q 0)
  pub index : x.index ≡ i
  pub start : (get_or (visible_from q 0) i no_token).at ≡ x.start
  pub within : x.start < length q
  pub same : q' ≡ q
  pub next : i' ≡ i + 1

-- a token comes, or all are done
abbrev pub Gives : List ℕ → ℕ → Option MathToken → List ℕ → ℕ → Type 0
Gives q i r q' i' = MatchOption r (length (visible_from q 0) ≤ i) (λ x. Comes q i x q' i')
