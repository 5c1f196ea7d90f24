-- The reader: comments, by the book. A comment runs from the token `$(` to the next token that is exactly `$)`, and may stand
-- before, between or after any tokens. Inside it `$(` and `$)` may not occur, even within a longer token.
use Rattle.std.specs.Prelude.{Bool, false, List, [], ◌∷◌, ◌++◌, ℕ, eqb}
use Rattle.paper.specs.Base.{choose, and, or, not}
use Rattle.paper.specs.Bytes.{dollar}
use Rattle.paper.specs.Tokens.{Token, key_comment, key_uncomment, key}

-- outside comments, or inside the one whose `$(` has this offset
pub data Place : Type 0 where
  outside : Place
  inside : ℕ → Place

abbrev pub next : Place → Token → Place
next outside t = choose (key key_comment t) (inside t.at) outside
next (inside o) t = choose (key key_uncomment t) outside (inside o)

-- the place after some tokens
unfoldable pub after : List Token → Place → Place
after [] p = p
after (t ∷ l) p = after l (next p t)

-- the first of some bytes is `(` or `)`; some `$` has one of them right after it
abbrev pub bracket_first : List ℕ → Bool
bracket_first [] = false
bracket_first (b ∷ l) = or (eqb b key_comment) (eqb b key_uncomment)

unfoldable pub bracketed : List ℕ → Bool
bracketed [] = false
bracketed (b ∷ l) = or (and (eqb b dollar) (bracket_first l)) (bracketed l)

-- a token that may not stand in a comment; `$)` itself ends it
abbrev pub marked : Token → Bool
marked t = and (bracketed t.bytes) (not (key key_uncomment t))

abbrev pub shown : Place → Token → List Token
shown outside t = choose (key key_comment t) [] (t ∷ [])
shown (inside o) t = choose (marked t) (t ∷ []) []

-- the tokens that the grammar sees: those outside comments, and those that may not stand in a comment, which it allows nowhere
unfoldable pub visible : List Token → Place → List Token
visible [] p = []
visible (t ∷ l) p = shown p t ++ visible l (next p t)
