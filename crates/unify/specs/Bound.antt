-- The substitution in words, and math tokens substituted by it.
-- Words 3 and 5 of a variable hold the place where the symbols for it start on the stack.
use Rattle.std.specs.Prelude.{Bool, List, [], ◌∷◌, ℕ, ◌+◌, ◌*◌, ◌/◌, ◌%◌, eqb, get_or, drop, set}
use Rattle.paper.specs.Base.{choose, and, gather}
use Rattle.area.specs.Cells.{symbol_cell, word}
use Rattle.unify.specs.Entries.{flag, plain, agrees}

unfoldable pub start_of : List ℕ → ℕ → ℕ → ℕ
start_of w n a = word w (symbol_cell n a 3) + 4294967296 * word w (symbol_cell n a 5)

unfoldable pub with_start : List ℕ → ℕ → ℕ → ℕ → List ℕ
with_start w n a s = set (set w (symbol_cell n a 3) (s % 4294967296)) (symbol_cell n a 5) (s / 4294967296)

-- by the global declaration of the name
unfoldable pub constant_word : List ℕ → ℕ → ℕ → Bool
constant_word w n a = eqb (word w (symbol_cell n a 1) % 2) 1

-- what a token of atom a stands for, by the words w and the stack l
unfoldable pub token_words : List ℕ → ℕ → List ℕ → ℕ → List ℕ
token_words w n l a = choose (constant_word w n a) (a ∷ []) (plain (drop (start_of w n a) l))

-- what some tokens stand for
unfoldable pub spread : List ℕ → ℕ → List ℕ → List ℕ → List ℕ
spread w n l r = gather (token_words w n l) r

-- whether the entry at a place of the stack has this typecode and what the tokens stand for
unfoldable pub is_entry : List ℕ → ℕ → ℕ → List ℕ → List ℕ → ℕ → Bool
is_entry w n c r l i = and (eqb (get_or l i 0) (c + flag)) (agrees (spread w n l r) (drop (i + 1) l))
