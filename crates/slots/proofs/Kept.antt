-- What one stored word keeps, and what two changes one after the other keep; what is named stays named.
-- Assumes nothing.
use mathlib.Core.Path.{refl, ◌∙◌}
use mathlib.Core.List.{List}
use Prim.Native.Nat.{ℕ, ◌+◌, ◌*◌, ◌<◌, ◌≤◌}
use native.Mathlib.Omega.{arith}
use lib.ListN.{set, length-set}
use Rattle.paper.specs.Statements.{Statement}
use Rattle.area.specs.Cells.{statement_cell, name_cell, symbol_cell, math_cell}
use Rattle.area.proofs.Laws.{word_other}
use Rattle.nameck.specs.Named.{Named}
use Rattle.nameck.specs.Kept as Names
use Rattle.nameck.proofs.Kept as NamesLaws
use Rattle.slots.specs.Kept.{Room, Kept}

pub kept_none : (n a b c d : ℕ) (w : List ℕ) → Kept n a b c d w w
kept_none n a b c d w =
    record {
      len = refl;
      low = λ s j g h k. refl;
      high = λ s j g h k. refl;
      names = λ r j g h. refl;
      left = λ r j g h k. refl;
      right = λ r j g h k. refl;
      maths = λ r. refl;
    }

pub kept_then : {n a b c d : ℕ} {w v u : List ℕ} → Kept n a b c d w v → Kept n a b c d v u → Kept n a b c d w u
kept_then x y =
    record {
      len = y.len ∙ x.len;
      low = λ s j g h k. y.low s j g h k ∙ x.low s j g h k;
      high = λ s j g h k. y.high s j g h k ∙ x.high s j g h k;
      names = λ r j g h. y.names r j g h ∙ x.names r j g h;
      left = λ r j g h k. y.left r j g h k ∙ x.left r j g h k;
      right = λ r j g h k. y.right r j g h k ∙ x.right r j g h k;
      maths = λ r. y.maths r ∙ x.maths r;
    }

pub kept_wide : {n a b c d : ℕ} {w v : List ℕ} (a' b' c' d' : ℕ) → a' ≤ a → b ≤ b' → c' ≤ c → d ≤ d' → Kept n a b c d w v → Kept n a' b' c' d' w v
kept_wide a' b' c' d' h₁ h₂ h₃ h₄ x =
    record {
      len = x.len;
      low = λ s j g h k. x.low s j g (omega arith) k;
      high = λ s j g h k. x.high s j g (omega arith) k;
      names = x.names;
      left = λ r j g h k. x.left r j g (omega arith) k;
      right = λ r j g h k. x.right r j g (omega arith) k;
      maths = x.maths;
    }

-- one word of a symbol
pub kept_symbol : (n c d : ℕ) (w : List ℕ) (a j v : ℕ) → a < n → c ≤ j → j < d → j < 7 → Kept n 12 12 c d w (set w (symbol_cell n a j) v)
kept_symbol n c d w a j v h p q r =
    record {
      len = length-set w (symbol_cell n a j) v;
      low = λ s k g x y. word_other w (symbol_cell n a j) (statement_cell s k) v (λ e. omega (arith, e));
      high = λ s k g x y. word_other w (symbol_cell n a j) (statement_cell s k) v (λ e. omega (arith, e));
      names = λ b k g x. word_other w (symbol_cell n a j) (name_cell n b k) v (λ e. omega (arith, e));
      left = λ b k g x y. word_other w (symbol_cell n a j) (symbol_cell n b k) v (λ e. omega (arith, e));
      right = λ b k g x y. word_other w (symbol_cell n a j) (symbol_cell n b k) v (λ e. omega (arith, e));
      maths = λ b. word_other w (symbol_cell n a j) (math_cell n b) v (λ e. omega (arith, e));
    }

-- one word of a statement
pub kept_statement : (n a b : ℕ) (w : List ℕ) (s j v : ℕ) → 3 * s + 3 ≤ n → a ≤ j → j < b → j < 12 → Kept n a b 7 7 w (set w (statement_cell s j) v)
kept_statement n a b w s j v h p q r =
    record {
      len = length-set w (statement_cell s j) v;
      low = λ t k g x y. word_other w (statement_cell s j) (statement_cell t k) v (λ e. omega (arith, e));
      high = λ t k g x y. word_other w (statement_cell s j) (statement_cell t k) v (λ e. omega (arith, e));
      names = λ t k g x. word_other w (statement_cell s j) (name_cell n t k) v (λ e. omega (arith, e));
      left = λ t k g x y. word_other w (statement_cell s j) (symbol_cell n t k) v (λ e. omega (arith, e));
      right = λ t k g x y. word_other w (statement_cell s j) (symbol_cell n t k) v (λ e. omega (arith, e));
      maths = λ t. word_other w (statement_cell s j) (math_cell n t) v (λ e. omega (arith, e));
    }

pub room_kept : {n a b c d : ℕ} {w v : List ℕ} → Kept n a b c d w v → Room w n → Room v n
room_kept x r = record { room = omega (arith, x.len, r.room); small = r.small }

-- what is named stays named
frozen : {n a b c d : ℕ} {w v : List ℕ} → 8 ≤ a → 2 ≤ c → Kept n a b c d w v → Names.Kept n w v
frozen g h x =
    record {
      len = x.len;
      statements = λ s j m k. x.low s j m (omega arith) (omega arith);
      names = λ r j m k. x.names r j m (omega arith);
      symbols = λ r j m k. x.left r j m (omega arith) (omega arith);
      maths = λ r m. x.maths r;
    }

pub named_kept : {t w v : List ℕ} {n a b c d : ℕ} {l : List Statement} → 8 ≤ a → 2 ≤ c → Kept n a b c d w v → Named t w n l → Named t v n l
named_kept g h x y = NamesLaws.named_kept (frozen g h x) y
