-- What the words say of names and rows is what the statements say: names, atoms, numbers, symbols, the formula of a row.
-- For every statement list and every list of variables that the words stand for.
use mathlib.Core.Path.{◌≡◌, sym, ap, ◌∙◌}
use mathlib.Core.Bool.{Bool, true, false}
use mathlib.Core.List.{List}
use Prim.Native.Nat.{ℕ, ◌+◌, ◌-◌, ◌<◌, ◌≤◌}
use native.Mathlib.Omega.{arith}
use lib.Dec.{eqb}
use lib.ListN.{length, get_or, drop, length-drop}
use lib.Seq.{get_or-drop, take-length}
use borrow.Author.Tests.{ne_eqb}
use Rattle.paper.specs.Base.{gather}
use Rattle.paper.specs.Statements.{Statement, none_end}
use Rattle.paper.specs.Variables.{member, index}
use Rattle.paper.specs.Expressions.{constant_in, pool_of}
use Rattle.paper.specs.Checks.{token, no_token}
use Rattle.paper.proofs.Tests.{split}
use Rattle.paper.proofs.Names.{index_lt}
use Rattle.paper.proofs.Gather.{gather_upto}
use Rattle.paper.proofs.Made.{table_same, table_map}
use Rattle.area.specs.Cells.{statement_cell, symbol_cell, word}
use Rattle.stream.proofs.Raised.{low_last}
use Rattle.reader.specs.Rows.{no_statement, stmt, before}
use Rattle.nameck.specs.Atoms.{atoms, atom_of, name_of}
use Rattle.nameck.proofs.Atoms.{token_in, atom_below, name_of_atom}
use Rattle.sight.specs.Sums.{one}
use Rattle.sight.specs.Static.{constant_name, static_symbol, static}
use Rattle.sight.specs.Numbered.{number_word}
use Rattle.sight.proofs.Sums.{sum_few}
use Rattle.forms.specs.Words.{name_bytes, atom_at, word_symbol, body_of, count_of, constants_to, constants_of, NameWords, Low, RowWords}
use Rattle.forms.specs.Ready.{Ready}

one_few : (b : Bool) → one b ≤ 1
one_few true = omega arith
one_few false = omega arith

module _ {t w : List ℕ} {n : ℕ} {l : List Statement} {vs : List (List ℕ)} (h : Ready t w n l vs) where
  pub vars_few : length vs ≤ length (atoms l)
  vars_few =
      omega (
        arith,
        h.holds.numbered.counted,
        sum_few (λ a. one (member (name_of l a) vs)) (length (atoms l)) (λ i k. one_few (member (name_of l i) vs)),
      )

  -- ---- a name
  pub name_words : (a : ℕ) → a < length (atoms l) → NameWords t w n a
  name_words a k =
      record {
        room = h.holds.named.shape.room;
        small = h.holds.small;
        row = omega (arith, h.holds.named.few);
        order = h.holds.named.start_stop a k;
        within = h.holds.named.within a k;
        short = h.facts.short;
      }

  pub name_is : (a : ℕ) → a < length (atoms l) → name_bytes t w n a ≡ name_of l a
  unfolding name_bytes
  name_is a k = h.holds.named.name a k

  -- a number: no end exactly for a constant
  pub number_constant : (x : List ℕ) → eqb (number_word l vs x) none_end ≡ constant_name l x
  unfolding number_word
  number_constant x =
      split (constant_name l x) (λ e. rw e)
      (λ e.
      rw e
      (split (member x vs)
      (λ q.
      rw q
      (ne_eqb (index vs x + 1) none_end
      (λ z. omega (arith, z, index_lt x vs q, vars_few, h.holds.named.few, h.holds.small))))
      (λ q. rw q)))

  pub number_variable : (x : List ℕ) → constant_name l x ≡ false → member x vs ≡ true → number_word l vs x ≡ index vs x + 1
  unfolding number_word
  number_variable x e q = rw (e, q)

  -- ---- a math token of a row
  module _ (row : ℕ) (here : row < length l) where
    pub atom_is : (i : ℕ) → i < length (stmt l row).math → atom_at w n row i ≡ atom_of l (token (stmt l row) i).bytes
    unfolding atom_at
    atom_is i k = rw (h.holds.named.shape.first row here) (h.holds.named.math row i here k)

    pub atom_in : (i : ℕ) → i < length (stmt l row).math → atom_at w n row i < length (atoms l)
    atom_in i k = rw (atom_is i k) (atom_below l (token (stmt l row) i).bytes (token_in l row i here k))

    atom_name : (i : ℕ) → i < length (stmt l row).math → name_of l (atom_at w n row i) ≡ (token (stmt l row) i).bytes
    atom_name i k = rw (atom_is i k) (name_of_atom l (token (stmt l row) i).bytes (token_in l row i here k))

    pub name_at : (i : ℕ) → i < length (stmt l row).math → name_bytes t w n (atom_at w n row i) ≡ (token (stmt l row) i).bytes
    name_at i k = name_is (atom_at w n row i) (atom_in i k) ∙ atom_name i k

    pub number_at : (i : ℕ) → i < length (stmt l row).math → word w (symbol_cell n (atom_at w n row i) 5) ≡ number_word l vs (token (stmt l row) i).bytes
    number_at i k =
        h.holds.numbered.number (atom_at w n row i) (atom_in i k) ∙ ap (number_word l vs) (atom_name i k)

    pub symbol_is : (i : ℕ) → i < length (stmt l row).math → word_symbol t w n (atom_at w n row i) ≡ static_symbol l (token (stmt l row) i)
    unfolding word_symbol
    symbol_is i k =
        rw (number_at i k, name_at i k, number_constant (token (stmt l row) i).bytes)

    -- ---- the row
    pub count_is : count_of w row ≡ length (stmt l row).math
    count_is = h.holds.named.shape.count row here

    tokens_upto : before l row + length (stmt l row).math ≤ before l (length l)
    unfolding before stmt
    tokens_upto = rw take-length (gather_upto (λ x. x.math) l no_statement row here)

    low_at : (i : ℕ) → i < length (stmt l row).math → Low (name_bytes t w n (atom_at w n row i))
    low_at i k = rw (name_at i k) (low_last (token (stmt l row) i).bytes ((h.facts.shaped row here).bytes i k))

    pub row_words : RowWords t w n row
    row_words =
        let c : word w (statement_cell row 6) ≡ length (stmt l row).math = count_is in
        let g = h.holds.named.shape in
        record {
          room = g.room;
          small = h.holds.small;
          here = omega (arith, g.few, here);
          tokens = omega (arith, c, g.first row here, tokens_upto, g.maths);
          some = omega (arith, c, (h.facts.shaped row here).some);
          names = λ i k. name_words (atom_at w n row i) (atom_in i (omega (arith, c)));
          low = λ i k. low_at i (omega (arith, c));
        }

    pub body_is : body_of t w n row (count_of w row) ≡ (static l (stmt l row)).body
    unfolding body_of static
    body_is =
        let s = stmt l row in
        let e : length (drop 1 s.math) ≡ count_of w row - 1 = length-drop 1 s.math ∙ ap (λ c. c - 1) (sym count_is) in
        rw (← e)
        (table_same (λ j. word_symbol t w n (atom_at w n row (j + 1))) (λ j. static_symbol l (get_or (drop 1 s.math) j no_token)) (length (drop 1 s.math))
        (λ j k.
        let e : j + 1 ≡ 1 + j = omega arith in
        let z : token s (j + 1) ≡ get_or (drop 1 s.math) j no_token = rw e (sym (get_or-drop 1 s.math j no_token)) in
        symbol_is (j + 1) (omega (arith, length-drop 1 s.math)) ∙ ap (static_symbol l) z)
        ∙ table_map (static_symbol l) (drop 1 s.math) no_token)

    pub constants_are : constants_of t w n row ≡ pool_of (static l (stmt l row))
    unfolding constants_of constants_to pool_of
    constants_are = ap (gather constant_in) body_is
