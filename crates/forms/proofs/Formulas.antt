-- Fragments and rump of a formula: one symbol more at its end, how many they are, and numbers in a longer list of variables.
-- Over the definitions alone.
use mathlib.Core.Path.{◌≡◌, refl, sym, ap, ◌∙◌}
use mathlib.Core.Bool.{true, false}
use mathlib.Core.List.{List, [], ◌∷◌, ◌++◌, map, append-nil, append_assoc}
use Prim.Native.Nat.{ℕ, ◌+◌, ◌-◌, ◌<◌, ◌≤◌}
use native.Mathlib.Nat.{add-zero}
use native.Mathlib.Omega.{arith}
use lib.Dec.{eqb}
use lib.ListN.{length, get_or, drop, length-append, length-drop, length-map, get_or-map}
use lib.Seq.{get_or-drop}
use Rattle.paper.specs.Base.{choose, sameb, any, gather}
use Rattle.paper.specs.Statements.{Statement, none_end}
use Rattle.paper.specs.State.{Symbol, con, var}
use Rattle.paper.specs.Variables.{member, index, variable_in, variables_of}
use Rattle.paper.specs.Expressions.{constant_in, fragment_at, begun, reached, fragments, rump}
use Rattle.paper.specs.Checks.{token, no_token}
use Rattle.paper.proofs.Tests.{split, same_refl}
use Rattle.paper.proofs.Names.{Grown, grown_index, member_left, any_append}
use Rattle.paper.proofs.Gather.{any_gather}
use Rattle.stream.proofs.Raised.{length_raised}
use Rattle.sight.specs.Static.{constant_name, static_symbol, static}
use Rattle.forms.specs.Words.{symbol_by, piece_by}

reached_is : (s : Symbol) (b : ℕ) → reached s b ≡ b + length (constant_in s)
reached_is (con x) b = ap (λ k. b + k) (sym (length_raised x))
reached_is (var x) b = sym (add-zero b)

reached_past : (y : Symbol) (x : List Symbol) (b : ℕ) → reached y b + length (gather constant_in x) ≡ b + length (gather constant_in (y ∷ x))
unfolding gather
reached_past y x b = omega (arith, reached_is y b, length-append (constant_in y) (gather constant_in x))

-- ---- one symbol more
pub rump_more : (x : List Symbol) (s : Symbol) (a b : ℕ) → rump (x ++ (s ∷ [])) a b ≡ begun s (rump x a b) (b + length (gather constant_in x))
unfolding rump gather
rump_more [] s a b = ap (begun s a) (sym (add-zero b))
rump_more (y ∷ x) s a b =
    rump_more x s (begun y a b) (reached y b)
    ∙ ap (begun s (rump x (begun y a b) (reached y b))) (reached_past y x b)

pub fragments_more : (m : List (List ℕ)) (x : List Symbol) (s : Symbol) (a b : ℕ)
    → fragments m (x ++ (s ∷ [])) a b ≡ fragments m x a b ++ fragment_at m s (rump x a b) (b + length (gather constant_in x))
unfolding fragments rump gather
fragments_more m [] s a b = append-nil (fragment_at m s a b) ∙ ap (fragment_at m s a) (sym (add-zero b))
fragments_more m (y ∷ x) s a b =
    ap (λ r. fragment_at m y a b ++ r) (fragments_more m x s (begun y a b) (reached y b))
    ∙ sym (append_assoc (fragment_at m y a b) (fragments m x (begun y a b) (reached y b)) _)
    ∙ ap (λ k. fragment_at m y a b ++ fragments m x (begun y a b) (reached y b) ++ fragment_at m s (rump x (begun y a b) (reached y b)) k) (reached_past y x b)

-- a symbol by its number
pub begun_by : (k : ℕ) (x : List ℕ) (a b : ℕ) → begun (symbol_by k x) a b ≡ choose (eqb k none_end) a b
begun_by k x a b = split (eqb k none_end) (λ e. rw e) (λ e. rw e)

pub fragment_by : (m : List (List ℕ)) (k : ℕ) (x : List ℕ) (a b : ℕ) → (eqb k none_end ≡ false → k - 1 ≡ index m x) → piece_by k a b ≡ fragment_at m (symbol_by k x) a b
fragment_by m k x a b h = split (eqb k none_end) (λ e. rw e) (λ e. rw (e, h e))

pub variable_by : (k : ℕ) (x : List ℕ) → choose (eqb k none_end) 0 1 ≡ length (variable_in (symbol_by k x))
variable_by k x = split (eqb k none_end) (λ e. rw e) (λ e. rw e)

-- ---- as many fragments as variables
fragment_one : (m : List (List ℕ)) (s : Symbol) (a b : ℕ) → length (fragment_at m s a b) ≡ length (variable_in s)
fragment_one m (con x) a b = refl
fragment_one m (var x) a b = refl

pub length_fragments : (m : List (List ℕ)) (x : List Symbol) (a b : ℕ) → length (fragments m x a b) ≡ length (gather variable_in x)
unfolding fragments gather
length_fragments m [] a b = refl
length_fragments m (s ∷ x) a b =
    omega (
      arith,
      fragment_one m s a b,
      length_fragments m x (begun s a b) (reached s b),
      length-append (fragment_at m s a b) (fragments m x (begun s a b) (reached s b)),
      length-append (variable_in s) (gather variable_in x),
    )

-- ---- numbers in a longer list of variables
module _ {m vs : List (List ℕ)} (g : Grown m vs) where
  fragment_grown : (s : Symbol) (a b : ℕ) → ((x : List ℕ) → member x (variable_in s) ≡ true → member x m ≡ true) → fragment_at vs s a b ≡ fragment_at m s a b
  unfolding any
  fragment_grown (con x) a b h = refl
  fragment_grown (var x) a b h = rw (grown_index g x (h x (rw (same_refl x))))

  pub fragments_grown : (f : List Symbol) (a b : ℕ) → ((x : List ℕ) → member x (gather variable_in f) ≡ true → member x m ≡ true) → fragments vs f a b ≡ fragments m f a b
  unfolding fragments gather
  fragments_grown [] a b h = refl
  fragments_grown (s ∷ f) a b h =
      ap (λ r. r ++ fragments vs f (begun s a b) (reached s b))
      (fragment_grown s a b (λ x e. h x (member_left x (variable_in s) (gather variable_in f) e)))
      ∙ ap (λ r. fragment_at m s a b ++ r)
      (fragments_grown f (begun s a b) (reached s b)
      (λ x e.
      h x
      (any_append (sameb x) (variable_in s) (gather variable_in f)
      ∙ split (member x (variable_in s)) (λ q. rw q) (λ q. rw q e))))

-- ---- a math token that is no constant is a variable of the formula
pub token_variable : (l : List Statement) (s : Statement) (i : ℕ) → 1 ≤ i → i < length s.math → constant_name l (token s i).bytes ≡ false
    → member (token s i).bytes (variables_of (static l s)) ≡ true
unfolding variables_of static any
token_variable l s i h k e =
    let x = (token s i).bytes in
    let f = static_symbol l in
    let q : 1 + (i - 1) ≡ i = omega arith in
    let z : get_or (map f (drop 1 s.math)) (i - 1) (f no_token) ≡ f (token s i) =
    get_or-map f (drop 1 s.math) (i - 1) no_token
    ∙ ap f (get_or-drop 1 s.math (i - 1) no_token ∙ ap (λ j. get_or s.math j no_token) q) in
    any_gather (sameb x) variable_in (map f (drop 1 s.math)) (f no_token) (i - 1)
    (omega (arith, length-map (drop 1 s.math) f, length-drop 1 s.math))
    (rw (z, e) (rw (same_refl x)))
