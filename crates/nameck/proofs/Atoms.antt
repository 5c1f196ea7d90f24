-- Atoms and names are each other's inverse, on names that occur; two names that occur have one atom exactly where they are equal.
-- Assumes nothing.
use mathlib.Core.Path.{◌≡◌, ap, ◌∙◌}
use mathlib.Core.Bool.{true}
use mathlib.Core.List.{List, [], ◌++◌, map}
use Prim.Native.Nat.{ℕ, ◌+◌, ◌<◌, ◌≤◌}
use native.Mathlib.Omega.{arith}
use lib.ListN.{length, length-append, length-map, get_or-map}
use lib.Seq.{take-length}
use Rattle.paper.specs.Base.{sameb, any, gather}
use Rattle.paper.specs.Statements.{labelled, Statement}
use Rattle.paper.specs.Names.{bearer, labels}
use Rattle.paper.specs.Variables.{member}
use Rattle.paper.specs.Checks.{token, no_token}
use Rattle.paper.proofs.Tests.{split, same_refl}
use Rattle.paper.proofs.Names.{any_append, member_at, index_lt, index_at, index_same, sights_length, sights_member, Distinct, distinct_none, distinct_sights}
use Rattle.paper.proofs.Gather.{map_append, gather_both, any_gather}
use Rattle.reader.specs.Rows.{no_statement, stmt, before}
use Rattle.nameck.specs.Atoms.{bytes_of, names_in, atoms, atom_of, name_of}

-- ---- what occurs
module _ (l : List Statement) (x : List ℕ) where
  occurs : member x (gather names_in l) ≡ true → member x (atoms l) ≡ true
  unfolding atoms
  occurs e = sights_member x (gather names_in l) [] e

  in_statement : (s : ℕ) → s < length l → member x (names_in (stmt l s)) ≡ true → member x (atoms l) ≡ true
  unfolding stmt
  in_statement s h e = occurs (any_gather (sameb x) names_in l no_statement s h e)

bears_name : (s : Statement) → labelled s.kind ≡ true → member s.label (names_in s) ≡ true
unfolding any
bears_name s e = rw (e, same_refl s.label)

has_name : (s : Statement) (i : ℕ) → i < length s.math → member (token s i).bytes (names_in s) ≡ true
has_name s i h =
    let m = map bytes_of s.math in
    let e : member (token s i).bytes m ≡ true =
    rw (← (get_or-map bytes_of s.math i no_token)) (member_at m i (omega (arith, length-map s.math bytes_of))) in
    ap (member (token s i).bytes) (map_append bytes_of (bearer s) s.math)
    ∙ any_append (sameb (token s i).bytes) (map bytes_of (bearer s)) m
    ∙ split (member (token s i).bytes (map bytes_of (bearer s))) (λ q. rw q) (λ q. rw q e)

pub label_in : (l : List Statement) (s : ℕ) → s < length l → labelled (stmt l s).kind ≡ true → member (stmt l s).label (atoms l) ≡ true
label_in l s h e = in_statement l (stmt l s).label s h (bears_name (stmt l s) e)

pub token_in : (l : List Statement) (s i : ℕ) → s < length l → i < length (stmt l s).math → member (token (stmt l s) i).bytes (atoms l) ≡ true
token_in l s i h k = in_statement l (token (stmt l s) i).bytes s h (has_name (stmt l s) i k)

-- ---- names and atoms
pub atom_below : (l : List Statement) (x : List ℕ) → member x (atoms l) ≡ true → atom_of l x < length (atoms l)
unfolding atom_of
atom_below l x e = index_lt x (atoms l) e

pub name_of_atom : (l : List Statement) (x : List ℕ) → member x (atoms l) ≡ true → name_of l (atom_of l x) ≡ x
unfolding atom_of name_of
name_of_atom l x e = index_at x (atoms l) e

pub atoms_distinct : (l : List Statement) → Distinct (atoms l)
unfolding atoms
atoms_distinct l = distinct_sights (gather names_in l) [] distinct_none

pub atom_of_name : (l : List Statement) (a : ℕ) → a < length (atoms l) → atom_of l (name_of l a) ≡ a
unfolding atom_of name_of
atom_of_name l a h = (atoms_distinct l).place a h

pub atom_same : (l : List Statement) (x y : List ℕ) → member x (atoms l) ≡ true → member y (atoms l) ≡ true → atom_of l x ≡ atom_of l y → x ≡ y
unfolding atom_of
atom_same l x y p q e = index_same x y (atoms l) p q e

pub name_occurs : (l : List Statement) (a : ℕ) → a < length (atoms l) → member (name_of l a) (atoms l) ≡ true
unfolding name_of
name_occurs l a h = member_at (atoms l) a h

-- ---- no more names than labels and math tokens
pub atoms_few : (l : List Statement) → length (atoms l) ≤ before l (length l) + length (labels l)
unfolding atoms before labels
atoms_few l =
    omega (
      arith,
      sights_length (gather names_in l) [],
      gather_both names_in bearer (λ x. x.math) l (λ x. length-map (bearer x ++ x.math) bytes_of ∙ length-append (bearer x) x.math),
      ap (λ (r : List Statement). length (gather (λ x. x.math) r)) (take-length l),
    )
