-- The proofs of request A1: a table of the smallest texts, right and wrong in each way, proved by one statement.
-- Document 02's readings stand in it, each with a text that tells them apart.
use mathlib.Core.Path.{◌≡◌, refl}
use mathlib.Core.List.{List, [], ◌∷◌, ◌++◌, map}
use Prim.Native.Nat.{ℕ}
use Prim.Native.String.{String}
use Rattle.paper.specs.Base.{codes}
use Rattle.paper.specs.Reader.{Outcome, refused, given}
use Rattle.paper.specs.Citations.{theorem, known_by, cited_as}
use Rattle.paper.specs.Substitution.{same_body, bound, substituted, bindings, all_fit, applied}
use Rattle.paper.specs.Steps.{sizes, acts, proved}
use Rattle.paper.specs.Verdicts.{proof_end, verdicts, all_verdicts}
use Rattle.paper.specs.Records.{verdict_record, verdict_stream}
use Rattle.paper.specs.Answer.{refusal_number, refusal_place, Proofs, proofs_number, proofs_place, verdicts_of, judging, proofs}
use Rattle.paper.proofs.Table.{operation, hex}

-- number, place, verdict stream
pub data Told : Type 0 where
  told : ℕ → ℕ → List ℕ → Told

-- a text, words of stack and bytes of verdict buffer, and what is to come of it, its stream in hex
pub data Case : Type 0 where
  proofs_in : List ℕ → ℕ → ℕ → Told → Case

abbrev pub expected : Case → Told
expected (proofs_in t k n x) = x

abbrev pub tell : Outcome Proofs → Told
tell (refused r) = told (refusal_number r) (refusal_place r) []
tell (given x) = told (proofs_number x) (proofs_place x) (verdicts_of x)

-- with work area enough. Whoever unfolds this unfolds every definition on the way
unfoldable pub proving : List ℕ → ℕ → ℕ → Told
unfolding operation theorem known_by cited_as same_body bound substituted bindings all_fit applied sizes acts proved proof_end verdicts all_verdicts verdict_record verdict_stream judging proofs
proving t k n = tell (proofs t 10000 k n)

abbrev pub computed : Case → Told
computed (proofs_in t k n x) = proving t k n

-- two theories, and what follows each
abbrev pub implications : String → List ℕ
implications s =
    codes "$c ( ) -> wff |- $. $v P Q $. wp $f wff P $. wq $f wff Q $. wi $a wff ( P -> Q ) $. ax $a |- ( P -> P ) $. "
    ++ (codes "${ m1 $e |- P $. m2 $e |- ( P -> Q ) $. mp $a |- Q $. $} " ++ codes s)

abbrev pub apart_in : String → List ℕ
apart_in s =
    codes "$c w |- $. $v x y z $. f $f w x $. g $f w y $. h $f w z $. k $a w y z $. "
    ++ (codes "${ $d x y $. a $a |- x y $. $} ${ e $e |- x y $. b $a |- x $. $} " ++ codes s)

abbrev pub cases : List Case
cases =
    -- the empty text has no verdict
    proofs_in [] 0 0 (told 0 0 []) ∷
    -- right: step 2 holds 2 symbols, its hypothesis, and pushes 6
    proofs_in (implications "t $p |- ( P -> P ) $= wp ax $.") 8 14 (told 0 0 (hex ("0A000000 0100 A4000000 00000000" ∷ []))) ∷
    -- with a word less it is number 12: the hypotheses are held before the step
    proofs_in (implications "t $p |- ( P -> P ) $= wp ax $.") 7 14 (told 12 164 []) ∷
    -- a verdict buffer that is too short is 17, with the bytes needed
    proofs_in (implications "t $p |- ( P -> P ) $= wp ax $.") 8 13 (told 17 14 []) ∷
    -- 12 comes first
    proofs_in (implications "t $p |- ( P -> P ) $= wp ax $.") 7 13 (told 12 164 []) ∷
    -- a comment is no step
    proofs_in (implications "t $p |- ( P -> P ) $= wp $( nosuch $) ax $.") 8 14 (told 0 0 (hex ("0A000000 0100 A4000000 00000000" ∷ []))) ∷
    -- the `$e` entries match
    proofs_in (implications "${ h1 $e |- P $. h2 $e |- ( P -> Q ) $. t $p |- Q $= wp wq h1 h2 mp $. $}") 1000 14 (told 0 0 (hex ("0A000000 0100 CC000000 00000000" ∷ []))) ∷
    -- incomplete: exactly the token `?`
    proofs_in (implications "t $p |- ( P -> P ) $= wp ? ax $.") 1000 14 (told 0 0 (hex ("0A000000 0300 A4000000 02000000" ∷ []))) ∷
    -- `??` is a label that nobody bears
    proofs_in (implications "t $p |- ( P -> P ) $= wp ?? $.") 1000 14 (told 0 0 (hex ("0A000000 0200 A4000000 02000000" ∷ []))) ∷
    -- `?` pushes nothing
    proofs_in (implications "t $p |- ( P -> P ) $= ? $.") 0 14 (told 0 0 (hex ("0A000000 0300 A4000000 01000000" ∷ []))) ∷
    -- an incomplete `$p` may be named
    proofs_in (implications "s $p |- ( P -> P ) $= ? $. t $p |- ( P -> P ) $= wp s $.") 1000 28 (told 0 0 (hex ("0A000000 0300 A4000000 01000000" ∷ "0A000000 0100 BF000000 00000000" ∷ []))) ∷
    -- a wrong step pushes nothing, and no step after it is reached
    proofs_in (implications "t $p |- ( P -> P ) $= nosuch wp $.") 0 14 (told 0 0 (hex ("0A000000 0200 A4000000 01000000" ∷ []))) ∷
    -- a proof that is wrong at step 2 and exceeds the stack at step 1
    proofs_in (implications "t $p |- ( P -> P ) $= wp nosuch $.") 1 14 (told 12 164 []) ∷
    -- the place of 12 is the first such `$p`
    proofs_in (implications "s $p |- ( P -> P ) $= wp nosuch $. t $p |- ( P -> P ) $= wp ax $.") 7 28 (told 12 199 []) ∷
    -- it names itself
    proofs_in (implications "t $p |- ( P -> P ) $= wp t $.") 1000 14 (told 0 0 (hex ("0A000000 0200 A4000000 02000000" ∷ []))) ∷
    -- it names a later statement
    proofs_in (implications "t $p |- ( P -> P ) $= wp u $. u $a |- ( P -> P ) $.") 1000 14 (told 0 0 (hex ("0A000000 0200 A4000000 02000000" ∷ []))) ∷
    -- it names a rejected statement
    proofs_in (implications "u $a |- ( P -> R ) $. t $p |- ( P -> P ) $= wp u $.") 1000 14 (told 0 0 (hex ("0A000000 0200 BA000000 02000000" ∷ []))) ∷
    -- the first bearer of the label is rejected
    proofs_in (implications "u $a |- R $. u $a |- ( P -> P ) $. t $p |- ( P -> P ) $= wp u $.") 1000 14 (told 0 0 (hex ("0A000000 0200 C7000000 02000000" ∷ []))) ∷
    -- a later bearer is nobody
    proofs_in (implications "ax $a |- P $. t $p |- ( P -> P ) $= wp ax $.") 1000 14 (told 0 0 (hex ("0A000000 0100 B2000000 00000000" ∷ []))) ∷
    -- it names a `$e` that is not active
    proofs_in (implications "${ u $e |- P $. $} t $p |- P $= u $.") 1000 14 (told 0 0 (hex ("0A000000 0200 B7000000 01000000" ∷ []))) ∷
    -- it names a `$f` that is not active
    proofs_in (implications "${ $v R $. u $f wff R $. $} t $p |- P $= u $.") 1000 14 (told 0 0 (hex ("0A000000 0200 C0000000 01000000" ∷ []))) ∷
    -- too few entries
    proofs_in (implications "t $p |- ( P -> P ) $= ax $.") 1000 14 (told 0 0 (hex ("0A000000 0200 A4000000 01000000" ∷ []))) ∷
    -- the entry for a `$f` has another typecode
    proofs_in (implications "t $p |- ( P -> P ) $= wp ax ax $.") 1000 14 (told 0 0 (hex ("0A000000 0200 A4000000 03000000" ∷ []))) ∷
    -- the entry for a `$e` does not match: wrong, not 12, though 8 are held and 2 would be pushed
    proofs_in (implications "${ h $e |- P $. t $p |- Q $= wp wq h h mp $. $}") 8 14 (told 0 0 (hex ("0A000000 0200 B4000000 05000000" ∷ []))) ∷
    -- the entry for a `$e` has another typecode
    proofs_in (implications "${ h $e |- ( P -> Q ) $. t $p |- Q $= wp wq wp h mp $. $}") 1000 14 (told 0 0 (hex ("0A000000 0200 BD000000 05000000" ∷ []))) ∷
    -- one entry at the end, but not the target
    proofs_in (implications "t $p |- P $= wp $.") 1000 14 (told 0 0 (hex ("0A000000 0200 A4000000 02000000" ∷ []))) ∷
    -- at the end the typecode differs
    proofs_in (implications "t $p wff ( P -> P ) $= wp ax $.") 1000 14 (told 0 0 (hex ("0A000000 0200 A4000000 03000000" ∷ []))) ∷
    -- two entries at the end
    proofs_in (implications "t $p |- ( P -> P ) $= wp wp ax $.") 1000 14 (told 0 0 (hex ("0A000000 0200 A4000000 04000000" ∷ []))) ∷
    -- a rejected `$p` has no verdict
    proofs_in (implications "a $p R $= ? $.") 0 0 (told 0 0 []) ∷
    -- a bracket is a step like any other
    proofs_in (implications "t $p |- ( P -> P ) $= ( ax ) AB $.") 1000 14 (told 0 0 (hex ("0A000000 0200 A4000000 01000000" ∷ []))) ∷
    -- hypotheses by offset: a `$f` after a `$e`
    proofs_in (implications "${ h $e |- P $. $v R $. wr $f wff R $. o $a |- ( P -> R ) $. t $p |- ( P -> Q ) $= wp h wq o $. $}") 1000 14 (told 0 0 (hex ("0A000000 0100 E1000000 00000000" ∷ []))) ∷
    -- not all `$f` before all `$e`
    proofs_in (implications "${ h $e |- P $. $v R $. wr $f wff R $. o $a |- ( P -> R ) $. t $p |- ( P -> Q ) $= wp wq h o $. $}") 1000 14 (told 0 0 (hex ("0A000000 0200 E1000000 04000000" ∷ []))) ∷
    -- a substitution may be empty
    proofs_in (codes "$c w |- $. $v x y $. f $f w x $. g $f w y $. e $a w $. a $a |- x y $. t $p |- y $= e g a $.") 1000 14 (told 0 0 (hex ("0A000000 0100 46000000 00000000" ∷ []))) ∷
    -- the `$f` is the assertion's, not the one active at the `$p`
    proofs_in (codes "$c w v |- $. $v x $. ${ f $f w x $. a $a |- x $. $} g $f v x $. t $p |- x $= g a $.") 1000 14 (told 0 0 (hex ("0A000000 0200 40000000 02000000" ∷ []))) ∷
    -- disjoint in the frame of the `$p`
    proofs_in (apart_in "$d x z $. t $p |- x z $= f h a $.") 1000 14 (told 0 0 (hex ("0A000000 0100 94000000 00000000" ∷ []))) ∷
    -- not disjoint
    proofs_in (apart_in "t $p |- x z $= f h a $.") 1000 14 (told 0 0 (hex ("0A000000 0200 8A000000 03000000" ∷ []))) ∷
    -- a variable is shared
    proofs_in (apart_in "$d x z $. t $p |- z z $= h h a $.") 1000 14 (told 0 0 (hex ("0A000000 0200 94000000 03000000" ∷ []))) ∷
    -- a `$d` after the `$p`
    proofs_in (apart_in "t $p |- x z $= f h a $. $d x z $.") 1000 14 (told 0 0 (hex ("0A000000 0200 8A000000 03000000" ∷ []))) ∷
    -- a `$d` in a closed group
    proofs_in (apart_in "${ $d x z $. $} t $p |- x z $= f h a $.") 1000 14 (told 0 0 (hex ("0A000000 0200 9A000000 03000000" ∷ []))) ∷
    -- a rejected `$d`
    proofs_in (apart_in "$d x z z $. t $p |- x z $= f h a $.") 1000 14 (told 0 0 (hex ("0A000000 0200 96000000 03000000" ∷ []))) ∷
    -- cross pairs by two `$d`
    proofs_in (apart_in "$d x y $. $d x z $. t $p |- x y z $= f g h k a $.") 1000 14 (told 0 0 (hex ("0A000000 0100 9E000000 00000000" ∷ []))) ∷
    -- one of the cross pairs is missing
    proofs_in (apart_in "$d x y $. t $p |- x y z $= f g h k a $.") 1000 14 (told 0 0 (hex ("0A000000 0200 94000000 05000000" ∷ []))) ∷
    -- z is an optional variable of the frame
    proofs_in (apart_in "$d x z $. t $p |- x $= f h f h a b $.") 1000 14 (told 0 0 (hex ("0A000000 0100 94000000 00000000" ∷ []))) ∷
    []

pub proofs_hold : map computed cases ≡ map expected cases
unfolding proving hex
proofs_hold = refl
