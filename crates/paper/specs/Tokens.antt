-- The reader: tokens, each with its offset and its bytes; the first bad byte.
-- A token is a maximal run of bytes that are not white space; N counts them.
use Rattle.std.specs.Prelude.{◌≡◌, refl, Bool, true, false, List, [], ◌∷◌, ℕ, suc}
use Rattle.std.proofs.Math.Option.{Option, none, some}
use Prim.Native.Char.{code}
use Rattle.paper.specs.Base.{choose, or, codes, sameb, all}
use Rattle.paper.specs.Bytes.{white, printable, label_byte, dollar, math_byte}

pub record Token : Type 0 where
  pub at : ℕ
  pub bytes : List ℕ

-- the run at the front of some bytes, and the tokens after it
pub record Run : Type 0 where
  pub head : List ℕ
  pub rest : List Token

-- a run is a token if it has a byte
abbrev pub put : ℕ → List ℕ → List Token → List Token
put o [] l = l
put o (b ∷ h) l = record { at = o; bytes = b ∷ h } ∷ l

-- the byte b at offset o before what r says: white space ends a run, another byte goes on with it
abbrev pub prefix : Bool → ℕ → ℕ → Run → Run
prefix true b o r = record { head = []; rest = put (suc o) r.head r.rest }
prefix false b o r = record { head = b ∷ r.head; rest = r.rest }

unfoldable pub run : List ℕ → ℕ → Run
run [] o = record { head = []; rest = [] }
run (b ∷ l) o = prefix (white b) b o (run l (suc o))

-- the first byte has offset 5
pub run_shown : run (codes "ab  $c x") 5 ≡ record { head = codes "ab"; rest = record { at = 9; bytes = codes "$c" } ∷ record { at = 12; bytes = codes "x" } ∷ [] }
unfolding run white
run_shown = refl

-- the tokens of bytes of which the first has offset o
unfoldable pub toks : List ℕ → ℕ → List Token
toks l o = let r = run l o in put o r.head r.rest

unfoldable pub tokens : List ℕ → List Token
tokens t = toks t 0

-- only letters, digits, `-`, `_`, `.`
unfoldable pub label_token : Token → Bool
label_token t = all label_byte t.bytes

-- printable without `$`
unfoldable pub math_token : Token → Bool
math_token t = all math_byte t.bytes

-- the byte after `$` in each keyword
abbrev pub key_c : ℕ
key_c = code "c"

abbrev pub key_v : ℕ
key_v = code "v"

abbrev pub key_d : ℕ
key_d = code "d"

abbrev pub key_f : ℕ
key_f = code "f"

abbrev pub key_e : ℕ
key_e = code "e"

abbrev pub key_a : ℕ
key_a = code "a"

abbrev pub key_p : ℕ
key_p = code "p"

-- `$=` and `$.`
abbrev pub key_proof : ℕ
key_proof = code "="

abbrev pub key_end : ℕ
key_end = code "."

-- `${` and `$}`
abbrev pub key_group : ℕ
key_group = code "{"

abbrev pub key_ungroup : ℕ
key_ungroup = code "}"

-- `$(` and `$)`
abbrev pub key_comment : ℕ
key_comment = code "("

abbrev pub key_uncomment : ℕ
key_uncomment = code ")"

-- the keyword of `$` and one more byte
unfoldable pub key : ℕ → Token → Bool
key k t = sameb t.bytes (dollar ∷ k ∷ [])

-- the offset of the first byte that is neither white space nor printable, from offset o on
unfoldable pub bad_from : List ℕ → ℕ → Option ℕ
bad_from [] o = none
bad_from (b ∷ l) o = let r = bad_from l (suc o) in choose (or (white b) (printable b)) r (some o)
