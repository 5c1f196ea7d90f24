-- The layout of a frame record to its last byte (A7 and A10 of document 02): its bytes are cut into parts, one after the other.
-- What a record says is its shape: its parts without offsets and valid end. Kind 1 has the shape of the kind 4 of the same content.
use Rattle.std.specs.Prelude.{◌≡◌, refl, Bool, true, false, List, [], ◌∷◌, ◌++◌, ℕ, zero, suc, ◌+◌, ◌-◌, ◌*◌, ◌/◌, eqb, ltb, length, take, drop}
use Rattle.std.proofs.Math.Option.{Option, none, some}
use Rattle.paper.specs.Base.{choose, or, codes, gather}
use Rattle.paper.specs.Records.{le, u16, u32, framed}
use Rattle.paper.specs.Lookup.{u16_at, u32_at, stub_string}

-- the bytes of an offset or an end
abbrev pub address_size : ℕ
address_size = 4

-- the last byte with 128 taken off
unfoldable pub lowered : List ℕ → List ℕ
lowered [] = []
lowered (b ∷ []) = (b - 128) ∷ []
lowered (b ∷ c ∷ l) = b ∷ lowered (c ∷ l)

-- ---- some bytes cut into parts, and what is left of them; or a part does not fit
pub data Cut : Type 0 where
  short : Cut
  cut : List (List ℕ) → List ℕ → Cut

-- one part of n bytes
unfoldable pub part : ℕ → List ℕ → Cut
part n l = choose (ltb (length l) n) short (cut (take n l ∷ []) (drop n l))

abbrev pub with_parts : List (List ℕ) → Cut → Cut
with_parts p short = short
with_parts p (cut q r) = cut (p ++ q) r

-- parts, and then others of what is left
abbrev pub then : Cut → (List ℕ → Cut) → Cut
then short f = short
then (cut p r) f = with_parts p (f r)

-- all parts as one
abbrev pub whole : Cut → Cut
whole short = short
whole (cut p r) = cut (gather (λ x. x) p ∷ []) r

-- parts that are read over and left out
abbrev pub skipped : Cut → Cut
skipped short = short
skipped (cut p r) = cut [] r

-- so many times the same
unfoldable pub times : ℕ → (List ℕ → Cut) → List ℕ → Cut
times zero f l = cut [] l
times (suc n) f l = then (f l) (times n f)

-- a u32 count, and so many times k bytes
unfoldable pub counted : ℕ → List ℕ → Cut
counted k l = choose (ltb (length l) 4) short (part (4 + k * u32_at l 0) l)

-- ---- String: u32 length, bytes
abbrev pub a_string : List ℕ → Cut
a_string = counted 1

abbrev pub an_address : List ℕ → Cut
an_address l = skipped (part address_size l)

-- ---- Expression: typecode, u32 fragment count, fragments of 10 bytes; then u32 rump start, u32 rump end
unfoldable pub an_expression : List ℕ → Cut
an_expression l = whole (then (a_string l) (λ m. then (counted 10 m) (part 8)))

-- ---- Hypothesis: u16 1, offset, u16 variable, typecode; or u16 2, offset, expression
unfoldable pub hypothesis_tail : ℕ → List ℕ → Cut
hypothesis_tail t l =
    choose (eqb t 1) (then (an_address l) (λ m. then (part 2 m) a_string))
    (choose (eqb t 2) (then (an_address l) an_expression) short)

unfoldable pub a_hypothesis : List ℕ → Cut
a_hypothesis l = whole (then (part 2 l) (hypothesis_tail (u16_at l 0)))

-- ---- what a record says: label, typecode and string of a `$f`, or label, variables and pool; hypotheses; target, pairs and rows
pub record Shape : Type 0 where
  pub kind : ℕ
  pub before : List (List ℕ)
  pub hyps : List (List ℕ)
  pub behind : List (List ℕ)

-- the parts, if no byte is left
abbrev pub finished : Cut → Option (List (List ℕ))
finished short = none
finished (cut p []) = some p
finished (cut p (b ∷ r)) = none

-- ---- Kind 4 (`$f`): start, end, label, typecode, and then a variable string
abbrev pub float_head : List ℕ → Cut
float_head l = then (an_address l) (λ m. then (an_address m) (λ k. then (a_string k) a_string))

abbrev pub float_shape : Option (List (List ℕ)) → Option Shape
float_shape none = none
float_shape (some p) = some (record { kind = 4; before = p; hyps = []; behind = [] })

-- ---- Kind 1: the same with a stub string, here without its 128
abbrev pub unstubbed : Cut → Cut
unstubbed short = short
unstubbed (cut [] r) = short
unstubbed (cut (s ∷ p) r) = choose (stub_string (drop 4 s)) (cut (lowered s ∷ []) r) short

unfoldable pub a_stub : List ℕ → Cut
a_stub l = unstubbed (a_string l)

-- ---- Kind 2 (`$a`), 3 (`$p`): offset, label; u16 V, u16 M, V variable strings, pool; u32 hypothesis count, hypotheses;
-- target, pairs of u16, V rows of V/8 bytes rounded up
abbrev pub label_part : List ℕ → Cut
label_part l = then (an_address l) a_string

unfoldable pub names_part : List ℕ → Cut
names_part l = then (whole (then (part 4 l) (times (u16_at l 0) a_string))) a_string

unfoldable pub hypotheses_part : List ℕ → Cut
hypotheses_part l = then (part 4 l) (times (u32_at l 0) a_hypothesis)

unfoldable pub back_parts : ℕ → List ℕ → Cut
back_parts v l = then (an_expression l) (λ m. then (counted 4 m) (part (v * ((v + 7) / 8))))

abbrev pub with_back : ℕ → List (List ℕ) → List (List ℕ) → Option (List (List ℕ)) → Option Shape
with_back k b h none = none
with_back k b h (some p) = some (record { kind = k; before = b; hyps = h; behind = p })

abbrev pub with_hyps : ℕ → ℕ → List (List ℕ) → Cut → Option Shape
with_hyps k v b short = none
with_hyps k v b (cut h r) = with_back k b (drop 1 h) (finished (back_parts v r))

abbrev pub with_names : ℕ → ℕ → List (List ℕ) → Cut → Option Shape
with_names k v n short = none
with_names k v n (cut b r) = with_hyps k v (n ++ b) (hypotheses_part r)

abbrev pub assertion_shape : ℕ → Cut → Option Shape
assertion_shape k short = none
assertion_shape k (cut n r) = with_names k (u16_at r 0) n (names_part r)

-- ---- the shape of a record, from its kind and payload; and from its bytes, of which the first four say how many follow
unfoldable pub shape_of : ℕ → List ℕ → Option Shape
shape_of k l =
    choose (eqb k 4) (float_shape (finished (then (float_head l) a_string)))
    (choose (eqb k 1) (float_shape (finished (then (float_head l) a_stub)))
    (choose (or (eqb k 2) (eqb k 3)) (assertion_shape k (label_part l)) none))

unfoldable pub record_shape : List ℕ → Option Shape
record_shape l =
    choose (ltb (length l) 6) none
    (choose (eqb (length l) (4 + u32_at l 0)) (shape_of (u16_at l 4) (drop 6 l)) none)

abbrev pub is_some : Option Shape → Bool
is_some none = false
is_some (some s) = true

unfoldable pub fits : List ℕ → Bool
fits l = is_some (record_shape l)

-- ---- the records of a stream, by their lengths; k further bytes are of the record before them. The last may be cut off
unfoldable pub records_after : List ℕ → ℕ → List (List ℕ)
records_after [] k = []
records_after (b ∷ l) (suc k) = records_after l k
records_after (b ∷ l) zero = take (4 + u32_at (b ∷ l) 0) (b ∷ l) ∷ records_after l (3 + u32_at (b ∷ l) 0)

unfoldable pub stream_records : List ℕ → List (List ℕ)
stream_records s = records_after s 0

-- two records and one that was cut off
pub records_shown : stream_records (framed 2 [] ++ (framed 3 (codes "a") ++ (9 ∷ 0 ∷ []))) ≡ framed 2 [] ∷ framed 3 (codes "a") ∷ (9 ∷ 0 ∷ []) ∷ []
unfolding le u16 u32 framed u16_at u32_at records_after stream_records
records_shown = refl
