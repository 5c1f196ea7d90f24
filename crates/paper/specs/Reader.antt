-- The reader: which token the grammar allows where, and the statements of a text or one of numbers 1 to 6.
-- Statements: `$c` and `$v` with one or more math tokens; `$d` with two or more; label `$f` with exactly two; label
-- `$e` and label `$a` with one or more; label `$p` with one or more, `$=`, one or more proof tokens without `$`.
use Rattle.std.specs.Prelude.{Bool, true, List, [], ◌∷◌, ◌++◌, ℕ, zero, suc, ◌+◌, ◌*◌, leb, ltb, length}
use Rattle.std.proofs.Math.Option.{Option, none, some}
use Rattle.paper.specs.Base.{choose, and}
use Rattle.paper.specs.Tokens.{Token, tokens, label_token, math_token, key_c, key_v, key_d, key_f, key_e, key_a, key_p, key_proof, key_end, key_group, key_ungroup, key, bad_from}
use Rattle.paper.specs.Comments.{Place, outside, inside, after, visible}
use Rattle.paper.specs.Statements.{Kind, $c, $v, $d, $f, $e, $a, $p, Statement, none_end, Item, opens, closes, states, ends}
use Rattle.paper.specs.declared.Refusal.{Refusal}
use Rattle.paper.specs.declared.Refusal.TheVariants.{LongText, ShortWork, BadByte, OpenComment, BadToken, OpenText}

-- between statements; after a label; after a keyword and some math tokens (kind, offset, label); after `$=`
-- (offset, label, math tokens) and some proof tokens
pub data Mode : Type 0 where
  start : Mode
  named : Token → Mode
  math : Kind → ℕ → List ℕ → List Token → Mode
  proof : ℕ → List ℕ → List Token → List Token → Mode

abbrev pub plain_kind : Token → Option Kind
plain_kind t =
    choose (key key_c t) (some $c) (choose (key key_v t) (some $v) (choose (key key_d t) (some $d) none))

abbrev pub label_kind : Token → Option Kind
label_kind t =
    choose (key key_f t) (some $f)
    (choose (key key_e t) (some $e) (choose (key key_a t) (some $a) (choose (key key_p t) (some $p) none)))

-- whether one more math token may follow so many, whether they are enough, and the keyword that closes them
abbrev pub room : Kind → ℕ → Bool
room $c n = true
room $v n = true
room $d n = true
room $f n = ltb n 2
room $e n = true
room $a n = true
room $p n = true

abbrev pub least : Kind → ℕ
least $c = 1
least $v = 1
least $d = 2
least $f = 2
least $e = 1
least $a = 1
least $p = 1

abbrev pub closing : Kind → ℕ
closing $c = key_end
closing $v = key_end
closing $d = key_end
closing $f = key_end
closing $e = key_end
closing $a = key_end
closing $p = key_proof

-- where the reader is after a token, at which depth, and the items it has; or the offset of the token not allowed
pub data Step : Type 0 where
  go : Mode → ℕ → List Item → Step
  stop : ℕ → Step

abbrev pub statement : Kind → ℕ → List ℕ → List Token → List Token → List Item
statement k o n m p =
    states (record { kind = k; at = o; end = none_end; label = n; math = m; proof = p }) ∷ []

abbrev pub shut : ℕ → Token → Step
shut zero t = stop t.at
shut (suc d) t = go start d (closes t.at ∷ [])

abbrev pub begin : Option Kind → ℕ → Token → Step
begin (some k) d t = go (math k t.at [] []) d []
begin none d t = choose (label_token t) (go (named t) d []) (stop t.at)

abbrev pub keyword : Option Kind → ℕ → Token → Token → Step
keyword (some k) d n t = go (math k n.at n.bytes []) d []
keyword none d n t = stop t.at

abbrev pub closed : Kind → ℕ → ℕ → List ℕ → List Token → Step
closed $c d o n m = go start d (statement $c o n m [])
closed $v d o n m = go start d (statement $v o n m [])
closed $d d o n m = go start d (statement $d o n m [])
closed $f d o n m = go start d (statement $f o n m [])
closed $e d o n m = go start d (statement $e o n m [])
closed $a d o n m = go start d (statement $a o n m [])
closed $p d o n m = go (proof o n m []) d []

-- the token t, read in a mode at a depth; the items are those that it ends
unfoldable pub allow : Mode → ℕ → Token → Step
allow start d t =
    choose (key key_group t) (go start (suc d) (opens t.at ∷ []))
    (choose (key key_ungroup t) (shut d t) (begin (plain_kind t) d t))
allow (named n) d t = keyword (label_kind t) d n t
allow (math k o n m) d t =
    choose (and (math_token t) (room k (length m))) (go (math k o n (m ++ (t ∷ []))) d [])
    (choose (and (key (closing k) t) (leb (least k) (length m))) (closed k d o n m) (stop t.at))
allow (proof o n m p) d t =
    choose (math_token t) (go (proof o n m (p ++ (t ∷ []))) d [])
    (choose (and (key key_end t) (leb 1 (length p))) (go start d (statement $p o n m p)) (stop t.at))

abbrev pub with_items : List Item → Step → Step
with_items i (go m d j) = go m d (i ++ j)
with_items i (stop o) = stop o

-- one token after the other; nothing is read after a token that is not allowed
unfoldable pub many : List Token → Step → Step
many [] z = z
many (t ∷ l) (stop o) = stop o
many (t ∷ l) (go m d i) = many l (with_items i (allow m d t))

-- a refusal, or what is asked for
pub data Outcome (A : Type 0) : Type 0 where
  refused : Refusal → Outcome A
  given : A → Outcome A

-- number 6: the text, of length n, ends in a statement or open group
abbrev pub finish : Mode → ℕ → List Item → ℕ → Outcome (List Item)
finish start zero i n = given i
finish start (suc d) i n = refused (OpenText n)
finish (named t) d i n = refused (OpenText n)
finish (math k o l m) d i n = refused (OpenText n)
finish (proof o l m p) d i n = refused (OpenText n)

-- number 4: a comment never closed
abbrev pub close : Place → Mode → ℕ → List Item → ℕ → Outcome (List Item)
close outside m d i n = finish m d i n
close (inside o) m d i n = refused (OpenComment o)

-- number 5, at the token that the grammar does not allow; or 4, where a comment never closed begins at an earlier token
abbrev pub earlier : ℕ → Place → Refusal
earlier o outside = BadToken o
earlier o (inside c) = choose (ltb c o) (OpenComment c) (BadToken o)

abbrev pub ending : Step → Place → ℕ → Outcome (List Item)
ending (stop o) p n = refused (earlier o p)
ending (go m d i) p n = close p m d i n

-- what stands in a text of n bytes with these tokens, or number 4, 5 or 6
unfoldable pub items : List Token → ℕ → Outcome (List Item)
items l n = ending (many (visible l outside) (go start 0 [])) (after l outside) n

abbrev pub with_ends : Outcome (List Item) → Outcome (List Statement)
with_ends (refused r) = refused r
with_ends (given i) = given (ends i [])

-- number 3: the first byte neither white space nor printable, comments included
abbrev pub printed : Option ℕ → Outcome (List Statement) → Outcome (List Statement)
printed none r = r
printed (some o) r = refused (BadByte o)

-- 16 × (N + 1)
unfoldable pub words : List ℕ → ℕ
words t = 16 * (length (tokens t) + 1)

-- the statements of a text, given so many words of work area; or one of numbers 1 to 6, in their order
unfoldable pub reading : List ℕ → ℕ → Outcome (List Statement)
reading t w =
    choose (ltb 16777216 (length t)) (refused LongText)
    (choose (ltb w (words t)) (refused (ShortWork (words t)))
    (printed (bad_from t 0) (with_ends (items (tokens t) (length t)))))
