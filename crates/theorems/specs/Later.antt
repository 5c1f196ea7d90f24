-- Later stock does not disturb earlier stock (A13 of document 02): what stands in a text keeps its frames when white space and
-- further statements follow, under either setting `c`. Nothing is said of diagnostics.
use Rattle.std.specs.Prelude.{◌≡◌, Bool, true, false, List, [], ◌∷◌, ◌++◌, ℕ, ◌<◌, ◌≤◌, leb, length}
use Rattle.paper.specs.Base.{choose, any, keep, gather}
use Rattle.paper.specs.Bytes.{white}
use Rattle.paper.specs.Tokens.{Token, tokens}
use Rattle.paper.specs.Statements.{Kind, $c, $v, $d, $f, $e, $a, $p, Statement, outermost, Item, ends}
use Rattle.paper.specs.Reader.{Outcome, refused, given, items}
use Rattle.paper.specs.Segments.{base, well_laid, segment_reading}
use Rattle.paper.specs.Names.{named}
use Rattle.paper.specs.Give.{all_given}
use Rattle.paper.specs.Records.{frame_stream}
use Rattle.paper.specs.Answer.{Streams, number, outcome, answer}
use Rattle.paper.specs.declared.Setting.{Setting}
use Rattle.paper.proofs.Alls.{All}

-- ---- the tokens of a nested `$v`, recorded or not; those of an outermost `$c`
abbrev pub variables_by : Kind → List Token → List Token
variables_by $c m = []
variables_by $v m = m
variables_by $d m = []
variables_by $f m = []
variables_by $e m = []
variables_by $a m = []
variables_by $p m = []

abbrev pub constants_by : Kind → List Token → List Token
constants_by $c m = m
constants_by $v m = []
constants_by $d m = []
constants_by $f m = []
constants_by $e m = []
constants_by $a m = []
constants_by $p m = []

abbrev pub nested_variables : Statement → List Token
nested_variables s = choose (outermost s) [] (variables_by s.kind s.math)

abbrev pub outer_constants : Statement → List Token
outer_constants s = choose (outermost s) (constants_by s.kind s.math) []

-- an outermost `$c` among the statements m names a token that a nested `$v` among the statements l names
unfoldable pub names_nested : List Statement → List Statement → Bool
names_nested l m = any (λ t. any (named t.bytes) (gather outer_constants m)) (gather nested_variables l)

-- ---- over statements: l, and l followed by m, whose math tokens stand behind those of l
pub record FollowedBy (l m : List Statement) : Type 0 where
  pub between : ℕ
  pub before : All (λ s. All (λ t. t.at < between) s.math) l
  pub after : All (λ s. All (λ t. between ≤ t.at) s.math) m

-- x is an initial part of y
pub record Initial (x y : List ℕ) : Type 0 where
  pub more : List ℕ
  pub whole : y ≡ x ++ more

abbrev pub LaterStatements : Type 0
LaterStatements =
    (c : Setting) (l m : List Statement) → FollowedBy l m → names_nested l m ≡ false
    → Initial (frame_stream c (all_given l)) (frame_stream c (all_given (l ++ m)))

-- ---- over texts
-- the statements of a text that is read, and those of them that stand behind its first n bytes
abbrev pub stated : Outcome (List Item) → List Statement
stated (refused r) = []
stated (given i) = ends i []

abbrev pub statements_of : List ℕ → List Statement
statements_of t = stated (items (tokens t) (length t))

abbrev pub added : ℕ → List Statement → List Statement
added n l = keep (λ s. leb n s.at) l

-- The text u is the text t, then white space, then more. Both are answered without refusal, each with a work area of its own
-- (w and w' words) and output buffers of its own (f and d, f' and d' bytes).
pub record Followed (c : Setting) (t u : List ℕ) (w f d w' f' d' : ℕ) : Type 0 where
  pub space : ℕ
  pub is_white : white space ≡ true
  pub more : List ℕ
  pub text : u ≡ t ++ (space ∷ more)
  pub done : number (answer c t w f d) ≡ 0
  pub done_too : number (answer c u w' f' d') ≡ 0

-- no outermost `$c` in the added part names a token that a nested `$v` of the first part names
abbrev pub Quiet : List ℕ → List ℕ → Type 0
Quiet t u = names_nested (statements_of t) (added (length t) (statements_of u)) ≡ false

-- the streams of both, and that the first's frames are an initial part of the second's
pub record Undisturbed (c : Setting) (t u : List ℕ) (w f d w' f' d' : ℕ) : Type 0 where
  pub first : Streams
  pub second : Streams
  pub first_are : outcome c t w f d ≡ given first
  pub second_are : outcome c u w' f' d' ≡ given second
  pub frames : Initial first.frames second.frames

abbrev pub Later : Type 0
Later =
    (c : Setting) (t u : List ℕ) (w f d w' f' d' : ℕ) → Followed c t u w f d w' f' d' → Quiet t u
    → Undisturbed c t u w f d w' f' d'

-- ---- over segments: those of lengths l in the buffer t; and these with further ones of lengths m, laid behind them in u
-- Both are read without refusal, with work areas of w and w' words; their statements are k and j. The added statements are those
-- whose address is in a further segment
abbrev pub LaterSegments : Type 0
LaterSegments =
    (c : Setting) (l m t u : List ℕ) (w w' : ℕ) (k j : List Statement)
    → segment_reading l t w ≡ well_laid (given k) → segment_reading (l ++ m) (t ++ u) w' ≡ well_laid (given j)
    → names_nested k (added (base (length l)) j) ≡ false → Initial (frame_stream c (all_given k)) (frame_stream c (all_given j))
