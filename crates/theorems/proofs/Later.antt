-- A13, proved: the items of the first text are a front part of the second's, with equal ends; the rest is said of statements.
-- With segments in place of one text, `Continues` is what is to be shown of them; nothing behind it looks at bytes.
use mathlib.Core.Path.{◌≡◌, refl, sym, ap, ◌∙◌}
use mathlib.Core.Bool.{true, false}
use mathlib.Core.List.{List, [], ◌∷◌, ◌++◌}
use Prim.Native.Nat.{ℕ, suc, ◌+◌, ◌<◌, ◌≤◌}
use native.Mathlib.Omega.{arith}
use lib.Dec.{leb}
use lib.ListN.{length}
use borrow.Author.Tests.{le-leb, lt-leb}
use Rattle.paper.specs.Bytes.{white}
use Rattle.paper.specs.Tokens.{Token, toks, tokens}
use Rattle.paper.specs.Comments.{outside, visible}
use Rattle.paper.specs.Statements.{Statement, Item, ends}
use Rattle.paper.specs.Reader.{start, go, many}
use Rattle.paper.specs.Give.{all_given}
use Rattle.paper.specs.Records.{frame_stream}
use Rattle.paper.specs.declared.Setting.{Setting}
use Rattle.paper.proofs.Lists.{keep_append}
use Rattle.paper.proofs.Alls.{All, all_none, all_map, keep_all, keep_none}
use Rattle.theorems.specs.Later.{names_nested, FollowedBy, Initial, added, Later}
use Rattle.theorems.proofs.Tokens.{toks_white}
use Rattle.theorems.proofs.Comments.{visible_append}
use Rattle.theorems.proofs.Reader.{Reads, many_append, many_reads, reads_level}
use Rattle.theorems.proofs.Stands.{TokenAt, reads_at, reads_math}
use Rattle.theorems.proofs.Ends.{ends_append, ends_all, ends_at, neutral}
use Rattle.theorems.proofs.Texts.{Read, items_read, read_reads, shown_at}
use Rattle.theorems.proofs.Refusals.{passed, answered, number_zero}
use Rattle.theorems.proofs.Added.{later_statements}

-- ---- items k that are the items i and more, all of which stand behind place n and close what they open
pub record Continues (n : ℕ) (i k : List Item) : Type 0 where
  pub first_tokens : List Token
  pub first_reads : Reads first_tokens start 0 i start 0
  pub first_at : All (TokenAt (λ a. a < n)) first_tokens
  pub more_tokens : List Token
  pub more : List Item
  pub more_reads : Reads more_tokens start 0 more start 0
  pub more_at : All (TokenAt (λ a. n ≤ a)) more_tokens
  pub whole : k ≡ i ++ more

-- ---- reading: a text, then white space, then more
joined : (t : List ℕ) (b : ℕ) (m : List ℕ) (i k : List Item) → white b ≡ true → Read (tokens t) i
    → Read (tokens (t ++ (b ∷ m))) k → Continues (length t) i k
unfolding tokens
joined t b m i k e r s =
    let x = toks t 0 in
    let y = toks m (suc (0 + length t)) in
    let c : visible (toks (t ++ (b ∷ m)) 0) outside ≡ visible x outside ++ visible y outside =
    ap (λ (l : List Token). visible l outside) (toks_white t b m 0 e) ∙ (visible_append x y outside ∙ rw r.out) in
    let d : many (visible y outside) (go start 0 i) ≡ go start 0 k =
    sym (many_append (visible x outside) (visible y outside) (go start 0 []) ∙ rw r.all) ∙ (ap (λ (l : List Token). many l (go start 0 [])) (sym c) ∙ s.all) in
    let z = many_reads (visible y outside) start 0 i start 0 k d in
    record {
      first_tokens = visible x outside;
      first_reads = read_reads r;
      first_at = shown_at t 0 (λ a. a < length t) (λ a g h. omega arith) refl refl;
      more_tokens = visible y outside;
      more = z.added;
      more_reads = z.reads;
      more_at = shown_at m (suc (0 + length t)) (λ a. length t ≤ a) (λ a g h. omega arith) refl refl;
      whole = z.sum;
    }

-- ---- the statements
module _ {n : ℕ} {i k : List Item} (j : Continues n i k) where
  ends_joined : ends k [] ≡ ends i [] ++ ends j.more []
  ends_joined =
      ap (λ (x : List Item). ends x []) j.whole
      ∙ (ends_append i j.more [] ∙ rw (neutral [] (reads_level j.more_reads)))

  followed_by : FollowedBy (ends i []) (ends j.more [])
  followed_by =
      record {
        between = n;
        before = ends_all (λ s q h. h) [] (reads_math (TokenAt (λ a. a < n)) j.first_reads j.first_at all_none);
        after = ends_all (λ s q h. h) [] (reads_math (TokenAt (λ a. n ≤ a)) j.more_reads j.more_at all_none);
      }

  added_are : added n (ends k []) ≡ ends j.more []
  added_are =
      let a = ends_at (λ a. a < n) [] (reads_at (λ a. a < n) j.first_reads j.first_at (λ z p. p)) in
      let b = ends_at (λ a. n ≤ a) [] (reads_at (λ a. n ≤ a) j.more_reads j.more_at (λ z p. p)) in
      ap (added n) ends_joined
      ∙ (keep_append (λ s. leb n s.at) (ends i []) (ends j.more [])
      ∙ rw (
        keep_none (λ (s : Statement). leb n s.at) (all_map (λ s h. lt-leb n s.at h) a),
        keep_all (λ (s : Statement). leb n s.at) (all_map (λ s h. le-leb n s.at h) b),
      ))

  pub frames_joined : (c : Setting) → names_nested (ends i []) (added n (ends k [])) ≡ false
      → Initial (frame_stream c (all_given (ends i []))) (frame_stream c (all_given (ends k [])))
  frames_joined c q =
      rw ends_joined (later_statements c (ends i []) (ends j.more []) followed_by (ap (names_nested (ends i [])) (sym added_are) ∙ q))

-- ---- the theorem
pub later : Later
later c t u w f d w' f' d' h q =
    let a = number_zero c t w f d h.done in
    let b = number_zero c u w' f' d' h.done_too in
    let x = answered c t w f d a.0 a.1 in
    let y = answered c u w' f' d' b.0 b.1 in
    let r = passed t w x.statements x.passes in
    let s = passed u w' y.statements y.passes in
    let j =
    joined t h.space h.more r.read s.read h.is_white (items_read (tokens t) (length t) r.read r.reads)
    (rw (← h.text) (items_read (tokens u) (length u) s.read s.reads)) in
    record {
      first = a.0;
      second = b.0;
      first_are = a.1;
      second_are = b.1;
      frames =
          rw (← x.are, ← y.are, r.statements, s.statements)
          (frames_joined j c (rw (r.reads, s.reads) at q));
    }
