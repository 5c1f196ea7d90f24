-- What holds of the statements of every text that is read.
-- Of the numbers 1 to 6 only 1, 5 and 6 matter: the text is short, every token was allowed, and nothing is left open.
use mathlib.Core.Path.{◌≡◌}
use mathlib.Core.List.{List, []}
use mathlib.Core.Option.{Option, none, some}
use Prim.Native.Nat.{ℕ, zero, suc, ◌≤◌}
use native.Mathlib.Nat.{le_refl}
use native.Mathlib.Omega.{arith}
use lib.Dec.{ltb}
use lib.ListN.{length}
use borrow.Author.Tests.{ltb-false}
use Rattle.paper.specs.Tokens.{tokens, bad_from}
use Rattle.paper.specs.Comments.{Place, outside, inside, after}
use Rattle.paper.specs.Statements.{Statement, none_end, Item, ends}
use Rattle.paper.specs.Reader.{start, Step, go, Outcome, refused, given, ending, items, with_ends, printed, words, reading}
use Rattle.paper.specs.declared.Refusal.{Refusal}
use Rattle.paper.proofs.Tests.{split}
use Rattle.facts.specs.Facts.{Facts}
use Rattle.facts.proofs.Rise.{tokens_rise, visible_rise, visible_few}
use Rattle.facts.proofs.Grammar.{Items, items_none, items_to, held_start, held_name, held_math, held_proof, total, Inv, going, halted, reads}
use Rattle.facts.proofs.Ends.{all_apart, all_shaped}
use Rattle.facts.proofs.Counts.{counted, few}

-- ---- the items behind the statements, and the tokens that they took
pub record Behind (most b : ℕ) (l : List Statement) : Type 0 where
  pub found : List Item
  pub stand : Items 0 b found
  pub fit : total found ≤ most
  pub same : ends found [] ≡ l

no_refusal : {P : Type 0} {l : List Statement} {r : Refusal} → refused r ≡ given l → P
no_refusal e = let y : ◌≡◌ {A = ℕ} 0 1 = cc in absurd (omega arith)

behind :
    {most b : ℕ} {z : Step} {l : List Statement} (n : ℕ)
    → Inv most b 0 z → (p : Place) → with_ends (ending z p n) ≡ given l → Behind most b l
behind n halted p e = no_refusal e
behind n (going x h q) (inside o) e = no_refusal e
behind n (going {d = zero} {i = i} x (held_start h) q) outside e =
    record { found = i; stand = items_to h x; fit = omega arith; same = cc }
behind n (going {d = suc d} x (held_start h) q) outside e = no_refusal e
behind n (going x (held_name g s r f) q) outside e = no_refusal e
behind n (going x (held_math g r) q) outside e = no_refusal e
behind n (going x (held_proof g r f) q) outside e = no_refusal e

read_items :
    (t : List ℕ) {l : List Statement}
    → with_ends (items (tokens t) (length t)) ≡ given l → Behind (length (tokens t)) (length t) l
unfolding items total
read_items t e =
    behind (length t)
    (reads (visible_rise outside (tokens_rise t)) (go start 0 [])
    (going (items_none (le_refl 0)) (held_start (le_refl 0)) (omega (arith, visible_few (tokens t) outside))))
    (after (tokens t) outside) e

-- ---- the facts
read_facts : {t : List ℕ} {l : List Statement} → length t ≤ 16777216 → Behind (length (tokens t)) (length t) l → Facts t l
read_facts {t} {l} short h =
    let z : length t ≤ none_end = omega arith in
    rw (← h.same)
    (record {
      short = short;
      shaped = all_shaped t short (le_refl _) h.stand;
      order = λ j k g m. (all_apart z h.stand j k g m).order;
      apart = λ j k i g m. (all_apart z h.stand j k g m).apart i;
      inner = λ j k g m. (all_apart z h.stand j k g m).inner;
      few = omega (arith, few h.stand, h.fit);
      counted = omega (arith, counted h.found, h.fit);
    })

printed_given : {l : List Statement} {r : Outcome (List Statement)} (o : Option ℕ) → printed o r ≡ given l → r ≡ given l
printed_given none e = e
printed_given (some o) e = no_refusal e

pub facts : {t : List ℕ} {l : List Statement} (w : ℕ) → reading t w ≡ given l → Facts t l
unfolding reading
facts {t} {l} w e =
    split (ltb 16777216 (length t))
    (λ p. no_refusal (rw p at e))
    (λ p. split (ltb w (words t))
    (λ q. no_refusal (rw (p, q) at e))
    (λ q. read_facts (ltb-false 16777216 (length t) p) (read_items t (printed_given (bad_from t 0) (rw (p, q) at e)))))
