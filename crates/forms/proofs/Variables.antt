-- The walk over the variables of a frame that writes their names.
-- By the variables done so far.
use mathlib.Core.Path.{◌≡◌, sym, ap, ◌∙◌}
use mathlib.Core.List.{List, [], ◌++◌}
use Prim.Native.Nat.{ℕ, ◌+◌, ◌*◌, ◌<◌, ◌≤◌}
use native.Mathlib.Omega.{arith}
use lib.ListN.{length, get_or, take}
use lib.Seq.{get_or-take, length-take-le}
use Rattle.paper.specs.Base.{gather, table}
use Rattle.paper.specs.Statements.{Statement}
use Rattle.paper.specs.Records.{string}
use Rattle.paper.proofs.Made.{gather_table, table_same, table_list}
use Rattle.area.specs.Cells.{bucket_cell, word}
use Rattle.stream.specs.Wrote.{Wrote}
use Rattle.stream.proofs.Wrote.{wrote_none, wrote_then, wrote_as}
use Rattle.nameck.specs.Atoms.{atoms, name_of}
use Rattle.nameck.proofs.Atoms.{atom_below, name_of_atom}
use Rattle.forms.specs.Words.{name_bytes, names_of, VarWords}
use Rattle.forms.specs.Ready.{Ready}
use Rattle.forms.specs.Puts.{PutNames}
use Rattle.forms.proofs.Read.{vars_few, name_words, name_is}

-- ---- what the buckets hold
module _ {t w : List ℕ} {n : ℕ} {l : List Statement} {vs : List (List ℕ)} (h : Ready t w n l vs) where
  bucket_in : (j : ℕ) → j < length vs → word w (bucket_cell n j) < length (atoms l)
  bucket_in j k =
      let e = h.holds.numbered.entry j k in rw e.bucket (atom_below l (get_or vs j []) e.occurs)

  bucket_name : (j : ℕ) → j < length vs → name_bytes t w n (word w (bucket_cell n j)) ≡ get_or vs j []
  bucket_name j k =
      let e = h.holds.numbered.entry j k in
      name_is h (word w (bucket_cell n j)) (bucket_in j k)
      ∙ ap (name_of l) e.bucket
      ∙ name_of_atom l (get_or vs j []) e.occurs

  pub var_words : (k : ℕ) → k ≤ length vs → VarWords t w n k
  var_words k f =
      record {
        room = h.holds.named.shape.room;
        small = h.holds.small;
        few = omega (arith, f, vars_few h, h.holds.named.few);
        names = λ j i. name_words h (word w (bucket_cell n j)) (bucket_in j (omega arith));
      }

  names_first : (k : ℕ) → k ≤ length vs → names_of t w n k ≡ take k vs
  unfolding names_of
  names_first k f =
      table_same (λ j. name_bytes t w n (word w (bucket_cell n j))) (λ j. get_or (take k vs) j []) k
      (λ j i. bucket_name j (omega arith) ∙ sym (get_or-take k vs j [] i))
      ∙ ap (table (λ j. get_or (take k vs) j [])) (sym (length-take-le k vs f))
      ∙ table_list (take k vs) []

-- ---- the walk
pub record InvNames (t w b₀ b : List ℕ) (n at a k : ℕ) : Type 0 where
  pub few : a ≤ at + 16777220 * k
  pub wrote : Wrote b₀ b at a (gather string (names_of t w n k))

names_more : (t w : List ℕ) (n k : ℕ) → gather string (names_of t w n (k + 1)) ≡ gather string (names_of t w n k) ++ string (name_bytes t w n (word w (bucket_cell n k)))
unfolding names_of
names_more t w n k = gather_table string (λ j. name_bytes t w n (word w (bucket_cell n j))) k

pub names_begin : (t w b : List ℕ) (n at : ℕ) → InvNames t w b b n at at 0
unfolding names_of table gather
names_begin t w b n at = record { few = omega arith; wrote = wrote_none b at }

pub names_step : {t w b₀ b b' : List ℕ} {n at a r k x : ℕ} → InvNames t w b₀ b n at a k → x ≡ word w (bucket_cell n k)
    → (r ≤ a + 16777220) × Wrote b b' a r (string (name_bytes t w n x)) → InvNames t w b₀ b' n at r (k + 1)
names_step {t} {w} {n = n} {k = k} h e x =
    record {
      few = omega (arith, h.few, x.0);
      wrote = wrote_as (wrote_then h.wrote x.1) (names_more t w n k ∙ ap (λ y. gather string (names_of t w n k) ++ string (name_bytes t w n y)) (sym e));
    }

pub names_end : {t w b₀ b : List ℕ} {n vars at a k : ℕ} → InvNames t w b₀ b n at a k → k ≡ vars → PutNames t w n vars b₀ b at a
names_end {t} {w} {n = n} {vars = vars} h e =
    record {
      few = omega (arith, h.few, e);
      sim = λ s vs r q. wrote_as h.wrote (ap (gather string) (sym (names_first r vars q) ∙ ap (names_of t w n) (sym e)));
    }
