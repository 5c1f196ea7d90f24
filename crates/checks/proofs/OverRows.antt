-- The walks over the atoms of a statement's rows, by the tokens that are done.
-- Assumes nothing.
use mathlib.Core.Path.{◌≡◌, refl, sym, ap, ◌∙◌}
use mathlib.Core.List.{List, [], ◌∷◌, ◌++◌}
use Prim.Native.Nat.{ℕ, ◌+◌, ◌*◌, ◌<◌, ◌≤◌}
use native.Mathlib.Omega.{arith}
use lib.Dec.{ltb}
use lib.ListN.{length, take, drop}
use lib.Seq.{take-length}
use Rattle.paper.specs.Base.{gather}
use Rattle.paper.specs.Tokens.{Token}
use Rattle.paper.specs.Statements.{Statement}
use Rattle.paper.specs.Names.{declarations}
use Rattle.paper.specs.State.{State, view, sense}
use Rattle.paper.specs.Checks.{each, token, symbol_token, disjoint_token, check_expression, check_disjoint, first_index, disjoint_diags}
use Rattle.paper.specs.Records.{diag_record}
use Rattle.area.specs.Cells.{math_cell, word}
use Rattle.reader.specs.Rows.{stmt}
use Rattle.facts.proofs.Sense.{before_alike}
use Rattle.nameck.specs.Atoms.{atoms}
use Rattle.stream.specs.Wrote.{Wrote}
use Rattle.slots.specs.Kept.{Kept}
use Rattle.slots.specs.Slots.{Nests, Floats, Apart}
use Rattle.slots.specs.Marks.{Atoms, Marks, Forgot}
use Rattle.slots.proofs.Kept.{kept_none, kept_then, room_kept, named_kept}
use Rattle.slots.proofs.Slots.{nests_kept}
use Rattle.slots.proofs.Marks.{marks_left, marks_none}
use Rattle.checks.specs.Tokens.{Can, Sees, EapToken, DvToken}
use Rattle.checks.specs.Walks.{Walk, Here, WalkEap, WalkDv, CheckedDv}
use Rattle.checks.proofs.Told.{told_then, told_none}
use Rattle.checks.proofs.Ones.{same_told}
use Rattle.checks.proofs.Each.{each_snoc, firsts_more, firsts_length, firsts_rest}

-- ---- what the words and the text say of the i-th token
pub here_kept : {t w v : List ℕ} {n a b : ℕ} {l : List Statement} {k f c s : ℕ} → 2 ≤ a → Kept n 12 12 a b w v → Here t w n l k f c s → Here t v n l k f c s
here_kept {f = f} g x h =
    record {
      named = named_kept (omega arith) g x h.named;
      facts = h.facts;
      inside = h.inside;
      first = h.first;
      count = h.count;
      at = h.at;
      atomic = λ j m. rw (x.maths (f + j)) (h.atomic j m);
    }

pub seen_here : {t w : List ℕ} {n : ℕ} {l : List Statement} {k f c s i a : ℕ} (x : State) → Here t w n l k f c s → declarations (stmt l k) ≡ [] → Nests w n l x.nested s
    → i < c → a ≡ word w (math_cell n (f + i)) → Sees t w n l x a s (token (stmt l k) i)
seen_here {l = l} {k} {s = s} {i} x h q d m e =
    record {
      named = h.named;
      atomic = rw e (h.atomic i m);
      alike = λ g p.
          before_alike h.facts k i h.inside (omega (arith, h.count)) q (token (stmt l k) i).bytes p
          ∙ ap (λ (o : ℕ). ltb g.at o) (sym h.at);
      nests = d;
    }

pub can_token : {w v : List ℕ} {n a b at p f c i : ℕ} → Walk w n at f c → Kept n 12 12 a b w v → p ≤ at + 36 * i → i < c → {r : ℕ} → r ≡ word v (math_cell n (f + i)) → Can v n p r
can_token {f = f} {i = i} h x g m e =
    record {
      room = room_kept x h.room;
      atom = rw (e, x.maths (f + i)) (h.atoms.atom i m);
      place = omega (arith, h.place, h.atoms.rows, h.room.small);
    }

pub atoms_kept : {w v : List ℕ} {n a b f c : ℕ} → Kept n 12 12 a b w v → Atoms w n f c → Atoms v n f c
atoms_kept {f = f} x h = record { rows = h.rows; atom = λ j m. rw (x.maths (f + j)) (h.atom j m) }

-- ---- `$e`, `$a`, `$p`
pub record InvEap (w out₀ out : List ℕ) (n at p f c s i : ℕ) : Type 0 where
  pub few : p ≤ at + 18 * i
  pub upto : i ≤ c
  pub len : length out ≡ length out₀
  pub sim :
      {t : List ℕ} {l : List Statement} (x : State) (j k : ℕ) → Here t w n l k f c s → declarations (stmt l k) ≡ []
      → Nests w n l x.nested s → Floats w n l x.hyps j s
      → Wrote out₀ out at p (gather diag_record (each (symbol_token l (view x s) s) (take i (stmt l k).math) 0))

pub eap_start : {w out : List ℕ} {n at f c s : ℕ} → InvEap w out out n at at f c s 0
unfolding each
eap_start {out = out} {at = at} =
    record { few = omega arith; upto = omega arith; len = refl; sim = λ x j k h q d e. told_none out at }

pub eap_step : {w out₀ out out' : List ℕ} {n at p q f c s i a : ℕ} → i < c → a ≡ word w (math_cell n (f + i)) → EapToken w out out' n p q a s i → length out' ≡ length out
    → InvEap w out₀ out n at p f c s i → InvEap w out₀ out' n at q f c s (i + 1)
eap_step {s = s} {i} m e y len h =
    record {
      few = omega (arith, h.few, y.few);
      upto = omega arith;
      len = len ∙ h.len;
      sim = λ {t} {l} x j k g q d o.
          let ms = (stmt l k).math in
          let fn = symbol_token l (view x s) s in
          let z : 0 + length (take i ms) ≡ i = omega (arith, firsts_length ms i (omega (arith, g.count))) in
          let r : each fn (take (i + 1) ms) 0 ≡ each fn (take i ms) 0 ++ fn i (token (stmt l k) i) =
          ap (λ (b : List Token). each fn b 0) (firsts_more ms i (omega (arith, g.count)))
          ∙ each_snoc fn (take i ms) (token (stmt l k) i) 0
          ∙ ap (λ (b : ℕ). each fn (take i ms) 0 ++ fn b (token (stmt l k) i)) z in
          same_told (told_then (each fn (take i ms) 0) (fn i (token (stmt l k) i)) (h.sim x j k g q d o) (y.sim j (seen_here x g q d m e) o)) r;
    }

pub all_done : {c i : ℕ} (m : List Token) → c ≡ length m → c ≤ i → i ≤ c → take i m ≡ m
all_done {c} {i} m e g h =
    let z : i ≡ length m = omega arith in
    ap (λ (b : ℕ). take b m) z ∙ take-length m

pub eap_end : {w out₀ out : List ℕ} {n at p f c s i : ℕ} → c ≤ i → InvEap w out₀ out n at p f c s i → WalkEap w out₀ out n at p f c s
unfolding check_expression
eap_end {s = s} {i} g h =
    record {
      few = omega (arith, h.few, h.upto);
      sim = λ {t} {l} x j k y q d o.
          same_told (h.sim x j k y q d o)
          (ap (λ (b : ℕ). each (symbol_token l (view x s) b) (stmt l k).math 0) (sym y.at)
          ∙ ap (λ (b : List Token). each (symbol_token l (view x s) s) b 0) (sym (all_done (stmt l k).math y.count g h.upto)));
    }

-- ---- `$d`
pub record InvDv (w v out₀ out : List ℕ) (n at p f c s i : ℕ) : Type 0 where
  pub kept : Kept n 12 12 6 7 w v
  pub few : p ≤ at + 18 * i
  pub upto : i ≤ c
  pub len : length out ≡ length out₀
  pub sim :
      {t : List ℕ} {l : List Statement} (x : State) (k : ℕ) → Here t w n l k f c s → declarations (stmt l k) ≡ [] → Apart l
      → Nests w n l x.nested s → Marks w n l []
      → Marks v n l (take i (stmt l k).math)
      × Wrote out₀ out at p (gather diag_record (each (disjoint_token l (view x s) (stmt l k)) (take i (stmt l k).math) 0))

pub dv_start : {w out : List ℕ} {n at f c s : ℕ} → InvDv w w out out n at at f c s 0
unfolding each
dv_start {w} {out} {n} {at} =
    record {
      kept = kept_none n 12 12 6 7 w;
      few = omega arith;
      upto = omega arith;
      len = refl;
      sim = λ x k h q u d m. (m, told_none out at);
    }

pub dv_step : {w v u out₀ out out' : List ℕ} {n at p q f c s i a : ℕ} → i < c → a ≡ word v (math_cell n (f + i)) → DvToken v u out out' n p q a s i → length out' ≡ length out
    → InvDv w v out₀ out n at p f c s i → InvDv w u out₀ out' n at q f c s (i + 1)
dv_step {n = n} {s = s} {i} m e y len h =
    record {
      kept = kept_then h.kept y.kept;
      few = omega (arith, h.few, y.few);
      upto = omega arith;
      len = len ∙ h.len;
      sim = λ {t} {l} x k g q u d mk.
          let ms = (stmt l k).math in
          let yt = token (stmt l k) i in
          let fn = disjoint_token l (view x s) (stmt l k) in
          let lt : i < length ms = omega (arith, g.count) in
          let fl = firsts_length ms i (omega arith) in
          let z : 0 + length (take i ms) ≡ i = omega (arith, fl) in
          let g' = here_kept (omega arith) h.kept g in
          let d' = nests_kept {l = l} {st = x.nested} (omega (arith, g.named.few)) (omega arith) h.kept d in
          let so = h.sim x k g q u d mk in
          let o = y.sim (drop (i + 1) ms) (seen_here x g' q d' m e) u so.0 fl in
          let r : each fn (take (i + 1) ms) 0 ≡ each fn (take i ms) 0 ++ fn i yt =
          ap (λ (b : List Token). each fn b 0) (firsts_more ms i lt)
          ∙ each_snoc fn (take i ms) yt 0
          ∙ ap (λ (b : ℕ). each fn (take i ms) 0 ++ fn b yt) z in
          let w : fn i yt ≡ disjoint_diags (sense l (view x s) yt) (first_index (take i ms ++ (yt ∷ drop (i + 1) ms)) yt.bytes) s i =
          ap (λ (b : List Token). disjoint_diags (sense l (view x s) yt) (first_index b yt.bytes) (stmt l k).at i) (sym (firsts_rest ms i lt))
          ∙ ap (λ (b : ℕ). disjoint_diags (sense l (view x s) yt) (first_index (take i ms ++ (yt ∷ drop (i + 1) ms)) yt.bytes) b i) (sym g.at) in
          (rw (firsts_more ms i lt) o.marks, same_told (told_then (each fn (take i ms) 0) (fn i yt) so.1 (same_told o.wrote w)) r);
    }

pub dv_end : {w v out₀ out : List ℕ} {n at p f c s i : ℕ} → c ≤ i → InvDv w v out₀ out n at p f c s i → WalkDv w v out₀ out n at p f c s
unfolding check_disjoint
dv_end {s = s} {i} g h =
    record {
      kept = h.kept;
      few = omega (arith, h.few, h.upto);
      sim = λ {t} {l} x k y q u d m.
          let o = h.sim x k y q u d m in
          let e = all_done (stmt l k).math y.count g h.upto in
          record {
            marks = rw e at o.0;
            wrote = same_told o.1 (ap (λ (b : List Token). each (disjoint_token l (view x s) (stmt l k)) b 0) (sym e));
          };
    }

-- the marks are taken away
pub dv_forgot : {w v u out out' : List ℕ} {n at p f c s : ℕ} → WalkDv w v out out' n at p f c s → Forgot v u n f c → CheckedDv w u out out' n at p f c s
dv_forgot {n = n} {f = f} h y =
    record {
      kept = kept_then h.kept y.kept;
      few = h.few;
      sim = λ {t} {l} x k g q ap' d m.
          let o = h.sim x k g q ap' d m in
          let g' = here_kept (omega arith) h.kept g in
          let left = marks_left f o.marks (λ j b. g'.atomic j (omega (arith, g'.count))) ap' in
          (marks_none (y.clean (length (atoms l)) (omega (arith, g.named.few)) (rw (← g.count) at left)), o.wrote);
    }
