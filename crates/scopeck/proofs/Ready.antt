-- What the words and the text say of the statement in hand: its row, its tokens, and that it can be walked.
-- Assumes nothing.
use mathlib.Core.Path.{◌≡◌, sym, ap, ◌∙◌}
use mathlib.Core.Bool.{true}
use mathlib.Core.List.{List, map}
use Prim.Native.Nat.{ℕ, ◌+◌, ◌-◌, ◌*◌, ◌<◌, ◌≤◌, ◌^◌}
use native.Mathlib.Omega.{arith}
use lib.ListN.{length, get_or, length-map, length-take, length-drop}
use Rattle.paper.specs.Statements.{labelled, Statement}
use Rattle.paper.specs.Base.{all}
use Rattle.paper.specs.Bytes.{math_byte}
use Rattle.paper.specs.Tokens.{Token, math_token}
use Rattle.paper.specs.Comments.{bracketed}
use Rattle.paper.specs.Checks.{no_token, token}
use Rattle.paper.proofs.Tests.{split, clash}
use Rattle.paper.proofs.Allowed.{bracket_math}
use Rattle.area.specs.Cells.{statement_cell, math_cell, word}
use Rattle.reader.specs.Rows.{kind_number, stmt}
use Rattle.nameck.specs.Atoms.{atom_of}
use Rattle.nameck.proofs.Atoms.{label_in, token_in, atom_below, name_of_atom, atom_of_name}
use Rattle.nameck.proofs.Kept.{math_row}
use Rattle.token.specs.Words.{move}
use Rattle.slots.specs.Slots.{Atomic, Apart}
use Rattle.checks.specs.Tokens.{Can, HasFloat}
use Rattle.checks.specs.Visible.{visible_from, clean, Calm}
use Rattle.checks.specs.Walks.{Walk, HasFloats, LastTwo, Here, WalkPart, HerePart}
use Rattle.checks.proofs.Comments.{math_part, all_each}
use Rattle.checks.proofs.OverPart.{map_at}
use Rattle.scopeck.specs.declared.Scope.{Scope}
use Rattle.scopeck.specs.declared.Row.{Row}
use Rattle.scopeck.specs.Scope.{row_of, part_of, Ready}
use Rattle.scopeck.proofs.Numbers.{kind_f, kind_large}

pub apart_of : (l : List Statement) → Apart l
apart_of l =
    record { apart = λ a b h k e. sym (atom_of_name l a h) ∙ ap (atom_of l) e ∙ atom_of_name l b k }

-- ---- the statement in hand
module _ {t w : List ℕ} {n : ℕ} {l : List Statement} {st : Scope} {k : ℕ} (b : Ready t w n l st k) where
  pub kind_of : {c : ℕ} → word w (statement_cell k 0) ≡ c → kind_number (stmt l k).kind ≡ c
  kind_of e = sym (b.named.shape.kind k b.inside) ∙ e

  pub row_room : 3 * k + 3 ≤ n
  row_room = omega (arith, b.inside, b.named.shape.few)

  pub small_place : st.diags < 2 ^ 58
  small_place = omega (arith, b.stands.place, b.inside, b.named.shape.few, b.room.small)

  offset : word w (statement_cell k 1) ≡ (stmt l k).at
  offset = b.named.shape.at k b.inside

  counted : word w (statement_cell k 6) ≡ length (stmt l k).math
  counted = b.named.shape.count k b.inside

  atom_at : (j : ℕ) → j < length (stmt l k).math → Atomic l (word w (math_cell n (word w (statement_cell k 5) + j))) (token (stmt l k) j).bytes
  atom_at j h =
      let i = token_in l k j b.inside h in
      rw (b.named.shape.first k b.inside, b.named.math k j b.inside h)
      (record {
        below = atom_below l (token (stmt l k) j).bytes i;
        name = name_of_atom l (token (stmt l k) j).bytes i;
      })

  pub label_atomic : labelled (stmt l k).kind ≡ true → Atomic l (word w (statement_cell k 2)) (stmt l k).label
  label_atomic e =
      let i = label_in l k b.inside e in
      rw (b.named.label k b.inside e)
      (record { below = atom_below l (stmt l k).label i; name = name_of_atom l (stmt l k).label i })

  pub below_n : {a : ℕ} {x : List ℕ} → Atomic l a x → a < n
  below_n y = omega (arith, y.below, b.named.few)

  pub float_room : {a : ℕ} {x : List ℕ} → Atomic l a x → HasFloat w n a
  float_room {a} y = omega (arith, b.stands.floats.rows a y.below, b.inside, b.named.shape.few)

  rows_fit : word w (statement_cell k 5) + length (stmt l k).math ≤ n
  rows_fit =
      let s = (b.facts.shaped k b.inside).some in
      omega (
        arith,
        b.named.shape.first k b.inside,
        s,
        math_row b.named.shape k (length (stmt l k).math - 1) b.inside (omega (arith, s)),
      )

  module _ {r : Row} (e : r ≡ row_of w k) where
    pub here_of : Here t w n l k r.first r.count r.at.0
    here_of =
        rw e
        (record {
          named = b.named;
          facts = b.facts;
          inside = b.inside;
          first = b.named.shape.first k b.inside;
          count = counted;
          at = offset;
          atomic = λ j h. atom_at j (omega (arith, counted));
        })

    pub walk_of : Walk w n st.diags r.first r.count
    walk_of =
        rw e
        (record {
          room = b.room;
          atoms = record { rows = omega (arith, counted, rows_fit); atom = λ j h. below_n (atom_at j (omega (arith, counted))) };
          place = small_place;
        })

    pub floats_of : HasFloats w n r.first r.count
    floats_of = rw e (λ j h. float_room (atom_at j (omega (arith, counted))))

    pub can_label : labelled (stmt l k).kind ≡ true → Can w n st.diags r.label.0
    can_label h = rw e (record { room = b.room; atom = below_n (label_atomic h); place = omega (arith, small_place) })

    row_from : r.from ≡ word w (statement_cell k 3)
    row_from = ap (λ (y : Row). y.from) e

    pub row_end : r.end ≡ (stmt l k).end
    row_end = ap (λ (y : Row). y.end) e ∙ b.named.shape.end k b.inside

    -- ---- the part of the text
    module _ {q : List ℕ} (p : q ≡ part_of t w k) where
      part_math : (stmt l k).math ≡ map (move r.from) (visible_from q 0)
      unfolding part_of
      part_math = rw (p, row_from) (sym (b.named.shape.part k b.inside) ∙ math_part _ (word w (statement_cell k 3)))

      part_count : length (visible_from q 0) ≡ length (stmt l k).math
      part_count = sym (ap length part_math ∙ length-map (visible_from q 0) (move r.from))

      -- math tokens have no `$`
      part_plain : (i : ℕ) → i < length (visible_from q 0) → clean (get_or (visible_from q 0) i no_token) ≡ true
      unfolding math_token
      part_plain i h =
          let x = get_or (visible_from q 0) i no_token in
          let e : token (stmt l k) i ≡ move r.from x = ap (λ (m : List Token). get_or m i no_token) part_math ∙ map_at r.from (visible_from q 0) i h in
          let m : all math_byte x.bytes ≡ true = rw e at ((b.facts.shaped k b.inside).bytes i (omega (arith, part_count))) in
          split (bracketed x.bytes) (λ z. absurd (clash (sym m ∙ bracket_math x z))) (λ z. rw z)

      pub part_calm : Calm q
      part_calm = all_each clean (visible_from q 0) part_plain

      -- as many as the row says
      pub part_counted : length (visible_from q 0) ≡ r.count
      part_counted = part_count ∙ sym here_of.count

      pub walk_eap : Walk w n st.diags r.first r.count × HasFloats w n r.first r.count × (length (visible_from q 0) ≡ r.count) × Calm q
      walk_eap = (walk_of, floats_of, part_counted, part_calm)

      pub here_part : HerePart t w q n l k r.first r.from r.at.0
      here_part =
          let h = here_of in
          record {
            here = record {
              named = h.named;
              facts = h.facts;
              inside = h.inside;
              first = h.first;
              count = part_count;
              at = h.at;
              atomic = λ j g. h.atomic j (omega (arith, h.count, part_count));
            };
            math = part_math;
          }

      part_short : r.from + length q ≤ 16777216
      unfolding part_of
      part_short =
          let a = b.named.shape.from_to k b.inside in
          let c = b.named.shape.within k b.inside in
          rw (p, row_from) (simp (length-take, length-drop) (omega (arith, a, c, b.named.shape.short)))

      pub walk_part : WalkPart w q n st.diags r.first r.from
      walk_part =
          let h = walk_of in
          let g = here_of in
          record {
            walk = record {
              room = h.room;
              atoms = record {
                rows = omega (arith, h.atoms.rows, g.count, part_count);
                atom = λ j m. h.atoms.atom j (omega (arith, g.count, part_count));
              };
              place = h.place;
            };
            short = part_short;
            calm = part_calm;
          }

    -- ---- a statement that bears a label
    pub can_labelled : 4 ≤ word w (statement_cell k 0) → Can w n st.diags r.label.0
    can_labelled h = can_label (kind_large (stmt l k).kind (omega (arith, h, b.named.shape.kind k b.inside)))

    -- ---- the two tokens of a `$f`
    module _ (kw : word w (statement_cell k 0) ≡ 4) where
      first_of : {c : ℕ} → c ≡ word w (math_cell n r.first) → Atomic l c (token (stmt l k) 0).bytes
      first_of ec =
          let z : r.first + 0 ≡ r.first = omega arith in
          let two = (b.facts.shaped k b.inside).two (kind_f (stmt l k).kind (kind_of kw)) in
          rw (ec ∙ ap (λ (j : ℕ). word w (math_cell n j)) (sym z)) (here_of.atomic 0 (omega (arith, here_of.count, two)))

      second_of : {a : ℕ} → a ≡ word w (math_cell n (r.first + 1)) → Atomic l a (token (stmt l k) 1).bytes
      second_of ea =
          let two = (b.facts.shaped k b.inside).two (kind_f (stmt l k).kind (kind_of kw)) in
          rw ea (here_of.atomic 1 (omega (arith, here_of.count, two)))

      -- the last two of them
      pub two_of : {q : List ℕ} {c a : ℕ} → q ≡ part_of t w k → LastTwo w n r.first (length (visible_from q 0)) c a
          → (c ≡ word w (math_cell n r.first)) × (a ≡ word w (math_cell n (r.first + 1)))
      two_of {q} {c} {a} p h =
          let two = (b.facts.shaped k b.inside).two (kind_f (stmt l k).kind (kind_of kw)) in
          let m : length (visible_from q 0) ≡ 2 = part_counted p ∙ here_of.count ∙ two in
          let g : LastTwo w n r.first 2 c a = rw m at h in
          let z : r.first + 0 ≡ r.first = omega arith in
          (g.typecode (omega arith) ∙ ap (λ (j : ℕ). word w (math_cell n j)) z, g.variable (omega arith))

      pub can_float : {c a : ℕ} → c ≡ word w (math_cell n r.first) → a ≡ word w (math_cell n (r.first + 1)) → Can w n st.diags c × Can w n st.diags a × HasFloat w n a
      can_float ec ea = (
        record { room = b.room; atom = below_n (first_of ec); place = omega (arith, small_place) },
        record { room = b.room; atom = below_n (second_of ea); place = omega (arith, small_place) },
        float_room (second_of ea),
      )
