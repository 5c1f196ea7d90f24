-- The view of a record, from what is asked of it through `FrameRef`; and its uniqueness.
-- `view` is written whole, so what it held before means nothing.
use mathlib.Core.Path.{◌≡◌, sym, ap, ◌∙◌}
use mathlib.Core.List.{List, [], ◌∷◌}
use Prim.Native.Nat.{ℕ}
use lib.ListN.{length}
use Rattle.stream.specs.Fields.{label_at}
use Rattle.stream.specs.Facts.{facts_at}
use Rattle.stream.specs.declared.view.Facts.{Facts}
use Rattle.capi.specs.View.{told, view_number, label_start, Viewed, UniqueView}

pub viewed :
    {f : List ℕ} {p : ℕ} {x : Facts} {m : List ℕ} {a b c d e n : ℕ} → x ≡ facts_at f p → m ≡ label_at f p
    → a ≡ told x.kind → b ≡ label_start x.kind → c ≡ told x.variables → d ≡ told x.mandatory → e ≡ told x.hypotheses
    → n ≡ view_number x.kind → Viewed f p (a ∷ b ∷ length m ∷ c ∷ d ∷ e ∷ []) n
viewed h l ha hb hc hd he hn =
    record { number = hn ∙ ap (λ x. view_number x.kind) h; view = rw (ha, hb, hc, hd, he, h, l) }

pub unique_view : UniqueView
unique_view f p r s a b =
    λ i. record { number = (a.number ∙ sym b.number) i; view = (a.view ∙ sym b.view) i }
