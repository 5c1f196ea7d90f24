-- The promises to other languages, from those of `catalogue`: the numbers of an answer that is the definition's.
-- `answer` is written whole, so what it held before means nothing.
use mathlib.Core.Path.{◌≡◌, ap, ◌∙◌}
use mathlib.Core.List.{List}
use Prim.Native.Nat.{ℕ}
use Rattle.paper.specs.Answer.{Answer, number}
use Rattle.paper.specs.Lookup.{Found, found_number, found_place}
use Rattle.paper.specs.Convert.{Converted, converted_number}
use Rattle.paper.specs.declared.Setting.{Setting}
use Rattle.layout.specs.Renewal.{Converts}
use Rattle.catalogue.specs.Promise.{Measures, Writes, Looks}
use Rattle.capi.specs.Promise.{setting_of, words, converted_words, Gauged, Written, Looked, Changed}

-- ---- the measure
pub gauged : {u : ℕ} {c : Setting} {t w w' a' : List ℕ} {m : Answer} {n : ℕ} → Measures c t w w' m → c ≡ setting_of u → (n ≡ number m) × (a' ≡ words m)
    → Gauged u t w w' a' n
gauged {u} {c} {t} {w} {w'} {a'} {m} h q e =
    let g : Measures (setting_of u) t w w' m = rw q at h in
    record {
      told = e.0 ∙ ap number g.measured;
      answer = e.1 ∙ ap words g.measured;
      work = g.work;
    }

-- ---- the writer
pub written : {u : ℕ} {c : Setting} {t w w' f f' d d' a' : List ℕ} {r : Answer} {n : ℕ} → Writes c t w w' f f' d d' r → c ≡ setting_of u
    → (n ≡ number r) × (a' ≡ words r) → Written u t w w' f f' d d' a' n
written {u} {c} {t} {w} {w'} {f} {f'} {d} {d'} {a'} {r} h q e =
    let g : Writes (setting_of u) t w w' f f' d d' r = rw q at h in
    record {
      told = e.0 ∙ ap number g.answer;
      answer = e.1 ∙ ap words g.answer;
      frames = g.frames;
      diags = g.diags;
      work = g.work;
    }

-- ---- look-up
pub looked : {f l : List ℕ} {r : Found} {p n : ℕ} → Looks f l r → p ≡ found_place r → n ≡ found_number r → Looked f l p n
looked h hp hn = record { told = hn ∙ ap found_number h; place = hp ∙ ap found_place h }

-- ---- the converter
pub changed : {s l m a' : List ℕ} {r : Converted} {n : ℕ} → Converts s l m r → (n ≡ converted_number r) × (a' ≡ converted_words r) → Changed s l m a' n
changed h e =
    record {
      told = e.0 ∙ ap converted_number h.answer;
      answer = e.1 ∙ ap converted_words h.answer;
      exit = h.exit;
    }
