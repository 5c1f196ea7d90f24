-- Uniqueness, proved: both results are the same function of the inputs, field by field.
-- Assumes nothing.
use mathlib.Core.Path.{sym, ◌∙◌}
use Rattle.capi.specs.Unique.{UniqueMeasure, Unique, UniqueLook, UniqueChange}

pub unique_measure : UniqueMeasure
unique_measure u t w r s a b =
    λ i.
    record {
      number = (a.told ∙ sym b.told) i;
      answer = (a.answer ∙ sym b.answer) i;
      work = (a.work ∙ sym b.work) i;
    }

pub unique : Unique
unique u t w f d r s a b =
    λ i.
    record {
      number = (a.told ∙ sym b.told) i;
      answer = (a.answer ∙ sym b.answer) i;
      frames = (a.frames ∙ sym b.frames) i;
      diags = (a.diags ∙ sym b.diags) i;
      work = (a.work ∙ sym b.work) i;
    }

pub unique_look : UniqueLook
unique_look f l r s a b =
    λ i.
    record {
      number = (a.told ∙ sym b.told) i;
      place = (a.place ∙ sym b.place) i;
    }

pub unique_change : UniqueChange
unique_change s l r q a b =
    λ i.
    record {
      number = (a.told ∙ sym b.told) i;
      answer = (a.answer ∙ sym b.answer) i;
      buffer = (a.exit ∙ sym b.exit) i;
    }
