-- Uniqueness, proved: both results are the same function of the inputs, field by field.
-- Assumes nothing.
use mathlib.Core.Path.{sym, ◌∙◌}
use Rattle.theorems.specs.Unique.{UniqueMeasure, Unique, UniqueLook}

pub unique_measure : UniqueMeasure
unique_measure c t w r s a b =
    λ i.
    record {
      measured = (a.measures ∙ sym b.measures) i;
      work = (a.work_holds ∙ sym b.work_holds) i;
    }

pub unique : Unique
unique c t w f d r s a b =
    λ i.
    record {
      answer = (a.answers ∙ sym b.answers) i;
      frames = (a.frames_hold ∙ sym b.frames_hold) i;
      diags = (a.diags_hold ∙ sym b.diags_hold) i;
      work = (a.work_holds ∙ sym b.work_holds) i;
    }

pub unique_look : UniqueLook
unique_look f n r s a b =
    λ i.
    record {
      found = (a.finds ∙ sym b.finds) i;
      frames = (a.frames_hold ∙ sym b.frames_hold) i;
    }
