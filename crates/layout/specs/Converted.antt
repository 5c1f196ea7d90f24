-- What the converter gives, over the definitions alone: for every stream whose records all fit their layout.
-- And uniqueness: any two results that its promise allows are equal.
use Rattle.std.specs.Prelude.{◌≡◌, List, map, ℕ, length}
use Rattle.paper.specs.Lookup.{u16_at}
use Rattle.paper.specs.Layout.{record_shape, stream_records}
use Rattle.paper.specs.Convert.{Converted, renewal}
use Rattle.paper.proofs.Alls.{All}
use Rattle.layout.specs.Renewal.{AllFit, Converts}

-- no record of kind 1
abbrev pub NoStub : List ℕ → Type 0
NoStub s = All (λ r. u16_at r 4 ≡ 1 → ⊥) (stream_records s)

pub record Renewable (s : List ℕ) : Type 0 where
  -- as many records, each with the content that it had; so they fit again
  pub content : map record_shape (stream_records (renewal s)) ≡ map record_shape (stream_records s)
  pub fits : AllFit (renewal s)
  pub plain : NoStub (renewal s)
  pub long : length (renewal s) ≡ length s
  -- converting twice is converting once
  pub once : renewal (renewal s) ≡ renewal s

abbrev pub Converting : Type 0
Converting = (s : List ℕ) → AllFit s → Renewable s

-- a stream without kind 1 is unchanged
abbrev pub Unchanged : Type 0
Unchanged = (s : List ℕ) → NoStub s → renewal s ≡ s

pub record Conversion : Type 0 where
  pub answer : Converted
  pub buffer : List ℕ

abbrev pub OneConversion : Type 0
OneConversion = (s l : List ℕ) (x y : Conversion) → Converts s l x.buffer x.answer → Converts s l y.buffer y.answer → x ≡ y
