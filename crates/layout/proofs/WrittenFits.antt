-- Every stream that the writer gives fits its layout: its records are those of its frames, and each is regular.
-- From the lengths of records, which number 7 and the text's length bound.
use mathlib.Core.Path.{◌≡◌, ap, ◌∙◌}
use mathlib.Core.List.{List}
use mathlib.Core.Option.{none}
use Prim.Native.Nat.{ℕ, ◌+◌, ◌<◌, ◌≤◌}
use native.Mathlib.Omega.{arith}
use lib.ListN.{length, length-append}
use Rattle.paper.specs.Base.{find}
use Rattle.paper.specs.Statements.{Statement}
use Rattle.paper.specs.State.{nothing}
use Rattle.paper.specs.Frames.{frame_as}
use Rattle.paper.specs.Give.{all_given}
use Rattle.paper.specs.Records.{framed, frame_record, frame_stream}
use Rattle.paper.specs.Answer.{crowded, frames_in}
use Rattle.paper.specs.declared.Setting.{Setting}
use Rattle.paper.proofs.Alls.{All, all_map, all_both}
use Rattle.paper.proofs.Searches.{all_gather, find_none}
use Rattle.stream.proofs.Records.{length_u16, length_u32}
use Rattle.theorems.proofs.Weights.{statements_weight, text_weight}
use Rattle.theorems.proofs.Refusals.{Passed, passed, answered}
use Rattle.theorems.proofs.Streams.{Sound}
use Rattle.theorems.proofs.Records.{text_at, frames_sound, frame_stream_is}
use Rattle.layout.specs.Renewal.{AllFit}
use Rattle.layout.specs.Written.{WrittenFits}
use Rattle.layout.proofs.Even.{Even, gives_even, even_regular}
use Rattle.layout.proofs.Written.{frame_fits}
use Rattle.layout.proofs.Converted.{all_fit_joined}

sound_short : {b : List ℕ} {o : ℕ} → Sound b o → length b < 4294967300
unfolding framed
sound_short {b} {o} s =
    let e : length b ≡ 10 + length s.rest = ap length s.are ∙ simp (length-append, length_u16, length_u32) (omega arith) in
    omega (arith, s.short)

frames_even : (l : List Statement) → All Even (frames_in (all_given l))
unfolding all_given
frames_even l = all_gather (λ g. g.frame) (λ g h. h) (gives_even l l nothing)

stream_fits : (c : Setting) (t : List ℕ) (w : ℕ) (l : List Statement) → Passed t w l → find crowded (frames_in (all_given l)) ≡ none → AllFit (frame_stream c (all_given l))
stream_fits c t w l h few =
    let z : All (λ s. s.at < 4294967296) l =
    rw h.statements (all_map (λ s k. omega (arith, h.small)) (text_at t h.read h.reads)) in
    let b : statements_weight l ≤ 16777217 = rw h.statements (omega (arith, text_weight t h.read h.reads, h.small)) in
    rw (frame_stream_is c (all_given l))
    (all_fit_joined (λ x. frame_record (frame_as c x))
    (all_map (λ x k. frame_fits (frame_as c x) (record { short = sound_short k.0; shape = even_regular c x k.1.0 k.1.1 }))
    (all_both (frames_sound z c b few) (all_both (frames_even l) (find_none crowded (frames_in (all_given l)) few)))))

pub written_fits : WrittenFits
written_fits c t w f d s e =
    let k = answered c t w f d s e in
    rw (← k.are) (stream_fits c t w k.statements (passed t w k.statements k.passes) k.fit.uncrowded)
