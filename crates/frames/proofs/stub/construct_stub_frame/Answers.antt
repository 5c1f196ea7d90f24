use native.Mathlib.Omega.{arith}
use Rattle.frames.proofs.Floats.{stub_words, stubs, stub_requires}
use Rattle.frames.proofs.stub.construct_stub_frame.Goals as goal

pub name_part-label-requires : goal.name_part-label-requires
name_part-label-requires c = rw c.label_word.ensures (stub_words c.requires.0).label.words

pub math_word-requires : goal.math_word-requires
math_word-requires c = let f = stub_words c.requires.0 in omega arith

pub name_part-typecode-requires : goal.name_part-typecode-requires
name_part-typecode-requires c = rw c.math_word.ensures (stub_words c.requires.0).typecode.words

pub math_word-requires-2 : goal.math_word-requires-2
math_word-requires-2 c = let f = stub_words c.requires.0 in omega arith

pub name_part-variable-requires : goal.name_part-variable-requires
name_part-variable-requires c = rw c.math_word-2.ensures (stub_words c.requires.0).variable.words

pub put_stub-requires : goal.put_stub-requires
put_stub-requires c =
    stub_requires c.requires.0 c.requires.1 c.label_word.ensures c.math_word.ensures c.math_word-2.ensures
    c.name_part-label.ensures c.name_part-typecode.ensures c.name_part-variable.ensures

pub returns : goal.returns
returns c =
    stubs c.requires.0 c.statement_word-start.ensures.0 c.statement_word-end.ensures.0 c.label_word.ensures c.math_word.ensures
    c.math_word-2.ensures c.name_part-label.ensures c.name_part-typecode.ensures c.name_part-variable.ensures c.put_stub.ensures
