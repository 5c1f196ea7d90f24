-- Kinds by their numbers: which kind a row's first word says.
-- Assumes nothing.
use mathlib.Core.Path.{◌≡◌, refl}
use mathlib.Core.Bool.{true}
use Prim.Native.Nat.{◌≤◌}
use native.Mathlib.Omega.{arith}
use Rattle.paper.specs.Statements.{Kind, $c, $v, $d, $f, $e, $a, $p, labelled}
use Rattle.reader.specs.Rows.{kind_number}

pub kind_c : (k : Kind) → kind_number k ≡ 1 → k ≡ $c
kind_c $c e = refl
kind_c $v e = absurd (omega arith)
kind_c $d e = absurd (omega arith)
kind_c $f e = absurd (omega arith)
kind_c $e e = absurd (omega arith)
kind_c $a e = absurd (omega arith)
kind_c $p e = absurd (omega arith)

pub kind_v : (k : Kind) → kind_number k ≡ 2 → k ≡ $v
kind_v $c e = absurd (omega arith)
kind_v $v e = refl
kind_v $d e = absurd (omega arith)
kind_v $f e = absurd (omega arith)
kind_v $e e = absurd (omega arith)
kind_v $a e = absurd (omega arith)
kind_v $p e = absurd (omega arith)

pub kind_d : (k : Kind) → kind_number k ≡ 3 → k ≡ $d
kind_d $c e = absurd (omega arith)
kind_d $v e = absurd (omega arith)
kind_d $d e = refl
kind_d $f e = absurd (omega arith)
kind_d $e e = absurd (omega arith)
kind_d $a e = absurd (omega arith)
kind_d $p e = absurd (omega arith)

pub kind_f : (k : Kind) → kind_number k ≡ 4 → k ≡ $f
kind_f $c e = absurd (omega arith)
kind_f $v e = absurd (omega arith)
kind_f $d e = absurd (omega arith)
kind_f $f e = refl
kind_f $e e = absurd (omega arith)
kind_f $a e = absurd (omega arith)
kind_f $p e = absurd (omega arith)

pub kind_e : (k : Kind) → kind_number k ≡ 5 → k ≡ $e
kind_e $c e = absurd (omega arith)
kind_e $v e = absurd (omega arith)
kind_e $d e = absurd (omega arith)
kind_e $f e = absurd (omega arith)
kind_e $e e = refl
kind_e $a e = absurd (omega arith)
kind_e $p e = absurd (omega arith)

pub kind_large : (k : Kind) → 4 ≤ kind_number k → labelled k ≡ true
kind_large $c h = absurd (omega arith)
kind_large $v h = absurd (omega arith)
kind_large $d h = absurd (omega arith)
kind_large $f h = refl
kind_large $e h = refl
kind_large $a h = refl
kind_large $p h = refl
