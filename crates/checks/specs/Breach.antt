-- The kinds of diagnostics by their numbers in the stream, as document 01 lists them.
use Rattle.std.specs.Prelude.{ℕ}
use Rattle.checks.specs.declared.Breach.{Breach}
use Rattle.checks.specs.declared.Breach.TheVariants.{DuplicateLabel, NotActiveSymbol, ExprNotConstantPrefix, VariableMissingFloat, SymbolDuplicatesLabel, SymbolRedeclared, DjNotVariable, DjRepeatedVariable, FloatNotConstant, FloatNotVariable, FloatRedeclared, VariableRedeclaredAsConstant, NestedConstant}

abbrev pub number : Breach → ℕ
number DuplicateLabel = 1
number NotActiveSymbol = 2
number ExprNotConstantPrefix = 3
number VariableMissingFloat = 4
number SymbolDuplicatesLabel = 5
number SymbolRedeclared = 6
number DjNotVariable = 7
number DjRepeatedVariable = 8
number FloatNotConstant = 9
number FloatNotVariable = 10
number FloatRedeclared = 11
number VariableRedeclaredAsConstant = 12
number NestedConstant = 13
