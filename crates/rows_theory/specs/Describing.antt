-- Which configurations a state describes: those whose row is as it says.
use Rattle.std.specs.Prelude.{◌≡◌, ℤ, Some, None, Option}
use Rattle.machine.specs.Configuration.{Configuration}
use Rattle.rows_theory.specs.declared.state.RowState.{RowState}
use Rattle.rows_theory.specs.declared.state.RowState.TheVariants.{Empty, Held, Perhaps}

-- whether a row is as a state says: none, one of some berth, or either
abbrev pub RowIs : RowState → Option ℤ → Type 0
RowIs Empty r = r ≡ None
RowIs Held r = (b : ℤ) × (r ≡ Some b)
RowIs Perhaps r = Unit {0}

abbrev pub row_describes : RowState → Configuration → Type 0
row_describes s c = RowIs s c.row
