-- The numbers of faults, which are those of the tagged machine, and what a fault says besides.
use Rattle.std.specs.Prelude.{ℕ}
use Rattle.analysis_theory.specs.declared.fault.Cause.{Cause}
use Rattle.analysis_theory.specs.declared.fault.Fault.{Fault}
use Rattle.analysis_theory.specs.declared.fault.Cause.TheVariants.{TooFew, TooDeep, Misfit, Unset, RowHeld, NoRow, Outside}

abbrev pub fault_number : Cause → ℕ
fault_number TooFew = 1
fault_number TooDeep = 2
fault_number (Misfit d) = 3
fault_number (Unset n) = 4
fault_number RowHeld = 5
fault_number NoRow = 6
fault_number Outside = 7

abbrev pub fault_detail : Cause → ℕ
fault_detail TooFew = 0
fault_detail TooDeep = 0
fault_detail (Misfit d) = d
fault_detail (Unset n) = n
fault_detail RowHeld = 0
fault_detail NoRow = 0
fault_detail Outside = 0

-- a fault of the analysis with this layer
abbrev pub fault_under : ℕ → Cause → Fault
fault_under n c = record { layer = n; cause = c }
