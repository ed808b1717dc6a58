-- What the three mean together.
use Rattle.format.specs.Parts.{Parts}
use Rattle.analysis_theory.specs.declared.both.Both.{Both}
use Rattle.analysis_theory.specs.Meaning.{Meaning}
use Rattle.analysis_theory.specs.Pairs.{pair_meaning}
use Rattle.types.specs.declared.operands.Operands.{Operands}
use Rattle.types_theory.specs.Types.{types_meaning}
use Rattle.slots_theory.specs.declared.set.SlotSet.{SlotSet}
use Rattle.slots_theory.specs.Meaning.{slots_meaning}
use Rattle.rows_theory.specs.declared.state.RowState.{RowState}
use Rattle.rows_theory.specs.Meaning.{rows_meaning}

abbrev pub three_meaning : Parts → Meaning (Both Operands (Both SlotSet RowState))
three_meaning p = pair_meaning (types_meaning p) (pair_meaning (slots_meaning p) (rows_meaning p))
