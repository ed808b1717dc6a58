-- What the analysis of the row means: it forbids fault 5, a row entered while one is held, and fault 6, a return with none
-- held, and refuses under layer 3.
use Rattle.std.specs.Prelude.{true, ◌||◌, Some, ◌==◌}
use Rattle.format.specs.Parts.{Parts}
use Rattle.analysis_theory.specs.Meaning.{Meaning}
use Rattle.rows_theory.specs.declared.state.RowState.{RowState}
use Rattle.rows_theory.specs.declared.state.RowState.TheVariants.{Empty}
use Rattle.rows_theory.specs.Order.{row_below, row_join, row_height}
use Rattle.rows_theory.specs.Effect.{row_after}
use Rattle.rows_theory.specs.Describing.{row_describes}
use Rattle.rows_theory.specs.Writing.{row_bytes, row_parsed}

abbrev pub rows_meaning : Parts → Meaning RowState
rows_meaning p = record {
  is_state = λ s. true;
  start = Empty;
  below = row_below;
  join = λ a b. Some (row_join a b);
  height = row_height;
  after = row_after p;
  describes = row_describes;
  forbids = λ f. (f == 5) || (f == 6);
  has_layer = λ n. (n == 3);
  bytes = row_bytes;
  parsed = row_parsed;
}
