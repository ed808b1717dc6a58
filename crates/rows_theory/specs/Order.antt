-- The order of what is known of the row: perhaps one is held lies above the two others.
use Rattle.std.specs.Prelude.{ℕ, Bool, true, false}
use Rattle.rows_theory.specs.declared.state.RowState.{RowState}
use Rattle.rows_theory.specs.declared.state.RowState.TheVariants.{Empty, Held, Perhaps}

abbrev pub row_below : RowState → RowState → Bool
row_below Empty Empty = true
row_below Empty Held = false
row_below Empty Perhaps = true
row_below Held Empty = false
row_below Held Held = true
row_below Held Perhaps = true
row_below Perhaps Empty = false
row_below Perhaps Held = false
row_below Perhaps Perhaps = true

-- two states that are equal give themselves, and two that differ give perhaps
abbrev pub row_join : RowState → RowState → RowState
row_join Empty Empty = Empty
row_join Empty Held = Perhaps
row_join Empty Perhaps = Perhaps
row_join Held Empty = Perhaps
row_join Held Held = Held
row_join Held Perhaps = Perhaps
row_join Perhaps s = Perhaps

abbrev pub row_height : RowState → ℕ
row_height Empty = 1
row_height Held = 1
row_height Perhaps = 0
