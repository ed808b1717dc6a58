-- The order of states: nothing lies above a state but itself and perhaps.
use Rattle.std.specs.Prelude.{◌≡◌, ◌<◌, true, ◌⊎◌}
use Rattle.std.proofs.Common.{arith}
use Rattle.rows_theory.specs.declared.state.RowState.{RowState}
use Rattle.rows_theory.specs.declared.state.RowState.TheVariants.{Empty, Held, Perhaps}
use Rattle.rows_theory.specs.Order.{row_below, row_join, row_height}

pub below_itself : (a : RowState) → row_below a a ≡ true
below_itself a = grind arith

pub below_perhaps : (a : RowState) → row_below a Perhaps ≡ true
below_perhaps a = grind arith

pub only_above : (a b : RowState) → row_below a b ≡ true → (a ≡ b) ⊎ (b ≡ Perhaps)
only_above a b h = grind arith

pub below_through : (a b c : RowState) → row_below a b ≡ true → row_below b c ≡ true → row_below a c ≡ true
below_through a b c p q = grind arith

pub below_both : (a b : RowState) → row_below a b ≡ true → row_below b a ≡ true → a ≡ b
below_both a b p q = grind arith

pub join_above_left : (a b : RowState) → row_below a (row_join a b) ≡ true
join_above_left a b = grind arith

pub join_above_right : (a b : RowState) → row_below b (row_join a b) ≡ true
join_above_right a b = grind arith

-- only perhaps is above both others
pub above_both : (d : RowState) → row_below Empty d ≡ true → row_below Held d ≡ true → row_below Perhaps d ≡ true
above_both d p q = grind arith

pub join_least : (a b d : RowState) → row_below a d ≡ true → row_below b d ≡ true → row_below (row_join a b) d ≡ true
join_least a b d p q = grind arith

pub height_falls : (a b : RowState) → row_below a b ≡ true → (a ≡ b) ⊎ (row_height b < row_height a)
height_falls a b h = grind arith
