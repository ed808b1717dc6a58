use Rattle.unit_abi_c.proofs.berth_unit_read.Goals as goal

-- by `cc`, so that another answer is refused at once, and not only once the reading is computed
pub returns : goal.returns
returns c = cc c.berth_unit_read.ensures
