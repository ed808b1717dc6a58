-- What the analysis of the slots means: the larger set is below, the join is the intersection, and it forbids fault 4, a load
-- of an unset slot, and refuses under layer 2.
use Rattle.std.specs.Prelude.{Some, ◌==◌, count_ones}
use Rattle.format.specs.Parts.{Parts}
use Rattle.analysis_theory.specs.Meaning.{Meaning}
use Rattle.slots_theory.specs.declared.set.SlotSet.{SlotSet}
use Rattle.slots_theory.specs.Sets.{first_slot, has_all, intersection}
use Rattle.slots_theory.specs.Effect.{slots_after}
use Rattle.slots_theory.specs.Describing.{slots_describe}
use Rattle.slots_theory.specs.Writing.{in_slots, set_bytes, set_parsed}

abbrev pub slots_meaning : Parts → Meaning SlotSet
slots_meaning p = record {
  is_state = λ s. in_slots p s.bits;
  start = first_slot;
  below = has_all;
  join = λ a b. Some (intersection a b);
  height = λ s. count_ones s.bits;
  after = slots_after p;
  describes = slots_describe p;
  forbids = λ f. (f == 4);
  has_layer = λ n. (n == 2);
  bytes = set_bytes;
  parsed = set_parsed p;
}
