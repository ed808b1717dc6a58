-- What the analysis of types means, over stacks of kinds, the top one first.
use Rattle.std.specs.Prelude.{◌&&◌, ◌||◌, List, [], length, ◌==◌, nat_le}
use Rattle.kinds.specs.declared.kind.Kind.{Kind}
use Rattle.format.specs.Parts.{Parts}
use Rattle.analysis_theory.specs.Meaning.{Meaning}
use Rattle.types_theory.specs.Order.{all_known, all_below, joined_kinds, heights}
use Rattle.types_theory.specs.Effect.{effect_made_at}
use Rattle.types_theory.specs.Description.{Described}
use Rattle.types_theory.specs.Writing.{stack_bytes, stack_read}

-- a state is a stack no deeper than the head allows, of kinds that the unit has; types forbid faults 1, 2 and 3
abbrev pub types_meaning : Parts → Meaning (List Kind)
types_meaning p = record {
  is_state = λ ks. nat_le (length ks) p.depth && all_known p ks;
  start = [];
  below = all_below p;
  join = joined_kinds p;
  height = heights p;
  after = effect_made_at p;
  describes = Described p;
  forbids = λ f. (f == 1) || (f == 2 || f == 3);
  has_layer = λ n. (n == 1);
  bytes = stack_bytes;
  parsed = stack_read p;
}
