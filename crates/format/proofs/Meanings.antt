-- What a reading's answer means: the two halves that `read` promises.
use Rattle.std.proofs.Common.{◌≡◌, ℕ, List, Ok, Err, Result, sym, ◌∙◌, subst}
use Rattle.format.specs.declared.layout.Layout.{Layout}
use Rattle.format.specs.declared.refusal.ReadError.{ReadError}
use Rattle.format.specs.Bytes.{AllBytes}
use Rattle.format.specs.Decoding.{parts_at}
use Rattle.format.specs.Reading.{reading}
use Rattle.format.specs.Stages.{layout_in}
use Rattle.format.specs.Meaning.{IsUnit, NoUnit, FirstWrong}
use Rattle.format.proofs.Passing.{reading_passes, passes_reading}
use Rattle.format.proofs.Sound.{passes_encodes}
use Rattle.format.proofs.Complete.{encodes_passes}
use Rattle.format.proofs.Refused.{refused_first}

-- what was read is the unit with the parts that the bytes say
pub read_is_unit : (bs : List ℕ) (l : Layout) → AllBytes bs → reading bs ≡ Ok l → IsUnit bs (parts_at bs l)
read_is_unit bs l bytes h =
    let p = reading_passes bs l h in
    subst (λ (m : Layout). IsUnit bs (parts_at bs m)) p.1
    (record { encodes = passes_encodes bs bytes p.0; only = λ q e. sym (encodes_passes bs q bytes e).1 })

-- what was refused is no unit at all
pub refused_no_unit : (bs : List ℕ) (x : ReadError) → AllBytes bs → reading bs ≡ Err x → NoUnit bs
refused_no_unit bs x bytes h q e =
    apart (sym (passes_reading bs (encodes_passes bs q bytes e).0) ∙ h)
  where
    apart : ◌≡◌ {A = Result Layout ReadError} (Ok (layout_in bs)) (Err x) → ⊥
    apart z = cc

pub refused_means : (bs : List ℕ) (x : ReadError) → AllBytes bs → reading bs ≡ Err x → FirstWrong bs x × NoUnit bs
refused_means bs x bytes h = (refused_first bs bytes x h, refused_no_unit bs x bytes h)
