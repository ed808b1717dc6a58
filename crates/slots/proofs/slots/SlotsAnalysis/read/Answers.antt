use Rattle.std.proofs.Common.{◌≡◌, ℕ, ◌^◌, ◌<◌, List, length, get_or, take, refl, ◌∙◌, arith, lit<}
use Rattle.std.proofs.lemmas.List.{get_or-take}
use Rattle.std.proofs.lemmas.Nat.{one_shl}
use Rattle.std.specs.Array.{IsFirstChunk}
use Rattle.unit.specs.Model.{parts_of}
use Rattle.slots_theory.specs.Writing.{bits_in}
use Rattle.slots_theory.proofs.WritingLemmas.{read_where_right}
use Rattle.slots.proofs.slots.SlotsAnalysis.read.Goals as goal

-- the number in the first four bytes is that of all bytes
of_front : (bytes front : List ℕ) → IsFirstChunk bytes front 4 → bits_in front ≡ bits_in bytes
of_front bytes front h =
    let at : (k : ℕ) → k < 4 → get_or (take 4 bytes) k 0 ≡ get_or bytes k 0 = λ k l. get_or-take 4 bytes k 0 l in
    rw (h.same, at 0 (lit< tt), at 1 (lit< tt), at 2 (lit< tt), at 3 (lit< tt)) refl

pub returns : goal.returns
returns c =
    let bytes = c.args.bytes.now in
    let p = parts_of c.args.unit.now in
    let bits = c.from_be_bytes-bits.result in
    let count = c.slot_count.result in
    let front : IsFirstChunk bytes c.in_ok-front.front.now 4 = rw c.in_ok-front.ensures.ok_part at c.first_chunk.ensures.cases in
    let is : bits ≡ bits_in bytes = c.from_be_bytes-bits.ensures ∙ of_front bytes c.in_ok-front.front.now front in
    let few : count < 64 = omega (arith, c.slot_count.ensures.bound.1) in
    let below : c.from.result < 2 ^ count = rw (one_shl count 64 few) at c.if-from-slot_count.false in
    let right : bits_in bytes < 2 ^ length p.slots = rw (c.from.ensures, is, c.slot_count.ensures.value) at below in
    record { within = front.enough; value = read_where_right p bytes _ is front.enough right }
