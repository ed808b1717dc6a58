-- A claim whose test passes holds.
use Rattle.std.proofs.Common.{◌≡◌, true, List, sym}
use Rattle.std.specs.Prelude.{All}
use Rattle.std.specs.List.{list_all}
use Rattle.std.specs.Cmp.Lexicographic.{same_text}
use Rattle.std.proofs.lemmas.List.Sums.{AllPass-from_list_all}
use Rattle.three.specs.Meaning.{three_meaning}
use Rattle.analysis_cases.specs.Claims.{seen_state, Claim, announces, makes, faults, writes, Holds}
use Rattle.analysis_cases.specs.Computed.{test}
use Rattle.analysis_cases.proofs.Seen.{made_as_sound, fault_is_sound, vessel_announced}

holds : (c : Claim) → test c ≡ true → Holds c
holds (announces p v) t = vessel_announced p v t
holds (makes p i s u) t = made_as_sound ((three_meaning p).after i (seen_state s)) u t
holds (faults p i s l f d) t = fault_is_sound ((three_meaning p).after i (seen_state s)) l f d t
holds (writes p s bs) t = same_text ((three_meaning p).bytes (seen_state s)) bs (sym t)

-- every claim of a list
pub every_holds : (cs : List Claim) → list_all test cs ≡ true → All Holds cs
every_holds cs t = λ k d l. holds _ (AllPass-from_list_all test cs t k d l)
