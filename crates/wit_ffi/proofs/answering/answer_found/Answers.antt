use Rattle.wit_bundle.specs.Apart.{flat}
use Rattle.wit_ffi.specs.Answer.IsPartsAnswer.{NoParts}
use Rattle.wit_ffi.proofs.answering.answer_found.Goals as goal

pub returns-in-Some : goal.returns-in-Some
returns-in-Some c bytes lens are = c.answer_even.ensures bytes lens (rw (c.in-Some.is, ← c.as_slice.ensures.value) at are)

pub returns-in-None : goal.returns-in-None
returns-in-None c bytes lens none = let no = rw c.in-None.is at none in NoParts (λ parts are. no (flat parts) are) c.bare.ensures.status c.bare.ensures.json
