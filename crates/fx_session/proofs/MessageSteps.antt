-- Sets of a message, one after another.
use Rattle.std.proofs.Common.{◌≡◌, List, [], ◌∷◌, ap, ◌∙◌, Result, Ok, Err}
use Rattle.fx_wire.specs.Sets.{SetParts}
use Rattle.fx_session.specs.Messages.{Reading, set_read, sets_read}
use Rattle.fx_session.specs.declared.stream_fault.StreamFault.{StreamFault}

abbrev turn : List SetParts → Result Reading StreamFault → Result Reading StreamFault
turn ss (Ok next) = sets_read next ss
turn ss (Err n) = Err n

pub sets_read-first : (r next : Reading) (s : SetParts) (ss all : List SetParts) → all ≡ s ∷ ss → set_read r s ≡ Ok next
    → sets_read r all ≡ sets_read next ss
unfolding sets_read
sets_read-first r next s ss all a e = ap (sets_read r) a ∙ ap (turn ss) e

pub sets_read-refused : (r : Reading) (s : SetParts) (ss all : List SetParts) (n : StreamFault) → all ≡ s ∷ ss
    → set_read r s ≡ Err n → sets_read r all ≡ Err n
unfolding sets_read
sets_read-refused r s ss all n a e = ap (sets_read r) a ∙ ap (turn ss) e

pub sets_read-end : (r : Reading) (all : List SetParts) → all ≡ [] → sets_read r all ≡ Ok r
unfolding sets_read
sets_read-end r all a = ap (sets_read r) a
