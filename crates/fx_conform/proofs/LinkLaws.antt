-- The laws of links as they are stated.
use Rattle.fx_conform.specs.OnLinks.{StillIsCarried, PutsAreCarried, FinishingStills, CarriedArrive, ArrivedLeave, NoneLeft, NothingIsCarried, HistoryIsRead}
use Rattle.fx_conform.proofs.AllLinks.{stills_are_carried, all_puts_are_carried, all_finishing_stills, all_octets_arrive, first_arrived_leaves, none_left, all_nothing_carried, history_is_read}

pub still_carries : StillIsCarried
still_carries = stills_are_carried

pub puts_carry : PutsAreCarried
puts_carry = λ time pending history all links carried r places. all_puts_are_carried time history all links carried
    pending r places

pub finishing_rests : FinishingStills
finishing_rests = all_finishing_stills

pub octets_arrive : CarriedArrive
octets_arrive = λ time link n history all links carried within s. all_octets_arrive time link n history all links
    carried s within

pub arrived_leaves : ArrivedLeave
arrived_leaves = λ time link r rest history all links carried. first_arrived_leaves time link history all links carried
    r rest

pub none_is_left : NoneLeft
none_is_left = none_left

pub nothing_carries : NothingIsCarried
nothing_carries = all_nothing_carried

pub history_reads : HistoryIsRead
history_reads = λ history all links carried link s. history_is_read history all links carried s link
