-- Each number with which a run over a capture is refused is listed.
use Rattle.std.proofs.Common.{◌≡◌, ◌∙◌, ℕ, Bool, true, false, ap, List, [], ◌∷◌, Option, None, inl, inr}
use Rattle.fx_base.specs.Lines.{Lines, RefusesText, StopsText}
use Rattle.fx_base.specs.Refusals.{is_refusal_number}
use Rattle.fx_base.specs.declared.fault.Fault.{Fault}
use Rattle.fx_tables.specs.Classes.{Class}
use Rattle.fx_link.specs.Links.{Put}
use Rattle.fx_pcap.specs.Captures.{CaptureState, IsRefusedCapture, RefusesCapture, Seen, StopsCapture}
use Rattle.fx_topology.specs.declared.network.NetworkDocument.{NetworkDocument}
use Rattle.fx_net.specs.declared.action.Action.{Action}
use Rattle.fx_net.specs.Doings.{reads_packet}
use Rattle.fx_net.specs.Running.{GoesOnToFrames, GoesTo, ObeysLines, RefusesAction, RefusesClose, RefusesLine, RefusesRun, RunningNetwork, begun, capture_cut, capture_refused, in_none, line_refused, none_holds, not_in, not_read, nothing_named, rest_refused}
use Rattle.fx_audit.specs.Metering.{IsRefusedMetering, IsRefusedOver}
use Rattle.fx_audit.proofs.ListedRuns.{refused_in_listed}

-- ---- what refuses a capture or a text

capture_stop_listed : (old new : CaptureState) (e : Fault) → StopsCapture old new e → is_refusal_number e.number ≡ true
capture_stop_listed old new e (inl (is, cut)) = ap (λ (f : Fault). is_refusal_number f.number) is
capture_stop_listed old new e (inr (inl is, ahead)) = ap (λ (f : Fault). is_refusal_number f.number) is
capture_stop_listed old new e (inr (inr is, ahead)) = ap (λ (f : Fault). is_refusal_number f.number) is

capture_listed : (old new : CaptureState) (e : Fault) → old.stopped ≡ None → RefusesCapture old new e
    → is_refusal_number e.number ≡ true
capture_listed old new e going refuses = capture_stop_listed old new e (refuses.first going)

opening_listed : (left : Option (List ℕ)) (unread : Type 0) (e : Fault) → IsRefusedCapture left unread e
    → is_refusal_number e.number ≡ true
opening_listed left unread e (inl is) = ap (λ (f : Fault). is_refusal_number f.number) is
opening_listed left unread e (inr (inl (is, cut))) = ap (λ (f : Fault). is_refusal_number f.number) is
opening_listed left unread e (inr (inr (inl is, header))) = ap (λ (f : Fault). is_refusal_number f.number) is
opening_listed left unread e (inr (inr (inr is, header))) = ap (λ (f : Fault). is_refusal_number f.number) is

text_stop_listed : (old new : Lines) (e : Fault) → StopsText old new e → is_refusal_number e.number ≡ true
text_stop_listed old new e (inl (is, cut)) = ap (λ (f : Fault). is_refusal_number f.number) is
text_stop_listed old new e (inr (is, long)) = ap (λ (f : Fault). is_refusal_number f.number) is

text_listed : (old new : Lines) (e : Fault) → old.stopped ≡ None → RefusesText old new e → is_refusal_number e.number
    ≡ true
text_listed old new e going refuses = text_stop_listed old new e (refuses.first going)

-- ---- what was read before: neither reader has stopped

goes_to : (reads : Bool) (old new : CaptureState) (frame : Option Seen) → GoesTo reads old new frame → old.stopped
    ≡ None → new.stopped ≡ None
goes_to true old new frame (at, is) going = at.going.1
goes_to false old new frame same going = ap (λ (c : CaptureState). c.stopped) same ∙ going

goes_on : (at to : CaptureState) (frames : List Seen) → GoesOnToFrames at to frames → at.stopped ≡ None → to.stopped
    ≡ None
goes_on at to [] same going = ap (λ (c : CaptureState). c.stopped) same ∙ going
goes_on at to (frame ∷ frames) (on, at_frame, is, rest) going = goes_on on to frames rest at_frame.going.1

capture_goes : (lines : List (List ℕ)) (old new : RunningNetwork) (at to : CaptureState) (from last : Lines)
    (before after : Put)
    → ObeysLines lines old new at to from last before after → at.stopped ≡ None → to.stopped ≡ None
capture_goes [] old new at to from last before after (new_is, to_is, last_is, after_is) going =
    ap (λ (c : CaptureState). c.stopped) to_is ∙ going
capture_goes (line ∷ lines) old new at to from last before after (mid, on, next, put, at_line, is, obeys, rest) going =
    capture_goes lines mid new on to next last put after rest
    (goes_to (reads_packet obeys.asked) at on obeys.frame obeys.goes going)

text_goes : (lines : List (List ℕ)) (old new : RunningNetwork) (at to : CaptureState) (from last : Lines)
    (before after : Put)
    → ObeysLines lines old new at to from last before after → from.stopped ≡ None → last.stopped ≡ None
text_goes [] old new at to from last before after (new_is, to_is, last_is, after_is) going =
    ap (λ (l : Lines). l.stopped) last_is ∙ going
text_goes (line ∷ lines) old new at to from last before after (mid, on, next, put, at_line, is, obeys, rest) going =
    text_goes lines mid new on to next last put after rest at_line.going.1

-- ---- a line of the schedule, and the closing phase

action_listed : (old : RunningNetwork) (at to : CaptureState) (number : ℕ) (asked : Action) (e : Fault) → at.stopped
    ≡ None → RefusesAction old at to number asked e → is_refusal_number e.number ≡ true
action_listed old at to number asked e going (nothing_named is named) =
    ap (λ (f : Fault). is_refusal_number f.number) is
action_listed old at to number asked e going (capture_refused reads refuses) = capture_listed at to e going refuses
action_listed old at to number asked e going (not_in is at_frame class) =
    ap (λ (f : Fault). is_refusal_number f.number) is
action_listed old at to number asked e going (in_none is at_frame class) =
    ap (λ (f : Fault). is_refusal_number f.number) is

line_listed : (line : List ℕ) (number : ℕ) (old : RunningNetwork) (at to : CaptureState) (e : Fault) → at.stopped ≡ None
    → RefusesLine line number old at to e → is_refusal_number e.number ≡ true
line_listed line number old at to e going (inl (is, asks, stays)) = ap (λ (f : Fault). is_refusal_number f.number) is
line_listed line number old at to e going (inr (asked, asks, refuses)) =
    action_listed old at to number asked e going refuses

close_listed : (old : RunningNetwork) (at to : CaptureState) (e : Fault) → at.stopped ≡ None → RefusesClose old at to e
    → is_refusal_number e.number ≡ true
close_listed old at to e going (capture_cut mid (frames, gone) refuses) =
    capture_listed mid to e (goes_on at mid frames gone going) refuses
close_listed old at to e going (none_holds mid is gone at_frame class) =
    ap (λ (f : Fault). is_refusal_number f.number) is

-- ---- a run over a capture, by a schedule whose reader hadn't stopped before

pub capture_run_listed : (old : RunningNetwork) (at to : CaptureState) (from last : Lines) (before : Put) (e : Fault)
    → at.stopped ≡ None → from.stopped ≡ None
    → RefusesRun old at to from last before e → is_refusal_number e.number ≡ true
capture_run_listed old at to from last before e capture text (line_refused mid on behind put obeyed at_line refuses) =
    line_listed last.line last.number mid on to e
    (capture_goes obeyed.lines old mid at on from behind before put obeyed.obeyed capture) refuses
capture_run_listed old at to from last before e capture text (not_read mid behind put obeyed refuses) =
    text_listed behind last e (text_goes obeyed.lines old mid at to from behind before put obeyed.obeyed text) refuses
capture_run_listed old at to from last before e capture text (rest_refused mid on behind put obeyed end refuses) =
    close_listed mid on to e (capture_goes obeyed.lines old mid at on from behind before put obeyed.obeyed capture)
    refuses

pub over_listed : (network : NetworkDocument) (classes : List Class) (left : Option (List ℕ)) (asked : ℕ)
    (unread : Type 0) (HoldsAtEnd : CaptureState → Type 0) (from last : Lines) (before : Put) (e : Fault) → from.stopped
    ≡ None
    → IsRefusedOver network classes left asked unread HoldsAtEnd from last before e → is_refusal_number e.number ≡ true
over_listed network classes left asked unread HoldsAtEnd from last before e text (inl opening) =
    opening_listed left unread e opening
over_listed network classes left asked unread HoldsAtEnd from last before e text
    (inr (at, to, opened, refuses, stands)) =
    capture_run_listed (begun network classes) at to from last before e opened.going text refuses

pub metering_refusal_listed : (network_octets traffic_octets : List ℕ) (left : Option (List ℕ)) (asked : ℕ)
    (unread : Type 0) (HoldsAtEnd : CaptureState → Type 0) (from last : Lines) (before : Put) (e : Fault) → from.stopped
    ≡ None
    → IsRefusedMetering network_octets traffic_octets left asked unread HoldsAtEnd from last before e
    → is_refusal_number e.number ≡ true
metering_refusal_listed network_octets traffic_octets left asked unread HoldsAtEnd from last before e text is =
    refused_in_listed (λ network classes. IsRefusedOver network classes left asked unread HoldsAtEnd from last before e)
    network_octets traffic_octets e
    (λ network classes refused. over_listed network classes left asked unread HoldsAtEnd from last before e text
    refused) is
