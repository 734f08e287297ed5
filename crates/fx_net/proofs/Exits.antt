-- How a running network stops.
use Rattle.std.proofs.Common.{◌≡◌, ◌⊎◌, Bool, Result, Ok, Err, inl, inr, sym, ap, subst, ◌∙◌}
use Rattle.std.specs.Prelude.{IfErr}
use Rattle.std.specs.Result.{IsErr, IsErrAnd}
use Rattle.fx_base.specs.declared.fault.Fault.{Fault}
use Rattle.fx_base.specs.Lines.{Lines}
use Rattle.fx_base.specs.Refusals.{want_of_memory}
use Rattle.fx_link.specs.Links.{Put}
use Rattle.fx_pcap.specs.Captures as captures
use Rattle.fx_net.specs.declared.stop.Stop.{Stop}
use Rattle.fx_net.specs.declared.stop.Stop.TheVariants as stop
use Rattle.fx_net.specs.Running.{RunningNetwork, FailsOutside, HasGoneOn, IsOfNone, ObeysAll, RefusesClose, RefusesRun, none_holds, rest_refused, fault_of, stop_of}
use Rattle.fx_net.proofs.Frames.{reported_again}

-- the exit of a `?` of a reader of a capture
pub reported_exit : {X : Type 0} (r : Result X Stop) (e : Fault) (Q : Fault → Type 0) → IsErr r
    × IsErrAnd r (λ s. s ≡ stop_of e) → captures.IsCaptureFault e → Q e → IfErr r (λ s. Q (fault_of s))
reported_exit (Ok x) e Q h reported q = absurd h.1
reported_exit (Err s) e Q h reported q =
    subst (λ (t : Stop). Q (fault_of t)) (sym h.1) (subst Q (sym (reported_again e reported)) q)

-- the same where memory may be wanting too
pub refused_exit : {X : Type 0} (r : Result X Stop) (e : Fault) (Q : Fault → Type 0) → IsErr r
    × IsErrAnd r (λ s. s ≡ stop_of e) → captures.IsCaptureFault e → Q e
    → IfErr r (λ s. (s ≡ stop.Bare want_of_memory) ⊎ Q (fault_of s))
refused_exit (Ok x) e Q h reported q = absurd h.1
refused_exit {X} (Err s) e Q h reported q = inr (reported_exit {X = X} (Err s) e Q h reported q)

-- the exit of a `?` where links are put out
pub outside_exit : {X : Type 0} (r : Result X Stop) (e : Fault) (failed : Bool) (Q : Fault → Type 0) → IsErr r
    × IsErrAnd r (λ s. s ≡ stop_of e) → FailsOutside failed e
    → IfErr r (λ s. FailsOutside failed (fault_of s) ⊎ Q (fault_of s))
outside_exit (Ok x) e failed Q h outside = absurd h.1
outside_exit (Err s) e failed Q h (inl memory) =
    inl (inl (ap fault_of h.1 ∙ ap (λ (f : Fault). fault_of (stop_of f)) memory))
outside_exit (Err s) e failed Q h (inr write) =
    inl (inr (ap fault_of h.1 ∙ ap (λ (f : Fault). fault_of (stop_of f)) write.0, write.1))

-- the exit of any other `?`
pub exit_with : {X E : Type 0} (r : Result X E) (e : E) (Q : E → Type 0) → IsErr r × IsErrAnd r (λ d. d ≡ e) → Q e
    → IfErr r Q
exit_with (Ok x) e Q h q = absurd h.1
exit_with (Err d) e Q h q = subst Q (sym h.1) q

pub err_weaker : {X E : Type 0} (r : Result X E) (P Q : E → Type 0) → ((e : E) → P e → Q e) → IfErr r P → IfErr r Q
err_weaker (Ok x) P Q f p = tt
err_weaker (Err e) P Q f p = f e p

-- a frame that is left is of no class
pub close_refused : (old mid : RunningNetwork) (at on to : captures.CaptureState) (failed : Bool) (s : Stop)
    → FailsOutside failed (fault_of s) ⊎ ((s ≡ stop.Bare 804) × IsOfNone mid.classes to.seen) → HasGoneOn at on
    → captures.AtFrame on to → mid ≡ record old { contents = mid.contents }
    → FailsOutside failed (fault_of s) ⊎ RefusesClose old at to (fault_of s)
close_refused old mid at on to failed s (inl outside) gone frame rest = inl outside
close_refused old mid at on to failed s (inr h) gone frame rest =
    inr (none_holds on (ap fault_of h.0) gone frame
    (subst (λ (r : RunningNetwork). IsOfNone r.classes to.seen) rest h.1))

-- what is refused in the closing phase is refused behind all lines
pub run_refused : (old mid : RunningNetwork) (at on to : captures.CaptureState) (from last : Lines) (before put : Put)
    (failed : Bool) (e : Fault)
    → ObeysAll old mid at on from last before put → FailsOutside failed e ⊎ RefusesClose mid on to e
    → FailsOutside failed e ⊎ RefusesRun old at to from last before e
run_refused old mid at on to from last before put failed e obeys (inl outside) = inl outside
run_refused old mid at on to from last before put failed e obeys (inr h) =
    inr (rest_refused mid on obeys.behind put obeys.obeyed obeys.end h)
